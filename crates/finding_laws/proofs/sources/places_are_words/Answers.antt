use Rattle.finding_laws.proofs.Words.{all_placed}
use Rattle.finding_laws.proofs.sources.places_are_words.Goals as goal

pub returns : goal.returns
returns c = λ rule period text p is. all_placed rule period text p is.1.1

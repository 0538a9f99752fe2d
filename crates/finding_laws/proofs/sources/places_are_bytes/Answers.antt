use Rattle.finding_laws.proofs.OfBytes.{bytes_placed}
use Rattle.finding_laws.proofs.sources.places_are_bytes.Goals as goal

pub returns : goal.returns
returns c = λ text. bytes_placed text

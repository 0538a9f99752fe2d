use Rattle.finding_laws.proofs.OfBytes.{source_has_none}
use Rattle.finding_laws.proofs.OfTexts.{text_found}
use Rattle.finding_laws.proofs.sources.texts_are_found.Goals as goal

pub returns : goal.returns
returns c = λ text. (text_found text, source_has_none text)

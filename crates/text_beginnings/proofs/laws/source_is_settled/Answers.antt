use Rattle.text_beginnings.proofs.Sources.{no_source}
use Rattle.text_beginnings.proofs.laws.source_is_settled.Goals as goal

pub returns : goal.returns
returns c = no_source

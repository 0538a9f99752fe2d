use Rattle.finding_laws.proofs.Prelude.{pos}
use Rattle.finding_laws.proofs.Found.{overlaps_any}
use Rattle.finding_laws.proofs.tables.overlaps_are_found.Goals as goal

pub returns : goal.returns
returns c = λ t. overlaps_any t.frame (pos 0) 0 t.windows

use Rattle.finding_laws.proofs.Shape.{shape_any}
use Rattle.finding_laws.proofs.Sorted.{document_sorted}
use Rattle.finding_laws.proofs.tables.wrong_shapes_are_found.Goals as goal

pub returns : goal.returns
returns c = λ bytes ms is. shape_any ms (document_sorted bytes ms is.1)

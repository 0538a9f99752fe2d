use Rattle.finding_laws.proofs.Refusals.{refusal_found}
use Rattle.finding_laws.proofs.Sorted.{document_sorted}
use Rattle.finding_laws.proofs.tables.each_refusal_is_found.Goals as goal

pub returns : goal.returns
returns c = λ bytes ms f is refused said. refusal_found ms (document_sorted bytes ms is.1) f refused said

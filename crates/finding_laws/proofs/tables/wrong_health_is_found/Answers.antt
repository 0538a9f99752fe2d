use Rattle.finding_laws.proofs.Health.{actions_found}
use Rattle.finding_laws.proofs.Sorted.{document_sorted}
use Rattle.finding_laws.proofs.tables.wrong_health_is_found.Goals as goal

pub returns : goal.returns
returns c = λ bytes ms t is read. actions_found ms t (document_sorted bytes ms is.1) read

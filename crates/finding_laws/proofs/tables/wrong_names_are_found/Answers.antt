use Rattle.finding_laws.proofs.Names.{names_any}
use Rattle.finding_laws.proofs.tables.wrong_names_are_found.Goals as goal

pub returns : goal.returns
returns c = names_any

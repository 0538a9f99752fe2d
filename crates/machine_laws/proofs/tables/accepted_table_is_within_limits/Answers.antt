use Rattle.machine_laws.proofs.AcceptedTable.{accepted_limits as law}
use Rattle.machine_laws.proofs.tables.accepted_table_is_within_limits.Goals as goal

pub returns : goal.returns
returns c = law

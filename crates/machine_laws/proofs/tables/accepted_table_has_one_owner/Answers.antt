use Rattle.machine_laws.proofs.Releases.{accepted_owner as law}
use Rattle.machine_laws.proofs.tables.accepted_table_has_one_owner.Goals as goal

pub returns : goal.returns
returns c = law

use Rattle.machine_laws.proofs.Releases.{accepted_releases as law}
use Rattle.machine_laws.proofs.tables.accepted_table_releases.Goals as goal

pub returns : goal.returns
returns c = law

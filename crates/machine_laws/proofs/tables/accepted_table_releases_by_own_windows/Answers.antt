use Rattle.machine_laws.proofs.Releases.{accepted_release_of as law}
use Rattle.machine_laws.proofs.tables.accepted_table_releases_by_own_windows.Goals as goal

pub returns : goal.returns
returns c = law

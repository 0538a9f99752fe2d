use Rattle.machine_laws.proofs.Releases.{lawful_release_of as law}
use Rattle.machine_laws.proofs.image.lawful_image_releases_by_own_windows.Goals as goal

pub returns : goal.returns
returns c = law

use Rattle.machine_laws.proofs.Releases.{lawful_releases as law}
use Rattle.machine_laws.proofs.image.lawful_image_releases.Goals as goal

pub returns : goal.returns
returns c = law

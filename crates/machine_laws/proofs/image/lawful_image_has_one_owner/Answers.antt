use Rattle.machine_laws.proofs.Releases.{lawful_owner as law}
use Rattle.machine_laws.proofs.image.lawful_image_has_one_owner.Goals as goal

pub returns : goal.returns
returns c = law

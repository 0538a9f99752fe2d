use Rattle.machine_laws.proofs.Releases.{lawful_end as law}
use Rattle.machine_laws.proofs.image.lawful_image_has_one_end.Goals as goal

pub returns : goal.returns
returns c = law

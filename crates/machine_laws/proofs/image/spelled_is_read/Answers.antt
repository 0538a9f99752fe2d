use Rattle.machine_laws.proofs.ImageLaws.{spelled_is_read as law}
use Rattle.machine_laws.proofs.image.spelled_is_read.Goals as goal

pub returns : goal.returns
returns c = law

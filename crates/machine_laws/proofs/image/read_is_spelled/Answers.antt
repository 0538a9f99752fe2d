use Rattle.machine_laws.proofs.ImageLaws.{read_is_spelled as law}
use Rattle.machine_laws.proofs.image.read_is_spelled.Goals as goal

pub returns : goal.returns
returns c = law

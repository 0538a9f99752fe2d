use Rattle.machine_laws.proofs.ImageLaws.{none_begins_another as law}
use Rattle.machine_laws.proofs.image.no_spelling_begins_another.Goals as goal

pub returns : goal.returns
returns c = law

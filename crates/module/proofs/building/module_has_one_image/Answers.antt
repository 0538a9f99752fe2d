use Rattle.module.proofs.Headline.{one_image}
use Rattle.module.proofs.building.module_has_one_image.Goals as goal

pub returns : goal.returns
returns c = one_image

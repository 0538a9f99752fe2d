use Rattle.finding_laws.proofs.Beginnings.{beginning_is_cut}
use Rattle.finding_laws.proofs.images.beginnings_are_cut.Goals as goal

pub returns : goal.returns
returns c = λ bytes more cut. beginning_is_cut bytes more cut

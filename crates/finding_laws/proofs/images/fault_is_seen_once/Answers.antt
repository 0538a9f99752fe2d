use Rattle.finding_laws.proofs.Beginnings.{seen_once}
use Rattle.finding_laws.proofs.images.fault_is_seen_once.Goals as goal

pub returns : goal.returns
returns c = λ bytes not_cut. seen_once bytes not_cut

use Rattle.finding_laws.proofs.TextRules.{device_found}
use Rattle.finding_laws.proofs.texts.device_refusals_are_found.Goals as goal

pub returns : goal.returns
returns c = λ rows channels text. device_found rows channels text

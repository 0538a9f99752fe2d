use Rattle.finding_laws.proofs.TextRules.{input_found}
use Rattle.finding_laws.proofs.texts.replay_refusals_are_found.Goals as goal

pub returns : goal.returns
returns c = λ row text. input_found row text

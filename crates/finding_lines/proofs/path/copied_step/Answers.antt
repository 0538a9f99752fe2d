use Rattle.std.proofs.lemmas.Result.{IfOk-from_err}
use Rattle.finding_lines.proofs.path.copied_step.Goals as goal

pub returns-in_err-from_str-in-Key : goal.returns-in_err-from_str-in-Key
returns-in_err-from_str-in-Key c = IfOk-from_err c.from_residual.result _ c.from_residual.ensures.0

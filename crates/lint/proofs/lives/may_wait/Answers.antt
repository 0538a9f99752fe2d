use Rattle.std.proofs.Common.{ap, ◌∙◌}
use Rattle.lint.specs.Plain.{is_zero}
use Rattle.lint.proofs.Waits.{waits_by_time_out}
use Rattle.lint.proofs.lives.may_wait.Goals as goal

pub returns-then-has_time_out : goal.returns-then-has_time_out
returns-then-has_time_out c names =
    waits_by_time_out _ _ _ _ c.if-always_waits.ensures c.if-has_time_out.ensures (c.is_zero.ensures names ∙ ap is_zero (c.last_plain.ensures names))

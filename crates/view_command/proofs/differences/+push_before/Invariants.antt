use Rattle.std.proofs.Common.{length}
use Rattle.view_command.proofs.differences.+push_before.Given as goal

abbrev pub decreases-push_before : goal.decreases-push_before
decreases-push_before c = length c.lines.now

use Rattle.std.proofs.Common.{length}
use Rattle.processor.proofs.context.+push_answer.Given as goal

abbrev pub decreases-push_answer : goal.decreases-push_answer
decreases-push_answer l = length l.answer.now

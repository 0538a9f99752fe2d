use Rattle.std.proofs.Common.{◌≡◌, ◌-◌, pos, replicate}
use Rattle.engine_meaning.specs.Operators.{put_words}
use Rattle.processor.proofs.calls.clear.Given as goal

abbrev pub invariant-loop-place : goal.invariant-loop-place
invariant-loop-place l = put_words l.stack l.place (replicate (l.to - l.place) (pos 0)) ≡ put_words l.fn.stack l.from (replicate (l.to - l.from) (pos 0))

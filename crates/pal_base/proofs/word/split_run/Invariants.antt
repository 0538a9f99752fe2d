use Rattle.std.proofs.Common.{◌≡◌, ◌+◌, length}
use Rattle.std.specs.List.{prefix_len}
use Rattle.pal_base.specs.Runs.{member}
use Rattle.pal_base.proofs.word.split_run.Given as goal

abbrev pub invariant-loop-byte : goal.invariant-loop-byte
invariant-loop-byte l =
    (l.count + length l.rest ≡ length l.fn.text)
    × (l.count + prefix_len (member l.run) l.rest ≡ prefix_len (member l.run) l.fn.text)

abbrev pub decreases-loop-byte : goal.decreases-loop-byte
decreases-loop-byte l = length l.rest

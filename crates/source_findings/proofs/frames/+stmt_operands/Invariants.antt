use Rattle.std.proofs.Common.{◌≡◌, ℕ, ◌≤◌, List, min, max, drop}
use Rattle.pal_base.specs.View.{block_of}
use Rattle.source_findings.specs.Frames as spec
use Rattle.source_findings.proofs.frames.+stmt_operands.Given as goal

abbrev pub invariant-block_operands-loop-stmt : goal.invariant-block_operands-loop-stmt
invariant-block_operands-loop-stmt l =
    (l.most ≤ 18446744073709551615)
    × ((names : List (List ℕ)) → min (max l.most (spec.block_operands (block_of names (drop l.stmt-index l.block)))) 18446744073709551615 ≡ min (spec.block_operands (block_of names l.block)) 18446744073709551615)

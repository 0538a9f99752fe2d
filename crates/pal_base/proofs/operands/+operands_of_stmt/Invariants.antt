use Rattle.std.proofs.Common.{◌≡◌, ◌≤◌, min, max, drop}
use Rattle.pal_meaning.specs.Program as cost
use Rattle.pal_base.specs.ProgramView.{block_of}
use Rattle.pal_base.proofs.operands.+operands_of_stmt.Given as goal

abbrev pub invariant-operands_of_block-loop-stmt : goal.invariant-operands_of_block-loop-stmt
invariant-operands_of_block-loop-stmt l = (l.most ≤ 18446744073709551615) × (min (max l.most (cost.operands_of_block (block_of (drop l.stmt-index l.block)))) 18446744073709551615 ≡ min (cost.operands_of_block (block_of l.block)) 18446744073709551615)

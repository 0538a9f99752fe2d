use Rattle.std.proofs.Common.{◌≡◌, ◌+◌, ◌≤◌, min, drop}
use Rattle.pal_meaning.specs.Program as cost
use Rattle.pal_base.specs.ProgramView.{block_of}
use Rattle.pal_base.proofs.sizes.+size_of_stmt.Given as goal

abbrev pub invariant-size_of_block-loop-stmt : goal.invariant-size_of_block-loop-stmt
invariant-size_of_block-loop-stmt l = (l.size ≤ 18446744073709551615) × (min (l.size + cost.size_of_block (block_of (drop l.stmt-index l.block))) 18446744073709551615 ≡ min (cost.size_of_block (block_of l.block)) 18446744073709551615)

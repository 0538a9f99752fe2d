use Rattle.std.proofs.Common.{◌≡◌, ◌≤◌, min, max, drop}
use Rattle.pal_base.specs.ProgramView.{block_of}
use Rattle.lint.specs.Stacks.{words_of_block}
use Rattle.lint.proofs.stacks.+words_of_stmt.Given as goal

abbrev pub invariant-words_of_block-loop-stmt : goal.invariant-words_of_block-loop-stmt
invariant-words_of_block-loop-stmt l = (l.most ≤ 18446744073709551615) × (min (max l.most (words_of_block l.known (block_of (drop l.stmt-index l.block)))) 18446744073709551615 ≡ min (words_of_block l.known (block_of l.block)) 18446744073709551615)

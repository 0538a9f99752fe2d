use Rattle.std.proofs.Common.{◌≡◌, ℕ, List, drop}
use Rattle.pal_base.specs.View.{block_of}
use Rattle.source_places.specs.Passing as spec
use Rattle.source_places.proofs.passing.+after_stmt.Given as goal

abbrev pub invariant-after_block-loop-stmt : goal.invariant-after_block-loop-stmt
invariant-after_block-loop-stmt l = (names : List (List ℕ)) → spec.after_block (block_of names (drop l.stmt-index l.block)) l.rest ≡ spec.after_block (block_of names l.block) l.text

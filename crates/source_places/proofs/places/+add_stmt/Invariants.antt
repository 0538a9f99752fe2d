use Rattle.std.proofs.Common.{◌≡◌, ℕ, List, drop, ◌++◌}
use Rattle.pal_base.specs.View.{block_of}
use Rattle.source_places.specs.Places as spec
use Rattle.source_places.proofs.places.+add_stmt.Given as goal

abbrev pub invariant-add_block-loop-stmt : goal.invariant-add_block-loop-stmt
invariant-add_block-loop-stmt l =
    (names : List (List ℕ)) → l.places.items ++ spec.block_places l.rest (block_of names (drop l.stmt-index l.block)) ≡ l.fn.places.items ++ spec.block_places l.text (block_of names l.block)

-- The size of a block and of its statements.
use Rattle.std.proofs.Common.{ℕ, zero, suc, ◌<◌, ◌≤◌, arith, get_or, length, List, [], ◌∷◌}
use Rattle.pal_base.specs.declared.program.Stmt.{Stmt}
use Rattle.pal_base.specs.ProgramView.{stmt_of, block_of}
use Rattle.pal_meaning.specs.Program.{size_of_stmt, size_of_block}

-- a statement of a block is no longer than the block
pub item_size : (xs : List Stmt) (i : ℕ) (d : Stmt) → i < length xs → size_of_stmt (stmt_of (get_or xs i d)) ≤ size_of_block (block_of xs)
item_size [] i d h = absurd (omega arith)
item_size (x ∷ xs) zero d h = omega arith
item_size (x ∷ xs) (suc i) d h = let h' : i < length xs = omega arith in omega (arith, item_size xs i d h')

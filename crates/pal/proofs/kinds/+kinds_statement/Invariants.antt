use Rattle.std.proofs.Common.{◌≡◌, drop}
use Rattle.pal_base.specs.View.{block_of}
use Rattle.pal.specs.Scopes.{names_of, sees}
use Rattle.pal_meaning.specs.WellFormed.{fits_block}
use Rattle.pal.proofs.kinds.+kinds_statement.Given as goal

abbrev pub invariant-check_block-loop-statement : goal.invariant-check_block-loop-statement
invariant-check_block-loop-statement l = fits_block (sees l.scope) l.returns (block_of (names_of l.scope) (drop l.statement-index l.block)) ≡ fits_block (sees l.scope) l.returns (block_of (names_of l.scope) l.block)

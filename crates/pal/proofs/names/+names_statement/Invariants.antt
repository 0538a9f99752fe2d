use Rattle.std.proofs.Common.{◌≡◌, drop}
use Rattle.pal_base.specs.View.{block_of}
use Rattle.pal.specs.Scopes.{names_of, sees}
use Rattle.pal_meaning.specs.WellFormed.{knows_block}
use Rattle.pal.proofs.names.+names_statement.Given as goal

abbrev pub invariant-check_block-loop-statement : goal.invariant-check_block-loop-statement
invariant-check_block-loop-statement l = knows_block (sees l.scope) (block_of (names_of l.scope) (drop l.statement-index l.block)) ≡ knows_block (sees l.scope) (block_of (names_of l.scope) l.block)

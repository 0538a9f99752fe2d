use Rattle.std.proofs.Common.{◌≡◌, drop}
use Rattle.pal_meaning.specs.Resolve as meant
use Rattle.pal_base.specs.View as view
use Rattle.pal_base.specs.View.{texts, name_of, integer_of, declaration_of}
use Rattle.pal.specs.Scopes.{names_of, sees}
use Rattle.pal.specs.Parts.{block_onto}
use Rattle.pal.proofs.resolving.+resolve_statement.Given as goal

abbrev pub invariant-resolve_block-loop-statement : goal.invariant-resolve_block-loop-statement
invariant-resolve_block-loop-statement l = block_onto l.statements.items (meant.resolve_block (sees l.scope) (view.block_of (names_of l.scope) (drop l.statement-index l.block))) ≡ meant.resolve_block (sees l.scope) (view.block_of (names_of l.scope) l.block)

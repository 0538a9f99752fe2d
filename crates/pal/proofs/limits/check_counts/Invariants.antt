use Rattle.std.proofs.Common.{◌≡◌, ℕ, List, map, drop}
use Rattle.pal_base.specs.View as view
use Rattle.pal_base.specs.View.{texts, name_of, expr_of, exprs_of, links_of, stmt_of, block_of}
use Rattle.pal.specs.Tables.{counts_of}
use Rattle.pal_meaning.specs.WellFormed.{keeps_counts}
use Rattle.pal_meaning.specs.Resolve.{no_counts}
use Rattle.pal.proofs.limits.check_counts.Given as goal

abbrev pub invariant-loop-declaration : goal.invariant-loop-declaration
invariant-loop-declaration l = (names : List (List ℕ)) → keeps_counts (counts_of l.counts) (map (view.declaration_of names) (drop l.declaration-index l.declarations)) ≡ keeps_counts no_counts (map (view.declaration_of names) l.declarations)

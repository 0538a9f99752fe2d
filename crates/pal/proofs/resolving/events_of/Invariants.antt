use Rattle.std.proofs.Common.{◌≡◌, ℕ, List, map, drop}
use Rattle.pal_meaning.specs.Resolve as meant
use Rattle.pal_base.specs.View.{declaration_of}
use Rattle.pal.specs.Tables.{counts_of}
use Rattle.pal.proofs.resolving.events_of.Given as goal

abbrev pub invariant-loop-declaration : goal.invariant-loop-declaration
invariant-loop-declaration l = (names : List (List ℕ)) → meant.counts_of (counts_of l.counts) (map (declaration_of names) (drop l.declaration-index l.declarations)) ≡ meant.counts_of meant.no_counts (map (declaration_of names) l.declarations)

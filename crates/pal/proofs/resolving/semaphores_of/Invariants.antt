use Rattle.std.proofs.Common.{◌≡◌, ℕ, ◌++◌, List, map, drop, filter_map}
use Rattle.pal_meaning.specs.Resolve as meant
use Rattle.pal_base.specs.View.{declaration_of}
use Rattle.pal.proofs.resolving.semaphores_of.Given as goal

abbrev pub invariant-loop-declaration : goal.invariant-loop-declaration
invariant-loop-declaration l = (names : List (List ℕ)) → l.rows.items ++ filter_map (λ d. meant.semaphore_of d.kind) (map (declaration_of names) (drop l.declaration-index l.declarations)) ≡ filter_map (λ d. meant.semaphore_of d.kind) (map (declaration_of names) l.declarations)

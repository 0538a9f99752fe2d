use Rattle.std.proofs.Common.{◌≡◌, ◌++◌, map, drop}
use Rattle.pal_meaning.specs.Resolve as meant
use Rattle.pal_base.specs.View.{name_of}
use Rattle.pal.specs.Scopes.{names_of, sees}
use Rattle.pal.proofs.resolving.resolve_targets.Given as goal

abbrev pub invariant-loop-target : goal.invariant-loop-target
invariant-loop-target l = l.places.items ++ map (λ x. meant.place_of (sees l.scope x)) (map (name_of (names_of l.scope)) (drop l.target-index l.targets)) ≡ map (λ x. meant.place_of (sees l.scope x)) (map (name_of (names_of l.scope)) l.targets)

use Rattle.std.proofs.Common.{◌≡◌, map, drop}
use Rattle.std.specs.List.{list_all}
use Rattle.pal_base.specs.View.{name_of}
use Rattle.pal.specs.Scopes.{names_of, sees}
use Rattle.pal_meaning.specs.WellFormed.{is_scalar}
use Rattle.pal.proofs.kinds.check_targets.Given as goal

abbrev pub invariant-loop-target : goal.invariant-loop-target
invariant-loop-target l = list_all (λ x. is_scalar (sees l.scope x)) (map (name_of (names_of l.scope)) (drop l.target-index l.targets)) ≡ list_all (λ x. is_scalar (sees l.scope x)) (map (name_of (names_of l.scope)) l.targets)

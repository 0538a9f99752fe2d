use Rattle.std.proofs.Common.{◌≡◌, ℕ, List, drop, map, ◌++◌}
use Rattle.pal_base.specs.View.{declaration_of}
use Rattle.source_places.specs.Places as spec
use Rattle.source_places.proofs.places.add_procedures.Given as goal

abbrev pub invariant-loop-declaration : goal.invariant-loop-declaration
invariant-loop-declaration l =
    (names : List (List ℕ))
    → l.places.items ++ spec.procedures_places l.rest (map (declaration_of names) (drop l.declaration-index l.declarations))
    ≡ l.fn.places.items ++ spec.procedures_places l.text (map (declaration_of names) l.declarations)

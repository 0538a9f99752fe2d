use Rattle.std.proofs.Common.{◌≡◌, ℕ, List, drop, map}
use Rattle.pal_base.specs.View.{declaration_of}
use Rattle.source_places.specs.Places as spec
use Rattle.source_places.proofs.places.after_declarations.Given as goal

abbrev pub invariant-loop-declaration : goal.invariant-loop-declaration
invariant-loop-declaration l =
    (names : List (List ℕ)) → spec.after_declarations (map (declaration_of names) (drop l.declaration-index l.declarations)) l.rest ≡ spec.after_declarations (map (declaration_of names) l.declarations) l.text

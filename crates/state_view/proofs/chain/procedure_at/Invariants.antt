use Rattle.std.proofs.Common.{◌≡◌, List, ℕ, drop, map}
use Rattle.pal_base.specs.View.{declaration_of}
use Rattle.state_rows.specs.Named.{procedure_at}
use Rattle.state_view.proofs.chain.procedure_at.Given as goal

-- it is the one with the number that is left, among the rest
abbrev pub invariant-loop-declaration : goal.invariant-loop-declaration
invariant-loop-declaration l =
    (names : List (List ℕ)) → procedure_at l.left (map (declaration_of names) (drop l.declaration-index l.declarations)) ≡ procedure_at l.number (map (declaration_of names) l.declarations)

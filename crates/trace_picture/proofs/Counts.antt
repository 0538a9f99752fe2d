-- How many elements begin before a tick.
use Rattle.std.proofs.Common.{◌≡◌, List, [], ◌∷◌, false, refl, arith}
use Rattle.std.proofs.lemmas.Bool.Decides.{nat_tests}
use Rattle.std.specs.Prelude.{nat_lt}
use Rattle.apex_types.specs.declared.identity.Ticks.{Ticks}
use Rattle.trace_picture.specs.Elements.{count_before}

-- none begins before tick 0
pub none : (begun : List Ticks) → count_before 0 begun ≡ 0
none [] = refl
none (first ∷ rest) =
    let later : nat_lt first.0 0 ≡ false = grind (arith, nat_tests) in
    rw (later, none rest)

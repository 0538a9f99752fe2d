-- Ticks that are not shown: what was made, and what was collected.
use Rattle.module.proofs.Prelude.{◌≡◌, ℕ, ◌+◌, ◌==◌, Bool, true, false, if◌then◌else◌, List, ◌++◌, length, map, Option, Result, refl, sym, ap, ◌∙◌, At, Course, Plan, Member, Input, InputLine, brought_moved, line_in, AreCollected, InputsFault}
use Rattle.std.proofs.Common.{◌&&◌, not, [], subst}
use Rattle.module_meaning.specs.Module as meaning
use Rattle.module.proofs.Collecting.{both_collected}

-- ---- what was made

-- ---- what was collected

-- by the device lines, then by the messages
pub tick_collected : {C X : Type 0} (tick : ℕ) (a brought : List Input) (old mid new : List InputLine) (plan : Plan) (p : ℕ) (c : Course (List (Member C))) (members : List (Member C)) (last : Option At) (r : Result X InputsFault)
    → brought ≡ a ++ brought_moved plan p c.state c.at → last ≡ c.at → members ≡ c.state → mid ≡ old ++ map (line_in tick) a → AreCollected tick (brought_moved plan p members last) mid new r → AreCollected tick brought old new r
tick_collected tick a brought old mid new plan p c members last r parts on same first h =
    let all : brought ≡ a ++ brought_moved plan p members last =
    parts ∙ ap (λ (o : Option At). a ++ brought_moved plan p c.state o) (sym on) ∙ ap (λ (ms : List (Member _)). a ++ brought_moved plan p ms last) (sym same) in
    subst (λ (is : List Input). AreCollected tick is old new r) (sym all) (both_collected tick a (brought_moved plan p members last) old mid new r first h)

-- ---- a sink that forgets

-- to take all bytes is no failure
pub all_taken : (n : ℕ) → 0 ≡ 0 + (if (n == 0) && not (n == 0) then 1 else 0)
all_taken n = by_test (n == 0)
  where
    by_test : (b : Bool) → 0 ≡ 0 + (if b && not b then 1 else 0)
    by_test true = refl
    by_test false = refl

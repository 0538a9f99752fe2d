-- Tests of two parts, of which the second is made if the first holds.
use Rattle.std.proofs.Common.{◌≡◌, Bool, true, false, ◌&&◌, Result, Ok, Err, IsErr, is_ok, refl, ap, ◌∙◌}

-- if the first part holds, the second decides
pub then_of : (g first second : Bool) → true ≡ first → g ≡ second → g ≡ (first && second)
then_of g first second holds is = is ∙ ap (λ b. b && second) holds

-- if the first part fails, both do
pub stops_at : (first second : Bool) → false ≡ first → false ≡ (first && second)
stops_at first second fails = ap (λ b. b && second) fails

pub is_not_ok : {T E : Type 0} (r : Result T E) → IsErr r → is_ok r ≡ false
is_not_ok (Ok x) h = let k : false ≡ true = h in cc
is_not_ok (Err e) h = refl

-- Services with the same word.
use Rattle.std.proofs.Common.{◌≡◌, List, Bool, sym, ap, ◌∙◌, int_eq, ℤ}
use Rattle.std.specs.Prelude.{IsTrue}
use Rattle.std.proofs.lemmas.Slice.Eq.{slice_eq-Decides}
use Rattle.std.specs.Cmp.{signed_Decides}
use Rattle.std.specs.Cmp.Lexicographic.{pointwise}
use Rattle.arrayvec.specs.ArrayVec.{ArrayVec}
use Rattle.apex_types.specs.ServiceShape.{service_word}
use Rattle.apex_types.specs.declared.service.Service.{Service}
use Rattle.trace_text.specs.Reading.{service_of}
use Rattle.trace_text.proofs.Spells.{same_some}
use Rattle.trace_text.proofs.Tables.{service_spells}

pub service_is : (a b : Service) → service_word a ≡ service_word b → a ≡ b
service_is a b same = same_some a b (sym (service_spells.again a tt) ∙ ap service_of same ∙ service_spells.again b tt)

pub same_items : {T : Type 0} (a b : ArrayVec T) → a.items ≡ b.items → a ≡ b
same_items a b same = ap (λ xs. record { items = xs }) same

-- `==` of two slices of numbers
pub are_the_same : (xs ys : List ℤ) (r : Bool) → r ≡ pointwise int_eq xs ys → (IsTrue r → xs ≡ ys) × (xs ≡ ys → IsTrue r)
are_the_same xs ys r is = slice_eq-Decides signed_Decides xs ys r is

-- Each service has its own number, and no number above the count of services names one.
use Rattle.std.proofs.Common.{◌≡◌, ◌∙◌, ℕ, zero, suc, ◌+◌, ◌-◌, ◌<◌, ◌≤◌, List, [], ◌∷◌, Some, None, nat_eq, true, false, refl, sym, ap, inl, inr, rules, arith}
use Rattle.std.specs.Prelude.{length, slice_get, IsNone, is_some}
use Rattle.std.proofs.lemmas.Bool.Decides.{nat_tests}
use Rattle.std.proofs.lemmas.Option.{slice_get_past, slice_get_cases}
use Rattle.apex_types.specs.declared.service.Service.{Service}
use Rattle.apex_types.specs.declared.service.Service.TheVariants as service
use Rattle.apex_types.specs.ServiceShape.{services, service_of, number_of}

pub service_of_number : (s : Service) → service_of (number_of s) ≡ Some s
service_of_number service.GetPartitionStatus = refl
service_of_number _ = refl

pub service_of_above : (number : ℕ) → length services < number → service_of number ≡ None
service_of_above number above =
    let some : nat_eq number 0 ≡ false = grind (arith, nat_tests) in
    rw some (slice_get_past services (number - 1) (omega arith))

pub service_of_positive : (number : ℕ) → 0 < number → slice_get services (number - 1) ≡ service_of number
service_of_positive number above =
    let some : nat_eq number 0 ≡ false = grind (arith, nat_tests) in
    rw some refl

-- services in the order of their numbers, from a number on
AreNumbered : ℕ → List Service → Type 0
AreNumbered n [] = Unit {0}
AreNumbered n (s ∷ ss) = (number_of s ≡ n) × AreNumbered (n + 1) ss

all_numbered : AreNumbered 1 services
unfolding AreNumbered
all_numbered = search rules

number_in : (ss : List Service) (n i : ℕ) (s : Service) → AreNumbered n ss → slice_get ss i ≡ Some s → number_of s ≡ n + i
unfolding AreNumbered
number_in [] n i s h e = cc
number_in (t ∷ ss) n zero s h e = let same : t ≡ s = cc in ap number_of (sym same) ∙ h.0 ∙ omega arith
number_in (t ∷ ss) n (suc i) s h e = number_in ss (n + 1) i s h.1 e ∙ omega arith

pub number_of_service : (number : ℕ) (s : Service) → 0 < number → slice_get services (number - 1) ≡ Some s → number_of s ≡ number
number_of_service number s above e = number_in services 1 (number - 1) s all_numbered e ∙ omega arith

pub past_when_none : (i : ℕ) → IsNone (slice_get services i) → length services ≤ i
past_when_none i e = elim (slice_get_cases services i).1 [ inl w ↦ absurd (let clash : true ≡ false = sym (ap is_some w.2) ∙ e in cc) | inr past ↦ past.0 ]

pub none_when_past : (i : ℕ) → length services ≤ i → IsNone (slice_get services i)
none_when_past i past = ap is_some (slice_get_past services i past)

-- Ticks that are made in parts, one after another.
use Rattle.module.proofs.Prelude.{◌≡◌, ◌≤◌, ℕ, ◌+◌, ◌-◌, List, ◌++◌, refl, sym, ap, ◌∙◌, arith, DeviceLine, Event, Plan, lines_sent, Sent, LeadsTo, HasPassed, HasPassedSome, Standing, elapse, preceded_by}
use Rattle.std.proofs.Common.{[], subst}
use Rattle.module.proofs.Bursts.{run_nothing}
use Rattle.module.proofs.Standing.{preceded_twice}

leads_more : {C : Type 0} (plan : Plan) (lines : List DeviceLine) (n m : ℕ) (s t u : Standing C) (told more : List Event) → LeadsTo plan lines n s told t → LeadsTo plan lines m t more u → LeadsTo plan lines (n + m) s (told ++ more) u
leads_more plan lines n m s t u told more first second j =
    let sums : n + m + j ≡ n + (m + j) = omega arith in
    ap (λ k. elapse plan lines k s) sums ∙ first (m + j) ∙ ap (preceded_by told) (second j) ∙ sym (preceded_twice told more (elapse plan lines j u))

-- n ticks, then m more
run_more : {C : Type 0} (plan : Plan) (lines : List DeviceLine) (n m : ℕ) (s t u : Standing C) (old mid new : Sent) → HasPassed plan lines n s t old mid → HasPassed plan lines m t u mid new → HasPassed plan lines (n + m) s u old new
run_more plan lines n m s t u old mid new a b = record {
  told = a.told ++ b.told;
  leads = leads_more plan lines n m s t u a.told b.told a.leads b.leads;
  sent = lines_sent old mid new a.told b.told (a.told ++ b.told) refl a.sent b.sent;
}

-- ---- the ticks that remain

pub all_left : {C : Type 0} (plan : Plan) (lines : List DeviceLine) (most : ℕ) (s : Standing C) (sent : Sent) → HasPassed plan lines (most - most) s s sent sent
all_left plan lines most s sent =
    let none : 0 ≡ most - most = omega arith in
    subst (λ n. HasPassed plan lines n s s sent sent) none (run_nothing plan lines 0 s sent).2

-- m of the remaining ticks are made
pub fewer_left : {C : Type 0} (plan : Plan) (lines : List DeviceLine) (most left m : ℕ) (s t u : Standing C) (old mid new : Sent) → left ≤ most → HasPassed plan lines (most - left) s t old mid → HasPassedSome plan lines left t u mid new m
    → HasPassed plan lines (most - (left - m)) s u old new
fewer_left plan lines most left m s t u old mid new few made h =
    let count : most - left + m ≡ most - (left - m) = let within = h.0 in omega (arith, few, within) in
    subst (λ n. HasPassed plan lines n s u old new) count (run_more plan lines (most - left) m s t u old mid new made h.2)

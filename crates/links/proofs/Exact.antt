-- A timer list stays exact, and its first has the least tick.
use Rattle.links.proofs.Prelude.{◌≡◌, ℕ, ◌+◌, ◌≤◌, nat_eq, nat_lt, cond, Bool, true, false, not, List, [], ◌∷◌, Option, Some, None, slice_get, refl, sym, ap, ◌∙◌, arith, nat_tests, DueEntry, AreFrom, behind_earlier, due_at, IsExact, tick_in}
use Rattle.std.proofs.lemmas.Bool.{eq-eqb}
use Rattle.std.proofs.lemmas.Option.{none-some, same_Some}
use Rattle.apex_types.specs.declared.identity.ProcessIndex.{ProcessIndex}
use Rattle.apex_types.specs.declared.identity.Ticks.{Ticks}
use Rattle.links.specs.DueOrder.{times_due, without}
use Rattle.links.specs.Timers.{IsLeastTick, number_of, set_timer, ticks_with}

gone : (p : ℕ) (dues : List DueEntry) → tick_in p (without p dues) ≡ None
gone p [] = refl
gone p (e ∷ es) = (elim (nat_eq p e.process.0) as (λ b. nat_eq p e.process.0 ≡ b → tick_in p (cond (not b) (e ∷ without p es) (without p es)) ≡ None) [ true ↦ λ q. gone p es | false ↦ λ q. rw q (gone p es) ]) refl

others_stay : (p q : ℕ) (dues : List DueEntry) → nat_eq q p ≡ false → tick_in q (without p dues) ≡ tick_in q dues
others_stay p q [] other = refl
others_stay p q (e ∷ es) other = (elim (nat_eq p e.process.0) as (λ b. nat_eq p e.process.0 ≡ b → tick_in q (cond (not b) (e ∷ without p es) (without p es)) ≡ cond (nat_eq q e.process.0) (Some e.tick.0) (tick_in q es)) [ true ↦ λ t. let apart : nat_eq q e.process.0 ≡ false = grind (arith, nat_tests) in rw apart (others_stay p q es other) | false ↦ λ t. ap (λ o. cond (nat_eq q e.process.0) (Some e.tick.0) o) (others_stay p q es other) ]) refl

entered : (e : DueEntry) (q : ℕ) (dues : List DueEntry) → tick_in e.process.0 dues ≡ None → tick_in q (behind_earlier e dues) ≡ cond (nat_eq q e.process.0) (Some e.tick.0) (tick_in q dues)
entered e q [] none = refl
entered e q (x ∷ xs) none =
    elim (nat_lt e.tick.0 x.tick.0) as (λ b. tick_in q (cond b (e ∷ x ∷ xs) (x ∷ behind_earlier e xs)) ≡ cond (nat_eq q e.process.0) (Some e.tick.0) (tick_in q (x ∷ xs))) [ true ↦ refl | false ↦ by_head (nat_eq e.process.0 x.process.0) refl none (entered e q xs) ]
  where
    by_head : (b : Bool) → nat_eq e.process.0 x.process.0 ≡ b → cond b (Some x.tick.0) (tick_in e.process.0 xs) ≡ None → (tick_in e.process.0 xs ≡ None → tick_in q (behind_earlier e xs) ≡ cond (nat_eq q e.process.0) (Some e.tick.0) (tick_in q xs)) → cond (nat_eq q x.process.0) (Some x.tick.0) (tick_in q (behind_earlier e xs)) ≡ cond (nat_eq q e.process.0) (Some e.tick.0) (cond (nat_eq q x.process.0) (Some x.tick.0) (tick_in q xs))
    by_head true t n rest = absurd (none-some x.tick.0 (sym n))
    by_head false t n rest = ap (λ o. cond (nat_eq q x.process.0) (Some x.tick.0) o) (rest n) ∙ swap (nat_eq q x.process.0) (nat_eq q e.process.0) refl refl
      where
        swap : (a b : Bool) → nat_eq q x.process.0 ≡ a → nat_eq q e.process.0 ≡ b → cond a (Some x.tick.0) (cond b (Some e.tick.0) (tick_in q xs)) ≡ cond b (Some e.tick.0) (cond a (Some x.tick.0) (tick_in q xs))
        swap true true u v = absurd (grind (arith, nat_tests))
        swap true false u v = refl
        swap false b u v = refl

pub exact_set : (ticks : ℕ → Option ℕ) (p : ProcessIndex) (tick : Option Ticks) (dues : List DueEntry) → IsExact ticks dues → IsExact (ticks_with p.0 (number_of tick) ticks) (set_timer p tick dues)
exact_set ticks p None dues h = λ q. by_test q (nat_eq q p.0) refl
  where
    by_test : (q : ℕ) (b : Bool) → nat_eq q p.0 ≡ b → tick_in q (without p.0 dues) ≡ cond (nat_eq q p.0) None (ticks q)
    by_test q true t = let same : q ≡ p.0 = grind (arith, nat_tests) in rw t (ap (λ k. tick_in k (without p.0 dues)) same ∙ gone p.0 dues)
    by_test q false t = rw t (others_stay p.0 q dues t ∙ h q)
exact_set ticks p (Some tick) dues h = λ q. entered (due_at p tick) q (without p.0 dues) (gone p.0 dues) ∙ by_test q (nat_eq q p.0) refl
  where
    by_test : (q : ℕ) (b : Bool) → nat_eq q p.0 ≡ b → cond (nat_eq q p.0) (Some tick.0) (tick_in q (without p.0 dues)) ≡ cond (nat_eq q p.0) (Some tick.0) (ticks q)
    by_test q true t = rw t refl
    by_test q false t = rw t (others_stay p.0 q dues t ∙ h q)

-- ---- a tick of a process that has none

pub exact_begun : (ticks : ℕ → Option ℕ) (p : ProcessIndex) (tick : Ticks) (dues : List DueEntry) → tick_in p.0 dues ≡ None → IsExact ticks dues → IsExact (ticks_with p.0 (Some tick.0) ticks) (behind_earlier (due_at p tick) dues)
exact_begun ticks p tick dues none h = λ q. entered (due_at p tick) q dues none ∙ ap (λ o. cond (nat_eq q p.0) (Some tick.0) o) (h q)

pub no_tick : (p : ℕ) (dues : List DueEntry) → tick_in p dues ≡ None → times_due p dues ≡ 0
no_tick p [] none = refl
no_tick p (e ∷ es) none = by_head (nat_eq p e.process.0) none (no_tick p es)
  where
    by_head : (b : Bool) → cond b (Some e.tick.0) (tick_in p es) ≡ None → (tick_in p es ≡ None → times_due p es ≡ 0) → cond b 1 0 + times_due p es ≡ 0
    by_head true h rest = absurd (none-some e.tick.0 (sym h))
    by_head false h rest = let none_there = rest h in omega (arith, none_there)

-- ---- the least
from_all : (tick : ℕ) (dues : List DueEntry) (q t : ℕ) → AreFrom tick dues → tick_in q dues ≡ Some t → tick ≤ t
from_all tick [] q t h e = absurd (none-some t e)
from_all tick (x ∷ xs) q t h e = by_head (nat_eq q x.process.0) e (from_all tick xs q t h.1)
  where
    by_head : (b : Bool) → cond b (Some x.tick.0) (tick_in q xs) ≡ Some t → (tick_in q xs ≡ Some t → tick ≤ t) → tick ≤ t
    by_head true g rest = let same = same_Some x.tick.0 t g in let least = h.0 in omega (arith, same, least)
    by_head false g rest = rest g

pub none_least : (ticks : ℕ → Option ℕ) (dues : List DueEntry) → None ≡ slice_get dues 0 → IsExact ticks dues → IsLeastTick ticks None
none_least ticks [] first h = λ p. sym (h p)
none_least ticks (x ∷ xs) first h = absurd (none-some x first)

pub first_least : (ticks : ℕ → Option ℕ) (dues : List DueEntry) (e : DueEntry) → Some e ≡ slice_get dues 0 → AreFrom e.tick.0 dues → IsExact ticks dues → IsLeastTick ticks (Some e.tick.0)
first_least ticks [] e first from h = absurd (none-some e (sym first))
first_least ticks (x ∷ xs) e first from h =
    let same : e ≡ x = same_Some e x first in
    let test : nat_eq x.process.0 x.process.0 ≡ true = eq-eqb x.process.0 x.process.0 refl in (
      (x.process.0, sym (h x.process.0) ∙ (ap (λ b. cond b (Some x.tick.0) (tick_in x.process.0 xs)) test ∙ ap (λ (y : DueEntry). Some y.tick.0) (sym same))),
      λ q t g. from_all e.tick.0 (x ∷ xs) q t from (h q ∙ g),
    )

-- The bits of the processes that are due are those of the entries in front, whose ticks have come.
use Rattle.links.proofs.Prelude.{◌≡◌, ℕ, zero, suc, ◌<◌, ◌≤◌, nat_eq, cond, Bool, true, false, List, [], ◌∷◌, Option, Some, length, drop, get_or, refl, sym, ap, ◌∙◌, arith, bit_at, nat_tests, bit_at-zero, DueEntry, AreFrom, AreInOrder, AreDueBelow, IsExact, tick_in}
use Rattle.std.specs.Prelude.{max, nat_le}
use Rattle.std.specs.Int.Bits.{bit_or}
use Rattle.std.proofs.lemmas.Nat.Bits.{bit_at-lt, bit_at_or}
use Rattle.links.specs.Timers.{HasThoseDue, IsDueMask, has_come, one_if_come}

-- the union of two bits
abbrev pub or_bit : ℕ → ℕ → ℕ
or_bit zero b = b
or_bit (suc a) b = 1

or_one : (a : ℕ) → or_bit a 1 ≡ 1
or_one zero = refl
or_one (suc a) = refl

or_none : (a : ℕ) → a < 2 → or_bit a 0 ≡ a
or_none zero lt = refl
or_none (suc zero) lt = refl
or_none (suc (suc a)) lt = absurd (omega (arith, lt))

-- the mask has the bits of the processes before a place; with the bits of those from the place on, it
-- has all
abbrev pub HasThoseBefore : ℕ → ℕ → List DueEntry → ℕ → Type 0
HasThoseBefore now place dues mask = (p : ℕ) → or_bit (bit_at mask p) (one_if_come now (tick_in p (drop place dues))) ≡ one_if_come now (tick_in p dues)

pub none_yet : (now : ℕ) (dues : List DueEntry) → HasThoseBefore now 0 dues 0
none_yet now dues = λ p. ap (λ b. or_bit b (one_if_come now (tick_in p dues))) (bit_at-zero p)

pub one_more : (now place mask next : ℕ) (e : DueEntry) (dues : List DueEntry) → drop place dues ≡ e ∷ drop (suc place) dues → e.tick.0 ≤ now → bit_at next e.process.0 ≡ 1 → ((i : ℕ) → (i ≡ e.process.0 → ⊥) → bit_at next i ≡ bit_at mask i) → HasThoseBefore now place dues mask → HasThoseBefore now (suc place) dues next
one_more now place mask next e dues is le set others h = λ p. by_test p (nat_eq p e.process.0) refl
  where
    rest : ℕ → ℕ
    rest p = one_if_come now (tick_in p (drop (suc place) dues))

    by_test : (p : ℕ) (b : Bool) → nat_eq p e.process.0 ≡ b → or_bit (bit_at next p) (rest p) ≡ one_if_come now (tick_in p dues)
    by_test p true t =
        let same : p ≡ e.process.0 = grind (arith, nat_tests) in
        let come : nat_le e.tick.0 now ≡ true = grind (arith, nat_tests) in
        let head : one_if_come now (tick_in p (drop place dues)) ≡ 1 = rw (is, t, come) refl in
        ap (λ b. or_bit b (rest p)) (ap (bit_at next) same ∙ set) ∙ (sym (or_one (bit_at mask p)) ∙ (ap (or_bit (bit_at mask p)) (sym head) ∙ h p))
    by_test p false t =
        let other : (p ≡ e.process.0 → ⊥) = λ q. absurd (grind (arith, nat_tests)) in
        let later : tick_in p (drop place dues) ≡ tick_in p (drop (suc place) dues) = rw (is, t) refl in
        ap (λ b. or_bit b (rest p)) (others p other) ∙ (ap (λ o. or_bit (bit_at mask p) (one_if_come now o)) (sym later) ∙ h p)

pub all_there : (now place mask : ℕ) (dues : List DueEntry) → ((p : ℕ) → one_if_come now (tick_in p (drop place dues)) ≡ 0) → HasThoseBefore now place dues mask → HasThoseDue now dues mask
all_there now place mask dues none h = λ p. sym (or_none (bit_at mask p) (bit_at-lt mask p)) ∙ (ap (or_bit (bit_at mask p)) (sym (none p)) ∙ h p)

-- ---- past the end no entry is due

pub none_behind : (now place : ℕ) (dues : List DueEntry) → length dues ≤ place → (p : ℕ) → one_if_come now (tick_in p (drop place dues)) ≡ 0
none_behind now zero [] le p = refl
none_behind now (suc place) [] le p = refl
none_behind now zero (x ∷ xs) le p = absurd (omega (arith, le))
none_behind now (suc place) (x ∷ xs) le p = none_behind now place xs (omega (arith, le)) p

none_from : (now tick : ℕ) (dues : List DueEntry) → now < tick → AreFrom tick dues → (p : ℕ) → one_if_come now (tick_in p dues) ≡ 0
none_from now tick [] lt h p = refl
none_from now tick (x ∷ xs) lt h p =
    let least = h.0 in
    let later : nat_le x.tick.0 now ≡ false = grind (arith, nat_tests) in
    elim (nat_eq p x.process.0) as (λ b. one_if_come now (cond b (Some x.tick.0) (tick_in p xs)) ≡ 0) [
      | true ↦ rw later refl
      | false ↦ none_from now tick xs lt h.1 p
    ]

pub none_later : (now place : ℕ) (dues : List DueEntry) (d : DueEntry) → place < length dues → now < (get_or dues place d).tick.0 → AreInOrder dues → (p : ℕ) → one_if_come now (tick_in p (drop place dues)) ≡ 0
none_later now place [] d lt later h p = absurd (omega (arith, lt))
none_later now zero (x ∷ xs) d lt later h p = none_from now x.tick.0 (x ∷ xs) later (omega arith, h.0) p
none_later now (suc place) (x ∷ xs) d lt later h p = none_later now place xs d (omega (arith, lt)) later h.1 p

-- each has a bit
pub process_below : (n place : ℕ) (dues : List DueEntry) (d : DueEntry) → place < length dues → AreDueBelow n dues → (get_or dues place d).process.0 < n
process_below n place [] d lt h = absurd (omega (arith, lt))
process_below n zero (x ∷ xs) d lt h = h.0
process_below n (suc place) (x ∷ xs) d lt h = process_below n place xs d (omega (arith, lt)) h.1

-- ---- two lists

max_bits : (x y : Bool) → max (cond x 1 0) (cond y 1 0) ≡ cond x 1 (cond y 1 0)
max_bits true true = refl
max_bits true false = refl
max_bits false true = refl
max_bits false false = refl

pub of_both : (now a b : ℕ) (dues deadlines : List DueEntry) (due deadline : ℕ → Option ℕ) → HasThoseDue now dues a → HasThoseDue now deadlines b → IsExact due dues → IsExact deadline deadlines → IsDueMask now due deadline (bit_or a b)
of_both now a b dues deadlines due deadline h g is_due is_deadline = λ p.
    let first : bit_at a p ≡ one_if_come now (due p) = h p ∙ ap (one_if_come now) (is_due p) in
    let second : bit_at b p ≡ one_if_come now (deadline p) = g p ∙ ap (one_if_come now) (is_deadline p) in
    bit_at_or a b p ∙ rw (first, second) (max_bits (has_come now (due p)) (has_come now (deadline p)))

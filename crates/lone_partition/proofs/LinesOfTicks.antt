-- Lines that act each in its own tick, in the order of their ticks.
use Rattle.lone_partition.proofs.Prelude.{◌≡◌, ◌≢◌, ℕ, suc, ◌+◌, ◌<◌, ◌≤◌, Bool, true, false, List, [], ◌∷◌, length, get_or, take, drop, refl, sym, ap, subst, ◌∙◌, arith, drop_more, drop_all, inputs_in, Input, InputLine, AreFrom, inputs_of, lines_in, tick_of_input}
use Rattle.std.proofs.Common.{◌==◌, if◌then◌else◌}
use Rattle.std.proofs.lemmas.Bool.Decides.{Decides-eqb}

pub not_true : (b : Bool) → (b ≡ true → ⊥) → b ≡ false
not_true true h = absurd (h refl)
not_true false h = refl

-- a tick is t, or another
either : (u t : ℕ) (P : Type 0) → (u ≡ t → P) → (u ≢ t → P) → P
either u t P same other = by_test (u == t) refl where
  by_test : (b : Bool) → (u == t) ≡ b → P
  by_test true e = same ((Decides-eqb u t).0 e)
  by_test false e = other (λ s. let k : true ≡ false = sym ((Decides-eqb u t).1 s) ∙ e in cc)

module _ {L : Type 0} (tick_of : L → ℕ) where
  other_stays : (t : ℕ) (l : L) (ls : List L) → t ≢ tick_of l → lines_in tick_of t (l ∷ ls) ≡ lines_in tick_of t ls
  other_stays t l ls h = ap (λ (b : Bool). if b then l ∷ lines_in tick_of t ls else lines_in tick_of t ls) (not_true (tick_of l == t) (λ e. h (sym ((Decides-eqb (tick_of l) t).0 e))))

  own_stays : (t : ℕ) (l : L) (ls : List L) → tick_of l ≡ t → lines_in tick_of t (l ∷ ls) ≡ l ∷ lines_in tick_of t ls
  own_stays t l ls e = ap (λ (b : Bool). if b then l ∷ lines_in tick_of t ls else lines_in tick_of t ls) ((Decides-eqb (tick_of l) t).1 e)

  -- no line is of a tick before all of them
  pub none_before : (t u : ℕ) (ls : List L) → t < u → AreFrom tick_of u ls → lines_in tick_of t ls ≡ []
  none_before t u [] h order = refl
  none_before t u (l ∷ ls) h order =
      let from : u ≤ tick_of l = order.0 in
      let other : t ≢ tick_of l = λ e. absurd (omega arith) in
      other_stays t l ls other ∙ none_before t (tick_of l) ls (omega arith) order.1

  -- lines of these ticks are of lower ones or later
  pub from_lower : (t u : ℕ) (ls : List L) → t ≤ u → AreFrom tick_of u ls → AreFrom tick_of t ls
  from_lower t u [] h order = tt
  from_lower t u (l ∷ ls) h order = let there : u ≤ tick_of l = order.0 in (omega (arith, h, there), order.1)

  -- how many lines in front are of a tick
  abbrev pub front : ℕ → List L → ℕ
  front t [] = 0
  front t (l ∷ ls) = if tick_of l == t then suc (front t ls) else 0

  front_own : (t : ℕ) (l : L) (ls : List L) → tick_of l ≡ t → front t (l ∷ ls) ≡ suc (front t ls)
  front_own t l ls e = ap (λ (b : Bool). if b then suc (front t ls) else 0) ((Decides-eqb (tick_of l) t).1 e)

  front_other : (t : ℕ) (l : L) (ls : List L) → tick_of l ≢ t → front t (l ∷ ls) ≡ 0
  front_other t l ls h = ap (λ (b : Bool). if b then suc (front t ls) else 0) (not_true (tick_of l == t) (λ e. h ((Decides-eqb (tick_of l) t).0 e)))

  pub front_within : (t : ℕ) (ls : List L) → front t ls ≤ length ls
  front_within t [] = omega arith
  front_within t (l ∷ ls) =
      either (tick_of l) t (front t (l ∷ ls) ≤ length (l ∷ ls))
      (λ e. let within = front_within t ls in let own = front_own t l ls e in omega arith)
      (λ h. let other = front_other t l ls h in omega arith)

  pub front_now : (t : ℕ) (ls : List L) → AreFrom tick_of t ls → take (front t ls) ls ≡ lines_in tick_of t ls
  front_now t [] order = refl
  front_now t (l ∷ ls) order =
      let from : t ≤ tick_of l = order.0 in
      either (tick_of l) t (take (front t (l ∷ ls)) (l ∷ ls) ≡ lines_in tick_of t (l ∷ ls))
      (λ e. ap (λ n. take n (l ∷ ls)) (front_own t l ls e) ∙ ap (λ (r : List L). l ∷ r) (front_now t ls (subst (λ u. AreFrom tick_of u ls) e order.1)) ∙ sym (own_stays t l ls e))
      (λ h. ap (λ n. take n (l ∷ ls)) (front_other t l ls h) ∙ sym (other_stays t l ls (λ e. h (sym e)) ∙ none_before t (tick_of l) ls (omega (arith, h)) order.1))

  pub front_later : (t : ℕ) (ls : List L) → AreFrom tick_of t ls → AreFrom tick_of (t + 1) (drop (front t ls) ls)
  front_later t [] order = tt
  front_later t (l ∷ ls) order =
      let from : t ≤ tick_of l = order.0 in
      either (tick_of l) t (AreFrom tick_of (t + 1) (drop (front t (l ∷ ls)) (l ∷ ls)))
      (λ e. subst (λ n. AreFrom tick_of (t + 1) (drop n (l ∷ ls))) (sym (front_own t l ls e)) (front_later t ls (subst (λ u. AreFrom tick_of u ls) e order.1)))
      (λ h. let above : t + 1 ≤ tick_of l = omega (arith, h) in subst (λ n. AreFrom tick_of (t + 1) (drop n (l ∷ ls))) (sym (front_other t l ls h)) (above, order.1))

  pub front_rest : (t u : ℕ) (ls : List L) → t < u → lines_in tick_of u (drop (front t ls) ls) ≡ lines_in tick_of u ls
  front_rest t u [] h = refl
  front_rest t u (l ∷ ls) h =
      either (tick_of l) t (lines_in tick_of u (drop (front t (l ∷ ls)) (l ∷ ls)) ≡ lines_in tick_of u (l ∷ ls))
      (λ e.
      let other : u ≢ tick_of l = λ s. absurd (omega arith) in
      ap (λ n. lines_in tick_of u (drop n (l ∷ ls))) (front_own t l ls e) ∙ front_rest t u ls h ∙ sym (other_stays u l ls other))
      (λ k. ap (λ n. lines_in tick_of u (drop n (l ∷ ls))) (front_other t l ls k))

  -- the first i lines are of the tick, and the next one is not
  pub reached : (t : ℕ) (ls : List L) (i : ℕ) (l : L) → front t ls ≡ i + front t (drop i ls) → i < length ls → l ≡ get_or ls i l → tick_of l ≢ t → i ≡ front t ls
  reached t ls i l so_far within is other =
      let next = drop_more ls i l within ∙ ap (λ (x : L). x ∷ drop (i + 1) ls) (sym is) in
      let none : front t (drop i ls) ≡ 0 = ap (front t) next ∙ front_other t l (drop (i + 1) ls) other in
      omega (arith, so_far, none)

  -- the first i lines are of the tick, and there are no others
  pub reached_all : (t : ℕ) (ls : List L) (i : ℕ) → front t ls ≡ i + front t (drop i ls) → length ls ≤ i → i ≡ front t ls
  reached_all t ls i so_far past =
      let none : front t (drop i ls) ≡ 0 = ap (front t) (drop_all i ls past) in
      omega (arith, so_far, none)

  -- one more line of the tick
  pub one_more : (t : ℕ) (ls : List L) (i : ℕ) (l : L) → front t ls ≡ i + front t (drop i ls) → i < length ls → l ≡ get_or ls i l → tick_of l ≡ t → front t ls ≡ i + 1 + front t (drop (i + 1) ls)
  one_more t ls i l so_far within is own =
      let next = drop_more ls i l within ∙ ap (λ (x : L). x ∷ drop (i + 1) ls) (sym is) in
      let more : front t (drop i ls) ≡ suc (front t (drop (i + 1) ls)) = ap (front t) next ∙ front_own t l (drop (i + 1) ls) own in
      omega (arith, so_far, more)

  -- the lines of a tick are all of this tick
  pub of_tick_again : (t : ℕ) (ls : List L) → lines_in tick_of t (lines_in tick_of t ls) ≡ lines_in tick_of t ls
  of_tick_again t [] = refl
  of_tick_again t (l ∷ ls) =
      either (tick_of l) t (lines_in tick_of t (lines_in tick_of t (l ∷ ls)) ≡ lines_in tick_of t (l ∷ ls))
      (λ e. ap (lines_in tick_of t) (own_stays t l ls e) ∙ own_stays t l (lines_in tick_of t ls) e ∙ ap (λ (r : List L). l ∷ r) (of_tick_again t ls) ∙ sym (own_stays t l ls e))
      (λ h. let stays = other_stays t l ls (λ e. h (sym e)) in ap (lines_in tick_of t) stays ∙ of_tick_again t ls ∙ sym stays)

-- ---- the inputs of a partition

-- the inputs of a tick are in the lines of this tick
pub inputs_are : (t : ℕ) (ls : List InputLine) → inputs_in t ls ≡ inputs_of (lines_in tick_of_input t ls)
inputs_are t [] = refl
inputs_are t (l ∷ ls) = by_test (l.tick.0 == t) (inputs_are t ls) where
  by_test : (b : Bool) → inputs_in t ls ≡ inputs_of (lines_in tick_of_input t ls)
      → (if b then l.input ∷ inputs_in t ls else inputs_in t ls) ≡ inputs_of (if b then l ∷ lines_in tick_of_input t ls else lines_in tick_of_input t ls)
  by_test true h = ap (λ (is : List Input). l.input ∷ is) h
  by_test false h = h

-- The computed next release is the least later tick at which a release window of the partition starts.
use Rattle.kernel_laws.proofs.Prelude.{◌≡◌, ℕ, zero, suc, ◌+◌, ◌-◌, ◌%◌, ◌<◌, ◌≤◌, Bool, true, false, cond, IsTrue, List, ◌∷◌, refl, sym, ◌∙◌, arith, inl, inr, ◌⊎◌, subst, list_any, or_parts, and_parts, eqb-true, eq-eqb, At, WindowRow, Schedule, phase, begins_late, BeginWithin}
use Rattle.std.proofs.Common.{min, ◌||◌, ◌&&◌, ◌==◌, [], ap}
use Rattle.std.proofs.Math.Nat.{mod-eq_of_lt, mod-add-mod, add-mod_right}
use Rattle.std.proofs.lemmas.Nat.{mod_below}
use Rattle.std.proofs.lemmas.Bool.{or_cases, and_from, or_left, or_right, leb-false, false≢true}
use Rattle.kernel_meaning.specs.Windows.{at_tick, releases, has_release, until_start, until_one_of, next_release}
use Rattle.kernel_meaning.specs.WindowFacts.{IsNextRelease}

-- ---- places of a frame

apart : (a b : ℕ) → (a ≤ b) ⊎ (b < a)
apart zero b = inl (omega arith)
apart (suc a) zero = inr (omega arith)
apart (suc a) (suc b) = elim (apart a b) [ inl h ↦ inl (omega arith) | inr h ↦ inr (omega arith) ]

-- a place that follows in the same frame, and one in the next frame
ahead : (frame place offset : ℕ) → place ≤ offset → offset < frame → (offset + frame - place) % frame ≡ offset - place
ahead frame place offset h small =
    let e : offset + frame - place ≡ (offset - place) + frame = omega arith in
    ap (λ n. n % frame) e ∙ add-mod_right (offset - place) frame ∙ mod-eq_of_lt (omega arith)

behind : (frame place offset : ℕ) → offset < place → place < frame → (offset + frame - place) % frame ≡ offset + frame - place
behind frame place offset h small = mod-eq_of_lt (omega arith)

reached : (frame place offset : ℕ) → place < frame → offset < frame → (place + (offset + frame - place) % frame) % frame ≡ offset
reached frame place offset small within = elim (apart place offset) [
  | inl h ↦
      let e : place + (offset - place) ≡ offset = omega arith in
      ap (λ n. (place + n) % frame) (ahead frame place offset h within) ∙ ap (λ n. n % frame) e ∙ mod-eq_of_lt within
  | inr h ↦
      let e : place + (offset + frame - place) ≡ offset + frame = omega arith in
      ap (λ n. (place + n) % frame) (behind frame place offset h small) ∙ ap (λ n. n % frame) e ∙ add-mod_right offset frame ∙ mod-eq_of_lt within
]

no_sooner : (frame place offset k : ℕ) → place < frame → offset < frame → (place + k) % frame ≡ offset → (offset + frame - place) % frame ≤ k
no_sooner frame place offset k small within at = elim (apart ((offset + frame - place) % frame) k) [
  | inl h ↦ h
  | inr h ↦ elim (apart place offset) [
    | inl p ↦
        let g = ahead frame place offset p within in
        let same : (place + k) % frame ≡ place + k = mod-eq_of_lt (omega (arith, g, h)) in
        absurd (omega (arith, g, h, same, at))
    | inr p ↦
        let g = behind frame place offset p small in
        elim (apart frame (place + k)) [
          | inl q ↦
              let e : place + k ≡ (place + k - frame) + frame = omega arith in
              let same : (place + k) % frame ≡ place + k - frame = ap (λ n. n % frame) e ∙ add-mod_right (place + k - frame) frame ∙ mod-eq_of_lt (omega (arith, g, h)) in
              absurd (omega (arith, g, h, same, at))
          | inr q ↦
              let same : (place + k) % frame ≡ place + k = mod-eq_of_lt q in
              absurd (omega (arith, same, at, p))
        ]
  ]
]

min_first : (x y : ℕ) → x ≤ y → min x y ≡ x
min_first x y h = omega arith

min_second : (x y : ℕ) → y < x → min x y ≡ y
min_second x y h = omega arith

-- the first of two, or the second if the first is not asked for
abbrev chosen : Bool → ℕ → ℕ → ℕ
chosen b x y = cond b (min x y) y

chosen_some : (b : Bool) (x y : ℕ) → 1 ≤ x → 1 ≤ y → 1 ≤ chosen b x y
chosen_some true x y h k = omega arith
chosen_some false x y h k = k

chosen_first : (b : Bool) (x y : ℕ) → b ≡ true → chosen b x y ≤ x
chosen_first true x y e = omega arith
chosen_first false x y e = absurd (false≢true e)

chosen_rest : (b : Bool) (x y : ℕ) → chosen b x y ≤ y
chosen_rest true x y = omega arith
chosen_rest false x y = omega arith

second : (P : ℕ → Type 0) (c : Bool) (x y frame : ℕ) → x ≤ frame → y < x → (c ≡ false → y ≡ frame) → (c ≡ true → P y) → P (min x y)
second P true x y frame le less none g = subst P (sym (min_second x y less)) (g refl)
second P false x y frame le less none g = let e = none refl in absurd (omega (arith, e))

-- what both candidates satisfy, the chosen one satisfies
pick : (P : ℕ → Type 0) (b c : Bool) (x y frame : ℕ) → x ≤ frame → (c ≡ false → y ≡ frame) → (b || c) ≡ true → (b ≡ true → P x) → (c ≡ true → P y) → P (chosen b x y)
pick P true c x y frame le none r f g = elim (apart x y) [
  | inl q ↦ subst P (sym (min_first x y q)) (f refl)
  | inr q ↦ second P c x y frame le q none g
]
pick P false c x y frame le none r f g = g r

module _ (s : Schedule) (p : ℕ) (at : At) (there : 0 < s.frame) (past : at.origin.0 ≤ at.now.0) where
  place : ℕ
  place = phase s (at_tick at (at.now.0 + 1))

  small : place < s.frame
  unfolding place
  small = mod_below (at.now.0 + 1 - at.origin.0) s.frame there

  -- the place of a later tick
  later_place : (u k : ℕ) → u ≡ at.now.0 + 1 + k → phase s (at_tick at u) ≡ (place + k) % s.frame
  unfolding place
  later_place u k e =
      let far : u - at.origin.0 ≡ (at.now.0 + 1 - at.origin.0) + k = omega (arith, past) in
      ap (λ n. n % s.frame) far ∙ sym (mod-add-mod (at.now.0 + 1 - at.origin.0) s.frame k)

  starts_then : (w : WindowRow) → w.offset < s.frame → phase s (at_tick at (at.now.0 + until_start s w at)) ≡ w.offset
  unfolding place
  starts_then w within =
      let g = (w.offset + s.frame - place) % s.frame in
      later_place (at.now.0 + until_start s w at) g (omega arith) ∙ reached s.frame place w.offset small within

  not_before : (w : WindowRow) (u : ℕ) → w.offset < s.frame → at.now.0 < u → w.offset ≡ phase s (at_tick at u) → at.now.0 + until_start s w at ≤ u
  unfolding place
  not_before w u within later is =
      let k = u - (at.now.0 + 1) in
      let e : u ≡ at.now.0 + 1 + k = omega arith in
      let h = no_sooner s.frame place w.offset k small within (sym (is ∙ later_place u k e)) in
      omega (arith, h)

  late_or : (w : WindowRow) (ws : List WindowRow) → BeginWithin s.frame (w ∷ ws) → (w.offset < s.frame) × BeginWithin s.frame ws
  late_or w ws h = let parts = or_parts (begins_late s.frame w) (list_any (begins_late s.frame) ws) h in (leb-false s.frame w.offset parts.0, parts.1)

  until_one : (ws : List WindowRow) → 1 ≤ until_one_of s p at ws
  until_one [] = there
  until_one (w ∷ ws) = chosen_some (releases p w) (until_start s w at) (until_one_of s p at ws) (omega arith) (until_one ws)

  none_chosen : (ws : List WindowRow) → has_release ws p ≡ false → until_one_of s p at ws ≡ s.frame
  none_chosen [] h = refl
  none_chosen (w ∷ ws) h =
      let parts = or_parts (releases p w) (has_release ws p) h in
      ap (λ b. chosen b (until_start s w at) (until_one_of s p at ws)) parts.0 ∙ none_chosen ws parts.1

  start_within : (w : WindowRow) → until_start s w at ≤ s.frame
  start_within w = let h = mod_below (w.offset + s.frame - phase s (at_tick at (at.now.0 + 1))) s.frame there in omega (arith, h)

  -- a window of the partition starts then
  abbrev starts_at : List WindowRow → ℕ → Bool
  starts_at ws u = list_any (λ w. releases p w && (w.offset == phase s (at_tick at u))) ws

  here : (w : WindowRow) (ws : List WindowRow) → w.offset < s.frame → releases p w ≡ true → starts_at (w ∷ ws) (at.now.0 + until_start s w at) ≡ true
  here w ws within r = or_left _ _ (and_from (releases p w) _ r (eq-eqb w.offset _ (sym (starts_then w within))))

  there_starts : (ws : List WindowRow) → BeginWithin s.frame ws → has_release ws p ≡ true → starts_at ws (at.now.0 + until_one_of s p at ws) ≡ true
  there_starts [] h r = absurd (false≢true r)
  there_starts (w ∷ ws) h r =
      let parts = late_or w ws h in
      pick (λ n. starts_at (w ∷ ws) (at.now.0 + n) ≡ true) (releases p w) (has_release ws p) (until_start s w at) (until_one_of s p at ws) s.frame (start_within w) (none_chosen ws) r
      (λ e. here w ws parts.0 e) (λ e. or_right _ _ (there_starts ws parts.1 e))

  least_of : (ws : List WindowRow) → BeginWithin s.frame ws → (u : ℕ) → at.now.0 < u → starts_at ws u ≡ true → at.now.0 + until_one_of s p at ws ≤ u
  least_of [] h u later e = absurd (false≢true e)
  least_of (w ∷ ws) h u later e =
      let parts = late_or w ws h in
      elim (or_cases (releases p w && (w.offset == phase s (at_tick at u))) (starts_at ws u) e) [
        | inl one ↦
            let both = and_parts (releases p w) (w.offset == phase s (at_tick at u)) one in
            let first = chosen_first (releases p w) (until_start s w at) (until_one_of s p at ws) both.0 in
            let bound = not_before w u parts.0 later (eqb-true w.offset _ both.1) in
            omega (arith, first, bound)
        | inr rest ↦
            let second = chosen_rest (releases p w) (until_start s w at) (until_one_of s p at ws) in
            let bound = least_of ws parts.1 u later rest in
            omega (arith, second, bound)
      ]

  pub is_next_release : BeginWithin s.frame s.windows → IsTrue (has_release s.windows p) → IsNextRelease s p at (next_release s p at)
  is_next_release h r = record {
    later = (let one = until_one s.windows in omega (arith, one));
    starts = there_starts s.windows h r;
    least = λ u later e. least_of s.windows h u later e;
  }

-- A partition's own windows hold and end the very ticks that the module gives it.
use Rattle.isolation.proofs.Prelude.{◌≡◌, ℕ, suc, Bool, true, false, cond, List, ◌∷◌, Option, Some, None, sym, ◌∙◌, arith, ◌==◌, nat_lt, if◌then◌else◌, filter, find, is_some, option_map, slice_get, list_any, or_from, At, WindowRow, Schedule, schedule_of_partition, owner, ended, HasOneOwner, HasOneEnd}
use Rattle.std.proofs.Common.{IsTrue, [], refl, ap}
use Rattle.std.specs.Prelude.{◌<◌}
use Rattle.std.proofs.lemmas.Bool.{or_parts, ltb-true}
use Rattle.kernel_meaning.specs.Windows.{phase, is_within, ends_at}
use Rattle.kernel_meaning.specs.WindowFacts.{AtMostOne}

abbrev pub is_number : ℕ → Option ℕ → Bool
is_number p None = false
is_number p (Some q) = q == p

abbrev number_of : WindowRow → ℕ
number_of w = w.partition.0

abbrev is_own : ℕ → WindowRow → Bool
is_own p w = w.partition.0 == p

abbrev Passes : (WindowRow → Bool) → WindowRow → Type 0
Passes test w = IsTrue (test w)

-- ---- the window found

none_passes : (test : WindowRow → Bool) (ws : List WindowRow) → ((j : ℕ) (v : WindowRow) → slice_get ws j ≡ Some v → Passes test v → ⊥) → list_any test ws ≡ false
none_passes test [] never = refl
none_passes test (w ∷ ws) never = or_from (test w) (list_any test ws) (fails (test w) (never 0 w refl)) (none_passes test ws (λ j v e h. never (suc j) v e h))
  where
    fails : (b : Bool) → (b ≡ true → ⊥) → b ≡ false
    fails true h = absurd (h refl)
    fails false h = refl

none_found : (p : ℕ) (test : WindowRow → Bool) (ws : List WindowRow) → list_any test ws ≡ false → find test (filter (is_own p) ws) ≡ None
none_found p test [] h = refl
none_found p test (w ∷ ws) h = let parts = or_parts (test w) (list_any test ws) h in either (is_own p w) (none_found p test ws parts.1) parts.0
  where
    either : (b : Bool) → find test (filter (is_own p) ws) ≡ None → test w ≡ false → find test (cond b (w ∷ filter (is_own p) ws) (filter (is_own p) ws)) ≡ None
    either true k e = ap (λ (c : Bool). cond c (Some w) (find test (filter (is_own p) ws))) e ∙ k
    either false k e = k

-- if at most one window passes a test, a partition finds a window among its own windows exactly if
-- the window that passes is its own
own_found : (p : ℕ) (test : WindowRow → Bool) (ws : List WindowRow) → AtMostOne (Passes test) ws
    → is_some (option_map number_of (find test (filter (is_own p) ws))) ≡ is_number p (option_map number_of (find test ws))
own_found p test [] one = refl
own_found p test (w ∷ ws) one = either (is_own p w) refl (own_found p test ws later)
  where
    later : AtMostOne (Passes test) ws
    later i j v u e f a b = let up : suc i ≡ suc j = one (suc i) (suc j) v u e f a b in omega (arith, up)

    alone : test w ≡ true → list_any test ws ≡ false
    alone e = none_passes test ws (λ j v f h. let same : 0 ≡ suc j = one 0 (suc j) w v refl f e h in absurd (omega (arith, same)))

    theirs : (c : Bool) → is_own p w ≡ false → (c ≡ true → list_any test ws ≡ false) → is_some (option_map number_of (find test (filter (is_own p) ws))) ≡ is_number p (option_map number_of (find test ws))
        → is_some (option_map number_of (find test (filter (is_own p) ws))) ≡ is_number p (option_map number_of (cond c (Some w) (find test ws)))
    theirs true e none k = ap (λ (o : Option WindowRow). is_some (option_map number_of o)) (none_found p test ws (none refl)) ∙ sym e
    theirs false e none k = k

    ours : (c : Bool) → is_own p w ≡ true → is_some (option_map number_of (find test (filter (is_own p) ws))) ≡ is_number p (option_map number_of (find test ws))
        → is_some (option_map number_of (cond c (Some w) (find test (filter (is_own p) ws)))) ≡ is_number p (option_map number_of (cond c (Some w) (find test ws)))
    ours true e k = sym e
    ours false e k = k

    either : (b : Bool) → is_own p w ≡ b → is_some (option_map number_of (find test (filter (is_own p) ws))) ≡ is_number p (option_map number_of (find test ws))
        → is_some (option_map number_of (find test (cond b (w ∷ filter (is_own p) ws) (filter (is_own p) ws)))) ≡ is_number p (option_map number_of (cond (test w) (Some w) (find test ws)))
    either true e k = ours (test w) e k
    either false e k = theirs (test w) e alone k

-- ---- its own windows

pub own_owner : (p : ℕ) (s : Schedule) (at : At) → HasOneOwner s at → is_some (owner (schedule_of_partition p s) at) ≡ is_number p (owner s at)
own_owner p s at one = own_found p (is_within (phase s at)) s.windows one.window

pub own_ended : (p : ℕ) (s : Schedule) (at : At) → HasOneEnd s at → is_some (ended (schedule_of_partition p s) at) ≡ is_number p (ended s at)
own_ended p s at one = either (nat_lt at.origin.0 at.now.0) refl
  where
    later : at.origin.0 < at.now.0 → AtMostOne (Passes (ends_at s.frame (phase s at))) s.windows
    later l i j v w e f a b = one.window i j v w e f (l, a) (l, b)

    either : (b : Bool) → nat_lt at.origin.0 at.now.0 ≡ b → is_some (if b then option_map number_of (find (ends_at s.frame (phase s at)) (filter (is_own p) s.windows)) else None)
        ≡ is_number p (if b then option_map number_of (find (ends_at s.frame (phase s at)) s.windows) else None)
    either true e = own_found p (ends_at s.frame (phase s at)) s.windows (later (ltb-true at.origin.0 at.now.0 e))
    either false e = refl

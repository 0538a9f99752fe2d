-- Windows that follow one another within a frame: each begins within it, at most one holds a tick,
-- and at most one ends at it.
use Rattle.kernel_laws.proofs.Prelude.{◌≡◌, ℕ, zero, suc, ◌+◌, ◌%◌, ◌<◌, ◌≤◌, Bool, true, false, cond, IsTrue, List, ◌∷◌, Some, None, refl, sym, subst, ◌∙◌, arith, inl, inr, nat_le, nat_lt, option_map, slice_get, list_any, and_parts, ltb-true, eqb-true, cases_lt, At, WindowRow, Schedule, phase, ended, begins_late, BeginWithin}
use Rattle.std.proofs.Common.{[], ap, mod-eq_of_lt}
use Rattle.std.proofs.Math.Nat.{mod_self}
use Rattle.std.specs.Prelude.{find}
use Rattle.std.proofs.lemmas.Bool.{or_from, leb-true, lt-leb, lt-ltb}
use Rattle.kernel_meaning.specs.Windows.{is_within, ends_at}
use Rattle.kernel_meaning.specs.WindowFacts.{Holds, Ends, AtMostOne, HasOneOwner, HasOneEnd}

-- from a place of the frame on, each after the one before, within the frame
abbrev pub AreInOrder : ℕ → ℕ → List WindowRow → Type 0
AreInOrder frame low [] = Unit {0}
AreInOrder frame low (w ∷ ws) = (low ≤ w.offset) × (1 ≤ w.length) × (w.offset + w.length ≤ frame) × AreInOrder frame (w.offset + w.length) ws

-- ---- their beginnings

-- a window that has room, and is not empty, begins within the frame
not_late : (frame o n : ℕ) → 1 ≤ n → o + n ≤ frame → nat_le frame o ≡ false
not_late frame o n some room = lt-leb frame o (omega arith)

pub begin_within : (frame low : ℕ) (ws : List WindowRow) → AreInOrder frame low ws → BeginWithin frame ws
begin_within frame low [] h = refl
begin_within frame low (w ∷ ws) h = or_from (begins_late frame w) (list_any (begins_late frame) ws) (not_late frame w.offset w.length h.1 h.2) (begin_within frame (w.offset + w.length) ws h.3)

-- ---- their places

record Stands (frame low : ℕ) (w : WindowRow) : Type 0 where
  behind : low ≤ w.offset
  some : 1 ≤ w.length
  within : w.offset + w.length ≤ frame

same_window : (v w : WindowRow) → Some v ≡ Some w → v ≡ w
same_window v w e = cc

stands : (frame low : ℕ) (ws : List WindowRow) (i : ℕ) (w : WindowRow) → AreInOrder frame low ws → slice_get ws i ≡ Some w → Stands frame low w
stands frame low [] i w h e = absurd cc
stands frame low (x ∷ xs) zero w h e = subst (Stands frame low) (same_window x w e) (record { behind = h.0; some = h.1; within = h.2 })
stands frame low (x ∷ xs) (suc i) w h e =
    let later = stands frame (x.offset + x.length) xs i w h.3 e in
    record { behind = omega (arith, h.0, later.behind); some = later.some; within = later.within }

-- of two windows the first ends before the second begins
apart : (frame low : ℕ) (ws : List WindowRow) (i j : ℕ) (v w : WindowRow) → AreInOrder frame low ws → i < j → slice_get ws i ≡ Some v → slice_get ws j ≡ Some w → v.offset + v.length ≤ w.offset
apart frame low [] i j v w h l e f = absurd cc
apart frame low (x ∷ xs) i zero v w h l e f = absurd (omega arith)
apart frame low (x ∷ xs) zero (suc j) v w h l e f = subst (λ (y : WindowRow). y.offset + y.length ≤ w.offset) (same_window x v e) (stands frame (x.offset + x.length) xs j w h.3 f).behind
apart frame low (x ∷ xs) (suc i) (suc j) v w h l e f = apart frame (x.offset + x.length) xs i j v w h.3 (omega arith) e f

-- ---- at most one

-- if a window and a later one never both have a property, at most one has it
one_at_most : (IsSo : WindowRow → Type 0) (ws : List WindowRow) → ((i j : ℕ) (v w : WindowRow) → i < j → slice_get ws i ≡ Some v → slice_get ws j ≡ Some w → IsSo v → IsSo w → ⊥) → AtMostOne IsSo ws
one_at_most IsSo ws never i j v w e f a b = elim (cases_lt i j) [
  | inl l ↦ absurd (never i j v w l e f a b)
  | inr g ↦ elim (cases_lt j i) [
    | inl l ↦ absurd (never j i w v l f e b a)
    | inr k ↦ omega arith
  ]
]

holds_earlier : (s : Schedule) (at : At) (v w : WindowRow) → v.offset + v.length ≤ w.offset → Holds s at v → Holds s at w → ⊥
holds_earlier s at v w order a b =
    let first = ltb-true (phase s at) (v.offset + v.length) (and_parts (nat_le v.offset (phase s at)) (nat_lt (phase s at) (v.offset + v.length)) a).1 in
    let second = leb-true w.offset (phase s at) (and_parts (nat_le w.offset (phase s at)) (nat_lt (phase s at) (w.offset + w.length)) b).0 in
    absurd (omega (arith, order, first, second))

one_holds : (s : Schedule) (at : At) → AreInOrder s.frame 0 s.windows → AtMostOne (Holds s at) s.windows
one_holds s at h = one_at_most (Holds s at) s.windows (λ i j v w l e f a b. holds_earlier s at v w (apart s.frame 0 s.windows i j v w h l e f) a b)

-- an end and a later one within the frame are not at one place of it
ends_apart : (frame place e f : ℕ) → 1 ≤ e → e < f → f ≤ frame → e % frame ≡ place → f % frame ≡ place → ⊥
ends_apart frame place e f some later within at_e at_f =
    let inside : e < frame = omega arith in
    let first : e ≡ place = sym (mod-eq_of_lt inside) ∙ at_e in
    elim (cases_lt f frame) [
      | inl l ↦ let second : f ≡ place = sym (mod-eq_of_lt l) ∙ at_f in absurd (omega (arith, first, second))
      | inr g ↦
          let whole : f ≡ frame = omega (arith, g) in
          let second : 0 ≡ place = sym (ap (λ (n : ℕ). n % frame) whole ∙ mod_self frame) ∙ at_f in
          absurd (omega (arith, first, second))
    ]

one_ends : (s : Schedule) (at : At) → AreInOrder s.frame 0 s.windows → AtMostOne (Ends s at) s.windows
one_ends s at h = one_at_most (Ends s at) s.windows (λ i j v w l e f a b.
    let first = stands s.frame 0 s.windows i v h e in
    let second = stands s.frame 0 s.windows j w h f in
    let order = apart s.frame 0 s.windows i j v w h l e f in
    ends_apart s.frame (phase s at) (v.offset + v.length) (w.offset + w.length) (omega (arith, first.some)) (omega (arith, order, second.some)) second.within (eqb-true ((v.offset + v.length) % s.frame) (phase s at) a.1) (eqb-true ((w.offset + w.length) % s.frame) (phase s at) b.1))

-- ---- the window found

abbrev Passes : (WindowRow → Bool) → WindowRow → Type 0
Passes test w = IsTrue (test w)

found : (test : WindowRow → Bool) (ws : List WindowRow) (i : ℕ) (w : WindowRow) → AtMostOne (Passes test) ws → slice_get ws i ≡ Some w → test w ≡ true → find test ws ≡ Some w
found test [] i w one e h = absurd cc
found test (x ∷ xs) zero w one e h = ap (λ (b : Bool). cond b (Some x) (find test xs)) (ap test (same_window x w e) ∙ h) ∙ e
found test (x ∷ xs) (suc i) w one e h = either (test x) refl (found test xs i w later e h)
  where
    later : AtMostOne (Passes test) xs
    later j k v y f g a b = let up : suc j ≡ suc k = one (suc j) (suc k) v y f g a b in omega (arith, up)

    either : (b : Bool) → test x ≡ b → find test xs ≡ Some w → cond b (Some x) (find test xs) ≡ Some w
    either true k rest = let none : 0 ≡ suc i = one 0 (suc i) x w refl e k h in absurd (omega (arith, none))
    either false k rest = rest

abbrev partition_of : WindowRow → ℕ
partition_of w = w.partition.0

pub one_owner : (s : Schedule) (at : At) → AreInOrder s.frame 0 s.windows → HasOneOwner s at
one_owner s at h = record {
  window = one_holds s at h;
  owner = λ i w e holds. ap (option_map partition_of) (found (is_within (phase s at)) s.windows i w (one_holds s at h) e holds);
}

pub one_end : (s : Schedule) (at : At) → AreInOrder s.frame 0 s.windows → HasOneEnd s at
one_end s at h = record { window = one_ends s at h; ended = λ i w e ends. at_end i w e ends.0 ends.1 }
  where
    later : at.origin.0 < at.now.0 → AtMostOne (Passes (ends_at s.frame (phase s at))) s.windows
    later l i j v w e f a b = one_ends s at h i j v w e f (l, a) (l, b)

    at_end : (i : ℕ) (w : WindowRow) → slice_get s.windows i ≡ Some w → at.origin.0 < at.now.0 → ends_at s.frame (phase s at) w ≡ true → ended s at ≡ Some w.partition.0
    at_end i w e l ends =
        ap (λ (b : Bool). cond b (option_map partition_of (find (ends_at s.frame (phase s at)) s.windows)) None) (lt-ltb at.origin.0 at.now.0 l)
        ∙ ap (option_map partition_of) (found (ends_at s.frame (phase s at)) s.windows i w (later l) e ends)

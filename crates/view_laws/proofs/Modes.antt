-- A tick is in one stay of a partition in a mode: in the one that the lines up to it lead to.
use Rattle.std.proofs.Common.{◌≡◌, ◌<◌, ◌≤◌, ℕ, suc, max, Bool, true, false, List, [], ◌∷◌, ◌++◌, Option, Some, None, refl, ap, ◌∙◌, arith}
use Rattle.std.specs.Prelude.{◌+◌, ◌&&◌, nat_le, nat_lt, if◌then◌else◌}
use Rattle.std.proofs.lemmas.Bool.{and_right, le-leb, le-ltb, lt-leb, lt-ltb, ltb-false, ltb-true}
use Rattle.std.proofs.lemmas.Option.{none-some, same_Some}
use Rattle.apex_types.specs.declared.codes.Mode.{Mode}
use Rattle.apex_types.specs.declared.event.Event.{Event}
use Rattle.apex_types.specs.declared.event.EventKind.{EventKind}
use Rattle.apex_types.specs.declared.event.EventKind.TheVariants as event
use Rattle.trace_stays.specs.Following.{and_one, is_of, mode_after, mode_stay_over}
use Rattle.trace_stays.specs.Following as following
use Rattle.trace_stays.specs.Stays.{mode_behind, mode_ended}
use Rattle.trace_stays.specs.Traces.{mode_behind_all, mode_with_line, modes_in}
use Rattle.trace_stays.specs.declared.stay.HeldMode.{HeldMode}
use Rattle.trace_stays.specs.declared.stay.ModeStay.{ModeStay}
use Rattle.trace_windows.specs.Runs.{AreInOrder}
use Rattle.trace_windows.specs.Uses.{one_if}
use Rattle.view_laws.specs.Modes.{is_held, is_same_mode, mode_in}
use Rattle.view_laws.specs.Reading.{up_to}
use Rattle.view_laws.specs.Ticks.{has_tick}

-- ---- the mode that a line says

abbrev pub said_if : Bool → EventKind → Option Mode
said_if true (event.Mode m) = Some m
said_if b kind = None

abbrev pub after_said : Option Mode → ℕ → Option HeldMode → Option HeldMode
after_said None z held = held
after_said (Some m) z held = mode_behind held m z

abbrev pub over_said : Option Mode → ℕ → Option HeldMode → Option ModeStay
over_said None z held = None
over_said (Some m) z held = mode_ended held z

pub said_after : (b : Bool) (kind : EventKind) (z : ℕ) (held : Option HeldMode) → (if b then following.mode_in kind z held else held) ≡ after_said (said_if b kind) z held
said_after false kind z held = refl
said_after true (event.Mode m) z held = refl
said_after true (event.State who s) z held = refl
said_after true (event.Return who service code) z held = refl
said_after true (event.Error e who r) z held = refl
said_after true (event.Report who words) z held = refl
said_after true (event.Move port words) z held = refl
said_after true (event.Arrive port words) z held = refl
said_after true (event.Lost port words) z held = refl
said_after true (event.Out channel words) z held = refl

pub said_over : (b : Bool) (kind : EventKind) (z : ℕ) (held : Option HeldMode) → (if b then following.mode_stay_in kind z held else None) ≡ over_said (said_if b kind) z held
said_over false kind z held = refl
said_over true (event.Mode m) z held = refl
said_over true (event.State who s) z held = refl
said_over true (event.Return who service code) z held = refl
said_over true (event.Error e who r) z held = refl
said_over true (event.Report who words) z held = refl
said_over true (event.Move port words) z held = refl
said_over true (event.Arrive port words) z held = refl
said_over true (event.Lost port words) z held = refl
said_over true (event.Out channel words) z held = refl

module _ (m : Mode) (x : ℕ) where
  abbrev shows_now : Option HeldMode → ℕ
  shows_now None = 0
  shows_now (Some h) = one_if (is_same_mode m h.mode && nat_le h.since.0 x)

  abbrev counted : Option ModeStay → ℕ
  counted None = 0
  counted (Some s) = one_if (is_same_mode m s.mode && has_tick x s.span)

  and_counted : (o : Option ModeStay) (rest : List ModeStay) → mode_in m x (and_one o ++ rest) ≡ counted o + mode_in m x rest
  and_counted None rest = omega arith
  and_counted (Some s) rest = refl

  and_true : (a : Bool) → (a && true) ≡ a
  and_true true = refl
  and_true false = refl

  -- the stay that a later line ends, or none, has the tick if it began by then
  ended_late : (held : Option HeldMode) (z : ℕ) → x < z → counted (mode_ended held z) ≡ shows_now held
  ended_late None z l = refl
  ended_late (Some h) z l =
      ap (λ (b : Bool). one_if (is_same_mode m h.mode && (nat_le h.since.0 x && b))) (lt-ltb x (max h.since.0 z) (omega (arith, l)))
      ∙ ap (λ (b : Bool). one_if (is_same_mode m h.mode && b)) (and_true (nat_le h.since.0 x))

  begins_late : (held : Option HeldMode) (n : Mode) (z : ℕ) → x < z → shows_now (mode_behind held n z) ≡ 0
  begins_late None n z l = ap one_if (and_right (is_same_mode m n) (nat_le z x) (lt-leb z x l))
  begins_late (Some h) n z l = ap one_if (and_right (is_same_mode m n) (nat_le (max h.since.0 z) x) (lt-leb (max h.since.0 z) x (omega (arith, l))))

  -- the stay that a line up to the tick ends does not have it
  ended_early : (held : Option HeldMode) (z : ℕ) → z ≤ x → ((h : HeldMode) → held ≡ Some h → h.since.0 ≤ z) → counted (mode_ended held z) ≡ 0
  ended_early None z l early = refl
  ended_early (Some h) z l early =
      let a = early h refl in
      ap one_if (and_right (is_same_mode m h.mode) (has_tick x (record { from = h.since; until = record { 0 = max h.since.0 z } })) (and_right (nat_le h.since.0 x) (nat_lt x (max h.since.0 z)) (le-ltb x (max h.since.0 z) (omega (arith, a, l)))))

  module _ (until : ℕ) (name : List ℕ) (u : x < until) where
    -- one line
    with_said : (e : Event) (es : List Event) (held : Option HeldMode) → mode_in m x (modes_in (e ∷ es) until name held)
        ≡ counted (over_said (said_if (is_of name e.partition) e.kind) e.tick.0 held) + mode_in m x (modes_in es until name (after_said (said_if (is_of name e.partition) e.kind) e.tick.0 held))
    with_said e es held =
        and_counted (mode_stay_over e.partition e.kind e.tick.0 name held) (modes_in es until name (mode_with_line e name held))
        ∙ ap (λ (o : Option ModeStay). counted o + mode_in m x (modes_in es until name (mode_with_line e name held))) (said_over (is_of name e.partition) e.kind e.tick.0 held)
        ∙ ap (λ (o : Option HeldMode). counted (over_said (said_if (is_of name e.partition) e.kind) e.tick.0 held) + mode_in m x (modes_in es until name o)) (said_after (is_of name e.partition) e.kind e.tick.0 held)

    late : (lines : List Event) (held : Option HeldMode) → AreInOrder (suc x) lines → mode_in m x (modes_in lines until name held) ≡ shows_now held
    late [] held order = last held
      where
        last : (o : Option HeldMode) → mode_in m x (and_one (mode_ended o until)) ≡ shows_now o
        last None = refl
        last (Some h) = let k = ended_late (Some h) until u in omega (arith, k)
    late (e ∷ es) held order = with_said e es held ∙ by_said (said_if (is_of name e.partition) e.kind) (λ o. late es o (weaken es order.0 order.1))
      where
        weaken : (es : List Event) → suc x ≤ e.tick.0 → AreInOrder e.tick.0 es → AreInOrder (suc x) es
        weaken [] l h = tt
        weaken (f ∷ fs) l h = let k = h.0 in (omega (arith, k, l), h.1)

        by_said : (o : Option Mode) → ((new : Option HeldMode) → mode_in m x (modes_in es until name new) ≡ shows_now new)
            → counted (over_said o e.tick.0 held) + mode_in m x (modes_in es until name (after_said o e.tick.0 held)) ≡ shows_now held
        by_said None rest = let k = rest held in omega (arith, k)
        by_said (Some n) rest =
            let l = order.0 in
            let a = ended_late held e.tick.0 (omega (arith, l)) in
            let b = rest (mode_behind held n e.tick.0) in
            let c = begins_late held n e.tick.0 (omega (arith, l)) in
            omega (arith, a, b, c)

    -- since when it is held
    abbrev IsSince : ℕ → Option HeldMode → Type 0
    IsSince z held = (h : HeldMode) → held ≡ Some h → h.since.0 ≤ z

    now_shown : (z : ℕ) (held : Option HeldMode) → z ≤ x → IsSince z held → shows_now held ≡ one_if (is_held m held)
    now_shown z None l early = refl
    now_shown z (Some h) l early = let a = early h refl in ap (λ (b : Bool). one_if (is_same_mode m h.mode && b)) (le-leb h.since.0 x (omega (arith, a, l))) ∙ ap one_if (and_true (is_same_mode m h.mode))

    since_said : (o : Option Mode) (z v : ℕ) (held : Option HeldMode) → z ≤ v → IsSince z held → IsSince v (after_said o v held)
    since_said None z v held l early h e = let a = early h e in omega (arith, a, l)
    since_said (Some n) z v None l early h e = let is = ap (λ (y : HeldMode). y.since.0) (same_held n v h e) in omega (arith, is)
      where
        same_held : (n : Mode) (v : ℕ) (h : HeldMode) → mode_behind None n v ≡ Some h → record { mode = n; since = record { 0 = v } } ≡ h
        same_held n v h e = same_Some (record { mode = n; since = record { 0 = v } }) h e
    since_said (Some n) z v (Some k) l early h e =
        let a = early k refl in
        let is = ap (λ (y : HeldMode). y.since.0) (same_Some (record { mode = n; since = record { 0 = max k.since.0 v } }) h e) in
        omega (arith, is, a, l)

    shown : (lines : List Event) (z : ℕ) (held : Option HeldMode) → z ≤ x → IsSince z held → AreInOrder z lines → mode_in m x (modes_in lines until name held) ≡ one_if (is_held m (mode_behind_all (up_to x lines) name held))
    shown [] z held l early order = late [] held tt ∙ now_shown z held l early
    shown (e ∷ es) z held l early order =
        by_test (nat_lt x e.tick.0) refl (λ low. shown es e.tick.0 (after_said (said_if (is_of name e.partition) e.kind) e.tick.0 held) low (since_said (said_if (is_of name e.partition) e.kind) z e.tick.0 held order.0 early) order.1)
      where
        said : Option Mode
        said = said_if (is_of name e.partition) e.kind

        none_over : (o : Option Mode) → e.tick.0 ≤ x → counted (over_said o e.tick.0 held) ≡ 0
        none_over None low = refl
        none_over (Some n) low = ended_early held e.tick.0 low (λ h f. let a = early h f in let b = order.0 in omega (arith, a, b))

        by_test : (b : Bool) → nat_lt x e.tick.0 ≡ b
            → (e.tick.0 ≤ x → mode_in m x (modes_in es until name (after_said said e.tick.0 held)) ≡ one_if (is_held m (mode_behind_all (up_to x es) name (after_said said e.tick.0 held))))
            → mode_in m x (modes_in (e ∷ es) until name held) ≡ one_if (is_held m (mode_behind_all (if b then [] else e ∷ up_to x es) name held))
        by_test true f rest = let a = ltb-true x e.tick.0 f in late (e ∷ es) held (omega (arith, a), order.1) ∙ now_shown z held l early
        by_test false f rest =
            let low : e.tick.0 ≤ x = ltb-false x e.tick.0 f in
            let a = none_over said low in
            let b = rest low in
            let c = with_said e es held in
            let d = ap (λ (o : Option HeldMode). one_if (is_held m (mode_behind_all (up_to x es) name o))) (said_after (is_of name e.partition) e.kind e.tick.0 held) in
            omega (arith, a, b, c, d)

pub mode_in_tick : (lines : List Event) (name : List ℕ) (m : Mode) (until x : ℕ) → AreInOrder 0 lines → x < until → mode_in m x (modes_in lines until name None) ≡ one_if (is_held m (mode_behind_all (up_to x lines) name None))
mode_in_tick lines name m until x order u = shown m x until name u lines 0 None (omega arith) (λ h e. absurd (none-some h e)) order

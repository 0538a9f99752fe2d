-- A tick is in a stay in another state than RUNNING if the state that the lines up to it lead to began by then.
use Rattle.std.proofs.Common.{◌≡◌, ◌<◌, ◌≤◌, ℕ, suc, max, Bool, true, false, List, [], ◌∷◌, ◌++◌, Option, Some, None, refl, sym, ap, ◌∙◌, arith}
use Rattle.std.specs.Prelude.{◌+◌, ◌&&◌, nat_le, nat_lt, if◌then◌else◌}
use Rattle.std.proofs.lemmas.Bool.{and_left, and_right, false≢true, lt-leb, ltb-false, ltb-true}
use Rattle.apex_types.specs.Limits.{MOST_TICKS}
use Rattle.apex_types.specs.declared.codes.ProcessState.{ProcessState}
use Rattle.apex_types.specs.declared.codes.ProcessState.TheVariants as state
use Rattle.apex_types.specs.declared.event.Event.{Event}
use Rattle.trace_stays.specs.Following.{and_one, held_with, next_by, stay_with}
use Rattle.trace_stays.specs.Stays.{begins_at, held_behind, left_at, stay_until, tick}
use Rattle.trace_stays.specs.Traces.{state_after, stays_in, with_line}
use Rattle.trace_stays.specs.declared.next.Next.{Next}
use Rattle.trace_stays.specs.declared.next.Next.TheVariants.{Enters, Gone, Cleared}
use Rattle.trace_stays.specs.declared.stay.Held.{Held}
use Rattle.trace_stays.specs.declared.stay.Stay.{Stay}
use Rattle.trace_windows.specs.Runs.{AreInOrder}
use Rattle.trace_windows.specs.Uses.{one_if}
use Rattle.view_laws.specs.Reading.{up_to}
use Rattle.view_laws.specs.Ticks.{has_tick, is_running, is_same_state, state_in}
use Rattle.view_laws.proofs.Stays.{begins_late, has_late, left_late, not_there}

-- a stay in another state is left in the tick of the line
rests_apart : (wanted s : ProcessState) (n : Next) (z : ℕ) → is_running wanted ≡ false → is_same_state wanted s ≡ true → left_at s n z ≡ z
rests_apart state.Running s n z e f = absurd (false≢true (sym e))
rests_apart state.Dormant state.Dormant n z e f = refl
rests_apart state.Dormant state.Running n z e f = absurd (false≢true f)
rests_apart state.Dormant state.Ready n z e f = refl
rests_apart state.Dormant state.Waiting n z e f = refl
rests_apart state.Ready state.Dormant n z e f = refl
rests_apart state.Ready state.Running n z e f = absurd (false≢true f)
rests_apart state.Ready state.Ready n z e f = refl
rests_apart state.Ready state.Waiting n z e f = refl
rests_apart state.Waiting state.Dormant n z e f = refl
rests_apart state.Waiting state.Running n z e f = absurd (false≢true f)
rests_apart state.Waiting state.Ready n z e f = refl
rests_apart state.Waiting state.Waiting n z e f = refl

module _ (x : ℕ) (few : x < MOST_TICKS) (wanted : ProcessState) (other : is_running wanted ≡ false) where
  abbrev counted : Option Stay → ℕ
  counted None = 0
  counted (Some s) = one_if (is_same_state wanted s.state && has_tick x s.span)

  and_counted : (o : Option Stay) (rest : List Stay) → state_in wanted x (and_one o ++ rest) ≡ counted o + state_in wanted x rest
  and_counted None rest = omega arith
  and_counted (Some s) rest = refl

  abbrev pub shows_now : Option Held → ℕ
  shows_now None = 0
  shows_now (Some h) = one_if (is_same_state wanted h.state && nat_le h.since.0 x)

  shows_later : (o : Option Held) (n : Next) (z : ℕ) → x < z → shows_now (held_behind o n z) ≡ 0
  shows_later o (Enters s) z l = ap one_if (and_right (is_same_state wanted s) (nat_le (begins_at o (Enters s) z) x) (lt-leb (begins_at o (Enters s) z) x (begins_late x few o s z l)))
  shows_later o Gone z l = refl
  shows_later o Cleared z l = refl

  late : (lines : List Event) (until : ℕ) (name word : List ℕ) (held : Option Held) → AreInOrder (suc x) lines → x < until → state_in wanted x (stays_in lines until name word held) ≡ shows_now held
  late [] until name word None order l = refl
  late [] until name word (Some h) order l = let k = has_late x few (is_same_state wanted h.state) h.since.0 (max h.since.0 until) (omega (arith, l)) in omega (arith, k)
  late (e ∷ es) until name word held order l =
      by_next (next_by e.partition e.kind name word) held (λ new. late es until name word new (later es e.tick.0 order.0 order.1) l)
    where
      later : (es : List Event) (z : ℕ) → suc x ≤ z → AreInOrder z es → AreInOrder (suc x) es
      later [] z l h = tt
      later (f ∷ fs) z l h = let a = h.0 in (omega (arith, a, l), h.1)

      after : x < e.tick.0
      after = let a = order.0 in omega (arith, a)

      by_next : (o : Option Next) (held : Option Held) → ((new : Option Held) → state_in wanted x (stays_in es until name word new) ≡ shows_now new)
          → state_in wanted x (and_one (stay_with o e.tick.0 held) ++ stays_in es until name word (held_with o e.tick.0 held)) ≡ shows_now held
      by_next None held rest = rest held
      by_next (Some n) None rest = rest (held_behind None n e.tick.0) ∙ shows_later None n e.tick.0 after
      by_next (Some n) (Some h) rest =
          let a = has_late x few (is_same_state wanted h.state) h.since.0 (stay_until h n e.tick.0) (let k = left_late x few h.state n e.tick.0 after in omega (arith, k)) in
          let b = rest (held_behind (Some h) n e.tick.0) in
          let c = shows_later (Some h) n e.tick.0 after in
          omega (arith, a, b, c)

  -- a stay that a line up to the tick ends does not have it
  counted_early : (o : Option Next) (held : Option Held) (z : ℕ) → z ≤ x → counted (stay_with o z held) ≡ 0
  counted_early None held z l = refl
  counted_early (Some n) None z l = refl
  counted_early (Some n) (Some h) z l = by_test (is_same_state wanted h.state) refl
    where
      by_test : (b : Bool) → is_same_state wanted h.state ≡ b → one_if (is_same_state wanted h.state && has_tick x (record { from = h.since; until = tick (stay_until h n z) })) ≡ 0
      by_test false e = ap one_if (and_left (is_same_state wanted h.state) (has_tick x (record { from = h.since; until = tick (stay_until h n z) })) e)
      by_test true e =
          ap one_if (and_right (is_same_state wanted h.state) (has_tick x (record { from = h.since; until = tick (stay_until h n z) }))
          (ap (λ (u : ℕ). nat_le h.since.0 x && nat_lt x (max h.since.0 u)) (rests_apart wanted h.state n z other e) ∙ not_there x few h.since.0 z l))

  pub shown : (lines : List Event) (until : ℕ) (name word : List ℕ) (from : ℕ) (held : Option Held) → AreInOrder from lines → x < until
      → state_in wanted x (stays_in lines until name word held) ≡ shows_now (state_after (up_to x lines) name word held)
  shown [] until name word from held order l = late [] until name word held tt l
  shown (e ∷ es) until name word from held order l = by_test (nat_lt x e.tick.0) refl (shown es until name word e.tick.0 (with_line e name word held) order.1 l)
    where
      by_test : (b : Bool) → nat_lt x e.tick.0 ≡ b → state_in wanted x (stays_in es until name word (with_line e name word held)) ≡ shows_now (state_after (up_to x es) name word (with_line e name word held))
          → state_in wanted x (stays_in (e ∷ es) until name word held) ≡ shows_now (state_after (if b then [] else e ∷ up_to x es) name word held)
      by_test true f rest = let a = ltb-true x e.tick.0 f in late (e ∷ es) until name word held (omega (arith, a), order.1) l
      by_test false f rest =
          let low = ltb-false x e.tick.0 f in
          let a = counted_early (next_by e.partition e.kind name word) held e.tick.0 low in
          let b = and_counted (stay_with (next_by e.partition e.kind name word) e.tick.0 held) (stays_in es until name word (with_line e name word held)) in
          omega (arith, a, b, rest)

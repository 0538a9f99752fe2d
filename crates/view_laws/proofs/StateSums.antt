-- The ticks in READY, WAITING and DORMANT that a summary counts for a runner of a run.
use Rattle.std.proofs.Common.{◌≡◌, ◌<◌, ◌≤◌, ℕ, zero, suc, Bool, true, false, List, [], ◌∷◌, inl, inr, Option, Some, None, refl, sym, ap, ◌∙◌, subst, arith}
use Rattle.std.specs.Prelude.{◌+◌, ◌-◌, ◌&&◌, if◌then◌else◌, is_some, slice_get}
use Rattle.std.proofs.lemmas.Bool.{cases_lt, false≢true}
use Rattle.std.proofs.lemmas.Option.{none-some, same_Some}
use Rattle.apex_types.specs.Limits.{MOST_TICKS}
use Rattle.apex_types.specs.Line.{subject_text}
use Rattle.apex_types.specs.Runners.{place_of}
use Rattle.apex_types.specs.declared.codes.ProcessState.{ProcessState}
use Rattle.apex_types.specs.declared.codes.ProcessState.TheVariants as state
use Rattle.apex_types.specs.declared.event.Event.{Event}
use Rattle.apex_types.specs.declared.event.Subject.{Subject}
use Rattle.apex_types.specs.declared.identity.Runner.{Runner}
use Rattle.apex_types.specs.declared.identity.Runner.TheVariants as runner
use Rattle.apex_types.specs.declared.process.ProcessStatus.{ProcessStatus}
use Rattle.apex_types.specs.declared.device.DeviceLine.{DeviceLine}
use Rattle.kernel_laws.specs.History.{members_after}
use Rattle.kernel_meaning.specs.Partition.{Member}
use Rattle.kernel_meaning.specs.Processes.{index, row_of}
use Rattle.module_meaning.specs.Module.{Module}
use Rattle.module_meaning.specs.Table.{at_number}
use Rattle.state_laws.specs.Told.{is_same}
use Rattle.state_laws.proofs.Subjects.{same_subject}
use Rattle.trace_stays.specs.Stays.{span}
use Rattle.trace_stays.specs.Traces.{stays_in}
use Rattle.trace_stays.specs.declared.span.Span.{Span}
use Rattle.trace_stays.specs.declared.stay.Stay.{Stay}
use Rattle.trace_view.specs.Counting.{ticks_in}
use Rattle.trace_view.specs.Processes as processes
use Rattle.trace_view.specs.Turns.{ticks_for, ticks_if, ticks_in_state}
use Rattle.trace_windows.specs.Uses.{one_if}
use Rattle.view_laws.specs.Counted.{AreBeforeTick, state_counted}
use Rattle.view_laws.specs.Ticks.{has_tick, is_same_state, state_among, state_by, state_in, state_in_run, ticks_when}
use Rattle.view_laws.proofs.Sums.{few_when, stay_ticks, sum_both, sum_none, sum_of, sum_when}
use Rattle.view_laws.proofs.Tallies.{all_counted}

-- ---- the record with a subject

abbrev runner_at : ℕ → Runner
runner_at zero = runner.Init
runner_at (suc zero) = runner.Handler
runner_at (suc (suc i)) = runner.Process (index i)

placed : (i : ℕ) → place_of (runner_at i) ≡ i
placed zero = refl
placed (suc zero) = refl
placed (suc (suc i)) = refl

pub record HasRecord (whose : Subject) (rows : List ProcessStatus) (s : ProcessState) : Type 0 where
  pub place : ℕ
  pub row : ProcessStatus
  pub at : slice_get rows place ≡ Some row
  pub who : row.who ≡ whose
  pub state : row.state ≡ s

record_among : (who : Subject) (rows : List ProcessStatus) (s : ProcessState) → state_among who rows ≡ Some s → HasRecord who rows s
record_among who [] s e = absurd (none-some s e)
record_among who (r ∷ rs) s e = by_test (is_same r.who who) refl (record_among who rs s) e
  where
    by_test : (b : Bool) → is_same r.who who ≡ b → (state_among who rs ≡ Some s → HasRecord who rs s) → (if b then Some r.state else state_among who rs) ≡ Some s → HasRecord who (r ∷ rs) s
    by_test true g rest f = record { place = zero; row = r; at = refl; who = same_subject r.who who g; state = same_Some r.state s f }
    by_test false g rest f = let h = rest f in record { place = suc h.place; row = h.row; at = h.at; who = h.who; state = h.state }

module _ {C : Type 0} (m : Module C) (devices : List DeviceLine) (p t : ℕ) (who : Subject) (x : Member C) (found : at_number (members_after m devices (suc t)) p ≡ Some x) where
  -- what holds of each record with the subject holds of its state
  pub of_record : (P : Subject → ProcessState → Type 0) → ((q : Runner) (r : ProcessStatus) → row_of x.world.kernel.processes q ≡ Some r → P r.who r.state)
      → is_some (state_in_run m devices p who t) ≡ true → (s : ProcessState) × (state_in_run m devices p who t ≡ Some s) × P who s
  of_record P each there = by_state (state_among who x.world.kernel.processes.rows) refl (sym (ap (λ (o : Option (Member C)). is_some (state_by who o)) found) ∙ there)
    where
      by_state : (o : Option ProcessState) → state_among who x.world.kernel.processes.rows ≡ o → is_some (state_among who x.world.kernel.processes.rows) ≡ true
          → (s : ProcessState) × (state_in_run m devices p who t ≡ Some s) × P who s
      by_state None e some = absurd (false≢true (sym (ap (λ (o : Option ProcessState). is_some o) e) ∙ some))
      by_state (Some s) e some =
          let h = record_among who x.world.kernel.processes.rows s e in (
            s,
            ap (state_by who) found ∙ e,
            subst (λ (w : Subject). P w s) h.who (subst (P h.row.who) h.state (each (runner_at h.place) h.row (ap (slice_get x.world.kernel.processes.rows) (placed h.place) ∙ h.at))),
          )

-- ---- sums

sum_most : (f g : ℕ → ℕ) (from n : ℕ) → ((i : ℕ) → i < n → f (from + i) ≤ g (from + i)) → sum_of f from n ≤ sum_of g from n
sum_most f g from zero most = omega arith
sum_most f g from (suc n) most =
    let k = sum_most f g from n (λ i l. most i (omega (arith, l))) in
    let last = most n (omega arith) in
    omega (arith, k, last)

state_ticks : (w s : ProcessState) (o : Span) (from n : ℕ) → sum_of (λ t. one_if (is_same_state w s && has_tick t o)) from n ≡ ticks_if w s (ticks_in (span from (from + n)) o)
state_ticks state.Running state.Running o from n = stay_ticks o from n
state_ticks state.Running state.Ready o from n = sum_none from n
state_ticks state.Running state.Waiting o from n = sum_none from n
state_ticks state.Running state.Dormant o from n = sum_none from n
state_ticks state.Ready state.Running o from n = sum_none from n
state_ticks state.Ready state.Ready o from n = stay_ticks o from n
state_ticks state.Ready state.Waiting o from n = sum_none from n
state_ticks state.Ready state.Dormant o from n = sum_none from n
state_ticks state.Waiting state.Running o from n = sum_none from n
state_ticks state.Waiting state.Ready o from n = sum_none from n
state_ticks state.Waiting state.Waiting o from n = stay_ticks o from n
state_ticks state.Waiting state.Dormant o from n = sum_none from n
state_ticks state.Dormant state.Running o from n = sum_none from n
state_ticks state.Dormant state.Ready o from n = sum_none from n
state_ticks state.Dormant state.Waiting o from n = sum_none from n
state_ticks state.Dormant state.Dormant o from n = stay_ticks o from n

module _ (wanted : ProcessState) where
  stays_ticks : (stays : List Stay) (from n : ℕ) → sum_of (λ t. state_in wanted t stays) from n ≡ ticks_in_state wanted (span from (from + n)) stays
  stays_ticks [] from n = sum_none from n
  stays_ticks (s ∷ ss) from n =
      sum_both (λ t. one_if (is_same_state wanted s.state && has_tick t s.span)) (λ t. state_in wanted t ss) from n
      ∙ ap (λ (k : ℕ). k + sum_of (λ t. state_in wanted t ss) from n) (state_ticks wanted s.state s.span from n)
      ∙ ap (λ (k : ℕ). ticks_if wanted s.state (ticks_in (span from (from + n)) s.span) + k) (stays_ticks ss from n)

  none_if : (w s : ProcessState) (n : ℕ) → n ≡ 0 → ticks_if w s n ≡ 0
  none_if state.Running state.Running n e = e
  none_if state.Running state.Ready n e = refl
  none_if state.Running state.Waiting n e = refl
  none_if state.Running state.Dormant n e = refl
  none_if state.Ready state.Running n e = refl
  none_if state.Ready state.Ready n e = e
  none_if state.Ready state.Waiting n e = refl
  none_if state.Ready state.Dormant n e = refl
  none_if state.Waiting state.Running n e = refl
  none_if state.Waiting state.Ready n e = refl
  none_if state.Waiting state.Waiting n e = e
  none_if state.Waiting state.Dormant n e = refl
  none_if state.Dormant state.Running n e = refl
  none_if state.Dormant state.Ready n e = refl
  none_if state.Dormant state.Waiting n e = refl
  none_if state.Dormant state.Dormant n e = e

  empty_window : (window : Span) (stays : List Stay) → window.until.0 ≤ window.from.0 → ticks_in_state wanted window stays ≡ 0
  empty_window window [] l = refl
  empty_window window (s ∷ ss) l =
      let k = empty_window window ss l in
      let a = none_if wanted s.state (ticks_in window s.span) (omega (arith, l)) in
      omega (arith, k, a)

  window_ticks : (from until : ℕ) (stays : List Stay) → ticks_in_state wanted (span from until) stays ≡ sum_of (λ t. state_in wanted t stays) from (until - from)
  window_ticks from until stays = elim (cases_lt until from) [
    | inl none ↦
        let is : until - from ≡ 0 = omega (arith, none) in
        empty_window (span from until) stays (omega (arith, none)) ∙ sym (ap (sum_of (λ t. state_in wanted t stays) from) is)
    | inr some ↦
        let is : until ≡ from + (until - from) = omega (arith, some) in
        ap (λ (u : ℕ). ticks_in_state wanted (span from u) stays) is ∙ sym (stays_ticks stays from (until - from))
  ]

  -- all lines are of ticks before the end, and no tick is in more than one stay
  module _ (window : Span) (lines : List Event) (name : List ℕ) (who : Subject) (from until : ℕ) (begin : window.from.0 ≡ from) (close : until ≤ window.until.0) (few : until ≤ MOST_TICKS) (early : AreBeforeTick until lines)
      (is : ℕ → Bool) (most : (t : ℕ) → t < until → state_in wanted t (stays_in lines until name (subject_text who) None) ≤ one_if (is t)) where
    abbrev stays : List Stay
    stays = stays_in lines until name (subject_text who) None

    sum_few : sum_of (λ t. state_in wanted t stays) from (until - from) ≤ ticks_when is from (until - from)
    sum_few = subst (λ (n : ℕ). sum_of (λ t. state_in wanted t stays) from (until - from) ≤ n) (sum_when is from (until - from))
        (sum_most (λ t. state_in wanted t stays) (λ t. one_if (is t)) from (until - from) (λ i l. most (from + i) (omega (arith, l))))

    counted : state_counted wanted window (span from until) lines name who ≡ sum_of (λ t. state_in wanted t stays) from (until - from)
    counted =
        let a = all_counted wanted window (span from until) begin close (omega (arith, few)) name (subject_text who) lines processes.no_process early tt in
        let n = nothing wanted in
        let b = window_ticks from until stays in
        let c = sum_few in
        let d = few_when is from (until - from) in
        omega (arith, a, n, b, c, d, few)
      where
        nothing : (w : ProcessState) → ticks_for w processes.no_process.tally.ticks ≡ 0
        nothing state.Running = refl
        nothing state.Ready = refl
        nothing state.Waiting = refl
        nothing state.Dormant = refl

    pub counted_most : state_counted wanted window (span from until) lines name who ≤ ticks_when is from (until - from)
    counted_most = let a = counted in let b = sum_few in omega (arith, a, b)

    pub counted_least : (rests : ℕ → Bool) → ((t : ℕ) → t < until → one_if (rests t) ≤ state_in wanted t stays) → ticks_when rests from (until - from) ≤ state_counted wanted window (span from until) lines name who
    counted_least rests least =
        let a = counted in
        let b = sum_when rests from (until - from) in
        let c = sum_most (λ t. one_if (rests t)) (λ t. state_in wanted t stays) from (until - from) (λ i l. least (from + i) (omega (arith, l))) in
        omega (arith, a, b, c)

-- The times that turns measure are those of the activations.
use Rattle.std.proofs.Common.{◌≡◌, ℕ, Bool, true, false, not, ◌&&◌, if◌then◌else◌, List, [], ◌∷◌, ◌++◌, Option, Some, None, refl, sym, ap, ◌∙◌, append_assoc, append-nil}
use Rattle.apex_types.specs.declared.codes.ProcessState.{ProcessState}
use Rattle.apex_types.specs.declared.codes.ProcessState.TheVariants as state
use Rattle.trace_stays.specs.declared.span.Span.{Span}
use Rattle.trace_view.specs.Tallies.{begins, begun, begun_if, ended_at, ended_running, entered, has_tick, measured, nothing_counted, over, run, run_if, turned, with_ended}
use Rattle.trace_view.specs.Turns.{AreTimesOf, and_measured, end_times, first_end, first_running, is_ready, measured_by, running_times, times_to_end, times_to_running}
use Rattle.trace_view.specs.declared.tally.Activation.{Activation}
use Rattle.trace_view.specs.declared.tally.Measured.{Measured}
use Rattle.trace_view.specs.declared.tally.Measured.TheVariants as measure
use Rattle.trace_view.specs.declared.tally.Tally.{Tally}
use Rattle.trace_view.specs.declared.tally.Turn.{Turn}
use Rattle.trace_view.proofs.ActivationTimes.{dormant_next, ended-activation, gone_end, next_end, next_run, none_next, open_end, open_end-cons, open_end-nil, open_run, open_run-cons, open_run-nil, preempted_end, preempted_next, ready_end, ready_next, waiting_next}

-- ---- the activation after a turn

abbrev kept_ready : Bool → Bool → Turn → Option Activation → Option Activation
kept_ready true w turn o = o
kept_ready false true turn o = Some (begins turn)
kept_ready false false turn o = None

abbrev ran_if : Bool → Activation → Option Activation
ran_if true a = Some a
ran_if false a = Some (record a { has_run = true })

abbrev ran : Option Activation → Option Activation
ran None = None
ran (Some a) = ran_if a.has_run a

abbrev kept : Option ProcessState → Bool → Bool → Turn → Option Activation → Option Activation
kept None p w turn o = None
kept (Some state.Ready) p w turn o = kept_ready p w turn o
kept (Some state.Running) p w turn o = ran o
kept (Some state.Waiting) p w turn o = None
kept (Some state.Dormant) p w turn o = None

begun_if_kept : (w : Bool) (turn : Turn) (t : Tally) → (begun_if w turn t).activation ≡ kept_ready false w turn t.activation
begun_if_kept true turn t = refl
begun_if_kept false turn t = refl

begun_kept : (p : Bool) (window : Span) (turn : Turn) (t : Tally) → (begun p window turn t).activation ≡ kept_ready p (has_tick window turn.tick.0) turn t.activation
begun_kept true window turn t = refl
begun_kept false window turn t = begun_if_kept (has_tick window turn.tick.0) turn t

run_if_kept : (h : Bool) (a : Activation) (tick : ℕ) (t : Tally) → t.activation ≡ Some a → (run_if h a tick t).activation ≡ ran_if h a
run_if_kept true a tick t same = same
run_if_kept false a tick t same = refl

run_kept : (o : Option Activation) (tick : ℕ) (t : Tally) → t.activation ≡ o → (run o tick t).activation ≡ ran o
run_kept None tick t same = same
run_kept (Some a) tick t same = run_if_kept a.has_run a tick t same

over_kept : (o : Option Activation) (end : ℕ) (t : Tally) → t.activation ≡ o → (over o end t).activation ≡ None
over_kept None end t same = same
over_kept (Some a) end t same = refl

entered_kept : (next : Option ProcessState) (window : Span) (turn : Turn) (t : Tally) → (entered next window turn t).activation ≡ kept next (ended_running turn.ended) (has_tick window turn.tick.0) turn t.activation
entered_kept None window turn t = refl
entered_kept (Some state.Ready) window turn t = begun_kept (ended_running turn.ended) window turn t
entered_kept (Some state.Running) window turn t = run_kept t.activation turn.tick.0 t refl
entered_kept (Some state.Waiting) window turn t = over_kept t.activation (ended_at turn.ended turn.tick.0) t refl
entered_kept (Some state.Dormant) window turn t = over_kept t.activation (ended_at turn.ended turn.tick.0) t refl

turned_kept : (window : Span) (turn : Turn) (t : Tally) → (turned window turn t).activation ≡ kept turn.next (ended_running turn.ended) (has_tick window turn.tick.0) turn t.activation
turned_kept window turn t =
    entered_kept turn.next window turn (with_ended window turn.ended t)
    ∙ ap (λ (o : Option Activation). kept turn.next (ended_running turn.ended) (has_tick window turn.tick.0) turn o) (ended-activation window turn.ended t)

-- ---- to RUNNING

abbrev run_head : Option Measured → List ℕ
run_head None = []
run_head (Some (measure.ToRunning time)) = time ∷ []
run_head (Some (measure.ToEnd time)) = []

run_times : (m : Option Measured) (others : List Measured) → running_times (and_measured m others) ≡ run_head m ++ running_times others
run_times None others = refl
run_times (Some (measure.ToRunning time)) others = refl
run_times (Some (measure.ToEnd time)) others = refl

-- the time that a turn to this state measures, and the time that is still to come, are those that were to come
abbrev IsRunStep : Option ProcessState → Bool → Bool → Turn → Option Activation → List Turn → Type 0
IsRunStep next p w turn o turns =
    run_head (measured next turn o) ++ open_run (kept next p w turn o) turns
    ≡ next_run o next p turn.tick.0 turns ++ (if is_ready next && not p && w then first_running turn.tick.0 turns else [])

ready_run_step : (p w : Bool) (turn : Turn) (o : Option Activation) (turns : List Turn) → IsRunStep (Some state.Ready) p w turn o turns
ready_run_step true w turn o turns = sym (preempted_next o turn.tick.0 turns) ∙ sym (append-nil (next_run o (Some state.Ready) true turn.tick.0 turns))
ready_run_step false true turn o turns = ap (λ (x : List ℕ). x ++ first_running turn.tick.0 turns) (sym (ready_next o turn.tick.0 turns))
ready_run_step false false turn o turns = ap (λ (x : List ℕ). x ++ []) (sym (ready_next o turn.tick.0 turns))

running_run_step : (p w : Bool) (turn : Turn) (o : Option Activation) (turns : List Turn) → IsRunStep (Some state.Running) p w turn o turns
running_run_step p w turn None turns = refl
running_run_step p w turn (Some a) turns = go a.has_run refl
  where
    go : (h : Bool) → a.has_run ≡ h → IsRunStep (Some state.Running) p w turn (Some a) turns
    go true has = rw (has) refl
    go false has = rw (has) refl

waiting_run_step : (p w : Bool) (turn : Turn) (o : Option Activation) (turns : List Turn) → IsRunStep (Some state.Waiting) p w turn o turns
waiting_run_step p w turn None turns = refl
waiting_run_step p w turn (Some a) turns = ap (λ (x : List ℕ). x ++ []) (sym (waiting_next (Some a) p turn.tick.0 turns))

dormant_run_step : (p w : Bool) (turn : Turn) (o : Option Activation) (turns : List Turn) → IsRunStep (Some state.Dormant) p w turn o turns
dormant_run_step p w turn None turns = refl
dormant_run_step p w turn (Some a) turns = ap (λ (x : List ℕ). x ++ []) (sym (dormant_next (Some a) p turn.tick.0 turns))

run_step : (next : Option ProcessState) (p w : Bool) (turn : Turn) (o : Option Activation) (turns : List Turn) → IsRunStep next p w turn o turns
run_step None p w turn o turns = ap (λ (x : List ℕ). x ++ []) (sym (none_next o p turn.tick.0 turns))
run_step (Some state.Ready) p w turn o turns = ready_run_step p w turn o turns
run_step (Some state.Running) p w turn o turns = running_run_step p w turn o turns
run_step (Some state.Waiting) p w turn o turns = waiting_run_step p w turn o turns
run_step (Some state.Dormant) p w turn o turns = dormant_run_step p w turn o turns

runs_from : (window : Span) (turns : List Turn) (t : Tally) → running_times (measured_by window t turns) ≡ open_run t.activation turns ++ times_to_running window turns
runs_from window [] t = ap (λ (x : List ℕ). x ++ []) (sym (open_run-nil t.activation))
runs_from window (turn ∷ turns) t =
    let p = ended_running turn.ended in
    let w = has_tick window turn.tick.0 in
    let m = measured turn.next turn t.activation in
    let later = times_to_running window turns in
    let begun_here : List ℕ = if is_ready turn.next && not p && w then first_running turn.tick.0 turns else [] in
    run_times m (measured_by window (turned window turn t) turns)
    ∙ ap (λ (x : List ℕ). run_head m ++ x) (runs_from window turns (turned window turn t))
    ∙ ap (λ (o : Option Activation). run_head m ++ (open_run o turns ++ later)) (turned_kept window turn t)
    ∙ sym (append_assoc (run_head m) (open_run (kept turn.next p w turn t.activation) turns) later)
    ∙ ap (λ (x : List ℕ). x ++ later) (run_step turn.next p w turn t.activation turns)
    ∙ append_assoc (next_run t.activation turn.next p turn.tick.0 turns) begun_here later
    ∙ ap (λ (x : List ℕ). x ++ (begun_here ++ later)) (sym (open_run-cons t.activation turn turns))

-- ---- to the end

abbrev end_head : Option Measured → List ℕ
end_head None = []
end_head (Some (measure.ToRunning time)) = []
end_head (Some (measure.ToEnd time)) = time ∷ []

ends_times : (m : Option Measured) (others : List Measured) → end_times (and_measured m others) ≡ end_head m ++ end_times others
ends_times None others = refl
ends_times (Some (measure.ToRunning time)) others = refl
ends_times (Some (measure.ToEnd time)) others = refl

abbrev IsEndStep : Option ProcessState → Bool → Bool → Turn → Option Activation → List Turn → Type 0
IsEndStep next p w turn o turns =
    end_head (measured next turn o) ++ open_end (kept next p w turn o) turns
    ≡ next_end o next p (ended_at turn.ended turn.tick.0) turns ++ (if is_ready next && not p && w then first_end turn.tick.0 turns else [])

ready_end_step : (p w : Bool) (turn : Turn) (o : Option Activation) (turns : List Turn) → IsEndStep (Some state.Ready) p w turn o turns
ready_end_step true w turn o turns =
    sym (preempted_end o (ended_at turn.ended turn.tick.0) turns) ∙ sym (append-nil (next_end o (Some state.Ready) true (ended_at turn.ended turn.tick.0) turns))
ready_end_step false true turn o turns = ap (λ (x : List ℕ). x ++ first_end turn.tick.0 turns) (sym (ready_end o (ended_at turn.ended turn.tick.0) turns))
ready_end_step false false turn o turns = ap (λ (x : List ℕ). x ++ []) (sym (ready_end o (ended_at turn.ended turn.tick.0) turns))

running_end_step : (p w : Bool) (turn : Turn) (o : Option Activation) (turns : List Turn) → IsEndStep (Some state.Running) p w turn o turns
running_end_step p w turn None turns = refl
running_end_step p w turn (Some a) turns = go a.has_run refl
  where
    go : (h : Bool) → a.has_run ≡ h → IsEndStep (Some state.Running) p w turn (Some a) turns
    go true has = rw (has) (sym (append-nil (first_end a.ready.0 turns)))
    go false has = rw (has) (sym (append-nil (first_end a.ready.0 turns)))

waiting_end_step : (p w : Bool) (turn : Turn) (o : Option Activation) (turns : List Turn) → IsEndStep (Some state.Waiting) p w turn o turns
waiting_end_step p w turn None turns = refl
waiting_end_step p w turn (Some a) turns = refl

dormant_end_step : (p w : Bool) (turn : Turn) (o : Option Activation) (turns : List Turn) → IsEndStep (Some state.Dormant) p w turn o turns
dormant_end_step p w turn None turns = refl
dormant_end_step p w turn (Some a) turns = refl

end_step : (next : Option ProcessState) (p w : Bool) (turn : Turn) (o : Option Activation) (turns : List Turn) → IsEndStep next p w turn o turns
end_step None p w turn o turns = ap (λ (x : List ℕ). x ++ []) (sym (gone_end o p (ended_at turn.ended turn.tick.0) turns))
end_step (Some state.Ready) p w turn o turns = ready_end_step p w turn o turns
end_step (Some state.Running) p w turn o turns = running_end_step p w turn o turns
end_step (Some state.Waiting) p w turn o turns = waiting_end_step p w turn o turns
end_step (Some state.Dormant) p w turn o turns = dormant_end_step p w turn o turns

ends_from : (window : Span) (turns : List Turn) (t : Tally) → end_times (measured_by window t turns) ≡ open_end t.activation turns ++ times_to_end window turns
ends_from window [] t = ap (λ (x : List ℕ). x ++ []) (sym (open_end-nil t.activation))
ends_from window (turn ∷ turns) t =
    let p = ended_running turn.ended in
    let w = has_tick window turn.tick.0 in
    let m = measured turn.next turn t.activation in
    let later = times_to_end window turns in
    let begun_here : List ℕ = if is_ready turn.next && not p && w then first_end turn.tick.0 turns else [] in
    ends_times m (measured_by window (turned window turn t) turns)
    ∙ ap (λ (x : List ℕ). end_head m ++ x) (ends_from window turns (turned window turn t))
    ∙ ap (λ (o : Option Activation). end_head m ++ (open_end o turns ++ later)) (turned_kept window turn t)
    ∙ sym (append_assoc (end_head m) (open_end (kept turn.next p w turn t.activation) turns) later)
    ∙ ap (λ (x : List ℕ). x ++ later) (end_step turn.next p w turn t.activation turns)
    ∙ append_assoc (next_end t.activation turn.next p (ended_at turn.ended turn.tick.0) turns) begun_here later
    ∙ ap (λ (x : List ℕ). x ++ (begun_here ++ later)) (sym (open_end-cons t.activation turn turns))

pub times_of_turns : (window : Span) (turns : List Turn) → AreTimesOf window turns (measured_by window nothing_counted turns)
times_of_turns window turns = record { to_running = runs_from window turns nothing_counted; to_end = ends_from window turns nothing_counted }

-- The times of activations, one turn after another.
use Rattle.std.proofs.Common.{◌≡◌, ℕ, ◌-◌, Bool, true, false, not, ◌&&◌, if◌then◌else◌, List, [], ◌∷◌, ◌++◌, Option, Some, None, refl, sym, ap, ◌∙◌}
use Rattle.apex_types.specs.declared.codes.ProcessState.{ProcessState}
use Rattle.apex_types.specs.declared.codes.ProcessState.TheVariants as state
use Rattle.trace_stays.specs.declared.span.Span.{Span}
use Rattle.trace_stays.specs.declared.stay.Stay.{Stay}
use Rattle.trace_view.specs.Counting.{with_times}
use Rattle.trace_view.specs.Tallies.{begun, begun_if, ended_at, ended_running, entered, has_tick, nothing_counted, over, run, run_if, turned, with_ended}
use Rattle.trace_view.specs.Turns.{first_end, first_end_if, first_running, first_running_if, is_ready, tally_after, times_to_end, times_to_running}
use Rattle.trace_view.specs.declared.extremes.Extremes.{Extremes}
use Rattle.trace_view.specs.declared.tally.Activation.{Activation}
use Rattle.trace_view.specs.declared.tally.Tally.{Tally}
use Rattle.trace_view.specs.declared.tally.Turn.{Turn}

-- ---- to RUNNING

-- the time of an activation that is not over, in the turns to come
abbrev pub open_run_if : Bool → ℕ → List Turn → List ℕ
open_run_if true ready turns = []
open_run_if false ready turns = first_running ready turns

abbrev pub open_run : Option Activation → List Turn → List ℕ
open_run None turns = []
open_run (Some a) turns = open_run_if a.has_run a.ready.0 turns

-- the same, if the next turn is to this state
abbrev pub next_run_if : Bool → ℕ → Option ProcessState → Bool → ℕ → List Turn → List ℕ
next_run_if true ready next preempted tick turns = []
next_run_if false ready next preempted tick turns = first_running_if next preempted (tick - ready) (first_running ready turns)

abbrev pub next_run : Option Activation → Option ProcessState → Bool → ℕ → List Turn → List ℕ
next_run None next preempted tick turns = []
next_run (Some a) next preempted tick turns = next_run_if a.has_run a.ready.0 next preempted tick turns

open_run_if-cons : (h : Bool) (ready : ℕ) (turn : Turn) (turns : List Turn) → open_run_if h ready (turn ∷ turns) ≡ next_run_if h ready turn.next (ended_running turn.ended) turn.tick.0 turns
open_run_if-cons true ready turn turns = refl
open_run_if-cons false ready turn turns = refl

pub open_run-cons : (o : Option Activation) (turn : Turn) (turns : List Turn) → open_run o (turn ∷ turns) ≡ next_run o turn.next (ended_running turn.ended) turn.tick.0 turns
open_run-cons None turn turns = refl
open_run-cons (Some a) turn turns = open_run_if-cons a.has_run a.ready.0 turn turns

open_run_if-nil : (h : Bool) (ready : ℕ) → open_run_if h ready [] ≡ []
open_run_if-nil true ready = refl
open_run_if-nil false ready = refl

pub open_run-nil : (o : Option Activation) → open_run o [] ≡ []
open_run-nil None = refl
open_run-nil (Some a) = open_run_if-nil a.has_run a.ready.0

-- a state that ends the search
none_if : (h p : Bool) (ready tick : ℕ) (turns : List Turn) → next_run_if h ready None p tick turns ≡ []
none_if true p ready tick turns = refl
none_if false p ready tick turns = refl

waiting_if : (h p : Bool) (ready tick : ℕ) (turns : List Turn) → next_run_if h ready (Some state.Waiting) p tick turns ≡ []
waiting_if true p ready tick turns = refl
waiting_if false p ready tick turns = refl

dormant_if : (h p : Bool) (ready tick : ℕ) (turns : List Turn) → next_run_if h ready (Some state.Dormant) p tick turns ≡ []
dormant_if true p ready tick turns = refl
dormant_if false p ready tick turns = refl

ready_if : (h : Bool) (ready tick : ℕ) (turns : List Turn) → next_run_if h ready (Some state.Ready) false tick turns ≡ []
ready_if true ready tick turns = refl
ready_if false ready tick turns = refl

preempted_if : (h : Bool) (ready tick : ℕ) (turns : List Turn) → next_run_if h ready (Some state.Ready) true tick turns ≡ open_run_if h ready turns
preempted_if true ready tick turns = refl
preempted_if false ready tick turns = refl

pub none_next : (o : Option Activation) (p : Bool) (tick : ℕ) (turns : List Turn) → next_run o None p tick turns ≡ []
none_next None p tick turns = refl
none_next (Some a) p tick turns = none_if a.has_run p a.ready.0 tick turns

pub waiting_next : (o : Option Activation) (p : Bool) (tick : ℕ) (turns : List Turn) → next_run o (Some state.Waiting) p tick turns ≡ []
waiting_next None p tick turns = refl
waiting_next (Some a) p tick turns = waiting_if a.has_run p a.ready.0 tick turns

pub dormant_next : (o : Option Activation) (p : Bool) (tick : ℕ) (turns : List Turn) → next_run o (Some state.Dormant) p tick turns ≡ []
dormant_next None p tick turns = refl
dormant_next (Some a) p tick turns = dormant_if a.has_run p a.ready.0 tick turns

pub ready_next : (o : Option Activation) (tick : ℕ) (turns : List Turn) → next_run o (Some state.Ready) false tick turns ≡ []
ready_next None tick turns = refl
ready_next (Some a) tick turns = ready_if a.has_run a.ready.0 tick turns

pub preempted_next : (o : Option Activation) (tick : ℕ) (turns : List Turn) → next_run o (Some state.Ready) true tick turns ≡ open_run o turns
preempted_next None tick turns = refl
preempted_next (Some a) tick turns = preempted_if a.has_run a.ready.0 tick turns

-- the extreme times, with those still to come after a state begins
abbrev left_run : Tally → List Turn → List ℕ → Option Extremes
left_run t turns later = with_times t.to_running (open_run t.activation turns ++ later)

begun_if_run : (b : Bool) (turn : Turn) (t : Tally) (turns : List Turn) (later : List ℕ)
    → left_run (begun_if b turn t) turns later ≡ with_times t.to_running ((if b then first_running turn.tick.0 turns else []) ++ later)
begun_if_run true turn t turns later = refl
begun_if_run false turn t turns later = refl

begun_run : (p : Bool) (window : Span) (turn : Turn) (t : Tally) (turns : List Turn) (later : List ℕ)
    → left_run (begun p window turn t) turns later
    ≡ with_times t.to_running (next_run t.activation (Some state.Ready) p turn.tick.0 turns ++ ((if not p && has_tick window turn.tick.0 then first_running turn.tick.0 turns else []) ++ later))
begun_run true window turn t turns later = ap (λ (x : List ℕ). with_times t.to_running (x ++ later)) (sym (preempted_next t.activation turn.tick.0 turns))
begun_run false window turn t turns later =
    begun_if_run (has_tick window turn.tick.0) turn t turns later
    ∙ ap (λ (x : List ℕ). with_times t.to_running (x ++ ((if has_tick window turn.tick.0 then first_running turn.tick.0 turns else []) ++ later))) (sym (ready_next t.activation turn.tick.0 turns))

run_if_run : (h : Bool) (a : Activation) (p : Bool) (tick : ℕ) (t : Tally) (turns : List Turn) (later : List ℕ) → t.activation ≡ Some a → a.has_run ≡ h
    → left_run (run_if h a tick t) turns later ≡ with_times t.to_running (next_run_if h a.ready.0 (Some state.Running) p tick turns ++ later)
run_if_run true a p tick t turns later same has =
    ap (λ (o : Option Activation). with_times t.to_running (open_run o turns ++ later)) same
    ∙ ap (λ (h : Bool). with_times t.to_running (open_run_if h a.ready.0 turns ++ later)) has
run_if_run false a p tick t turns later same has = refl

run_run : (o : Option Activation) (p : Bool) (tick : ℕ) (t : Tally) (turns : List Turn) (later : List ℕ) → t.activation ≡ o
    → left_run (run o tick t) turns later ≡ with_times t.to_running (next_run o (Some state.Running) p tick turns ++ later)
run_run None p tick t turns later same = ap (λ (o : Option Activation). with_times t.to_running (open_run o turns ++ later)) same
run_run (Some a) p tick t turns later same = run_if_run a.has_run a p tick t turns later same refl

over_run : (o : Option Activation) (end : ℕ) (t : Tally) (turns : List Turn) (later : List ℕ) → t.activation ≡ o
    → left_run (over o end t) turns later ≡ with_times t.to_running later
over_run None end t turns later same = ap (λ (o : Option Activation). with_times t.to_running (open_run o turns ++ later)) same
over_run (Some a) end t turns later same = refl

entered_run : (next : Option ProcessState) (window : Span) (turn : Turn) (t : Tally) (turns : List Turn) (later : List ℕ)
    → left_run (entered next window turn t) turns later
    ≡ with_times t.to_running (next_run t.activation next (ended_running turn.ended) turn.tick.0 turns
    ++ ((if is_ready next && not (ended_running turn.ended) && has_tick window turn.tick.0 then first_running turn.tick.0 turns else []) ++ later))
entered_run None window turn t turns later = ap (λ (x : List ℕ). with_times t.to_running (x ++ later)) (sym (none_next t.activation (ended_running turn.ended) turn.tick.0 turns))
entered_run (Some state.Ready) window turn t turns later = begun_run (ended_running turn.ended) window turn t turns later
entered_run (Some state.Running) window turn t turns later = run_run t.activation (ended_running turn.ended) turn.tick.0 t turns later refl
entered_run (Some state.Waiting) window turn t turns later =
    over_run t.activation (ended_at turn.ended turn.tick.0) t turns later refl
    ∙ ap (λ (x : List ℕ). with_times t.to_running (x ++ later)) (sym (waiting_next t.activation (ended_running turn.ended) turn.tick.0 turns))
entered_run (Some state.Dormant) window turn t turns later =
    over_run t.activation (ended_at turn.ended turn.tick.0) t turns later refl
    ∙ ap (λ (x : List ℕ). with_times t.to_running (x ++ later)) (sym (dormant_next t.activation (ended_running turn.ended) turn.tick.0 turns))

-- the stay that is over changes neither times nor activations
ended-to_running : (window : Span) (ended : Option Stay) (t : Tally) → (with_ended window ended t).to_running ≡ t.to_running
ended-to_running window None t = refl
ended-to_running window (Some stay) t = refl

ended-to_end : (window : Span) (ended : Option Stay) (t : Tally) → (with_ended window ended t).to_end ≡ t.to_end
ended-to_end window None t = refl
ended-to_end window (Some stay) t = refl

pub ended-activation : (window : Span) (ended : Option Stay) (t : Tally) → (with_ended window ended t).activation ≡ t.activation
ended-activation window None t = refl
ended-activation window (Some stay) t = refl

turned_run : (window : Span) (turn : Turn) (t : Tally) (turns : List Turn)
    → left_run (turned window turn t) turns (times_to_running window turns) ≡ left_run t (turn ∷ turns) (times_to_running window (turn ∷ turns))
turned_run window turn t turns =
    let later = times_to_running window (turn ∷ turns) in
    entered_run turn.next window turn (with_ended window turn.ended t) turns (times_to_running window turns)
    ∙ ap (λ (e : Option Extremes). with_times e (next_run (with_ended window turn.ended t).activation turn.next (ended_running turn.ended) turn.tick.0 turns ++ later)) (ended-to_running window turn.ended t)
    ∙ ap (λ (o : Option Activation). with_times t.to_running (next_run o turn.next (ended_running turn.ended) turn.tick.0 turns ++ later)) (ended-activation window turn.ended t)
    ∙ ap (λ (x : List ℕ). with_times t.to_running (x ++ later)) (sym (open_run-cons t.activation turn turns))

run_after : (window : Span) (turns : List Turn) (t : Tally) → (tally_after window t turns).to_running ≡ left_run t turns (times_to_running window turns)
run_after window [] t = ap (λ (x : List ℕ). with_times t.to_running (x ++ [])) (sym (open_run-nil t.activation))
run_after window (turn ∷ turns) t = run_after window turns (turned window turn t) ∙ turned_run window turn t turns

pub times_run : (window : Span) (turns : List Turn) → (tally_after window nothing_counted turns).to_running ≡ with_times None (times_to_running window turns)
times_run window turns = run_after window turns nothing_counted

-- ---- to the end

-- the time of an activation that is not over, in the turns to come
abbrev pub open_end : Option Activation → List Turn → List ℕ
open_end None turns = []
open_end (Some a) turns = first_end a.ready.0 turns

-- the same, if the next turn is to this state, and its stay ended there
abbrev pub next_end : Option Activation → Option ProcessState → Bool → ℕ → List Turn → List ℕ
next_end None next preempted end turns = []
next_end (Some a) next preempted end turns = first_end_if next preempted (end - a.ready.0) (first_end a.ready.0 turns)

pub open_end-cons : (o : Option Activation) (turn : Turn) (turns : List Turn) → open_end o (turn ∷ turns) ≡ next_end o turn.next (ended_running turn.ended) (ended_at turn.ended turn.tick.0) turns
open_end-cons None turn turns = refl
open_end-cons (Some a) turn turns = refl

pub open_end-nil : (o : Option Activation) → open_end o [] ≡ []
open_end-nil None = refl
open_end-nil (Some a) = refl

pub gone_end : (o : Option Activation) (p : Bool) (end : ℕ) (turns : List Turn) → next_end o None p end turns ≡ []
gone_end None p end turns = refl
gone_end (Some a) p end turns = refl

pub ready_end : (o : Option Activation) (end : ℕ) (turns : List Turn) → next_end o (Some state.Ready) false end turns ≡ []
ready_end None end turns = refl
ready_end (Some a) end turns = refl

pub preempted_end : (o : Option Activation) (end : ℕ) (turns : List Turn) → next_end o (Some state.Ready) true end turns ≡ open_end o turns
preempted_end None end turns = refl
preempted_end (Some a) end turns = refl

-- the extreme times, with those still to come after a state begins
abbrev left_end : Tally → List Turn → List ℕ → Option Extremes
left_end t turns later = with_times t.to_end (open_end t.activation turns ++ later)

begun_if_end : (b : Bool) (turn : Turn) (t : Tally) (turns : List Turn) (later : List ℕ)
    → left_end (begun_if b turn t) turns later ≡ with_times t.to_end ((if b then first_end turn.tick.0 turns else []) ++ later)
begun_if_end true turn t turns later = refl
begun_if_end false turn t turns later = refl

begun_end : (p : Bool) (window : Span) (end : ℕ) (turn : Turn) (t : Tally) (turns : List Turn) (later : List ℕ)
    → left_end (begun p window turn t) turns later
    ≡ with_times t.to_end (next_end t.activation (Some state.Ready) p end turns ++ ((if not p && has_tick window turn.tick.0 then first_end turn.tick.0 turns else []) ++ later))
begun_end true window end turn t turns later = ap (λ (x : List ℕ). with_times t.to_end (x ++ later)) (sym (preempted_end t.activation end turns))
begun_end false window end turn t turns later =
    begun_if_end (has_tick window turn.tick.0) turn t turns later
    ∙ ap (λ (x : List ℕ). with_times t.to_end (x ++ ((if has_tick window turn.tick.0 then first_end turn.tick.0 turns else []) ++ later))) (sym (ready_end t.activation end turns))

run_if_end : (h : Bool) (a : Activation) (tick : ℕ) (t : Tally) (turns : List Turn) (later : List ℕ) → t.activation ≡ Some a
    → left_end (run_if h a tick t) turns later ≡ with_times t.to_end (first_end a.ready.0 turns ++ later)
run_if_end true a tick t turns later same = ap (λ (o : Option Activation). with_times t.to_end (open_end o turns ++ later)) same
run_if_end false a tick t turns later same = refl

run_end : (o : Option Activation) (p : Bool) (tick end : ℕ) (t : Tally) (turns : List Turn) (later : List ℕ) → t.activation ≡ o
    → left_end (run o tick t) turns later ≡ with_times t.to_end (next_end o (Some state.Running) p end turns ++ later)
run_end None p tick end t turns later same = ap (λ (o : Option Activation). with_times t.to_end (open_end o turns ++ later)) same
run_end (Some a) p tick end t turns later same = run_if_end a.has_run a tick t turns later same

waiting_end : (o : Option Activation) (p : Bool) (end : ℕ) (t : Tally) (turns : List Turn) (later : List ℕ) → t.activation ≡ o
    → left_end (over o end t) turns later ≡ with_times t.to_end (next_end o (Some state.Waiting) p end turns ++ later)
waiting_end None p end t turns later same = ap (λ (o : Option Activation). with_times t.to_end (open_end o turns ++ later)) same
waiting_end (Some a) p end t turns later same = refl

dormant_end : (o : Option Activation) (p : Bool) (end : ℕ) (t : Tally) (turns : List Turn) (later : List ℕ) → t.activation ≡ o
    → left_end (over o end t) turns later ≡ with_times t.to_end (next_end o (Some state.Dormant) p end turns ++ later)
dormant_end None p end t turns later same = ap (λ (o : Option Activation). with_times t.to_end (open_end o turns ++ later)) same
dormant_end (Some a) p end t turns later same = refl

entered_end : (next : Option ProcessState) (window : Span) (turn : Turn) (t : Tally) (turns : List Turn) (later : List ℕ)
    → left_end (entered next window turn t) turns later
    ≡ with_times t.to_end (next_end t.activation next (ended_running turn.ended) (ended_at turn.ended turn.tick.0) turns
    ++ ((if is_ready next && not (ended_running turn.ended) && has_tick window turn.tick.0 then first_end turn.tick.0 turns else []) ++ later))
entered_end None window turn t turns later =
    ap (λ (x : List ℕ). with_times t.to_end (x ++ later)) (sym (gone_end t.activation (ended_running turn.ended) (ended_at turn.ended turn.tick.0) turns))
entered_end (Some state.Ready) window turn t turns later = begun_end (ended_running turn.ended) window (ended_at turn.ended turn.tick.0) turn t turns later
entered_end (Some state.Running) window turn t turns later = run_end t.activation (ended_running turn.ended) turn.tick.0 (ended_at turn.ended turn.tick.0) t turns later refl
entered_end (Some state.Waiting) window turn t turns later = waiting_end t.activation (ended_running turn.ended) (ended_at turn.ended turn.tick.0) t turns later refl
entered_end (Some state.Dormant) window turn t turns later = dormant_end t.activation (ended_running turn.ended) (ended_at turn.ended turn.tick.0) t turns later refl

turned_end : (window : Span) (turn : Turn) (t : Tally) (turns : List Turn)
    → left_end (turned window turn t) turns (times_to_end window turns) ≡ left_end t (turn ∷ turns) (times_to_end window (turn ∷ turns))
turned_end window turn t turns =
    let later = times_to_end window (turn ∷ turns) in
    entered_end turn.next window turn (with_ended window turn.ended t) turns (times_to_end window turns)
    ∙ ap (λ (e : Option Extremes). with_times e (next_end (with_ended window turn.ended t).activation turn.next (ended_running turn.ended) (ended_at turn.ended turn.tick.0) turns ++ later)) (ended-to_end window turn.ended t)
    ∙ ap (λ (o : Option Activation). with_times t.to_end (next_end o turn.next (ended_running turn.ended) (ended_at turn.ended turn.tick.0) turns ++ later)) (ended-activation window turn.ended t)
    ∙ ap (λ (x : List ℕ). with_times t.to_end (x ++ later)) (sym (open_end-cons t.activation turn turns))

end_after : (window : Span) (turns : List Turn) (t : Tally) → (tally_after window t turns).to_end ≡ left_end t turns (times_to_end window turns)
end_after window [] t = ap (λ (x : List ℕ). with_times t.to_end (x ++ [])) (sym (open_end-nil t.activation))
end_after window (turn ∷ turns) t = end_after window turns (turned window turn t) ∙ turned_end window turn t turns

pub times_end : (window : Span) (turns : List Turn) → (tally_after window nothing_counted turns).to_end ≡ with_times None (times_to_end window turns)
times_end window turns = end_after window turns nothing_counted

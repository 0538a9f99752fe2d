-- The numbers of a process, from its turns.
use Rattle.std.specs.Prelude.{◌≡◌, ◌≤◌, ℕ, ◌+◌, ◌-◌, max, Bool, true, false, not, ◌&&◌, if◌then◌else◌, List, [], ◌∷◌, ◌++◌, Option, Some, None}
use Rattle.apex_types.specs.declared.codes.ProcessState.{ProcessState}
use Rattle.apex_types.specs.declared.codes.ProcessState.TheVariants as state
use Rattle.trace_stays.specs.Stays.{held_behind, stay_ended, stay_left, stay_until, tick}
use Rattle.trace_stays.specs.declared.next.Next.TheVariants.{Enters}
use Rattle.trace_stays.specs.declared.span.Span.{Span}
use Rattle.trace_stays.specs.declared.stay.Held.{Held}
use Rattle.trace_stays.specs.declared.stay.Stay.{Stay}
use Rattle.trace_view.specs.Counting.{capped, ticks_in, with_times}
use Rattle.trace_view.specs.Tallies.{ended_at, ended_running, has_tick, measured, turned}
use Rattle.trace_view.specs.declared.states.StateTicks.{StateTicks}
use Rattle.trace_view.specs.declared.tally.Measured.{Measured}
use Rattle.trace_view.specs.declared.tally.Measured.TheVariants as measure
use Rattle.trace_view.specs.declared.tally.Tally.{Tally}
use Rattle.trace_view.specs.declared.tally.Turn.{Turn}

-- ---- stays

abbrev pub and_stay : Option Stay → List Stay → List Stay
and_stay None others = others
and_stay (Some stay) others = stay ∷ others

-- the stays that these turns end
abbrev pub ended_by : List Turn → List Stay
ended_by [] = []
ended_by (turn ∷ turns) = and_stay turn.ended (ended_by turns)

-- the number if both are the same state, and otherwise nothing
abbrev pub ticks_if : ProcessState → ProcessState → ℕ → ℕ
ticks_if state.Running state.Running n = n
ticks_if state.Ready state.Ready n = n
ticks_if state.Waiting state.Waiting n = n
ticks_if state.Dormant state.Dormant n = n
ticks_if wanted other n = 0

-- the ticks of the window in which these stays are in this state
abbrev pub ticks_in_state : ProcessState → Span → List Stay → ℕ
ticks_in_state wanted window [] = 0
ticks_in_state wanted window (stay ∷ stays) = ticks_if wanted stay.state (ticks_in window stay.span) + ticks_in_state wanted window stays

-- ---- activations

abbrev pub is_ready : Option ProcessState → Bool
is_ready (Some state.Ready) = true
is_ready (Some state.Running) = false
is_ready (Some state.Waiting) = false
is_ready (Some state.Dormant) = false
is_ready None = false

-- a turn to READY of a process that is not preempted, and whose line is in the window
abbrev pub is_activation : Span → Turn → Bool
is_activation window turn = is_ready turn.next && not (ended_running turn.ended) && has_tick window turn.tick.0

abbrev pub activations : Span → List Turn → ℕ
activations window [] = 0
activations window (turn ∷ turns) = (if is_activation window turn then 1 else 0) + activations window turns

-- The time from a READY line of this tick to the first RUNNING in these turns. A process that waits, is done or is
-- gone before that, or is READY again without being preempted, has none.
abbrev pub first_running_if : Option ProcessState → Bool → ℕ → List ℕ → List ℕ
first_running_if (Some state.Running) preempted time later = time ∷ []
first_running_if (Some state.Waiting) preempted time later = []
first_running_if (Some state.Dormant) preempted time later = []
first_running_if (Some state.Ready) true time later = later
first_running_if (Some state.Ready) false time later = []
first_running_if None preempted time later = []

abbrev pub first_running : ℕ → List Turn → List ℕ
first_running ready [] = []
first_running ready (turn ∷ turns) = first_running_if turn.next (ended_running turn.ended) (turn.tick.0 - ready) (first_running ready turns)

-- the times from the READY line of each activation to its first RUNNING
abbrev pub times_to_running : Span → List Turn → List ℕ
times_to_running window [] = []
times_to_running window (turn ∷ turns) = (if is_activation window turn then first_running turn.tick.0 turns else []) ++ times_to_running window turns

-- The time from a READY line of this tick to the end of the last stay before WAITING or DORMANT in these turns. A
-- process that is gone, or READY again without being preempted, has none.
abbrev pub first_end_if : Option ProcessState → Bool → ℕ → List ℕ → List ℕ
first_end_if (Some state.Waiting) preempted time later = time ∷ []
first_end_if (Some state.Dormant) preempted time later = time ∷ []
first_end_if (Some state.Running) preempted time later = later
first_end_if (Some state.Ready) true time later = later
first_end_if (Some state.Ready) false time later = []
first_end_if None preempted time later = []

abbrev pub first_end : ℕ → List Turn → List ℕ
first_end ready [] = []
first_end ready (turn ∷ turns) = first_end_if turn.next (ended_running turn.ended) (ended_at turn.ended turn.tick.0 - ready) (first_end ready turns)

-- the times from the READY line of each activation to its end
abbrev pub times_to_end : Span → List Turn → List ℕ
times_to_end window [] = []
times_to_end window (turn ∷ turns) = (if is_activation window turn then first_end turn.tick.0 turns else []) ++ times_to_end window turns

-- ---- the numbers

-- the numbers after these turns
abbrev pub tally_after : Span → Tally → List Turn → Tally
tally_after window t [] = t
tally_after window t (turn ∷ turns) = tally_after window (turned window turn t) turns

abbrev pub and_measured : Option Measured → List Measured → List Measured
and_measured None others = others
and_measured (Some one) others = one ∷ others

-- the times that these turns measure, one after another
abbrev pub measured_by : Span → Tally → List Turn → List Measured
measured_by window t [] = []
measured_by window t (turn ∷ turns) = and_measured (measured turn.next turn t.activation) (measured_by window (turned window turn t) turns)

abbrev pub running_times : List Measured → List ℕ
running_times [] = []
running_times (measure.ToRunning time ∷ others) = time ∷ running_times others
running_times (measure.ToEnd time ∷ others) = running_times others

abbrev pub end_times : List Measured → List ℕ
end_times [] = []
end_times (measure.ToRunning time ∷ others) = end_times others
end_times (measure.ToEnd time ∷ others) = time ∷ end_times others

-- they are those of the activations, in their order
pub record AreTimesOf (window : Span) (turns : List Turn) (times : List Measured) : Type 0 where
  pub to_running : running_times times ≡ times_to_running window turns
  pub to_end : end_times times ≡ times_to_end window turns

-- the ticks in this state
abbrev pub ticks_for : ProcessState → StateTicks → ℕ
ticks_for state.Running t = t.running
ticks_for state.Ready t = t.ready
ticks_for state.Waiting t = t.waiting
ticks_for state.Dormant t = t.dormant

-- the numbers of these turns
pub record AreNumbersOf (window : Span) (turns : List Turn) (t : Tally) : Type 0 where
  pub ticks : (s : ProcessState) → ticks_for s t.ticks ≡ capped (ticks_in_state s window (ended_by turns))
  pub activations : t.activations ≡ capped (activations window turns)
  pub to_running : t.to_running ≡ with_times None (times_to_running window turns)
  pub to_end : t.to_end ≡ with_times None (times_to_end window turns)

-- ---- stays that follow one another

-- a line that says that the process enters this state
pub record StateLine : Type 0 where
  pub state : ProcessState
  pub tick : ℕ

-- the stays of a process in such lines, and the stay that is not over where the trace ends
abbrev pub stays_in : Option Held → List StateLine → ℕ → List Stay
stays_in held [] until = and_stay (stay_left held until) []
stays_in held (line ∷ lines) until = and_stay (stay_ended held (Enters line.state) line.tick) (stays_in (held_behind held (Enters line.state) line.tick) lines until)

-- the tick where the last of them ends
abbrev pub stays_until : Held → List StateLine → ℕ → ℕ
stays_until held [] until = max held.since.0 until
stays_until held (line ∷ lines) until = stays_until (record { state = line.state; since = tick (stay_until held (Enters line.state) line.tick) }) lines until

-- the first of these stays begins at this tick, each other one where the one before ends, and the last ends there
abbrev pub AreContiguous : ℕ → List Stay → ℕ → Type 0
AreContiguous from [] until = from ≡ until
AreContiguous from (stay ∷ stays) until = (stay.span.from.0 ≡ from) × (from ≤ stay.span.until.0) × AreContiguous stay.span.until.0 stays until

-- the ticks of the window in which these stays are in any state
abbrev pub ticks_in_all : Span → List Stay → ℕ
ticks_in_all window stays =
    ticks_in_state state.Running window stays + ticks_in_state state.Ready window stays + ticks_in_state state.Waiting window stays + ticks_in_state state.Dormant window stays

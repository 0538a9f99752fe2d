-- The changes of the numbers of a process in one of its turns.
use Rattle.std.specs.Prelude.{ℕ, ◌+◌, ◌-◌, Bool, true, false, ◌&&◌, nat_le, Option, Some, None}
use Rattle.std.proofs.Math.Dec.{ltb}
use Rattle.apex_types.specs.declared.codes.ProcessState.{ProcessState}
use Rattle.apex_types.specs.declared.codes.ProcessState.TheVariants as state
use Rattle.trace_stays.specs.declared.span.Span.{Span}
use Rattle.trace_stays.specs.declared.stay.Stay.{Stay}
use Rattle.trace_view.specs.Counting.{capped, with_stay, with_time}
use Rattle.trace_view.specs.declared.tally.Activation.{Activation}
use Rattle.trace_view.specs.declared.tally.Measured.{Measured}
use Rattle.trace_view.specs.declared.tally.Measured.TheVariants as measure
use Rattle.trace_view.specs.declared.tally.Tally.{Tally}
use Rattle.trace_view.specs.declared.tally.Turn.{Turn}

-- ---- a turn

abbrev pub is_running : ProcessState → Bool
is_running state.Running = true
is_running state.Dormant = false
is_running state.Ready = false
is_running state.Waiting = false

-- whether the stay that is over was in RUNNING
abbrev pub ended_running : Option Stay → Bool
ended_running None = false
ended_running (Some stay) = is_running stay.state

-- the tick where the stay is over; if no stay is over, the tick of the line
abbrev pub ended_at : Option Stay → ℕ → ℕ
ended_at None t = t
ended_at (Some stay) t = stay.span.until.0

-- whether the window has this tick
abbrev pub has_tick : Span → ℕ → Bool
has_tick window t = nat_le window.from.0 t && ltb t window.until.0

-- whether a line of this tick is read: those at the end of the window, and after it, are not
abbrev pub is_read : Span → ℕ → Bool
is_read window t = ltb t window.until.0

-- ---- activations

abbrev pub begins : Turn → Activation
begins turn = record { ready = turn.tick; has_run = false }

-- A process that is READY and was not RUNNING begins an activation, if its line is in the window. A
-- process that was RUNNING is preempted, and continues its activation.
abbrev pub begun_if : Bool → Turn → Tally → Tally
begun_if true turn t = record t { activations = capped (t.activations + 1); activation = Some (begins turn) }
begun_if false turn t = record t { activation = None }

abbrev pub begun : Bool → Span → Turn → Tally → Tally
begun true window turn t = t
begun false window turn t = begun_if (has_tick window turn.tick.0) turn t

-- the first RUNNING of an activation has the time from its READY line
abbrev pub run_if : Bool → Activation → ℕ → Tally → Tally
run_if true a tick t = t
run_if false a tick t = record t { to_running = Some (with_time t.to_running (tick - a.ready.0)); activation = Some (record a { has_run = true }) }

abbrev pub run : Option Activation → ℕ → Tally → Tally
run None tick t = t
run (Some a) tick t = run_if a.has_run a tick t

-- the end of an activation has the time from its READY line to the end of its last stay
abbrev pub over : Option Activation → ℕ → Tally → Tally
over None tick t = t
over (Some a) tick t = record t { to_end = Some (with_time t.to_end (tick - a.ready.0)); activation = None }

-- ---- the times that turns measure

abbrev pub first_if : Bool → ℕ → Option Measured
first_if true time = None
first_if false time = Some (measure.ToRunning time)

abbrev pub measured_run : Option Activation → ℕ → Option Measured
measured_run None tick = None
measured_run (Some a) tick = first_if a.has_run (tick - a.ready.0)

abbrev pub measured_end : Option Activation → ℕ → Option Measured
measured_end None tick = None
measured_end (Some a) tick = Some (measure.ToEnd (tick - a.ready.0))

-- the time of an activation that a turn to this state measures: to the first RUNNING, or to the end
abbrev pub measured : Option ProcessState → Turn → Option Activation → Option Measured
measured None turn o = None
measured (Some state.Ready) turn o = None
measured (Some state.Running) turn o = measured_run o turn.tick.0
measured (Some state.Waiting) turn o = measured_end o (ended_at turn.ended turn.tick.0)
measured (Some state.Dormant) turn o = measured_end o (ended_at turn.ended turn.tick.0)

-- ---- the numbers after a turn

-- the changes by the state that begins; a process that is gone leaves its activation unmeasured
abbrev pub entered : Option ProcessState → Span → Turn → Tally → Tally
entered None window turn t = record t { activation = None }
entered (Some state.Ready) window turn t = begun (ended_running turn.ended) window turn t
entered (Some state.Running) window turn t = run t.activation turn.tick.0 t
entered (Some state.Waiting) window turn t = over t.activation (ended_at turn.ended turn.tick.0) t
entered (Some state.Dormant) window turn t = over t.activation (ended_at turn.ended turn.tick.0) t

-- the ticks that the stay that is over adds
abbrev pub with_ended : Span → Option Stay → Tally → Tally
with_ended window None t = t
with_ended window (Some stay) t = record t { ticks = with_stay window stay t.ticks }

abbrev pub turned : Span → Turn → Tally → Tally
turned window turn t = entered turn.next window turn (with_ended window turn.ended t)

-- a process without counts
abbrev pub nothing_counted : Tally
nothing_counted = record {
  ticks = record { running = 0; ready = 0; waiting = 0; dormant = 0 };
  activations = 0;
  to_running = None;
  to_end = None;
  deadlines_missed = 0;
  refusals = record { no_action = 0; not_available = 0; invalid_param = 0; invalid_config = 0; invalid_mode = 0; timed_out = 0 };
  reports = 0;
  activation = None;
}

-- Counts and sums, and times.
use Rattle.std.specs.Prelude.{ℕ, ◌+◌, ◌-◌, ◌^◌, max, min, List, [], ◌∷◌, Option, Some, None}
use Rattle.apex_types.specs.declared.codes.Mode.{Mode}
use Rattle.apex_types.specs.declared.codes.Mode.TheVariants as mode
use Rattle.apex_types.specs.declared.codes.ProcessState.{ProcessState}
use Rattle.apex_types.specs.declared.codes.ProcessState.TheVariants as state
use Rattle.apex_types.specs.declared.codes.ReturnCode.{ReturnCode}
use Rattle.apex_types.specs.declared.codes.ReturnCode.TheVariants as code
use Rattle.apex_types.specs.declared.event.EventKind.{EventKind}
use Rattle.apex_types.specs.declared.event.EventKind.TheVariants as event
use Rattle.trace_stays.specs.Stays.{common, ticks_of}
use Rattle.trace_stays.specs.declared.span.Span.{Span}
use Rattle.trace_stays.specs.declared.stay.ModeStay.{ModeStay}
use Rattle.trace_stays.specs.declared.stay.Stay.{Stay}
use Rattle.trace_view.specs.declared.extremes.Extremes.{Extremes}
use Rattle.trace_view.specs.declared.messages.Messages.{Messages}
use Rattle.trace_view.specs.declared.messages.Route.{Route}
use Rattle.trace_view.specs.declared.messages.Route.TheVariants as route
use Rattle.trace_view.specs.declared.modes.ModeTicks.{ModeTicks}
use Rattle.trace_view.specs.declared.refusals.Refusals.{Refusals}
use Rattle.trace_view.specs.declared.states.StateTicks.{StateTicks}

-- ---- numbers

-- a count or a sum; the greatest number of 64 bits stays
abbrev pub capped : ℕ → ℕ
capped n = min n (2 ^ 64 - 1)

-- ---- ticks

-- the number of these ticks in the window
abbrev pub ticks_in : Span → Span → ℕ
ticks_in window span = ticks_of (common span window)

-- the ticks in each state, with `n` more in the given one
abbrev pub with_ticks : ProcessState → ℕ → StateTicks → StateTicks
with_ticks state.Running n t = record t { running = capped (t.running + n) }
with_ticks state.Ready n t = record t { ready = capped (t.ready + n) }
with_ticks state.Waiting n t = record t { waiting = capped (t.waiting + n) }
with_ticks state.Dormant n t = record t { dormant = capped (t.dormant + n) }

-- the ticks in each state, with those of one more stay
abbrev pub with_stay : Span → Stay → StateTicks → StateTicks
with_stay window stay t = with_ticks stay.state (ticks_in window stay.span) t

-- the ticks in each mode, with `n` more in the given one
abbrev pub with_mode_ticks : Mode → ℕ → ModeTicks → ModeTicks
with_mode_ticks mode.Normal n t = record t { normal = capped (t.normal + n) }
with_mode_ticks mode.ColdStart n t = record t { cold_start = capped (t.cold_start + n) }
with_mode_ticks mode.WarmStart n t = record t { warm_start = capped (t.warm_start + n) }
with_mode_ticks mode.Idle n t = record t { idle = capped (t.idle + n) }

-- the ticks in each mode, with those of one more stay
abbrev pub with_mode_stay : Span → ModeStay → ModeTicks → ModeTicks
with_mode_stay window stay t = with_mode_ticks stay.mode (ticks_in window stay.span) t

-- ---- services and messages

-- one more service that ended with this code; NO_ERROR is no refusal
abbrev pub with_answer : ReturnCode → Refusals → Refusals
with_answer code.NoError r = r
with_answer code.NoAction r = record r { no_action = capped (r.no_action + 1) }
with_answer code.NotAvailable r = record r { not_available = capped (r.not_available + 1) }
with_answer code.InvalidParam r = record r { invalid_param = capped (r.invalid_param + 1) }
with_answer code.InvalidConfig r = record r { invalid_config = capped (r.invalid_config + 1) }
with_answer code.InvalidMode r = record r { invalid_mode = capped (r.invalid_mode + 1) }
with_answer code.TimedOut r = record r { timed_out = capped (r.timed_out + 1) }

-- one more message of a line that moves, loses or lets out one; other lines are of no message
abbrev pub with_message : EventKind → Messages → Messages
with_message (event.Move port words) m = record m { moved = capped (m.moved + 1) }
with_message (event.Arrive port words) m = record m { arrived = capped (m.arrived + 1) }
with_message (event.Lost port words) m = record m { lost = capped (m.lost + 1) }
with_message (event.Out channel words) m = record m { out = capped (m.out + 1) }
with_message (event.State who state) m = m
with_message (event.Return who service code) m = m
with_message (event.Mode mode) m = m
with_message (event.Error error who response) m = m
with_message (event.Report who words) m = m

-- the port or channel where the message of a line passes
abbrev pub route_of : EventKind → Option Route
route_of (event.Move port words) = Some (route.Port port)
route_of (event.Arrive port words) = Some (route.Port port)
route_of (event.Lost port words) = Some (route.Port port)
route_of (event.Out channel words) = Some (route.Channel channel)
route_of (event.State who state) = None
route_of (event.Return who service code) = None
route_of (event.Mode mode) = None
route_of (event.Error error who response) = None
route_of (event.Report who words) = None

-- ---- times

-- the least and the greatest of the times so far and one more
abbrev pub with_time : Option Extremes → ℕ → Extremes
with_time None t = record { least = t; greatest = t }
with_time (Some e) t = record { least = min e.least t; greatest = max e.greatest t }

-- the least and the greatest of the times so far and of these
abbrev pub with_times : Option Extremes → List ℕ → Option Extremes
with_times e [] = e
with_times e (t ∷ ts) = with_times (Some (with_time e t)) ts

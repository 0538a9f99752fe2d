-- How long a process stays in a state, and a partition in a mode.
use Rattle.std.specs.Prelude.{ℕ, ◌+◌, ◌-◌, ◌^◌, max, min, Option, Some, None}
use Rattle.apex_types.specs.declared.codes.Mode.{Mode}
use Rattle.apex_types.specs.declared.codes.ProcessState.{ProcessState}
use Rattle.apex_types.specs.declared.codes.ProcessState.TheVariants as state
use Rattle.apex_types.specs.declared.identity.Ticks.{Ticks}
use Rattle.trace_stays.specs.declared.span.Span.{Span}
use Rattle.trace_stays.specs.declared.stay.Stay.{Stay}
use Rattle.trace_stays.specs.declared.stay.ModeStay.{ModeStay}
use Rattle.trace_stays.specs.declared.next.Next.{Next}
use Rattle.trace_stays.specs.declared.next.Next.TheVariants.{Enters, Gone, Cleared}
use Rattle.trace_stays.specs.declared.stay.Held.{Held}
use Rattle.trace_stays.specs.declared.stay.HeldMode.{HeldMode}

-- ---- ticks

abbrev pub tick : ℕ → Ticks
tick t = record { 0 = t }

abbrev pub span : ℕ → ℕ → Span
span from until = record { from = tick from; until = tick until }

abbrev pub ticks_of : Span → ℕ
ticks_of s = s.until.0 - s.from.0

-- the ticks of both
abbrev pub common : Span → Span → Span
common s o = span (max s.from.0 o.from.0) (min s.until.0 o.until.0)

-- the tick after `t`; the greatest number of 64 bits stays
abbrev pub behind : ℕ → ℕ
behind t = min (t + 1) (2 ^ 64 - 1)

-- ---- states

-- the state that a process enters; none if it is gone
abbrev pub state_entered : Next → Option ProcessState
state_entered (Enters s) = Some s
state_entered Gone = None
state_entered Cleared = None

-- The first tick that no longer counts for RUNNING, if a line of tick t says where the process
-- goes. It has done its last work in this tick, unless it becomes READY, since then another one was
-- chosen before the tick's work, or is gone before this work.
abbrev pub running_left_at : Next → ℕ → ℕ
running_left_at (Enters state.Ready) t = t
running_left_at (Enters state.Dormant) t = behind t
running_left_at (Enters state.Running) t = behind t
running_left_at (Enters state.Waiting) t = behind t
running_left_at Gone t = behind t
running_left_at Cleared t = t

-- The first tick that no longer counts for a state that such a line ends.
abbrev pub left_at : ProcessState → Next → ℕ → ℕ
left_at state.Running next t = running_left_at next t
left_at state.Dormant next t = t
left_at state.Ready next t = t
left_at state.Waiting next t = t

-- A tick counts once: a stay ends where it began, at the earliest.
abbrev pub stay_until : Held → Next → ℕ → ℕ
stay_until held next t = max held.since.0 (left_at held.state next t)

-- the first tick that counts for the state that a line of tick t says
abbrev pub begins_at : Option Held → Next → ℕ → ℕ
begins_at None next t = t
begins_at (Some held) next t = stay_until held next t

-- the state that a process holds after such a line
abbrev pub held_behind : Option Held → Next → ℕ → Option Held
held_behind before (Enters s) t = Some (record { state = s; since = tick (begins_at before (Enters s) t) })
held_behind before Gone t = None
held_behind before Cleared t = None

abbrev pub stay_of : Held → ℕ → Stay
stay_of held until = record { state = held.state; span = span held.since.0 until }

-- the stay that such a line ends
abbrev pub stay_ended : Option Held → Next → ℕ → Option Stay
stay_ended None next t = None
stay_ended (Some held) next t = Some (stay_of held (stay_until held next t))

-- the stay that is not over where a trace ends
abbrev pub stay_left : Option Held → ℕ → Option Stay
stay_left None until = None
stay_left (Some held) until = Some (stay_of held (max held.since.0 until))

-- ---- modes

-- the mode that a line of tick t ends, until that tick
abbrev pub mode_ended : Option HeldMode → ℕ → Option ModeStay
mode_ended None t = None
mode_ended (Some held) t = Some (record { mode = held.mode; span = span held.since.0 (max held.since.0 t) })

abbrev pub mode_behind : Option HeldMode → Mode → ℕ → Option HeldMode
mode_behind None m t = Some (record { mode = m; since = tick t })
mode_behind (Some held) m t = Some (record { mode = m; since = tick (max held.since.0 t) })

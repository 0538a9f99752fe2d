-- The changes that a dump shows of a stay, of a window, and of a pulse.
use Rattle.std.specs.Prelude.{ℕ, ℤ, nat_le, if◌then◌else◌, List, [], ◌∷◌, ◌++◌, Option, Some, None}
use Rattle.apex_types.specs.Output.{words_of}
use Rattle.apex_types.specs.declared.codes.Mode.{Mode}
use Rattle.apex_types.specs.declared.codes.ProcessState.{ProcessState}
use Rattle.apex_types.specs.declared.event.Event.{Event}
use Rattle.apex_types.specs.declared.identity.PartitionId.{PartitionId}
use Rattle.apex_types.specs.declared.identity.Ticks.{Ticks}
use Rattle.trace_stays.specs.declared.lanes.Ended.{Ended}
use Rattle.trace_stays.specs.declared.lanes.Ended.TheVariants as ended
use Rattle.trace_stays.specs.declared.span.Span.{Span}
use Rattle.wave_dump.specs.declared.change.Change.{Change}
use Rattle.wave_dump.specs.declared.change.Value.{Value}
use Rattle.wave_dump.specs.declared.marks.Marks.{Marks}
use Rattle.wave_dump.specs.declared.change.Value.TheVariants as value
use Rattle.wave_dump.specs.declared.variable.Variable.{Variable}
use Rattle.wave_dump.specs.declared.variable.Variable.TheVariants as variable

abbrev pub change_to : Ticks → Variable → Value → List Change
change_to t v to = record { tick = t; variable = v; value = to } ∷ []

-- ---- what shows a state or a mode: its wire, and the variable that has its name

abbrev pub state_marks : ℕ → ProcessState → Marks
state_marks place s = record { wire = variable.State place s; named = variable.StateName place; name = value.State s }

abbrev pub mode_marks : ℕ → Mode → Marks
mode_marks place m = record { wire = variable.Mode place m; named = variable.ModeName place; name = value.Mode m }

abbrev pub marks_of : Ended → Marks
marks_of (ended.State place stay) = state_marks place stay.state
marks_of (ended.Mode place stay) = mode_marks place stay.mode

-- The wire is 1 from the first tick of a stay on, and 0 from the tick after its last on. A stay without a tick does not show.
abbrev pub begin_changes : Marks → Span → List Change
begin_changes m s = if nat_le s.until.0 s.from.0 then [] else change_to s.from m.wire value.High ++ change_to s.from m.named m.name

abbrev pub end_changes : Marks → Span → List Change
end_changes m s = if nat_le s.until.0 s.from.0 then [] else change_to s.until m.wire value.Low ++ change_to s.until m.named value.Nothing

-- ---- pulses and windows

-- the first word of a message
abbrev pub word_at : Variable → Ticks → List ℤ → List Change
word_at v t [] = []
word_at v t (w ∷ ws) = change_to t v (value.Word w)

-- the pulse of a line happens in its tick, with the first word of its message
abbrev pub pulse_changes : ℕ → Event → List Change
pulse_changes place e = change_to e.tick (variable.Pulse place) value.High ++ word_at (variable.Word place) e.tick (words_of e.kind)

-- The wire of a partition rises where one of its windows begins, and falls where it ends. Nothing changes for ticks in no window.
abbrev pub changes_in : Option PartitionId → Span → List Change
changes_in None s = []
changes_in (Some p) s = change_to s.from (variable.Window p.0) value.High ++ change_to s.until (variable.Window p.0) value.Low

-- The ticks in a state that a summary counts for a runner.
use Rattle.std.specs.Prelude.{◌<◌, ℕ, List, [], ◌∷◌}
use Rattle.apex_types.specs.Line.{subject_text}
use Rattle.apex_types.specs.declared.codes.ProcessState.{ProcessState}
use Rattle.apex_types.specs.declared.codes.ProcessState.TheVariants.{Running}
use Rattle.apex_types.specs.declared.event.Event.{Event}
use Rattle.apex_types.specs.declared.event.Subject.{Subject}
use Rattle.trace_stays.specs.declared.span.Span.{Span}
use Rattle.trace_view.specs.Processes.{no_process, process_ended}
use Rattle.trace_view.specs.Turns.{ticks_for}
use Rattle.trace_view.specs.Whole.{process_in}

-- lines are read before the window's end, and the last stay is over where the window closes
abbrev pub state_counted : ProcessState → (window closing : Span) → List Event → List ℕ → Subject → ℕ
state_counted wanted window closing lines name who = ticks_for wanted (process_ended closing (process_in window lines name (subject_text who) no_process)).tally.ticks

abbrev pub running_counted : (window closing : Span) → List Event → List ℕ → Subject → ℕ
running_counted = state_counted Running

-- each line is of a tick before this one
abbrev pub AreBeforeTick : ℕ → List Event → Type 0
AreBeforeTick until [] = Unit {0}
AreBeforeTick until (e ∷ es) = (e.tick.0 < until) × AreBeforeTick until es

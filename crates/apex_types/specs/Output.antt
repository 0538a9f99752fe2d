-- The output of a step of the kernel, besides its new state.
use Rattle.std.specs.Prelude.{ℤ, List, []}
use Rattle.arrayvec.specs.ArrayVec.{ArrayVec}
use Rattle.apex_types.specs.Runners.{Action}
use Rattle.apex_types.specs.Runners as action
use Rattle.apex_types.specs.declared.event.EventKind.{EventKind}
use Rattle.apex_types.specs.declared.event.EventKind.TheVariants as event
use Rattle.apex_types.specs.declared.event.LineKind.{LineKind}
use Rattle.apex_types.specs.declared.event.LineKind.TheVariants as line
use Rattle.apex_types.specs.declared.process.ActionKind.{ActionKind}
use Rattle.apex_types.specs.declared.process.ActionKind.TheVariants as kind

-- what happened, in order, and the actions, in order
pub record Output : Type 0 where
  pub lines : List EventKind
  pub actions : List Action

-- ---- lines and actions, and the words that go with them

abbrev message : List ℤ → ArrayVec ℤ
message words = record { items = words }

-- the event of a line, with the words of its message
abbrev pub event_of : LineKind → List ℤ → EventKind
event_of (line.State who state) words = event.State who state
event_of (line.Return who service code) words = event.Return who service code
event_of (line.Mode mode) words = event.Mode mode
event_of (line.Error error who response) words = event.Error error who response
event_of (line.Report who) words = event.Report who (message words)
event_of (line.Move port) words = event.Move port (message words)
event_of (line.Arrive port) words = event.Arrive port (message words)
event_of (line.Lost port) words = event.Lost port (message words)
event_of (line.Out channel) words = event.Out channel (message words)

-- the words of the message of an event; none without a message
abbrev pub words_of : EventKind → List ℤ
words_of (event.Report who words) = words.items
words_of (event.Move port words) = words.items
words_of (event.Arrive port words) = words.items
words_of (event.Lost port words) = words.items
words_of (event.Out channel words) = words.items
words_of _ = []

-- the action of a kind, with its words
abbrev pub action_of : ActionKind → List ℤ → Action
action_of (kind.Begin runner) words = action.Begin runner
action_of (kind.Stop runner) words = action.Stop runner
action_of kind.StopAll words = action.StopAll
action_of (kind.Reply runner) words = action.Reply runner (message words)
action_of kind.Restore words = action.Restore
action_of (kind.Write place) words = action.Write place (message words)
action_of (kind.Queue error process) words = action.Queue (record { kind = error; process = process; words = message words })

-- The states and modes that a view shows after lines, next to those of the kernel.
use Rattle.std.specs.Prelude.{◌≡◌, ℕ, true, List, [], ◌∷◌, Option, Some, None}
use Rattle.apex_types.specs.Line.{subject_text}
use Rattle.apex_types.specs.NameText.{is_name}
use Rattle.apex_types.specs.declared.codes.Mode.{Mode}
use Rattle.apex_types.specs.declared.codes.Mode.TheVariants as mode
use Rattle.apex_types.specs.declared.codes.ProcessState.{ProcessState}
use Rattle.apex_types.specs.declared.codes.ProcessState.TheVariants.{Dormant}
use Rattle.apex_types.specs.declared.event.Event.{Event}
use Rattle.apex_types.specs.declared.event.EventKind.{EventKind}
use Rattle.apex_types.specs.declared.event.EventKind.TheVariants as event
use Rattle.apex_types.specs.declared.event.Subject.{Subject}
use Rattle.apex_types.specs.declared.event.Subject.TheVariants.{Init, Handler, Process}
use Rattle.apex_types.specs.declared.identity.Runner.{Runner}
use Rattle.apex_types.specs.declared.process.ProcessStatus.{ProcessStatus}
use Rattle.kernel_meaning.specs.Kernel.{Kernel}
use Rattle.kernel_meaning.specs.Processes.{row_of}
use Rattle.trace_stays.specs.Traces.{mode_behind_all, state_after}
use Rattle.trace_stays.specs.declared.stay.Held.{Held}
use Rattle.trace_stays.specs.declared.stay.HeldMode.{HeldMode}

-- a process that is in no state of a view has never been started, or is gone
abbrev pub state_of : Option Held → ProcessState
state_of None = Dormant
state_of (Some held) = held.state

abbrev pub mode_of : Option HeldMode → Mode
mode_of None = mode.Idle
mode_of (Some held) = held.mode

-- the state of a runner of the partition with this name, after these lines
abbrev pub state_shown : List Event → List ℕ → Subject → ProcessState
state_shown lines name who = state_of (state_after lines name (subject_text who) None)

abbrev pub mode_shown : List Event → List ℕ → Mode
mode_shown lines name = mode_of (mode_behind_all lines name None)

-- ---- names: INIT and HANDLER are none

abbrev pub IsNamed : Subject → Type 0
IsNamed Init = Unit {0}
IsNamed Handler = Unit {0}
IsNamed (Process name) = is_name name ≡ true

abbrev pub NamesOne : EventKind → Type 0
NamesOne (event.State who state) = IsNamed who
NamesOne _ = Unit {0}

abbrev pub HaveNames : List Event → Type 0
HaveNames [] = Unit {0}
HaveNames (e ∷ es) = NamesOne e.kind × HaveNames es

-- no other runner in the lines has its word
abbrev pub HasOwnWord : List Event → Subject → Type 0
HasOwnWord lines Init = HaveNames lines
HasOwnWord lines Handler = HaveNames lines
HasOwnWord lines (Process name) = is_name name ≡ true

-- ---- a view and a kernel

-- The mode shown is the mode, and the state shown of each runner with a word of its own is that of its record.
pub record ShowsState (lines : List Event) (name : List ℕ) (k : Kernel) : Type 0 where
  pub mode : mode_shown lines name ≡ k.mode
  pub states : (p : Runner) (r : ProcessStatus) → row_of k.processes p ≡ Some r → HasOwnWord lines r.who → state_shown lines name r.who ≡ r.state

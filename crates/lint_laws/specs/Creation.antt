-- Programs that never create a process, and traces without a state of it.
use Rattle.std.specs.Prelude.{◌≡◌, ◌≢◌, ℕ, ℤ, pos, Bool, true, false, List, Option, Some, None}
use Rattle.std.specs.List.{AllByRecursion}
use Rattle.apex_types.specs.declared.codes.ProcessState.{ProcessState}
use Rattle.apex_types.specs.declared.event.Event.{Event}
use Rattle.apex_types.specs.declared.event.EventKind.TheVariants as event
use Rattle.apex_types.specs.declared.event.Subject.TheVariants as subject
use Rattle.apex_types.specs.declared.service.Service.{Service}
use Rattle.apex_types.specs.declared.service.Service.TheVariants as service
use Rattle.module_meaning.specs.Table.{at_number}
use Rattle.pal_meaning.specs.Program.{Body, Process, Program}
use Rattle.lint_laws.specs.Lines.{NoLine}
use Rattle.lint_laws.specs.Numbers.{BlockFits}

-- the line says a state of this process of the partition with this name
abbrev pub SaysState : List ℕ → List ℕ → Event → Type 0
SaysState name process line = (line.partition ≡ Some name) × ((state : ProcessState) × (line.kind ≡ event.State (subject.Process process) state))

abbrev pub NeverHasState : List ℕ → List ℕ → List Event → Type 0
NeverHasState name process lines = NoLine (SaysState name process) lines

abbrev pub creates_process : Service → Bool
creates_process service.CreateProcess = true
creates_process _ = false

-- another number
abbrev pub IsNot : ℕ → ℤ → Type 0
IsNot number value = value ≢ pos number

abbrev pub HandlerFits : (Service → Bool) → (ℤ → Type 0) → Option Body → Type 0
HandlerFits wanted Fits None = Unit {0}
HandlerFits wanted Fits (Some b) = BlockFits wanted Fits b.block

-- The process with this number, counted from 1, has this name, and no other process has it.
pub record IsProcess (number : ℕ) (name : List ℕ) (program : Program) : Type 0 where
  pub process : Process
  pub here : at_number program.processes number ≡ Some process
  pub named : process.name ≡ name
  pub alone : (i : ℕ) (other : Process) → at_number program.processes i ≡ Some other → other.name ≡ name → i ≡ number

-- Each call of CREATE_PROCESS in a body is of another process than that with this number.
pub record NeverCreates (number : ℕ) (program : Program) : Type 0 where
  pub init : BlockFits creates_process (IsNot number) program.init.block
  pub handler : HandlerFits creates_process (IsNot number) program.handler
  pub processes : AllByRecursion (λ p. BlockFits creates_process (IsNot number) p.body.block) program.processes
  pub procedures : AllByRecursion (λ p. BlockFits creates_process (IsNot number) p.block) program.procedures

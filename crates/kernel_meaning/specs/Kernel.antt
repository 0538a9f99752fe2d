-- The state of a partition other than its controls and its data, in parts with an owner each; the
-- errors that wait for its error handler.
use Rattle.std.specs.Prelude.{Bool, List, [], ◌∷◌, ◌++◌, length, nat_lt, if◌then◌else◌, ℕ}
use Rattle.apex_types.specs.Limits.{MOST_ERRORS}
use Rattle.apex_types.specs.declared.process.WaitingError.{WaitingError}
use Rattle.apex_types.specs.declared.codes.Mode.{Mode}
use Rattle.apex_types.specs.declared.codes.StartCondition.{StartCondition}
use Rattle.apex_types.specs.declared.row.HealthTable.{HealthTable}
use Rattle.kernel_meaning.specs.Objects.{Objects, Ports}
use Rattle.kernel_meaning.specs.Processes.{Processes}
use Rattle.kernel_meaning.specs.Sharing.{Sharing}
use Rattle.kernel_meaning.specs.Step.{Step, lifted}
use Rattle.kernel_meaning.specs.Windows.{Schedule}

-- The errors that wait for the error handler of a partition.

pub record Errors : Type 0 where
  -- whether the source has an error handler
  pub has_handler : Bool
  -- the errors that wait for it, the oldest first
  pub waiting : List WaitingError

-- before the first start of a partition
abbrev pub fresh_errors : Bool → Errors
fresh_errors has_handler = record { has_handler = has_handler; waiting = [] }

-- queues one more error; drops it if the queue is full
abbrev pub queued : Errors → WaitingError → Errors
queued s e = if nat_lt (length s.waiting) MOST_ERRORS then record s { waiting = s.waiting ++ e ∷ [] } else s

-- no error waits
abbrev pub emptied_errors : Errors → Errors
emptied_errors s = record s { waiting = [] }

-- The state of a partition other than its controls and its data, in parts with an owner each.

-- the parts that no tick changes: the partition's row of the module table, its number, and the
-- major frame with its own windows
pub record Fixed : Type 0 where
  pub name : List ℕ
  pub number : ℕ
  pub period : ℕ
  pub duration : ℕ
  pub schedule : Schedule
  pub health : HealthTable

pub record Kernel : Type 0 where
  pub fixed : Fixed
  pub mode : Mode
  pub condition : StartCondition
  pub processes : Processes
  pub objects : Objects
  pub ports : Ports
  pub errors : Errors

abbrev pub with_processes : Kernel → Processes → Kernel
with_processes k s = record k { processes = s }

-- a step of the processes, as a step of the partition
abbrev pub of_processes : Kernel → Step Processes → Step Kernel
of_processes k s = lifted (with_processes k) s

-- the processes and the objects
abbrev pub with_objects : Kernel → Sharing Objects
with_objects k = record { processes = k.processes; shared = k.objects }

-- a step of the processes and the objects, as a step of the partition
abbrev pub of_objects : Kernel → Step (Sharing Objects) → Step Kernel
of_objects k s = lifted (λ (b : Sharing Objects). record k { processes = b.processes; objects = b.shared }) s

-- the processes and the ports
abbrev pub with_ports : Kernel → Sharing Ports
with_ports k = record { processes = k.processes; shared = k.ports }

-- a step of the processes and the ports, as a step of the partition
abbrev pub of_ports : Kernel → Step (Sharing Ports) → Step Kernel
of_ports k s = lifted (λ (b : Sharing Ports). record k { processes = b.processes; ports = b.shared }) s

-- a step of only the ports, as a step of the partition
abbrev pub of_ports_alone : Kernel → Step Ports → Step Kernel
of_ports_alone k s = lifted (λ (o : Ports). record k { ports = o }) s

-- the processes and the errors
abbrev pub with_errors : Kernel → Sharing Errors
with_errors k = record { processes = k.processes; shared = k.errors }

-- a step of the processes and the errors, as a step of the partition
abbrev pub of_errors : Kernel → Step (Sharing Errors) → Step Kernel
of_errors k s = lifted (λ (b : Sharing Errors). record k { processes = b.processes; errors = b.shared }) s

-- The windows of a view of the trace of a run, next to the kernel's: those of a dump.
use Rattle.std.specs.Prelude.{◌≡◌, ◌<◌, ◌≤◌, ℕ, List, Option, Some, None}
use Rattle.apex_types.specs.Limits.{MOST_TICKS}
use Rattle.apex_types.specs.declared.device.DeviceLine.{DeviceLine}
use Rattle.apex_types.specs.declared.event.Event.{Event}
use Rattle.kernel_meaning.specs.Windows.{Schedule}
use Rattle.machine_meaning.specs.Image.{Image}
use Rattle.machine_meaning.specs.ImageLimits.{IsLawful}
use Rattle.machine_meaning.specs.MachineMeaning.{machine_module, machine_trace}
use Rattle.module_meaning.specs.Accepted.{IsModule}
use Rattle.module_meaning.specs.Module.{Module}
use Rattle.module_meaning.specs.SourceMeaning.{source_module, source_trace}
use Rattle.module_meaning.specs.Table.{Table}
use Rattle.pal_meaning.specs.Program.{Program}
use Rattle.state_laws.specs.Spending.{owner_in}
use Rattle.trace_windows.specs.Whole.{owner_at}
use Rattle.trace_windows.specs.declared.windows.Windows.{Windows}
use Rattle.view_laws.specs.Reports.{AreWindowsOf}
use Rattle.view_laws.specs.Spent.{names_of_image, names_of_table}

-- The windows are of partitions with these names, and each tick from one on and before another is in a window of the partition that owns it, or in none if nobody does.
pub record ShowOwners {C : Type 0} (m : Module C) (devices : List DeviceLine) (names : List (List ℕ)) (from until : ℕ) (w : Windows) : Type 0 where
  pub named : w.names.items ≡ names
  pub owners : (t : ℕ) → from ≤ t → t < until → owner_at t w.stretches.items ≡ owner_in m devices t

-- if there are any
abbrev pub ShowOwnersIn : {C : Type 0} → Module C → List DeviceLine → List (List ℕ) → (from until : ℕ) → Option Windows → Type 0
ShowOwnersIn m devices names from until None = Unit {0}
ShowOwnersIn m devices names from until (Some w) = ShowOwners m devices names from until w

-- So it is if these are the lines of any run of a lawful image, by the windows of the image, and the ticks are ticks of the run.
abbrev pub OwnersOfMachines : (AreIts : List Event → Type 0) → (from until : ℕ) → Option (Schedule × List (List ℕ)) → Option Windows → Type 0
OwnersOfMachines AreIts from until known w =
    (image : Image) (devices : List DeviceLine) (n : ℕ) → IsLawful image → n ≤ MOST_TICKS → AreWindowsOf image.schedule (names_of_image image) known → AreIts (machine_trace image devices n)
    → until ≤ n → ShowOwnersIn (machine_module image) devices (names_of_image image) from until w

-- and so if they are those of any run of an accepted module
abbrev pub OwnersOfModules : (AreIts : List Event → Type 0) → (from until : ℕ) → Option (Schedule × List (List ℕ)) → Option Windows → Type 0
OwnersOfModules AreIts from until known w =
    (table : List ℕ) (sources : List (List ℕ)) (t : Table) (programs : List Program) (devices : List DeviceLine) (n : ℕ) → IsModule table sources t programs → n ≤ MOST_TICKS
    → AreWindowsOf t.schedule (names_of_table t) known → AreIts (source_trace t programs devices n)
    → until ≤ n → ShowOwnersIn (source_module t programs) devices (names_of_table t) from until w

-- The promise of building and running a module: the trace that the table and the sources mean.
use Rattle.std.specs.Prelude.{◌≡◌, ℕ, ◌<◌, ◌≤◌, List, Option, Result, Ok, Err}
use Rattle.std.specs.Io.KnownBytes.{Appends}
use Rattle.apex_types.specs.Limits.{MOST_TICKS}
use Rattle.apex_types.specs.Line.{text_of, TakesBeginning}
use Rattle.apex_types.specs.declared.device.DeviceFault.{DeviceFault}
use Rattle.apex_types.specs.declared.device.DeviceLine.{DeviceLine}
use Rattle.module_meaning.specs.DeviceText.{verdict}
use Rattle.module_meaning.specs.Table.{Table}
use Rattle.pal_meaning.specs.Program.{Program}
use Rattle.module_meaning.specs.SourceMeaning.{source_trace, IsAcceptedRun}
use Rattle.module_meaning.specs.Accepted.{IsModule}
use Rattle.module.specs.declared.fault.BuildAndRunFault.{BuildAndRunFault}
use Rattle.module.specs.declared.fault.BuildAndRunFault.TheVariants.{Build, Run}
use Rattle.module.specs.declared.fault.RunFault.TheVariants.{Ticks, Device, Memory, Write}
use Rattle.module.specs.Refusals.{IsRefusal}

-- Table and sources are accepted, and with this table the device text is refused.
pub record IsDeviceRefused (table : List ℕ) (sources : List (List ℕ)) (devices : List ℕ) (f : DeviceFault) : Type 0 where
  pub rows : Table
  pub programs : List Program
  pub accepted : IsModule table sources rows programs
  pub refused : verdict rows.partitions rows.channels devices ≡ Err f

-- What building and running has written between two states of its sink: the text of the trace of n
-- ticks that the accepted table and sources mean with the device text's lines; a prefix of that
-- text if the sink failed; nothing if it is refused, which happens only if it must be. The result
-- of a build is an image, so its bytes are never refused.
abbrev pub Means : List ℕ → List (List ℕ) → List ℕ → ℕ → Option (List ℕ) → Option (List ℕ) → Result (Unit {0}) BuildAndRunFault → Type 0
Means table sources devices n old new (Ok _) = (t : Table) × (programs : List Program) × (lines : List DeviceLine) × IsAcceptedRun table sources devices n t programs lines × Appends old new (text_of (source_trace t programs lines n))
Means table sources devices n old new (Err (Run Write)) = (t : Table) × (programs : List Program) × (lines : List DeviceLine) × IsAcceptedRun table sources devices n t programs lines × TakesBeginning old new (text_of (source_trace t programs lines n))
Means table sources devices n old new (Err (Build fault)) = IsRefusal table sources fault × (new ≡ old)
Means table sources devices n old new (Err (Run Ticks)) = (MOST_TICKS < n) × (new ≡ old)
Means table sources devices n old new (Err (Run (Device f))) = (n ≤ MOST_TICKS) × IsDeviceRefused table sources devices f × (new ≡ old)
Means table sources devices n old new (Err (Run Memory)) = new ≡ old
Means table sources devices n old new (Err (Run _)) = ⊥

-- The promise of running an image: the trace that the image means.
use Rattle.std.specs.Prelude.{◌≡◌, ℕ, ◌<◌, ◌≤◌, List, Option, Some, None, Result, Ok, Err}
use Rattle.std.specs.Io.KnownBytes.{Appends}
use Rattle.apex_types.specs.Limits.{MOST_TICKS}
use Rattle.apex_types.specs.Line.{text_of, TakesBeginning}
use Rattle.apex_types.specs.declared.device.DeviceFault.{DeviceFault}
use Rattle.apex_types.specs.declared.device.DeviceLine.{DeviceLine}
use Rattle.machine_meaning.specs.MachineMeaning.{verdict_for, machine_trace}
use Rattle.machine_meaning.specs.ImageReading.{Fault}
use Rattle.machine_meaning.specs.Image.{Image}
use Rattle.image.specs.Named.{named}
use Rattle.image.specs.declared.fault.ImageFault.{ImageFault}
use Rattle.module.specs.declared.fault.RunFault.{RunFault}
use Rattle.module.specs.declared.fault.RunFault.TheVariants.{Ticks, Image as NoImage, Device, Memory, Write}

-- the image that was read, and the lines of the device text, within the ticks that are run
pub record IsRun (read : Result Image Fault) (devices : List ℕ) (n : ℕ) (image : Image) (lines : List DeviceLine) : Type 0 where
  pub loaded : read ≡ Ok image
  pub taken : verdict_for image devices ≡ Ok lines
  pub few : n ≤ MOST_TICKS

-- the bytes are refused with this fault, which is not out of memory
abbrev pub IsNamed : Result Image Fault → Option Fault → Type 0
IsNamed read None = ⊥
IsNamed read (Some f) = read ≡ Err f

-- the device text is refused for the image
abbrev pub IsDeviceRefusal : Result Image Fault → List ℕ → DeviceFault → Type 0
IsDeviceRefusal (Err fault) devices f = ⊥
IsDeviceRefusal (Ok image) devices f = verdict_for image devices ≡ Err f

-- reading the bytes of an image meets this fault first
abbrev pub IsImageRefusal : Result Image Fault → ImageFault → Type 0
IsImageRefusal read f = IsNamed read (named f)

-- What a run of an image has written between two states of its sink: the text of the image's trace
-- of n ticks with the device text's lines; a prefix of that text if the sink failed; nothing if the
-- run is refused.
abbrev pub Runs : Result Image Fault → List ℕ → ℕ → Option (List ℕ) → Option (List ℕ) → Result (Unit {0}) RunFault → Type 0
Runs read devices n old new (Ok _) = (image : Image) × (lines : List DeviceLine) × IsRun read devices n image lines × Appends old new (text_of (machine_trace image lines n))
Runs read devices n old new (Err Write) = (image : Image) × (lines : List DeviceLine) × IsRun read devices n image lines × TakesBeginning old new (text_of (machine_trace image lines n))
Runs read devices n old new (Err Ticks) = (MOST_TICKS < n) × (new ≡ old)
Runs read devices n old new (Err (Device f)) = (n ≤ MOST_TICKS) × IsDeviceRefusal read devices f × (new ≡ old)
Runs read devices n old new (Err (NoImage f)) = (n ≤ MOST_TICKS) × IsImageRefusal read f × (new ≡ old)
Runs read devices n old new (Err Memory) = new ≡ old
Runs read devices n old new (Err _) = ⊥

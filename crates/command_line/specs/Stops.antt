-- Where a run ends that waits for a line.
use Rattle.std.specs.Prelude.{◌≡◌, ◌≤◌, ◌<◌, ◌⊎◌, ℕ, Bool, false, List, Option, Result, Ok, Err}
use Rattle.std.specs.Io.KnownBytes.{Appends}
use Rattle.apex_types.specs.Line.{TakesBeginning}
use Rattle.apex_types.specs.declared.device.DeviceLine.{DeviceLine}
use Rattle.machine_meaning.specs.Image.{Image}
use Rattle.machine_meaning.specs.ImageReading.{Fault}
use Rattle.module.specs.Runs.{IsRun, Runs}
use Rattle.module.specs.Watched.{text_to}
use Rattle.module.specs.declared.fault.RunFault.{RunFault}
use Rattle.module.specs.declared.fault.RunFault.TheVariants.{Memory, Write}
use Rattle.command_line.specs.Awaited.{has_line}

-- Of n ticks, m may be run: no line that is asked for came before the last of them.
pub record MayRun (asked : List (List ℕ)) (image : Image) (lines : List DeviceLine) (n m : ℕ) : Type 0 where
  pub within : m ≤ n
  pub none_before : (k : ℕ) → k < m → has_line asked (text_to image lines k) ≡ false

-- These m ticks are the run: a line that is asked for came in the last of them, or none came and they are all.
pub record IsEnd (asked : List (List ℕ)) (image : Image) (lines : List DeviceLine) (n m : ℕ) (found : Bool) : Type 0 where
  pub run : MayRun asked image lines n m
  pub last : has_line asked (text_to image lines m) ≡ found
  pub all : found ≡ false → m ≡ n

-- A beginning of the text of ticks that may be run was taken, so nothing of a tick after the one with the line.
abbrev pub BreaksOff : List (List ℕ) → Image → List DeviceLine → ℕ → Option (List ℕ) → Option (List ℕ) → Type 0
BreaksOff asked image lines n old new = (m : ℕ) × MayRun asked image lines n m × TakesBeginning old new (text_to image lines m)

-- What such a run of an image has written: the text of its trace up to the end of the run; or a
-- beginning of it, if the sink failed or memory ran out.
abbrev pub EndsImage : List (List ℕ) → Image → List DeviceLine → ℕ → Option (List ℕ) → Option (List ℕ) → Result Bool RunFault → Type 0
EndsImage asked image lines n old new (Ok found) = (m : ℕ) × IsEnd asked image lines n m found × Appends old new (text_to image lines m)
EndsImage asked image lines n old new (Err Write) = BreaksOff asked image lines n old new
EndsImage asked image lines n old new (Err Memory) = BreaksOff asked image lines n old new
EndsImage asked image lines n old new (Err _) = ⊥

-- a run that was begun
abbrev pub IsBegun : Result Image Fault → List ℕ → List (List ℕ) → ℕ → Option (List ℕ) → Option (List ℕ) → Result Bool RunFault → Type 0
IsBegun read devices asked n old new answer =
    (image : Image) × (lines : List DeviceLine) × IsRun read devices n image lines × EndsImage asked image lines n old new answer

-- What a run of an image that waits for a line has written between two states of its sink. It is
-- refused as a run that does not wait is.
abbrev pub RunsUntil : Result Image Fault → List ℕ → List (List ℕ) → ℕ → Option (List ℕ) → Option (List ℕ) → Result Bool RunFault → Type 0
RunsUntil read devices asked n old new (Ok found) = IsBegun read devices asked n old new (Ok found)
RunsUntil read devices asked n old new (Err Write) = IsBegun read devices asked n old new (Err Write)
RunsUntil read devices asked n old new (Err Memory) = (new ≡ old) ⊎ IsBegun read devices asked n old new (Err Memory)
RunsUntil read devices asked n old new (Err fault) = Runs read devices n old new (Err fault)

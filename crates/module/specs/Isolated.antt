-- The promise of isolation for a run: it shows each partition as if it ran alone.
use Rattle.std.specs.Prelude.{◌≡◌, ℕ, List, Option, Some, Result}
use Rattle.std.specs.Io.KnownBytes.{Appends}
use Rattle.apex_types.specs.Line.{text_of}
use Rattle.apex_types.specs.declared.device.DeviceLine.{DeviceLine}
use Rattle.machine_meaning.specs.Image.{Image}
use Rattle.machine_meaning.specs.ImageReading.{Fault}
use Rattle.machine_meaning.specs.MachineMeaning.{machine_trace}
use Rattle.isolation.specs.Brought.{part}
use Rattle.isolation.specs.Slices.{Slice, machine_inputs, slice, slice_trace}
use Rattle.module.specs.Runs.{IsRun}

-- For each partition of an image, the trace shows what the partition shows when it runs alone: from its slice of
-- the image, and from the inputs that these device lines bring it.
abbrev pub AreAlone : Image → List DeviceLine → ℕ → Type 0
AreAlone image lines n =
    (p : ℕ) (s : Slice) → slice image p ≡ Some s → part s.item.partition.name (machine_trace image lines n) ≡ slice_trace s (machine_inputs image p lines n) n

-- The text of this trace was written between two states of a sink, and the trace shows each partition as if it ran alone.
pub record WritesAlone (image : Image) (lines : List DeviceLine) (n : ℕ) (old new : Option (List ℕ)) : Type 0 where
  pub written : Appends old new (text_of (machine_trace image lines n))
  pub alone : AreAlone image lines n

-- An image was read and a device text was taken, and what was written shows each partition as if it ran alone.
abbrev pub IsIsolated : Result Image Fault → List ℕ → ℕ → Option (List ℕ) → Option (List ℕ) → Type 0
IsIsolated read devices n old new = (image : Image) × (lines : List DeviceLine) × IsRun read devices n image lines × WritesAlone image lines n old new

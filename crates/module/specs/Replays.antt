-- The promises of replaying one partition of an image.
use Rattle.std.specs.Prelude.{◌≡◌, ℕ, ◌<◌, ◌≤◌, List, Option, Some, None, Result, Ok, Err}
use Rattle.std.specs.Io.KnownBytes.{Appends}
use Rattle.apex_types.specs.Limits.{MOST_TICKS}
use Rattle.apex_types.specs.Line.{text_of, TakesBeginning}
use Rattle.apex_types.specs.declared.device.DeviceFault.{DeviceFault}
use Rattle.apex_types.specs.declared.device.DeviceLine.{DeviceLine}
use Rattle.machine_meaning.specs.ImageReading.{Fault}
use Rattle.machine_meaning.specs.Image.{Image, Item}
use Rattle.machine_meaning.specs.MachineMeaning.{machine_trace}
use Rattle.isolation.specs.Brought.{part}
use Rattle.isolation.specs.declared.input.InputLine.{InputLine}
use Rattle.isolation.specs.ReplayText.{replay_verdict}
use Rattle.isolation.specs.Replays.{IsReplay, numbered}
use Rattle.isolation.specs.Slices.{Slice, machine_inputs, slice_trace}
use Rattle.module.specs.declared.fault.RunFault.{RunFault}
use Rattle.module.specs.declared.fault.RunFault.TheVariants.{Ticks, Image as NoImage, Partition as NoPartition, Device, Memory, Write, Failed}
use Rattle.module.specs.Runs.{IsImageRefusal, IsRun}

-- the image has no partition of this name
abbrev pub LacksPartition : Result Image Fault → List ℕ → Type 0
LacksPartition (Err fault) name = ⊥
LacksPartition (Ok image) name = numbered image name ≡ None

-- the replay text is refused for the partition of this name
abbrev pub IsInputRefusal : Result Image Fault → List ℕ → List ℕ → DeviceFault → Type 0
IsInputRefusal (Err fault) name inputs f = ⊥
IsInputRefusal (Ok image) name inputs f = (found : ℕ × Item) × (numbered image name ≡ Some found) × (replay_verdict found.1.partition inputs ≡ Err f)

-- What a replay of one partition of an image has written between two states of its sink: the text
-- of the partition's own trace of n ticks, from its slice of the image and the replay text's
-- inputs; a prefix of that text if the sink failed; nothing if the replay is refused.
abbrev pub Replays : Result Image Fault → List ℕ → List ℕ → ℕ → Option (List ℕ) → Option (List ℕ) → Result (Unit {0}) RunFault → Type 0
Replays read name inputs n old new (Ok _) = (s : Slice) × (lines : List InputLine) × IsReplay read name inputs n s lines × Appends old new (text_of (slice_trace s lines n))
Replays read name inputs n old new (Err Write) = (s : Slice) × (lines : List InputLine) × IsReplay read name inputs n s lines × TakesBeginning old new (text_of (slice_trace s lines n))
Replays read name inputs n old new (Err Ticks) = (MOST_TICKS < n) × (new ≡ old)
Replays read name inputs n old new (Err (NoImage f)) = (n ≤ MOST_TICKS) × IsImageRefusal read f × (new ≡ old)
Replays read name inputs n old new (Err NoPartition) = (n ≤ MOST_TICKS) × LacksPartition read name × (new ≡ old)
Replays read name inputs n old new (Err (Device f)) = (n ≤ MOST_TICKS) × IsInputRefusal read name inputs f × (new ≡ old)
Replays read name inputs n old new (Err Memory) = new ≡ old
Replays read name inputs n old new (Err Failed) = ⊥

-- For the inputs that a run of the whole image brings a partition, the text written is the
-- partition's part of that run's trace.
abbrev pub ReplaysPart : Result Image Fault → List ℕ → List ℕ → ℕ → Option (List ℕ) → Option (List ℕ) → Type 0
ReplaysPart read name inputs n old new =
    (image : Image) (found : ℕ × Item) (devices : List ℕ) (lines : List DeviceLine) → IsRun read devices n image lines → numbered image name ≡ Some found
    → replay_verdict found.1.partition inputs ≡ Ok (machine_inputs image found.0 lines n) → Appends old new (text_of (part name (machine_trace image lines n)))

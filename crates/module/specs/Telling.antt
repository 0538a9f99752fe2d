-- The promises of writing the inputs of a partition.
use Rattle.std.specs.Prelude.{◌≡◌, ◌<◌, ◌≤◌, ℕ, List, length, Option, Some, Result, Ok, Err}
use Rattle.std.specs.Io.KnownBytes.{Appends}
use Rattle.apex_types.specs.Limits.{MOST_DEVICE_LINES, MOST_TICKS}
use Rattle.apex_types.specs.Line.{TakesBeginning}
use Rattle.apex_types.specs.declared.device.DeviceFault.{DeviceFault}
use Rattle.apex_types.specs.declared.device.DeviceLine.{DeviceLine}
use Rattle.machine_meaning.specs.MachineMeaning.{verdict_for}
use Rattle.machine_meaning.specs.Image.{Image, Item}
use Rattle.module_meaning.specs.Table.{Partition}
use Rattle.machine_meaning.specs.ImageReading.{Fault}
use Rattle.image.specs.declared.fault.ImageFault.{ImageFault}
use Rattle.image.specs.declared.fault.ImageFault.TheVariants as image_fault
use Rattle.isolation.specs.declared.input.InputLine.{InputLine}
use Rattle.isolation.specs.InputText.{replay_text}
use Rattle.isolation.specs.ReplayText.{replay_verdict}
use Rattle.isolation.specs.Replays.{numbered}
use Rattle.isolation.specs.Slices.{Slice, machine_inputs}
use Rattle.module_base.specs.declared.fault.DeviceTextFault.{DeviceTextFault}
use Rattle.module_base.specs.declared.fault.DeviceTextFault.TheVariants as text_fault
use Rattle.module.specs.Runs.{IsImageRefusal, IsRun}
use Rattle.module.specs.Replays.{LacksPartition}
use Rattle.module.specs.declared.inputs_fault.InputsFault.{InputsFault}
use Rattle.module.specs.declared.inputs_fault.InputsFault.TheVariants.{Ticks, Image as NoImage, Partition as NoPartition, Device, Memory, TooMany, Write}

-- An image was read, it has a partition with this name and this row, and a device text was taken
-- for it; n ticks bring the partition these inputs.
pub record AreRunInputs (read : Result Image Fault) (name devices : List ℕ) (n : ℕ) (row : Partition) (inputs : List InputLine) : Type 0 where
  pub image : Image
  pub lines : List DeviceLine
  pub run : IsRun read devices n image lines
  pub found : ℕ × Item
  pub named : numbered image name ≡ Some found
  pub its_row : row ≡ found.1.partition
  pub brought : inputs ≡ machine_inputs image found.0 lines n

-- The text of the inputs was written; it is accepted as a replay text of the partition with this
-- row, and read as these inputs. If the sink failed, a prefix of it was written; with more than
-- 65,536 inputs, nothing.
abbrev pub AreTold : Partition → List InputLine → Option (List ℕ) → Option (List ℕ) → Result (Unit {0}) InputsFault → Type 0
AreTold row inputs old new (Ok _) = (length inputs ≤ MOST_DEVICE_LINES) × (replay_verdict row (replay_text row inputs) ≡ Ok inputs) × Appends old new (replay_text row inputs)
AreTold row inputs old new (Err Write) = (length inputs ≤ MOST_DEVICE_LINES) × TakesBeginning old new (replay_text row inputs)
AreTold row inputs old new (Err TooMany) = (MOST_DEVICE_LINES < length inputs) × (new ≡ old)
AreTold row inputs old new (Err Memory) = new ≡ old
AreTold row inputs old new (Err _) = ⊥

-- the image has a partition of this name, and the device text is refused for the image
abbrev pub IsDeviceRefusalBeside : Result Image Fault → List ℕ → List ℕ → DeviceFault → Type 0
IsDeviceRefusalBeside (Err fault) name devices f = ⊥
IsDeviceRefusalBeside (Ok image) name devices f = (found : ℕ × Item) × (numbered image name ≡ Some found) × (verdict_for image devices ≡ Err f)

-- What writing the inputs of a partition adds to its sink: the text of the inputs that a run of n
-- ticks brings the partition; nothing if the run is refused.
abbrev pub Tells : Result Image Fault → List ℕ → List ℕ → ℕ → Option (List ℕ) → Option (List ℕ) → Result (Unit {0}) InputsFault → Type 0
Tells read name devices n old new (Ok x) = (row : Partition) × (inputs : List InputLine) × AreRunInputs read name devices n row inputs × AreTold row inputs old new (Ok x)
Tells read name devices n old new (Err Write) = (row : Partition) × (inputs : List InputLine) × AreRunInputs read name devices n row inputs × AreTold row inputs old new (Err Write)
Tells read name devices n old new (Err TooMany) = (row : Partition) × (inputs : List InputLine) × AreRunInputs read name devices n row inputs × AreTold row inputs old new (Err TooMany)
Tells read name devices n old new (Err Ticks) = (MOST_TICKS < n) × (new ≡ old)
Tells read name devices n old new (Err (NoImage f)) = (n ≤ MOST_TICKS) × IsImageRefusal read f × (new ≡ old)
Tells read name devices n old new (Err NoPartition) = (n ≤ MOST_TICKS) × LacksPartition read name × (new ≡ old)
Tells read name devices n old new (Err (Device f)) = (n ≤ MOST_TICKS) × IsDeviceRefusalBeside read name devices f × (new ≡ old)
Tells read name devices n old new (Err Memory) = new ≡ old

-- the same for the partition of a slice, once it is found
abbrev pub TellsSlice : Image → Slice → List ℕ → ℕ → Option (List ℕ) → Option (List ℕ) → Result (Unit {0}) InputsFault → Type 0
TellsSlice image s devices n old new (Err (Device f)) = (verdict_for image devices ≡ Err f) × (new ≡ old)
TellsSlice image s devices n old new (Err Memory) = new ≡ old
TellsSlice image s devices n old new answer = (lines : List DeviceLine) × (verdict_for image devices ≡ Ok lines) × AreTold s.item.partition (machine_inputs image s.number lines n) old new answer

-- ---- faults as those of writing inputs; out of memory is reported as such

abbrev pub fault_of_image : ImageFault → InputsFault
fault_of_image image_fault.Memory = Memory
fault_of_image f = NoImage f

abbrev pub fault_of_text : DeviceTextFault → InputsFault
fault_of_text (text_fault.Line f) = Device f
fault_of_text text_fault.Memory = Memory

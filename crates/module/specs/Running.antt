-- What the steps of running and of replaying promise, and how they report their faults.
use Rattle.std.specs.Prelude.{◌≡◌, ℕ, List, Option, Result, Ok, Err}
use Rattle.std.specs.Io.KnownBytes.{Appends}
use Rattle.apex_types.specs.Line.{text_of, TakesBeginning}
use Rattle.apex_types.specs.declared.device.DeviceFault.{DeviceFault}
use Rattle.apex_types.specs.declared.device.DeviceLine.{DeviceLine}
use Rattle.apex_types.specs.declared.event.Event.{Event}
use Rattle.machine_meaning.specs.ImageReading.{Fault}
use Rattle.machine_meaning.specs.Image.{Image}
use Rattle.isolation.specs.declared.input.InputLine.{InputLine}
use Rattle.isolation.specs.ReplayText.{replay_verdict}
use Rattle.isolation.specs.Slices.{Slice, slice_trace}
use Rattle.module.specs.declared.fault.BuildAndRunFault.{BuildAndRunFault}
use Rattle.module.specs.declared.fault.BuildAndRunFault.TheVariants.{Run}
use Rattle.image.specs.declared.fault.ImageFault.{ImageFault}
use Rattle.image.specs.declared.fault.ImageFault.TheVariants as image_fault
use Rattle.module.specs.declared.fault.RunFault.{RunFault}
use Rattle.module.specs.declared.fault.RunFault.TheVariants.{Image as NoImage, Device, Memory, Write}
use Rattle.module_base.specs.declared.fault.DeviceTextFault.{DeviceTextFault}
use Rattle.module_base.specs.declared.fault.DeviceTextFault.TheVariants as text_fault
use Rattle.module.specs.Runs.{IsImageRefusal}

-- what a replay of one partition's slice has written, once it is found
abbrev pub ReplaysSlice : Slice → List ℕ → ℕ → Option (List ℕ) → Option (List ℕ) → Result (Unit {0}) RunFault → Type 0
ReplaysSlice s inputs n old new (Ok _) = (lines : List InputLine) × (replay_verdict s.item.partition inputs ≡ Ok lines) × Appends old new (text_of (slice_trace s lines n))
ReplaysSlice s inputs n old new (Err Write) = (lines : List InputLine) × (replay_verdict s.item.partition inputs ≡ Ok lines) × TakesBeginning old new (text_of (slice_trace s lines n))
ReplaysSlice s inputs n old new (Err (Device f)) = (replay_verdict s.item.partition inputs ≡ Err f) × (new ≡ old)
ReplaysSlice s inputs n old new (Err Memory) = new ≡ old
ReplaysSlice s inputs n old new (Err _) = ⊥

-- what a run of an image with lines that are taken has written, once it is loaded
abbrev pub RunsImage : List Event → Option (List ℕ) → Option (List ℕ) → Result (Unit {0}) RunFault → Type 0
RunsImage events old new (Ok _) = Appends old new (text_of events)
RunsImage events old new (Err Write) = TakesBeginning old new (text_of events)
RunsImage events old new (Err _) = ⊥

-- why bytes are not run: they are no image
abbrev pub IsRefused : Result Image Fault → RunFault → Type 0
IsRefused read (NoImage f) = IsImageRefusal read f
IsRefused read Memory = Unit {0}
IsRefused _ _ = ⊥

-- a fault of an image as one of its run; out of memory is reported as such
abbrev pub fault_of_image : ImageFault → RunFault
fault_of_image image_fault.Memory = Memory
fault_of_image f = NoImage f

-- a fault of a text as one of its run; out of memory is reported as such
abbrev pub fault_of_text : DeviceTextFault → RunFault
fault_of_text (text_fault.Line f) = Device f
fault_of_text text_fault.Memory = Memory

-- why a device text is not taken for an image
abbrev pub AreRefused : Result (List DeviceLine) DeviceFault → RunFault → Type 0
AreRefused (Err f) (Device g) = f ≡ g
AreRefused read Memory = Unit {0}
AreRefused _ _ = ⊥

-- the result of a run as that of building and running
abbrev pub ran : Result (Unit {0}) RunFault → Result (Unit {0}) BuildAndRunFault
ran (Ok x) = Ok x
ran (Err fault) = Err (Run fault)

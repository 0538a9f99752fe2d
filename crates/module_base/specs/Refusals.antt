-- The reasons for which a device text or a replay text is refused, and the text shown for them.
use Rattle.std.specs.Prelude.{◌≡◌, ℕ, List, ◌++◌, codes, Result, Ok, Err}
use Rattle.std.specs.Fmt.{decimal}
use Rattle.apex_types.specs.declared.device.DeviceFault.{DeviceFault}
use Rattle.apex_types.specs.declared.device.DeviceFault.TheVariants as fault
use Rattle.module_base.specs.declared.fault.DeviceTextFault.{DeviceTextFault}
use Rattle.module_base.specs.declared.fault.DeviceTextFault.TheVariants.{Line, Memory}

abbrev pub fault_number : DeviceFault → ℕ
fault_number fault.Form = 1
fault_number fault.Order = 2
fault_number fault.Name = 3
fault_number fault.Size = 4

abbrev pub refusal_line : DeviceTextFault → List ℕ
refusal_line (Line fault) = codes "device " ++ decimal (fault_number fault)
refusal_line Memory = codes "memory"

-- A refusal is that of the verdict; memory may always run out.
abbrev pub IsRefusal : {A : Type 0} → Result A DeviceFault → DeviceTextFault → Type 0
IsRefusal verdict Memory = Unit {0}
IsRefusal (Ok accepted) (Line f) = ⊥
IsRefusal (Err wanted) (Line f) = wanted ≡ f

-- The rule that a finding breaks.
use Rattle.std.specs.Prelude.{Option, Some, None, Result, Ok, Err, option_map}
use Rattle.apex_types.specs.declared.device.DeviceFault.{DeviceFault}
use Rattle.apex_types.specs.declared.device.DeviceFault.TheVariants as fault
use Rattle.image_findings.specs.What.{What, Wrong, Early, UnknownReceiver, Closed, UnknownPartition, TooManyLines, TooManyWords}

-- the rule that is broken where this is found
abbrev pub rule_of : What → DeviceFault
rule_of (Early tick before) = fault.Order
rule_of (UnknownReceiver text) = fault.Name
rule_of (Closed text) = fault.Name
rule_of (UnknownPartition text) = fault.Name
rule_of TooManyLines = fault.Size
rule_of (TooManyWords words most) = fault.Size
rule_of what = fault.Form

abbrev pub rule_in : Option Wrong → Option DeviceFault
rule_in found = option_map (λ w. rule_of w.what) found

-- why a text is refused, if it is
abbrev pub refusal_of : {A : Type 0} → Result A DeviceFault → Option DeviceFault
refusal_of (Ok accepted) = None
refusal_of (Err f) = Some f

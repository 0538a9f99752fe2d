-- The faults of an image by their names.
use Rattle.std.specs.Prelude.{Option, Some, None}
use Rattle.image.specs.declared.fault.ImageFault.{ImageFault}
use Rattle.image.specs.declared.fault.ImageFault.TheVariants as fault
use Rattle.machine_meaning.specs.ImageReading.{Fault, Truncated, Foreign, Limit, Order, Trailing}

-- the fault of the bytes that is named; none if memory ran out
abbrev pub named : ImageFault → Option Fault
named fault.Truncated = Some Truncated
named fault.Foreign = Some Foreign
named fault.Limit = Some Limit
named fault.Order = Some Order
named fault.Trailing = Some Trailing
named fault.Memory = None

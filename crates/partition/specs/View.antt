-- The view of the state of a partition in the code.
use Rattle.kernel_meaning.specs.Kernel as meaning
use Rattle.window_table.specs.Schedules.{schedule_of}
use Rattle.partition.specs.declared.fixed.Fixed.{Fixed}
use Rattle.partition.specs.declared.kernel.Kernel.TheInside.{Inside}

abbrev pub fixed_of : Fixed → meaning.Fixed
fixed_of f = record { name = f.name; number = f.number.0; period = f.period; duration = f.duration; schedule = schedule_of f.schedule; health = f.health }

abbrev pub kernel_of : Inside → meaning.Kernel
kernel_of k = record { fixed = fixed_of k.fixed; mode = k.mode; condition = k.condition; processes = k.processes; objects = k.objects; ports = k.ports; errors = k.errors }

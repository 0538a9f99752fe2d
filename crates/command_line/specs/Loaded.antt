-- What the code holds of a load, as what is shown of it.
use Rattle.command_line.specs.Loading.{Shown}
use Rattle.command_line.specs.declared.loading.Loaded.{Loaded}

abbrev pub shown_of : Loaded → Shown
shown_of l = record { load = l.load; windows = l.table.schedule.windows.items; bodies = l.bodies.items }

-- The schedule of the code as a schedule of the definitions.
use Rattle.kernel_meaning.specs.Windows.{Schedule}
use Rattle.window_table.specs.declared.schedule.Schedule as code

abbrev pub schedule_of : code.Schedule → Schedule
schedule_of s = record { frame = s.frame; windows = s.windows.items }

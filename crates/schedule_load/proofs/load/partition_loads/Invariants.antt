use Rattle.std.proofs.Common.{◌≡◌, ◌+◌, ◌++◌, map, drop}
use Rattle.window_table.specs.Schedules.{schedule_of}
use Rattle.window_table.specs.Views.{partition_view}
use Rattle.schedule_load.specs.Load.{partition_loads}
use Rattle.schedule_load.proofs.load.partition_loads.Given as goal

abbrev pub invariant-loop-row : goal.invariant-loop-row
invariant-loop-row l = record {
  counted : l.number ≡ l.row-index + 1;
  left : l.loads.items ++ partition_loads (schedule_of l.schedule) l.number (map partition_view (drop l.row-index l.rows)) ≡ partition_loads (schedule_of l.schedule) 1 (map partition_view l.rows);
}

use Rattle.std.proofs.Common.{◌≡◌, ◌+◌, ◌==◌, false, map, drop}
use Rattle.std.specs.List.{list_any}
use Rattle.module_meaning.specs.Table.{falls_short_from}
use Rattle.window_table.specs.Schedules.{schedule_of}
use Rattle.window_table.proofs.durations.has_short_period.Given as goal

abbrev pub invariant-loop-partition : goal.invariant-loop-partition
invariant-loop-partition g l = record {
  counted : l.number ≡ l.partition-index + 1;
  periods : list_any (λ p. p.period == 0) (map g.P.HasRow.row_of (drop l.partition-index l.partitions.rows.now)) ≡ false;
  left : falls_short_from 1 (schedule_of l.schedule) (map g.P.HasRow.row_of l.partitions.rows.now) ≡ falls_short_from l.number (schedule_of l.schedule) (map g.P.HasRow.row_of (drop l.partition-index l.partitions.rows.now));
}

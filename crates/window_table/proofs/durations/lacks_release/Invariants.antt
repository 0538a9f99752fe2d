use Rattle.std.proofs.Common.{◌≡◌, ◌+◌, map, drop}
use Rattle.module_meaning.specs.Table.{lacks_release_from}
use Rattle.window_table.proofs.durations.lacks_release.Given as goal

abbrev pub invariant-loop : goal.invariant-loop
invariant-loop g l = record {
  counted : l.number ≡ l.index + 1;
  left : lacks_release_from 1 l.windows (map g.P.HasRow.row_of l.partitions.rows.now) ≡ lacks_release_from l.number l.windows (map g.P.HasRow.row_of (drop l.index l.partitions.rows.now));
}

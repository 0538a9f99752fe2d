use Rattle.std.proofs.Common.{◌≡◌, ◌%◌, ◌==◌, not, false, map, drop}
use Rattle.std.specs.List.{list_any}
use Rattle.window_table.proofs.durations.has_odd_period.Given as goal

abbrev pub invariant-loop-partition : goal.invariant-loop-partition
invariant-loop-partition g l = record {
  periods : list_any (λ p. p.period == 0) (map g.P.HasRow.row_of (drop l.partition-index l.partitions)) ≡ false;
  left : list_any (λ p. not (l.frame % p.period == 0)) (map g.P.HasRow.row_of l.partitions) ≡ list_any (λ p. not (l.frame % p.period == 0)) (map g.P.HasRow.row_of (drop l.partition-index l.partitions));
}

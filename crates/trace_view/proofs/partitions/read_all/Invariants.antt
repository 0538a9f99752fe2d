use Rattle.std.proofs.Common.{◌≡◌, ◌≤◌, ◌++◌, length, map, take, drop}
use Rattle.trace_view.specs.Partitions.{partition_behind}
use Rattle.trace_view.proofs.partitions.read_all.Given as goal

abbrev pub invariant-loop-row : goal.invariant-loop-row
invariant-loop-row l =
    (l.row-index ≤ length l.row-items)
    × (take l.row-index l.row-items ++ map (partition_behind l.window l.told l.event) (drop l.row-index l.row-items) ≡ map (partition_behind l.window l.told l.event) l.fn.rows.items)

use Rattle.std.proofs.Common.{◌≡◌, drop}
use Rattle.trace_view.specs.Partitions.{has_row}
use Rattle.trace_view.proofs.partitions.has_row.Given as goal

abbrev pub invariant-loop-row : goal.invariant-loop-row
invariant-loop-row l = has_row l.name (drop l.row-index l.rows) ≡ has_row l.name l.rows

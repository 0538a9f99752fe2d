use Rattle.std.proofs.Common.{◌≡◌, ◌≤◌, ◌++◌, length, map, take, drop}
use Rattle.kernel_meaning.specs.PartitionServices.{forgotten}
use Rattle.process_table_base.proofs.records.forget_all.Given as goal

abbrev pub invariant-loop-row : goal.invariant-loop-row
invariant-loop-row l = (l.row-index ≤ length l.row-items) × (take l.row-index l.row-items ++ map forgotten (drop l.row-index l.row-items) ≡ map forgotten l.fn.rows.items)

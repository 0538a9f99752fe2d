use Rattle.std.proofs.Common.{◌≡◌, length}
use Rattle.trace_view.proofs.Known.{AreUnderWay}
use Rattle.trace_view.proofs.processes.read_all.Given as goal

-- the rows before the current row have read
abbrev pub invariant-loop-row : goal.invariant-loop-row
invariant-loop-row l = (length l.row-items ≡ length l.fn.rows.items) × AreUnderWay l.window l.event l.row-index l.fn.rows.items l.row-items

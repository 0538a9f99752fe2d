use Rattle.kernel_meaning.specs.Times as meaning
use Rattle.process_table_base.proofs.Treating.{IsUnderWay}
use Rattle.process_table_base.proofs.table.ProcessTable.due.Given as goal

abbrev pub invariant-loop-process : goal.invariant-loop-process
invariant-loop-process l = IsUnderWay l.moment.at l.action l.left l.free l.self l.out l.fn.out (meaning.due l.moment.at l.fn.free l.action l.fn.self)

abbrev pub decreases-loop-process : goal.decreases-loop-process
decreases-loop-process l = l.left

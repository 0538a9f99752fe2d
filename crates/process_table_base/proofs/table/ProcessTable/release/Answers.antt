use Rattle.std.proofs.Common.{sym, subst}
use Rattle.kernel_meaning.specs.Processes.{Processes}
use Rattle.kernel_laws.specs.WaitingOrder.{AreQueues}
use Rattle.process_table_base.proofs.Released.{release_keeps}
use Rattle.process_table_base.proofs.table.ProcessTable.release.Goals as goal

pub returns-clause-order : goal.returns-clause-order
returns-clause-order c = λ disciplines number next h.
    subst (λ (s : Processes). AreQueues disciplines number next s.queues) (sym c.release_as.ensures.step.0) (release_keeps disciplines number next c.args.self.now c.args.found.now.runner c.args.found.now.row c.args.code h)

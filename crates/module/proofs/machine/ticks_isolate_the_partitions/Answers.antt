use Rattle.module.proofs.Isolated.{calls_isolated}
use Rattle.module.proofs.machine.ticks_isolate_the_partitions.Goals as goal

-- src/machine.rt:128:1
pub returns : goal.returns
returns c = calls_isolated

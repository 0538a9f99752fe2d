use Rattle.kernel_laws.proofs.Running.{running_burst}
use Rattle.kernel_laws.proofs.bursts.ticks_are_a_burst_of_the_running_one.Goals as goal

-- src/lib.rt:23:1
pub returns : goal.returns
returns c = λ e origin p n m t w runs chosen due. running_burst e origin p n m t w runs chosen due

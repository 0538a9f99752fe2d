use Rattle.kernel_laws.proofs.Quiet.{jump}
use Rattle.kernel_laws.proofs.bursts.still_ticks_are_one_jump.Goals as goal

-- src/lib.rt:18:1
pub returns : goal.returns
returns c = λ plan devices origin from limit members still. jump plan devices origin from limit members still

use Rattle.module.proofs.Prelude.{map, machine_of}
use Rattle.module.specs.Stating.{number_in}
use Rattle.module.proofs.Awaited.{IsAwaited}
use Rattle.module.proofs.first.pass_to_first.Given as goal

abbrev pub invariant-loop-left : goal.invariant-loop-left
invariant-loop-left l = IsAwaited (map (λ a. a.now) l.wait.words.now) (number_in l.only) (machine_of l.fn.machine).image l.devices l.lines l.wait.ticks l.left (machine_of l.machine) l.found

abbrev pub decreases-loop-left : goal.decreases-loop-left
decreases-loop-left l = l.left

use Rattle.std.proofs.Common.{◌≡◌, ◌-◌}
use Rattle.module.specs.Machines.{machine_of}
use Rattle.module.specs.Written.{AreFrom}
use Rattle.library_tests.proofs.steps.drive.Given as goal

abbrev pub invariant-loop-lines : goal.invariant-loop-lines
invariant-loop-lines g l = record {
  order : AreFrom (machine_of l.machine).standing.now l.lines;
  quiet : g.S.Sink.failures l.sink ≡ 0;
}

abbrev pub decreases-loop-lines : goal.decreases-loop-lines
decreases-loop-lines g l = l.fn.ticks - (machine_of l.machine).standing.now

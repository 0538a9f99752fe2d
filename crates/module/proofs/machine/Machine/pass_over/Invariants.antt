use Rattle.module.proofs.Prelude.{◌≡◌, ◌+◌, ◌-◌, false, AreFrom, machine_module, machine_of, elapse}
use Rattle.module.proofs.machine.Machine.pass_over.Given as goal

abbrev pub invariant-loop-left : goal.invariant-loop-left
invariant-loop-left l = record {
  image : (machine_of l.self).image ≡ (machine_of l.fn.self).image;
  failed : (machine_of l.self).failed ≡ false;
  order : AreFrom (machine_of l.self).standing.now l.lines;
  count : (machine_of l.self).standing.now + l.left ≡ (machine_of l.fn.self).standing.now + l.ticks;
  state : (elapse (machine_module (machine_of l.fn.self).image).plan l.lines l.left (machine_of l.self).standing).state
      ≡ (elapse (machine_module (machine_of l.fn.self).image).plan l.devices l.ticks (machine_of l.fn.self).standing).state;
}

abbrev pub decreases-loop-left : goal.decreases-loop-left
decreases-loop-left l = l.left

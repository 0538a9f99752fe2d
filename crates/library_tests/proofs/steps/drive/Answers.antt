use Rattle.std.proofs.Common.{rules, ◌≡◌, ◌+◌, sym, ap, subst, ◌∙◌, arith}
use Rattle.module.specs.Machines.{Machine, machine_of}
use Rattle.module.specs.Written.{AreFrom}
use Rattle.library_tests.proofs.steps.drive.Goals as goal

pub loop-lines-init : goal.loop-lines-init
loop-lines-init g c =
    let first : (machine_of c.in_ok-machine.machine).standing.now ≡ 0 = ap (λ (m : Machine). m.standing.now) c.in_ok-machine.ensures in
    record {
      order = subst (λ t. AreFrom t c.as_slice-lines.result.now) (sym first) (subst (AreFrom 0) (sym c.as_slice-lines.ensures.value) c.in_ok-devices.ensures.order);
      quiet = search rules;
    }

pub split_tick-requires : goal.split_tick-requires
split_tick-requires g c = record { order = subst (λ t. AreFrom t c.loop-lines.lines.now) (sym c.now-in-loop-lines.ensures) c.loop-lines.invariant.order }

pub tick-requires-clause-failures : goal.tick-requires-clause-failures
tick-requires-clause-failures g c = omega (arith, c.loop-lines.invariant.quiet)

pub loop-lines-smaller : goal.loop-lines-smaller
loop-lines-smaller g c =
    let after : (machine_of c.tick.new.self).standing.now ≡ (machine_of c.loop-lines.machine).standing.now + 1 = ap (λ s. s.now) c.in_ok-tick.ensures.2.standing in
    omega (arith, after, c.loop-lines-test.true, c.now.ensures)

pub loop-lines-preserved : goal.loop-lines-preserved
loop-lines-preserved g c =
    let gone = c.in_ok-tick.ensures.2 in
    let after : (machine_of c.tick.new.self).standing.now ≡ (machine_of c.loop-lines.machine).standing.now + 1 = ap (λ s. s.now) gone.standing in
    record {
      order = subst (λ t. AreFrom t c.split_tick.result.1.now) (ap (λ n. n + 1) c.now-in-loop-lines.ensures ∙ sym after) c.split_tick.ensures.later;
      quiet = gone.quiet ∙ c.loop-lines.invariant.quiet;
    }

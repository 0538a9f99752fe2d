use Rattle.module.proofs.Prelude.{rules, ◌≡◌, ◌+◌, ◌-◌, None, suc, refl, sym, ap, ◌∙◌, arith, of_tick, machine_module, machine_of, AreFrom}
use Rattle.std.proofs.Common.{subst}
use Rattle.module.proofs.Elapsed.{runs_on, stays_down, ticks_on}
use Rattle.module.proofs.Machines.{only_write}
use Rattle.module.proofs.Runs.{only_broken}
use Rattle.module.proofs.machine.Machine.pass_over.Goals as goal

pub loop-left-init : goal.loop-left-init
loop-left-init c = record { image = refl; failed = c.requires.sound; order = c.requires.order; count = refl; state = refl }

pub returns-in_err-count-clause-made : goal.returns-in_err-count-clause-made
returns-in_err-count-clause-made c =
    let broken = only_broken c.loop-left.lines.now c.at_most.result (machine_of c.loop-left.self) (machine_of c.advance.new.self) _ _ _ _ c.in_err-count.field-0.0 c.in_err-count.ensures.run in
    let once = broken.1.failed in
    absurd (omega (arith, once))

pub returns-in_err-tick-clause-made : goal.returns-in_err-tick-clause-made
returns-in_err-tick-clause-made c =
    let i = c.loop-left.invariant in
    let h = c.in_ok-count.ensures.run in
    let none : c.in_ok-count.count ≡ 0 = omega (arith, c.if-count-gt0.false) in
    let failed = only_write c.in_err-tick.field-0.0 h.1 (omega (arith, c.requires.ticks, i.count, h.3, none, c.loop-left-test.true)) c.in_err-tick.ensures in
    let once = failed.1.once in
    absurd (omega (arith, once))

pub loop-left-preserved : goal.loop-left-preserved
loop-left-preserved c =
    let i = c.loop-left.invariant in
    let image = (machine_of c.args.self.now).image in
    let n = c.in_ok-count.count in
    let h = c.in_ok-count.ensures.run in
    let m = machine_of c.advance.new.self in
    let next = machine_of c.tick.new.self in
    let lines = c.loop-left.lines.now in
    let later = c.split_tick.result.1.now in
    let left = c.loop-left.left in
    let none : n ≡ 0 = omega (arith, c.if-count-gt0.false) in
    let same : left ≡ n + left = omega (arith, none) in
    let one : left ≡ suc (left - 1) = omega (arith, c.loop-left-test.true) in
    let now = c.now.ensures in
    let own = c.split_tick.ensures in
    let gone = c.in_ok-tick.ensures.2 in
    let after : next.standing.now ≡ m.standing.now + 1 = ap (λ s. s.now) gone.standing in
    record {
      image = gone.image ∙ h.0 ∙ i.image;
      failed = gone.failed;
      order = subst (λ u. AreFrom u later) (ap (λ n. n + 1) now ∙ sym after) own.later;
      count = omega (arith, after, i.count, h.3, none, c.loop-left-test.true);
      state = sym (ticks_on image m next lines c.split_tick.result.0.now later left (left - 1) one (h.0 ∙ i.image)
          (subst (λ t. of_tick t c.split_tick.result.0.now ≡ of_tick t lines) now (own.of_tick ∙ own.own))
          (λ u k. own.rest u (omega (arith, k, now)))
          gone)
          ∙ sym (runs_on image (machine_of c.loop-left.self) m lines left n left same i.image h.4) ∙ i.state;
    }

pub loop-left-preserved-then-count-gt0 : goal.loop-left-preserved-then-count-gt0
loop-left-preserved-then-count-gt0 c =
    let i = c.loop-left.invariant in
    let image = (machine_of c.args.self.now).image in
    let n = c.in_ok-count.count in
    let h = c.in_ok-count.ensures.run in
    let next = machine_of c.advance.new.self in
    let lines = c.loop-left.lines.now in
    let left = c.loop-left.left in
    let rest = left - c.from-left.result in
    let same : left ≡ n + rest = omega (arith, h.2, c.at_most.ensures.ticks, c.from-left.ensures) in
    record {
      image = h.0 ∙ i.image;
      failed = h.1;
      order = c.in_ok-count.ensures.order;
      count = omega (arith, i.count, h.3, same);
      state = sym (runs_on image (machine_of c.loop-left.self) next lines left n rest same i.image h.4) ∙ i.state;
    }

pub returns-in_default-clause-state : goal.returns-in_default-clause-state
returns-in_default-clause-state c =
    let m = machine_of c.loop-left.self in
    let i = c.loop-left.invariant in
    let plan = (machine_module (machine_of c.args.self.now).image).plan in
    let down : m.standing.origin ≡ None = search rules in
    c.stay_down.ensures.standing ∙ sym (stays_down plan c.loop-left.lines.now c.loop-left.left m.standing.now m.standing.members m.standing.origin down) ∙ i.state

use Rattle.module.proofs.Prelude.{rules, ◌≡◌, ◌≤◌, ◌<◌, ◌+◌, ◌-◌, Bool, suc, true, false, refl, sym, ap, ◌∙◌, arith, map, machine_of, AreFrom}
use Rattle.std.proofs.Common.{subst}
use Rattle.module.specs.Stating.{number_in}
use Rattle.module.proofs.Awaited.{IsAwaited, awaited_first, awaited_passed, awaited_skipped, awaited_still, ends_awaited, ends_down, ends_found}
use Rattle.module.proofs.Spaced.{from_first}
use Rattle.module.proofs.first.pass_to_first.Goals as goal

pub loop-left-init : goal.loop-left-init
loop-left-init c = awaited_first c.args.wait.ticks (machine_of c.args.machine.now) c.in_ok-found.found c.requires.fresh c.requires.order c.in_ok-found.ensures

pub loop-left-preserved-then-count-gt0 : goal.loop-left-preserved-then-count-gt0
loop-left-preserved-then-count-gt0 c =
    let m = machine_of c.loop-left.machine in
    let next = machine_of c.skip-count.new.self in
    let count = c.skip-count.result in
    let most = c.until_line-quiet.result in
    let lines = c.loop-left.lines.now in
    let left = c.loop-left.left in
    let rest = left - c.from-left.result in
    let none : c.loop-left.found ≡ false = c.if-not-found.true in
    let i = subst (λ (found : Bool). IsAwaited (map (λ a. a.now) c.args.wait.words.now) (number_in c.args.only) (machine_of c.args.machine.now).image c.args.devices.now lines c.args.wait.ticks left m found) none c.loop-left.invariant in
    let ahead = subst (λ t. AreFrom (t + most) lines) c.now.ensures c.until_line-quiet.ensures.from in
    let split : left ≡ count + rest = omega (arith, c.skip-count.ensures.skipped.2.0, c.until_line-quiet.ensures.within, c.at_most.ensures.ticks, c.from-left.ensures) in
    subst (λ (found : Bool). IsAwaited (map (λ a. a.now) c.args.wait.words.now) (number_in c.args.only) (machine_of c.args.machine.now).image c.args.devices.now lines c.args.wait.ticks rest next found) (sym none)
    (awaited_skipped next most count rest i ahead c.skip-count.ensures.skipped c.skip-count.ensures.quiet split)

pub loop-left-preserved : goal.loop-left-preserved
loop-left-preserved c =
    let m = machine_of c.loop-left.machine in
    let still = machine_of c.skip-count.new.self in
    let next = machine_of c.pass_over.new.self in
    let count = c.skip-count.result in
    let most = c.until_line-quiet.result in
    let lines = c.loop-left.lines.now in
    let left = c.loop-left.left in
    let none : c.loop-left.found ≡ false = c.if-not-found.true in
    let i = subst (λ (found : Bool). IsAwaited (map (λ a. a.now) c.args.wait.words.now) (number_in c.args.only) (machine_of c.args.machine.now).image c.args.devices.now lines c.args.wait.ticks left m found) none c.loop-left.invariant in
    let ahead = subst (λ t. AreFrom (t + most) lines) c.now.ensures c.until_line-quiet.ensures.from in
    let stays = awaited_still still most count i ahead c.skip-count.ensures.skipped c.skip-count.ensures.quiet (omega (arith, c.if-count-gt0.false)) in
    let one : left ≡ suc (left - 1) = omega (arith, c.loop-left-test.true) in
    let now = c.now-in-loop-left.ensures in
    awaited_passed next c.from_tick-lines.result.now (left - 1) c.in_ok-found-2.found stays c.in_ok-pass_over.ensures.image c.in_ok-pass_over.ensures.sound c.in_ok-pass_over.ensures.state
    (subst (λ t. AreFrom t c.from_tick-lines.result.now) now c.from_tick-lines.ensures.order)
    (λ u above. c.from_tick-lines.ensures.kept u (subst (λ t. t ≤ u) (sym now) above))
    c.in_ok-found-2.ensures one

pub from_tick-lines-requires : goal.from_tick-lines-requires
from_tick-lines-requires c = from_first _ c.loop-left.lines.now c.loop-left.invariant.order

pub returns-else-not-is_shut_down-clause-first : goal.returns-else-not-is_shut_down-clause-first
returns-else-not-is_shut_down-clause-first c = ends_down c.loop-left.found c.loop-left.invariant (sym c.is_shut_down.ensures ∙ c.if-not-is_shut_down.false)

use Rattle.module.proofs.Prelude.{◌≡◌, ◌≤◌, ◌<◌, ◌+◌, Some, ap, sym, ◌∙◌, arith, rules, Ticks, next_at, BringsNothing, HasSkippedSome, Standing, moment_of, ticks_in, plan_of, standing_of, AreFrom}
use Rattle.std.proofs.Common.{subst}
use Rattle.module.proofs.Bursts.{quiet_at_once, quiet_ticks, skip_ticks}
use Rattle.module.proofs.Standing.{moment_now, moment_origin}
use Rattle.module.proofs.Unbrought.{skipped_bring_nothing}
use Rattle.module.proofs.member.Module.skip_still.Goals as goal

pub returns-then-idle-gt0-clause-skipped : goal.returns-then-idle-gt0-clause-skipped
returns-then-idle-gt0-clause-skipped g c =
    let e = g.E.Executor in
    let s = standing_of e c.args.self.now in
    let plan = plan_of c.args.self.now.image in
    let at = c.in-Some.moment.at in
    let n = c.still_ticks-idle.result in
    let ahead : 0 < n = omega (arith, c.if-idle-gt0.true) in
    let some : c.moment.result ≡ Some c.in-Some.moment = search rules in
    let is : Some at ≡ moment_of c.args.self.now.now c.args.self.now.origin = ap next_at (sym some) ∙ c.moment.ensures in
    let here : at.now.0 ≡ s.now = ap (λ (t : Ticks). t.0) (moment_now c.args.self.now.now c.args.self.now.origin at is) in
    let from : s.origin ≡ Some at.origin.0 = ap ticks_in (moment_origin c.args.self.now.now c.args.self.now.origin at is) in
    let few : n ≤ c.args.most = omega (arith, c.still_ticks-idle.ensures.within, c.at_most-within.ensures.within) in
    subst (λ (next : Standing e.Control). HasSkippedSome plan c.args.most s next n) (sym c.skip.ensures.standing)
    (skip_ticks plan c.args.most n at.now.0 at.origin.0 s here from few (omega (arith, here)) (c.still_ticks-idle.ensures.still ahead))

pub returns-then-idle-gt0-clause-unbrought : goal.returns-then-idle-gt0-clause-unbrought
returns-then-idle-gt0-clause-unbrought g c = λ p lines order.
    let e = g.E.Executor in
    let s = standing_of e c.args.self.now in
    let plan = plan_of c.args.self.now.image in
    let at = c.in-Some.moment.at in
    let n = c.still_ticks-idle.result in
    let ahead : 0 < n = omega (arith, c.if-idle-gt0.true) in
    let some : c.moment.result ≡ Some c.in-Some.moment = search rules in
    let is : Some at ≡ moment_of c.args.self.now.now c.args.self.now.origin = ap next_at (sym some) ∙ c.moment.ensures in
    let here : at.now.0 ≡ s.now = ap (λ (t : Ticks). t.0) (moment_now c.args.self.now.now c.args.self.now.origin at is) in
    let from : s.origin ≡ Some at.origin.0 = ap ticks_in (moment_origin c.args.self.now.now c.args.self.now.origin at is) in
    let later : (standing_of e c.skip.new.self).now ≡ at.now.0 + n = ap (λ (x : Standing e.Control). x.now) c.skip.ensures.standing ∙ ap (λ t. t + n) (sym here) in
    subst (λ (next : Standing e.Control). BringsNothing plan p lines n s next) (sym c.skip.ensures.standing)
    (skipped_bring_nothing plan p lines n at.now.0 at.origin.0 s here from (omega (arith, here)) (subst (λ u. AreFrom u lines) later order) (c.still_ticks-idle.ensures.still ahead))

pub returns-then-idle-gt0-clause-quiet : goal.returns-then-idle-gt0-clause-quiet
returns-then-idle-gt0-clause-quiet g c =
    let e = g.E.Executor in
    let s = standing_of e c.args.self.now in
    let at = c.in-Some.moment.at in
    let n = c.still_ticks-idle.result in
    let ahead : 0 < n = omega (arith, c.if-idle-gt0.true) in
    let some : c.moment.result ≡ Some c.in-Some.moment = search rules in
    let is : Some at ≡ moment_of c.args.self.now.now c.args.self.now.origin = ap next_at (sym some) ∙ c.moment.ensures in
    let here : at.now.0 ≡ s.now = ap (λ (t : Ticks). t.0) (moment_now c.args.self.now.now c.args.self.now.origin at is) in
    let from : s.origin ≡ Some at.origin.0 = ap ticks_in (moment_origin c.args.self.now.now c.args.self.now.origin at is) in
    quiet_ticks (plan_of c.args.self.now.image) n at.now.0 at.origin.0 s here from (omega (arith, here)) (c.still_ticks-idle.ensures.still ahead)

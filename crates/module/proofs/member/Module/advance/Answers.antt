use Rattle.module.proofs.Prelude.{◌≡◌, ◌≤◌, ◌<◌, ◌+◌, Some, refl, ap, sym, ◌∙◌, arith, rules, Ticks, next_at, sent_of, HasPassedSome, Standing, moment_of, ticks_in, plan_of, standing_of, AreFrom}
use Rattle.std.proofs.Common.{subst}
use Rattle.module.proofs.Bursts.{from_lower, run_fewer, run_still, still_ahead}
use Rattle.module.proofs.Standing.{moment_now, moment_origin}
use Rattle.module.proofs.member.Module.advance.Goals as goal

pub returns-then-still-gt0-clause-order : goal.returns-then-still-gt0-clause-order
returns-then-still-gt0-clause-order g c =
    let t = c.args.self.now.now.0 in
    let lines = c.args.lines.now in
    let later : (standing_of g.E.Executor c.skip.new.self).now ≡ t + c.still_ticks-still.result = ap (λ (s : Standing g.E.Executor.Control). s.now) c.skip.ensures.standing in
    subst (λ u. AreFrom u lines) (sym later)
    (from_lower (t + c.still_ticks-still.result) (t + c.until_line-quiet.result) lines (omega (arith, c.still_ticks-still.ensures.within)) c.until_line-quiet.ensures.from)

pub returns-then-still-gt0-clause-run : goal.returns-then-still-gt0-clause-run
returns-then-still-gt0-clause-run g c =
    let e = g.E.Executor in
    let s = standing_of e c.args.self.now in
    let plan = plan_of c.args.self.now.image in
    let lines = c.args.lines.now in
    let at = c.in-Some.moment.at in
    let n = c.still_ticks-still.result in
    let ahead : 0 < n = omega (arith, c.if-still-gt0.true) in
    let some : c.moment.result ≡ Some c.in-Some.moment = search rules in
    let is : Some at ≡ moment_of c.args.self.now.now c.args.self.now.origin = ap next_at (sym some) ∙ c.moment.ensures in
    let here : at.now.0 ≡ s.now = ap (λ (t : Ticks). t.0) (moment_now c.args.self.now.now c.args.self.now.origin at is) in
    let from : s.origin ≡ Some at.origin.0 = ap ticks_in (moment_origin c.args.self.now.now c.args.self.now.origin at is) in
    let sent = sent_of g.S.Sink c.args.output.now in
    let few : n ≤ c.args.most = omega (arith, c.still_ticks-still.ensures.within, c.until_line-quiet.ensures.within) in
    run_fewer sent sent plan lines n c.args.most n s (standing_of e c.skip.new.self) few
    (subst (λ (next : Standing e.Control). HasPassedSome plan lines n s next sent sent n) (sym c.skip.ensures.standing)
    (run_still plan lines n at.now.0 at.origin.0 s sent here from (omega (arith, here))
    (subst (λ u. AreFrom (u + n) lines) (sym here) (from_lower (s.now + n) (s.now + c.until_line-quiet.result) lines (omega (arith, c.still_ticks-still.ensures.within)) c.until_line-quiet.ensures.from))
    (c.still_ticks-still.ensures.still ahead)))

pub returns-clause-order : goal.returns-clause-order
returns-clause-order g c =
    let s = standing_of g.E.Executor c.args.self.now in
    let lines = c.args.lines.now in
    let from = c.until_line-quiet.ensures.from in
    still_ahead _ _ (plan_of c.args.self.now.image) lines c.until_line-quiet.result s.now c.advance_window.result s (standing_of g.E.Executor c.advance_window.new.self) refl from (c.advance_window.ensures.run lines from)

pub returns-clause-run : goal.returns-clause-run
returns-clause-run g c =
    let s = standing_of g.E.Executor c.args.self.now in
    let lines = c.args.lines.now in
    run_fewer _ _ (plan_of c.args.self.now.image) lines c.until_line-quiet.result c.args.most c.advance_window.result s (standing_of g.E.Executor c.advance_window.new.self) c.until_line-quiet.ensures.within (c.advance_window.ensures.run lines c.until_line-quiet.ensures.from)

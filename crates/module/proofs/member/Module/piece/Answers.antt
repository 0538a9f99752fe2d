use Rattle.module.proofs.Prelude.{◌≡◌, ◌<◌, length, Some, refl, ap, sym, arith, sent_of, HasPassedSomeBehind, Standing, ticks_in, members_in, plan_of, standing_of}
use Rattle.std.proofs.Common.{subst}
use Rattle.module.proofs.Edges.{run_piece}
use Rattle.module.proofs.Members.{members_count}
use Rattle.module.proofs.member.Module.piece.Goals as goal

pub returns-clause-run : goal.returns-clause-run
returns-clause-run g c = λ lines order.
    let e = g.E.Executor in
    let its = c.args.self.now.members in
    let s = standing_of e c.args.self.now in
    let plan = plan_of c.args.self.now.image in
    let n = c.advance_at-count.result in
    let made = c.advance_at-count.ensures in
    let from : s.origin ≡ Some c.args.origin.0 = ap ticks_in c.requires.origin in
    let all : length s.members ≡ length its.partitions.items = members_count e its.partitions.items its.memory its.fit in
    let there : c.args.place < length s.members = omega (arith, all, c.requires.there) in
    subst (λ (next : Standing e.Control). HasPassedSomeBehind plan lines c.args.most s next (sent_of g.S.Sink c.args.output.now) (sent_of g.S.Sink c.advance_at-count.new.output) n) (sym c.skip.ensures.standing)
    (run_piece plan lines c.args.most n c.args.origin.0 c.args.place s (members_in e c.advance_at-count.new.self) _ refl there from (made.some c.requires.some) made.within order c.requires.owner c.requires.ended made.written)

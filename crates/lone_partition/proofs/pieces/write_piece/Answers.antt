use Rattle.lone_partition.proofs.Prelude.{rules, ◌≡◌, ◌≤◌, ◌<◌, ◌-◌, subst, arith, goes, member_of, sent_of, ticks_by, IsMade}
use Rattle.lone_partition.proofs.Ticks.{fewer_left}
use Rattle.lone_partition.proofs.pieces.write_piece.Goals as goal

pub loop-left-init : goal.loop-left-init
loop-left-init g c =
    let at = c.args.moment.at in
    let most = c.args.most in
    let n = c.write_advance.result in
    let within : n ≤ most = c.write_advance.ensures.within in
    let made : n ≡ most - (most - n) = omega (arith, within) in
    let x = member_of g.E.Executor c.args.partition.now c.args.mem.now in
    let y = member_of g.E.Executor c.write_advance.new.partition c.write_advance.new.mem in
    record {
      few = omega arith;
      some = λ some. let one : 0 < n = c.write_advance.ensures.some some in omega (arith, one, some);
      fits = search rules;
      made = subst (λ m. IsMade (goes (ticks_by m at) x) y (sent_of g.S.Sink c.args.output.now) (sent_of g.S.Sink c.write_advance.new.output)) made c.write_advance.ensures.written;
    }

pub loop-left-preserved : goal.loop-left-preserved
loop-left-preserved g c =
    let i = c.loop-left.invariant in
    let few : c.loop-left.left ≤ c.args.most = i.few in
    let x = member_of g.E.Executor c.args.partition.now c.args.mem.now in
    let y = member_of g.E.Executor c.loop-left.partition c.loop-left.mem in
    let z = member_of g.E.Executor c.write_advance-left.new.partition c.write_advance-left.new.mem in
    record {
      few = omega (arith, few);
      some = λ some. let less : c.loop-left.left < c.args.most = i.some some in omega (arith, less);
      fits = search rules;
      made = fewer_left c.args.most c.loop-left.left c.write_advance-left.result c.args.moment.at c.later-now.result.at x y z _ _ _ few c.write_advance-left.ensures.within c.later-now.ensures i.made c.write_advance-left.ensures.written;
    }

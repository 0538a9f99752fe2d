use Rattle.std.proofs.Common.{◌+◌, ◌∙◌, drop, ap, sym}
use Rattle.partition.specs.Members.{acts_all, member_at}
use Rattle.partition.proofs.Places.{acted_next}
use Rattle.partition.proofs.acting.act_all.Goals as goal

pub loop-place-preserved : goal.loop-place-preserved
loop-place-preserved g c =
    let actions = c.args.out.now.actions in
    let i = c.loop-place.place in
    record {
      fits = c.act.ensures.fits;
      member = ap (acts_all (drop (i + 1) actions)) c.act.ensures.member ∙ (sym (acted_next actions i (member_at g.E.Executor c.loop-place.kernel c.loop-place.executor c.loop-place.mem)) ∙ c.loop-place.invariant.member);
    }

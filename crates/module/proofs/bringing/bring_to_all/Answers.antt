use Rattle.module.proofs.Prelude.{◌+◌, ◌∷◌, ◌∙◌, drop, get_or, ap, drop_more, Device, brought_to}
use Rattle.std.proofs.Common.{[]}
use Rattle.module.proofs.Collecting.{goes_on, one_end}
use Rattle.module.proofs.bringing.bring_to_all.Goals as goal

pub loop-end-preserved : goal.loop-end-preserved
loop-end-preserved c =
    let ends = c.args.ends.now in
    let p = c.args.watched.0 in
    let m = c.args.message.now in
    let i = c.loop-end.end-index in
    let end = get_or ends i Device in
    let rest = drop (i + 1) ends in
    goes_on (brought_to p m (end ∷ [])) (brought_to p m rest) (ap (brought_to p m) (drop_more ends i Device c.loop-end-test.true) ∙ one_end p m end rest) c.loop-end.invariant c.in_ok-bring_to.ensures

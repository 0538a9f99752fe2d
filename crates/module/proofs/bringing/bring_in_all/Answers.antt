use Rattle.module.proofs.Prelude.{◌≡◌, ◌+◌, ◌∷◌, ◌∙◌, List, drop, ap, sym, drop_more, DeviceLine, brought_in, brought_in_all, plan_of}
use Rattle.module.proofs.Collecting.{goes_on, one_line}
use Rattle.module.proofs.bringing.bring_in_all.Goals as goal

pub loop-line-preserved : goal.loop-line-preserved
loop-line-preserved c =
    let plan = plan_of c.args.plan.now in
    let lines = c.args.lines.now in
    let p = c.args.watched.0 in
    let i = c.loop-line.line-index in
    let line = c.line-item.result in
    let rest = drop (i + 1) lines in
    let next = drop_more lines i line c.loop-line-test.true ∙ ap (λ (l : DeviceLine). l ∷ rest) (sym c.line-item.is) in
    let stays = sym c.shuts_down.ensures ∙ c.if-shuts_down.false in
    goes_on (brought_in plan p line.input) (brought_in_all plan p rest) (ap (brought_in_all plan p) next ∙ one_line plan p line rest stays) c.loop-line.invariant c.in_ok-bring_in.ensures

use Rattle.module.proofs.Prelude.{◌≡◌, ◌+◌, ◌∷◌, ◌∙◌, List, Some, drop, sym, ap, rules, drop_more, DeviceLine, inputs_all, next_at, members_in, plan_of}
use Rattle.module.proofs.Shutdown.{lines_end_down}
use Rattle.lone_partition.proofs.Written.{runs_on}
use Rattle.module.proofs.member.Members.input_all.Goals as goal

pub loop-line-preserved : goal.loop-line-preserved
loop-line-preserved g c =
    let plan = plan_of c.args.plan.now in
    let lines = c.args.lines.now in
    let i = c.loop-line.line-index in
    let line = c.line-item.result in
    let now = members_in g.E.Executor c.loop-line.self in
    let next = drop_more lines i line c.loop-line-test.true ∙ ap (λ (l : DeviceLine). l ∷ drop (i + 1) lines) (sym c.line-item.is) in
    let split = ap (λ (ls : List DeviceLine). inputs_all plan c.loop-line.last.at ls now) next in
    let ran = c.input.ensures in
    let some : c.input.result ≡ Some c.in-Some.next = search rules in
    runs_on (λ a ms. inputs_all plan a (drop (i + 1) lines) ms) c.in-Some.next.at (members_in g.E.Executor c.input.new.self) split (ap next_at (sym some) ∙ ran.at) c.loop-line.invariant ran.made

pub returns-in-None : goal.returns-in-None
returns-in-None g c =
    lines_end_down (plan_of c.args.plan.now) c.loop-line.last.at c.args.lines.now c.loop-line.line-index c.line-item.result (members_in g.E.Executor c.loop-line.self) c.loop-line.invariant c.loop-line-test.true c.line-item.is c.in-None.ensures

use Rattle.module.proofs.Prelude.{◌≡◌, ℕ, Some, Ok, refl, sym, brought_in_all, brought_moved, brought_tick, inputs_all, AreCollected, IsNow, members_in, plan_of}
use Rattle.std.proofs.Common.{subst}
use Rattle.module.proofs.Brought.{brought_all}
use Rattle.isolation.proofs.Now.{inputs_in_tick}
use Rattle.module.proofs.Unseen.{tick_collected}
use Rattle.module.proofs.member.Members.tick_watched.Goals as goal

pub returns-clause-inputs : goal.returns-clause-inputs
returns-clause-inputs g c =
    let plan = plan_of c.args.plan.now in
    let at = c.args.moment.at in
    let p = c.args.watched.0 in
    let lines = c.args.lines.now in
    let ms = members_in g.E.Executor c.args.self.now in
    let mid = members_in g.E.Executor c.input_all.new.self in
    let last = Some c.in-Some.last.at in
    let old = c.args.inputs.now.lines.items in
    let came = c.bring_in_all.new.inputs.lines.items in
    let new = c.move_and_tick_watched.new.inputs.lines.items in
    let course = inputs_all plan at lines ms in
    let is : last ≡ course.at = c.in-Some.ensures.at in
    let same_tick : c.in-Some.last.at.now.0 ≡ at.now.0 = subst (IsNow at.now.0) (sym is) (inputs_in_tick plan at.now.0 lines at ms refl) in
    let moved = subst (λ (t : ℕ). AreCollected t (brought_moved plan p mid last) came new (Ok c.in_ok-move_and_tick_watched.field-0)) same_tick c.in_ok-move_and_tick_watched.ensures.inputs in
    tick_collected at.now.0 (brought_in_all plan p lines) (brought_tick plan p at lines ms) old came new plan p course mid last (Ok c.in_ok-move_and_tick_watched.field-0) (brought_all plan p at lines ms c.requires) is c.in-Some.ensures.made.state c.in_ok-bring_in_all.ensures moved

use Rattle.module.proofs.Prelude.{◌≡◌, List, None, Some, refl, sym, ap, ◌∙◌, rules, Member, Course, nothing_sent, next_at, sent_of, members_in, plan_of, IsCourse}
use Rattle.std.proofs.Common.{subst}
use Rattle.module.proofs.Standing.{goes_from, goes_nowhere}
use Rattle.module.proofs.member.Module.go.Goals as goal

pub returns-clause-written : goal.returns-clause-written
returns-clause-written g c =
    let m = c.args.self.now in
    let ms = members_in g.E.Executor m.members in
    let some : c.moment.result ≡ Some c.in-Some.moment = search rules in
    subst (λ (d : Course (List (Member g.E.Executor.Control))). IsCourse d (next_at c.begin_and_tick.result) (members_in g.E.Executor c.begin_and_tick.new.self) (sent_of g.S.Sink c.args.output.now) (sent_of g.S.Sink c.begin_and_tick.new.output))
    (goes_from (plan_of m.image) c.args.lines.now m.now ms m.origin c.in-Some.moment.at (ap next_at (sym some) ∙ c.moment.ensures)) c.begin_and_tick.ensures

pub returns-in_default-clause-written : goal.returns-in_default-clause-written
returns-in_default-clause-written g c =
    let m = c.args.self.now in
    let ms = members_in g.E.Executor m.members in
    let none : c.moment.result ≡ None = search rules in
    let sent = sent_of g.S.Sink c.args.output.now in
    subst (λ (d : Course (List (Member g.E.Executor.Control))). IsCourse d None ms sent sent) (sym (goes_nowhere (plan_of m.image) c.args.lines.now m.now ms m.origin (ap next_at (sym none) ∙ c.moment.ensures)))
    (record { at = refl; made = record { state = refl; sent = nothing_sent sent } })

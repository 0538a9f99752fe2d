use Rattle.module.proofs.Prelude.{◌≡◌, ◌++◌, append-nil, map, List, None, Some, IfOk, refl, sym, ap, ◌∙◌, rules, Ticks, Input, brought_tick, line_in, Member, Course, next_at, AreCollected, IsMadeUnseen, begins, moment_of, members_in, plan_of}
use Rattle.std.proofs.Common.{subst}
use Rattle.module.proofs.Brought.{brought_at, brought_nowhere}
use Rattle.module.proofs.Standing.{goes_from, goes_nowhere, moment_now}
use Rattle.module.proofs.member.Module.go_watched.Goals as goal

pub returns-in_default-clause-made : goal.returns-in_default-clause-made
returns-in_default-clause-made g c =
    let m = c.args.self.now in
    let ms = members_in g.E.Executor m.members in
    let none : c.moment.result ≡ None = search rules in
    subst (λ (d : Course (List (Member g.E.Executor.Control))). IsMadeUnseen d None ms) (sym (goes_nowhere (plan_of m.image) c.args.lines.now m.now ms m.origin (ap next_at (sym none) ∙ c.moment.ensures))) (record { at = refl; state = refl })

pub returns-in_default-clause-inputs : goal.returns-in_default-clause-inputs
returns-in_default-clause-inputs g c =
    let m = c.args.self.now in
    let ms = members_in g.E.Executor m.members in
    let old = c.args.inputs.now.lines.items in
    let none : c.moment.result ≡ None = search rules in
    let nothing = brought_nowhere (plan_of m.image) c.args.watched.0 c.args.lines.now m.now ms m.origin (ap next_at (sym none) ∙ c.moment.ensures) in
    subst (λ (is : List Input). old ≡ old ++ map (line_in m.now.0) is) (sym nothing) (sym (append-nil old))

pub returns-clause-made : goal.returns-clause-made
returns-clause-made g c =
    let m = c.args.self.now in
    let ms = members_in g.E.Executor m.members in
    let some : c.moment.result ≡ Some c.in-Some.moment = search rules in
    let is = ap next_at (sym some) ∙ c.moment.ensures in
    subst (λ (d : Course (List (Member g.E.Executor.Control))). IfOk c.begin_and_tick_watched.result (λ last. IsMadeUnseen d (next_at last) (members_in g.E.Executor c.begin_and_tick_watched.new.self)))
    (goes_from (plan_of m.image) c.args.lines.now m.now ms m.origin c.in-Some.moment.at is) c.begin_and_tick_watched.ensures.made

pub returns-clause-inputs : goal.returns-clause-inputs
returns-clause-inputs g c =
    let m = c.args.self.now in
    let ms = members_in g.E.Executor m.members in
    let at = c.in-Some.moment.at in
    let plan = plan_of m.image in
    let old = c.args.inputs.now.lines.items in
    let new = c.begin_and_tick_watched.new.inputs.lines.items in
    let some : c.moment.result ≡ Some c.in-Some.moment = search rules in
    let is = ap next_at (sym some) ∙ c.moment.ensures in
    subst (λ (is : List Input). AreCollected m.now.0 is old new c.begin_and_tick_watched.result) (brought_at plan c.args.watched.0 c.args.lines.now m.now ms m.origin at is)
    (subst (λ (t : Ticks). AreCollected t.0 (brought_tick plan c.args.watched.0 at c.args.lines.now (begins at.now.0 ms).state) old new c.begin_and_tick_watched.result) (moment_now m.now m.origin at is) c.begin_and_tick_watched.ensures.inputs)

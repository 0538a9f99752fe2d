use Rattle.module.proofs.Prelude.{inl, ◌≡◌, ◌+◌, ◌≤◌, ◌<◌, Some, suc, refl, ap, sym, ◌∙◌, arith, rules, At, sent_of, EndsQuietly, HasPassedSomeBehind, Standing, ticks_in, members_in, plan_of, standing_of}
use Rattle.std.proofs.Common.{subst}
use Rattle.module.proofs.Bursts.{from_lower, none_ended, owner_kept}
use Rattle.module.proofs.Edges.{behind_fewer, edge_run, run_nobody}
use Rattle.module.proofs.member.Module.advance_window.Goals as goal

pub stay-stay-requires-clause-owner : goal.stay-stay-requires-clause-owner
stay-stay-requires-clause-owner g c =
    let plan = plan_of c.args.self.now.image in
    let at : At = record { now = c.args.self.now.now; origin = c.args.origin } in
    let own = c.place_of.ensures.some c.in-Some.place (search rules) in
    let number : suc c.in-Some.place ≡ c.number_at-owner.result.0 = omega (arith, c.number_at-owner.ensures.number) in
    owner_kept plan.schedule at _ c.at_most-count.result c.span-span.result.ticks c.at_most-count.ensures.ticks (sym c.span-span.ensures.owner ∙ own.0 ∙ ap Some number) c.span-span.ensures.stays

pub stay-stay-requires-clause-ended : goal.stay-stay-requires-clause-ended
stay-stay-requires-clause-ended g c =
    let plan = plan_of c.args.self.now.image in
    let at : At = record { now = c.args.self.now.now; origin = c.args.origin } in
    none_ended plan.schedule at c.at_most-count.result c.span-span.result.ticks c.at_most-count.ensures.ticks c.span-span.ensures.none_ends

pub piece-requires-clause-owner : goal.piece-requires-clause-owner
piece-requires-clause-owner g c =
    let plan = plan_of c.args.self.now.image in
    let at : At = record { now = c.args.self.now.now; origin = c.args.origin } in
    let own = c.place_of.ensures.some c.in-Some.place (search rules) in
    owner_kept plan.schedule at _ c.at_most-count.result c.span-span.result.ticks c.at_most-count.ensures.ticks (sym c.span-span.ensures.owner ∙ own.0) c.span-span.ensures.stays

pub piece-requires-clause-ended : goal.piece-requires-clause-ended
piece-requires-clause-ended g c = λ i some below.
    let plan = plan_of c.args.self.now.image in
    let at : At = record { now = c.args.self.now.now; origin = c.args.origin } in
    inl (none_ended plan.schedule at c.at_most-count.result c.span-span.result.ticks c.at_most-count.ensures.ticks c.span-span.ensures.none_ends i some below)

pub piece-requires-2-clause-owner : goal.piece-requires-2-clause-owner
piece-requires-2-clause-owner g c = λ i below.
    let number : c.number_at-owner.result.0 ≡ suc c.in-Some.place = omega (arith, c.number_at-owner.ensures.number) in
    c.stay-stay.ensures.owner i below ∙ ap Some number

pub piece-requires-2-clause-ended : goal.piece-requires-2-clause-ended
piece-requires-2-clause-ended g c = λ i some below.
    let number : c.number_at-owner.result.0 ≡ suc c.in-Some.place = omega (arith, c.number_at-owner.ensures.number) in
    subst (λ p. EndsQuietly (plan_of c.args.self.now.image) c.args.origin.0 (members_in g.E.Executor c.move_at.new.self) p (c.args.self.now.now.0 + i)) number (c.stay-stay.ensures.ended i some below)

pub returns-then-count-most-clause-run : goal.returns-then-count-most-clause-run
returns-then-count-most-clause-run g c = λ lines order.
    let e = g.E.Executor in
    let s = standing_of e c.args.self.now in
    let plan = plan_of c.args.self.now.image in
    let n = c.at_most-count.result in
    let t = s.now in
    let few : n ≤ c.args.most = c.at_most-count.ensures.within in
    let ms = members_in e c.move_at.new.self in
    let next = standing_of e c.piece.new.self in
    let from : s.origin ≡ Some c.args.origin.0 = ap ticks_in c.requires.origin in
    edge_run plan lines c.args.most c.piece.result c.args.origin.0 s ms next plan.channels _ from c.requires.begun order
    refl c.span-span.ensures.ended c.move_at.ensures
    (behind_fewer _ _ plan lines n c.args.most c.piece.result _ next few
    (c.piece.ensures.run lines (from_lower (t + n) (t + c.args.most) lines (omega (arith, few)) order)))

pub returns-clause-run : goal.returns-clause-run
returns-clause-run g c = λ lines order.
    let e = g.E.Executor in
    let s = standing_of e c.args.self.now in
    let plan = plan_of c.args.self.now.image in
    let n = c.stay-stay.result.ticks in
    let t = s.now in
    let few : n ≤ c.args.most = c.stay-stay.ensures.few in
    let ms = members_in e c.move_at.new.self in
    let next = standing_of e c.piece-2.new.self in
    let from : s.origin ≡ Some c.args.origin.0 = ap ticks_in c.requires.origin in
    edge_run plan lines c.args.most c.piece-2.result c.args.origin.0 s ms next plan.channels _ from c.requires.begun order
    refl c.span-span.ensures.ended c.move_at.ensures
    (behind_fewer _ _ plan lines n c.args.most c.piece-2.result _ next few
    (c.piece-2.ensures.run lines (from_lower (t + n) (t + c.args.most) lines (omega (arith, few)) order)))

pub returns-in_default-clause-run : goal.returns-in_default-clause-run
returns-in_default-clause-run g c = λ lines order.
    let e = g.E.Executor in
    let s = standing_of e c.args.self.now in
    let plan = plan_of c.args.self.now.image in
    let n = c.at_most-count.result in
    let t = s.now in
    let few : n ≤ c.args.most = c.at_most-count.ensures.within in
    let some : 0 < n = search rules in
    let ms = members_in e c.move_at.new.self in
    let at : At = record { now = c.args.self.now.now; origin = c.args.origin } in
    let now : Standing e.Control = record { members = ms; now = t; origin = s.origin } in
    let mid = sent_of g.S.Sink c.move_at.new.output in
    let next = standing_of e c.skip.new.self in
    let from : s.origin ≡ Some c.args.origin.0 = ap ticks_in c.requires.origin in
    edge_run plan lines c.args.most n c.args.origin.0 s ms next plan.channels _ from c.requires.begun order
    refl c.span-span.ensures.ended c.move_at.ensures
    (behind_fewer _ _ plan lines n c.args.most n now next few
    (subst (λ (x : Standing e.Control). HasPassedSomeBehind plan lines n now x mid mid n) (sym c.skip.ensures.standing)
    (run_nobody plan lines n c.args.origin.0 now mid _ from some (from_lower (t + n) (t + c.args.most) lines (omega (arith, few)) order)
    (owner_kept plan.schedule at _ n c.span-span.result.ticks c.at_most-count.ensures.ticks (sym c.span-span.ensures.owner) c.span-span.ensures.stays)
    (none_ended plan.schedule at n c.span-span.result.ticks c.at_most-count.ensures.ticks c.span-span.ensures.none_ends)
    (c.place_of.ensures.none (search rules)))))

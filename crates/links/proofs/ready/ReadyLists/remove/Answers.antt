use Rattle.links.proofs.Prelude.{◌≡◌, ℕ, nat_lt, nat_eq, cond, sym, ◌∙◌, ap, length-map, list_in, without_in_each, times_listed, one_if_any}
use Rattle.links.proofs.Levels.{in_order_without, levels_without}
use Rattle.links.proofs.Bits.{marked_leave, marked_of, elsewhere_absent, nowhere_absent}
use Rattle.links.proofs.ready.ReadyLists.remove.Goals as goal

pub invariant_of-self : goal.invariant_of-self
invariant_of-self c =
    let left : c.remove.new.self ≡ without_in_each c.args.process.0 c.self.inside.lists = c.remove.ensures in
    let here : one_if_any (list_in (without_in_each c.args.process.0 c.self.inside.lists) c.in-Some.list.0) ≡ cond (nat_lt 0 c.count-any.result) 1 0 =
    ap (λ ls. one_if_any (list_in ls c.in-Some.list.0)) (sym left) ∙ sym (rw c.count-any.ensures.count (marked_of (list_in c.remove.new.self c.in-Some.list.0))) in
    let home : (k : ℕ) → times_listed c.args.process.0 (list_in c.self.inside.lists k) ≡ cond (nat_eq c.in-Some.list.0 k) 1 0 = rw c.in-Some.is at c.which.ensures in
    record { whole = rw left (length-map _ _ ∙ c.self.invariant.whole); levels = rw left (levels_without 0 c.args.process.0 _ c.self.invariant.levels); marked = rw left (marked_leave c.self.inside.marks c.put.new.marks c.self.inside.lists c.in-Some.list.0 _ c.args.process.0 c.self.invariant.marked c.put.ensures here (elsewhere_absent c.args.process.0 c.in-Some.list.0 c.self.inside.lists home)) }

pub returns-in-Some : goal.returns-in-Some
returns-in-Some c = rw (c.remove.ensures, ← c.self.view_is) (in_order_without c.args.process.0 c.self.inside.lists)

pub returns-in-None : goal.returns-in-None
returns-in-None c = rw (← c.self.view_is) (sym (nowhere_absent c.args.process.0 c.self.inside.lists (rw c.in-None.is at c.which.ensures)))

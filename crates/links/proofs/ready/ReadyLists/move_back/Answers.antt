use Rattle.links.proofs.Prelude.{◌≡◌, ◌+◌, ◌-◌, ◌<◌, length, ◌∙◌, arith, length-set, times_listed, in_order}
use Rattle.links.proofs.Levels.{absent_each, in_order_put, levels_put, without_gone}
use Rattle.links.proofs.Bits.{marked_push}
use Rattle.links.proofs.ready.ReadyLists.move_back.Goals as goal

pub push_back-requires-clause-nowhere : goal.push_back-requires-clause-nowhere
push_back-requires-clause-nowhere c =
    let p = c.args.entry.process.0 in
    let gone : times_listed p (in_order c.self.inside.lists) ≡ 0 = rw (c.self.view_is ∙ c.remove.ensures) (without_gone p _) in
    absent_each p c.self.inside.lists gone

pub invariant_of-self : goal.invariant_of-self
invariant_of-self c =
    let k = 255 - c.args.entry.priority.0 in
    let own : c.args.entry.priority.0 + (0 + k) ≡ 255 = omega arith in
    let within : k < length c.self.inside.lists = omega (arith, c.self.invariant.whole) in
    record { whole = rw c.push_back.ensures (rw length-set c.self.invariant.whole); levels = rw c.push_back.ensures (levels_put 0 k c.args.entry c.self.inside.lists own c.self.invariant.levels); marked = rw c.push_back.ensures (marked_push c.self.inside.marks c.put.new.marks c.self.inside.lists k c.args.entry within c.self.invariant.marked c.put.ensures) }

pub returns : goal.returns
returns c =
    let k = 255 - c.args.entry.priority.0 in
    let own : c.args.entry.priority.0 + (0 + k) ≡ 255 = omega arith in
    let within : k < length c.self.inside.lists = omega (arith, c.self.invariant.whole) in
    rw (c.push_back.ensures, ← c.remove.ensures, ← c.self.view_is) (in_order_put 0 k c.args.entry c.self.inside.lists within own c.self.invariant.levels)

use Rattle.links.proofs.DueOrder.{below-without, once-without, order-without}
use Rattle.links.proofs.due_list.DueList.remove.Goals as goal
use Rattle.links.proofs.Prelude.{MOST_PROCESSES}

pub invariant_of-self : goal.invariant_of-self
invariant_of-self c =
    let old = c.self.inside.dues.items in
    let p = c.args.process.0 in
    record {
      below = rw c.leave.ensures (below-without MOST_PROCESSES p old c.self.invariant.below);
      once = rw c.leave.ensures (once-without p old c.self.invariant.once);
      ordered = rw c.leave.ensures (order-without p old c.self.invariant.ordered);
    }

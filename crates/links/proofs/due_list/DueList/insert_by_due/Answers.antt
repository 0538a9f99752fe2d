use Rattle.links.proofs.Prelude.{ap, ◌∙◌, MOST_PROCESSES, due_at}
use Rattle.links.specs.DueOrder.{times_due}
use Rattle.links.proofs.DueOrder.{room, behind-below, once-behind, behind-order}
use Rattle.links.proofs.due_list.DueList.insert_by_due.Goals as goal

pub enter-requires : goal.enter-requires
enter-requires c =
    let none = ap (times_due c.args.process.0) c.self.view_is ∙ c.requires.absent in
    room MOST_PROCESSES c.args.process.0 c.self.inside.dues.items c.self.invariant.below c.self.invariant.once c.requires.below none

pub invariant_of-self : goal.invariant_of-self
invariant_of-self c =
    let others = c.self.inside.dues.items in
    let e = due_at c.args.process c.args.tick in
    let none = ap (times_due c.args.process.0) c.self.view_is ∙ c.requires.absent in
    record {
      below = rw c.enter.ensures (behind-below MOST_PROCESSES e others c.requires.below c.self.invariant.below);
      once = rw c.enter.ensures (once-behind e others c.self.invariant.once none);
      ordered = rw c.enter.ensures (behind-order e others c.self.invariant.ordered);
    }

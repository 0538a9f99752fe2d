use Rattle.links.proofs.Exact.{exact_begun, no_tick}
use Rattle.links.proofs.timers.begin_timer.Goals as goal

pub insert_by_due-requires-clause-absent : goal.insert_by_due-requires-clause-absent
insert_by_due-requires-clause-absent c = no_tick _ _ c.requires.none

pub returns-clause-exact : goal.returns-clause-exact
returns-clause-exact c = λ ticks h. rw c.insert_by_due.ensures (exact_begun ticks c.args.process c.args.due c.args.dues.now c.requires.none h)

use Rattle.links.proofs.Prelude.{Some, None}
use Rattle.links.proofs.DueOrder.{absent}
use Rattle.links.proofs.Exact.{exact_set}
use Rattle.links.proofs.timers.set_timer.Goals as goal

pub insert_by_due-requires-clause-absent : goal.insert_by_due-requires-clause-absent
insert_by_due-requires-clause-absent c = absent c.args.process.0 _ _ c.remove.ensures

pub returns-in-Some-clause-exact : goal.returns-in-Some-clause-exact
returns-in-Some-clause-exact c = λ ticks h. rw (c.insert_by_due.ensures, c.remove.ensures, c.in-Some.is) (exact_set ticks c.args.process (Some c.in-Some.tick) c.args.dues.now h)

pub returns-in_default-clause-exact : goal.returns-in_default-clause-exact
returns-in_default-clause-exact c = λ ticks h. rw (c.remove.ensures, c.in_default.is) (exact_set ticks c.args.process None c.args.dues.now h)

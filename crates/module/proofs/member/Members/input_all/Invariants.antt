use Rattle.module.proofs.Prelude.{drop, inputs_all, sent_of, members_in, plan_of}
use Rattle.lone_partition.proofs.Written.{CompletesCourse}
use Rattle.module.proofs.member.Members.input_all.Given as goal

abbrev pub invariant-loop-line : goal.invariant-loop-line
invariant-loop-line g l = CompletesCourse (inputs_all (plan_of l.plan) l.fn.moment.at l.lines (members_in g.E.Executor l.fn.self)) (inputs_all (plan_of l.plan) l.last.at (drop l.line-index l.lines) (members_in g.E.Executor l.self)) (sent_of g.S.Sink l.fn.output) (sent_of g.S.Sink l.output)

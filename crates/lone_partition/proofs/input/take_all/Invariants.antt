use Rattle.lone_partition.proofs.Prelude.{◌≡◌, drop, takes_all, member_of, inputs_of, sent_of}
use Rattle.lone_partition.proofs.Written.{CompletesCourse}
use Rattle.lone_partition.proofs.input.take_all.Given as goal

abbrev pub invariant-loop-line : goal.invariant-loop-line
invariant-loop-line g l = record {
  fits : g.E.Executor.laid l.mem ≡ g.E.Executor.layout l.partition.executor;
  rest : CompletesCourse (takes_all l.fault l.fn.moment.at (inputs_of l.lines) (member_of g.E.Executor l.fn.partition l.fn.mem)) (takes_all l.fault l.last.at (inputs_of (drop l.line-index l.lines)) (member_of g.E.Executor l.partition l.mem)) (sent_of g.S.Sink l.fn.output) (sent_of g.S.Sink l.output);
}

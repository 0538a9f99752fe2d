use Rattle.lone_partition.proofs.Prelude.{◌≡◌, ◌-◌, sends_messages, member_of, around, sent_of}
use Rattle.lone_partition.proofs.Written.{Completes}
use Rattle.lone_partition.proofs.sending.send_messages.Given as goal

abbrev pub invariant-loop : goal.invariant-loop
invariant-loop g l = record {
  fits : g.E.Executor.laid l.mem ≡ g.E.Executor.layout l.partition.executor;
  rest : Completes (sends_messages l.count (around l.surroundings) l.moment.at l.port (member_of g.E.Executor l.fn.partition l.fn.mem)) (sends_messages (l.count - l.counter) (around l.surroundings) l.moment.at l.port (member_of g.E.Executor l.partition l.mem)) (sent_of g.S.Sink l.fn.output) (sent_of g.S.Sink l.output);
}

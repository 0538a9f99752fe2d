use Rattle.lone_partition.proofs.Prelude.{◌≡◌, ◌+◌, ◌-◌, sends_ports, member_of, around, sent_of}
use Rattle.lone_partition.proofs.Written.{Completes}
use Rattle.lone_partition.proofs.sending.send_ports.Given as goal

abbrev pub invariant-loop-place : goal.invariant-loop-place
invariant-loop-place g l = record {
  fits : g.E.Executor.laid l.mem ≡ g.E.Executor.layout l.partition.executor;
  rest : Completes (sends_ports l.count 1 (around l.surroundings) l.moment.at (member_of g.E.Executor l.fn.partition l.fn.mem)) (sends_ports (l.count - l.place) (l.place + 1) (around l.surroundings) l.moment.at (member_of g.E.Executor l.partition l.mem)) (sent_of g.S.Sink l.fn.output) (sent_of g.S.Sink l.output);
}

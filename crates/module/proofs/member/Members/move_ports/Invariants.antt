use Rattle.module.proofs.Prelude.{◌+◌, ◌-◌, moves_ports, channels_of, sent_of, members_in}
use Rattle.lone_partition.proofs.Written.{Completes}
use Rattle.module.proofs.member.Members.move_ports.Given as goal

abbrev pub invariant-loop-place : goal.invariant-loop-place
invariant-loop-place g l = Completes (moves_ports l.count 1 (channels_of l.channels) l.moment.at l.partition (members_in g.E.Executor l.fn.self)) (moves_ports (l.count - l.place) (l.place + 1) (channels_of l.channels) l.moment.at l.partition (members_in g.E.Executor l.self)) (sent_of g.S.Sink l.fn.output) (sent_of g.S.Sink l.output)

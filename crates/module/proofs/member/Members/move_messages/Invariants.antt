use Rattle.module.proofs.Prelude.{◌-◌, moves_messages, channels_of, sent_of, members_in}
use Rattle.lone_partition.proofs.Written.{Completes}
use Rattle.module.proofs.member.Members.move_messages.Given as goal

abbrev pub invariant-loop : goal.invariant-loop
invariant-loop g l = Completes (moves_messages l.count (channels_of l.channels) l.moment.at l.partition l.port (members_in g.E.Executor l.fn.self)) (moves_messages (l.count - l.counter) (channels_of l.channels) l.moment.at l.partition l.port (members_in g.E.Executor l.self)) (sent_of g.S.Sink l.fn.output) (sent_of g.S.Sink l.output)

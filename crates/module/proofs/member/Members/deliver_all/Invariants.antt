use Rattle.module.proofs.Prelude.{drop, delivers_all, channel_of, sent_of, members_in}
use Rattle.lone_partition.proofs.Written.{Completes}
use Rattle.module.proofs.member.Members.deliver_all.Given as goal

abbrev pub invariant-loop-end : goal.invariant-loop-end
invariant-loop-end g l = Completes (delivers_all l.moment.at (channel_of l.channel) l.message l.ends (members_in g.E.Executor l.fn.self)) (delivers_all l.moment.at (channel_of l.channel) l.message (drop l.end-index l.ends) (members_in g.E.Executor l.self)) (sent_of g.S.Sink l.fn.output) (sent_of g.S.Sink l.output)

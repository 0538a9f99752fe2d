use Rattle.module.proofs.Prelude.{◌+◌, ◌≤◌, List, drop, length, ap, rules, drop_all, drop_more, ChannelEnd, Device, delivers_all, channel_of, members_in}
use Rattle.lone_partition.proofs.Written.{goes_on, is_over}
use Rattle.module.proofs.member.Members.deliver_all.Goals as goal

pub loop-end-preserved : goal.loop-end-preserved
loop-end-preserved g c =
    let ends = c.args.ends.now in
    let row = channel_of c.args.channel.now in
    let now = members_in g.E.Executor c.loop-end.self in
    let split = ap (λ (es : List ChannelEnd). delivers_all c.args.moment.at row c.args.message.now es now) (drop_more ends c.loop-end.end-index Device c.loop-end-test.true) in
    goes_on (delivers_all c.args.moment.at row c.args.message.now (drop (c.loop-end.end-index + 1) ends)) (members_in g.E.Executor c.deliver.new.self) split c.loop-end.invariant c.deliver.ensures

pub returns : goal.returns
returns g c =
    let ends = c.args.ends.now in
    let i = c.loop-end.end-index in
    let now = members_in g.E.Executor c.loop-end.self in
    let past : length ends ≤ i = search rules in
    is_over now (ap (λ (es : List ChannelEnd). delivers_all c.args.moment.at (channel_of c.args.channel.now) c.args.message.now es now) (drop_all i ends past)) c.loop-end.invariant

use Rattle.module.proofs.Prelude.{◌≡◌, ℕ, suc, ◌+◌, ◌-◌, ap, arith, moves_messages, channels_of, sent_of, members_in}
use Rattle.std.proofs.Common.{subst}
use Rattle.lone_partition.proofs.Written.{Completes, goes_on, is_over, starts_out}
use Rattle.module.proofs.member.Members.move_messages.Goals as goal

pub loop-init : goal.loop-init
loop-init g c =
    let whole = λ (n : ℕ). moves_messages n (channels_of c.args.channels.now) c.args.moment.at c.args.partition c.args.port (members_in g.E.Executor c.args.self.now) in
    let all : c.args.count ≡ c.args.count - 0 = omega arith in
    let sent = sent_of g.S.Sink c.args.output.now in
    subst (λ (n : ℕ). Completes (whole c.args.count) (whole n) sent sent) all (starts_out (whole c.args.count) sent)

pub loop-preserved : goal.loop-preserved
loop-preserved g c =
    let left : c.args.count - c.loop.counter ≡ suc (c.args.count - (c.loop.counter + 1)) = omega arith in
    let split = ap (λ (n : ℕ). moves_messages n (channels_of c.args.channels.now) c.args.moment.at c.args.partition c.args.port (members_in g.E.Executor c.loop.self)) left in
    let more = moves_messages (c.args.count - (c.loop.counter + 1)) (channels_of c.args.channels.now) c.args.moment.at c.args.partition c.args.port in
    goes_on more (members_in g.E.Executor c.move_message.new.self) split c.loop.invariant c.move_message.ensures

pub returns : goal.returns
returns g c =
    let now = members_in g.E.Executor c.loop.self in
    let none : c.args.count - c.loop.counter ≡ 0 = omega (arith, c.loop-test.false) in
    is_over now (ap (λ (n : ℕ). moves_messages n (channels_of c.args.channels.now) c.args.moment.at c.args.partition c.args.port now) none) c.loop.invariant

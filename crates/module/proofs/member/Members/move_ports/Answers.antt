use Rattle.module.proofs.Prelude.{◌≡◌, ℕ, suc, ◌+◌, ◌-◌, ap, arith, moves_ports, channels_of, members_in}
use Rattle.lone_partition.proofs.Written.{goes_on, is_over}
use Rattle.module.proofs.member.Members.move_ports.Goals as goal

pub loop-place-preserved : goal.loop-place-preserved
loop-place-preserved g c =
    let place = c.loop-place.place in
    let left : c.args.count - place ≡ suc (c.args.count - (place + 1)) = omega arith in
    let split = ap (λ (n : ℕ). moves_ports n (place + 1) (channels_of c.args.channels.now) c.args.moment.at c.args.partition (members_in g.E.Executor c.loop-place.self)) left in
    let more = moves_ports (c.args.count - (place + 1)) (place + 1 + 1) (channels_of c.args.channels.now) c.args.moment.at c.args.partition in
    goes_on more (members_in g.E.Executor c.move_port.new.self) split c.loop-place.invariant c.move_port.ensures

pub returns : goal.returns
returns g c =
    let place = c.loop-place.place in
    let now = members_in g.E.Executor c.loop-place.self in
    let none : c.args.count - place ≡ 0 = omega (arith, c.loop-place-test.false) in
    is_over now (ap (λ (n : ℕ). moves_ports n (place + 1) (channels_of c.args.channels.now) c.args.moment.at c.args.partition now) none) c.loop-place.invariant

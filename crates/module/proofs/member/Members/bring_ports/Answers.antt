use Rattle.module.proofs.Prelude.{rules, ◌≡◌, ◌<◌, ◌+◌, drop, length, Err, arith, ports_from, channels_of, held_ports, members_in}
use Rattle.module.proofs.Collecting.{collected_err, goes_on, no_room_left, one_port}
use Rattle.module.proofs.member.Members.bring_ports.Goals as goal

pub returns-in_err-bring_port : goal.returns-in_err-bring_port
returns-in_err-bring_port g c =
    let ports = ports_from (members_in g.E.Executor c.args.self.now) c.args.from.0 in
    let channels = channels_of c.args.channels.now in
    let place = c.loop-place.place in
    let within : place < length ports = omega (arith, c.requires, c.loop-place-test.true) in
    let rest = held_ports channels c.args.watched.0 c.args.from (place + 1 + 1) (drop (place + 1) ports) in
    let fault = c.in_err-bring_port.field-0.0 in
    let answer : c.from_residual.result ≡ Err fault = search rules in
    collected_err _ _ _ _ fault c.from_residual.result answer (no_room_left _ rest fault (one_port channels c.args.watched.0 c.args.from ports place within) c.loop-place.invariant c.in_err-bring_port.ensures)

pub loop-place-preserved : goal.loop-place-preserved
loop-place-preserved g c =
    let ports = ports_from (members_in g.E.Executor c.args.self.now) c.args.from.0 in
    let channels = channels_of c.args.channels.now in
    let place = c.loop-place.place in
    let within : place < length ports = omega (arith, c.requires, c.loop-place-test.true) in
    let rest = held_ports channels c.args.watched.0 c.args.from (place + 1 + 1) (drop (place + 1) ports) in
    goes_on _ rest (one_port channels c.args.watched.0 c.args.from ports place within) c.loop-place.invariant c.in_ok-bring_port.ensures

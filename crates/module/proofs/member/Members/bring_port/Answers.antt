use Rattle.module.proofs.Prelude.{rules, ◌≡◌, ◌<◌, ◌+◌, ◌++◌, drop, length, Option, Some, Err, sym, ap, ◌∙◌, arith, Channel, at_number, channel_from, ports_from, messages_to_move, channels_of, message_behind, brought_found, members_in}
use Rattle.module.proofs.Collecting.{collected_err, goes_on, held_messages, messages_bring, no_room_left, one_message, so_many_held}
use Rattle.module.proofs.member.Members.bring_port.Goals as goal

pub returns-in_err-bring_message : goal.returns-in_err-bring_message
returns-in_err-bring_message g c =
    let port = at_number (ports_from (members_in g.E.Executor c.args.self.now) c.args.from.0) c.args.port.0 in
    let p = c.args.watched.0 in
    let channel = channel_from (channels_of c.args.channels.now) c.args.from c.args.port in
    let i = c.loop-before.before in
    let some : Some c.in-Some.count ≡ messages_to_move port = search rules in
    let count = so_many_held port c.in-Some.count some in
    let within : i < length (held_messages port) = omega (arith, count, c.loop-before-test.true) in
    let rest = messages_bring p channel (drop (i + 1) (held_messages port)) in
    let split = one_message p channel port i within ∙ ap (λ (o : Option Channel). brought_found p o (message_behind i port) ++ rest) (sym c.channel_from-channel.ensures) in
    let fault = c.in_err-bring_message.field-0.0 in
    let answer : c.from_residual.result ≡ Err fault = search rules in
    collected_err _ _ _ _ fault c.from_residual.result answer (no_room_left _ rest fault split c.loop-before.invariant c.in_err-bring_message.ensures)

pub loop-before-preserved : goal.loop-before-preserved
loop-before-preserved g c =
    let port = at_number (ports_from (members_in g.E.Executor c.args.self.now) c.args.from.0) c.args.port.0 in
    let p = c.args.watched.0 in
    let channel = channel_from (channels_of c.args.channels.now) c.args.from c.args.port in
    let i = c.loop-before.before in
    let some : Some c.in-Some.count ≡ messages_to_move port = search rules in
    let count = so_many_held port c.in-Some.count some in
    let within : i < length (held_messages port) = omega (arith, count, c.loop-before-test.true) in
    let rest = messages_bring p channel (drop (i + 1) (held_messages port)) in
    let split = one_message p channel port i within ∙ ap (λ (o : Option Channel). brought_found p o (message_behind i port) ++ rest) (sym c.channel_from-channel.ensures) in
    goes_on _ rest split c.loop-before.invariant c.in_ok-bring_message.ensures

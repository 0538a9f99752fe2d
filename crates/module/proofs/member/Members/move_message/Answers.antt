use Rattle.module.proofs.Prelude.{◌≡◌, Some, None, rules, at_number, of_member, leaving, channels_of, members_in}
use Rattle.module.proofs.Moves.{none_moved, one_moved}
use Rattle.module.proofs.member.Members.move_message.Goals as goal

pub returns-in-Some : goal.returns-in-Some
returns-in-Some g c =
    let ms = members_in g.E.Executor c.args.self.now in
    let there : Some c.in-Some.message ≡ of_member None (leaving c.args.port) (at_number ms c.args.partition.0) = search rules in
    one_moved (channels_of c.args.channels.now) c.args.moment.at c.args.partition c.args.port ms c.in-Some.message _ there c.channel_from-channel.ensures c.leave.ensures.written c.go_by.ensures

pub returns-in_default : goal.returns-in_default
returns-in_default g c =
    let ms = members_in g.E.Executor c.args.self.now in
    let none : None ≡ of_member None (leaving c.args.port) (at_number ms c.args.partition.0) = search rules in
    none_moved (channels_of c.args.channels.now) c.args.moment.at c.args.partition c.args.port ms none c.leave.ensures.written

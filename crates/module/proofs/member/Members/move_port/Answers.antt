use Rattle.module.proofs.Prelude.{◌≡◌, ℕ, Option, Some, ap, rules, at_number, steps, moves_so_many, ports_from, messages_to_move, channels_of, members_in}
use Rattle.kernel_meaning.specs.Partition.{admits}
use Rattle.lone_partition.proofs.Written.{then_made}
use Rattle.module.proofs.member.Members.move_port.Goals as goal

pub returns : goal.returns
returns g c =
    let ms = members_in g.E.Executor c.args.self.now in
    let so_many : messages_to_move (at_number (ports_from ms c.args.partition.0) c.args.port.0) ≡ Some c.in-Some.count = search rules in
    let split = ap (λ (o : Option ℕ). moves_so_many (channels_of c.args.channels.now) c.args.moment.at c.args.partition c.args.port ms o) so_many in
    then_made (λ ms. steps (admits c.args.moment.at c.args.port) ms c.args.partition.0) (members_in g.E.Executor c.move_messages.new.self) split c.move_messages.ensures c.step.ensures.written

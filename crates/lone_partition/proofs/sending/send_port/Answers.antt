use Rattle.lone_partition.proofs.Prelude.{◌≡◌, ℕ, Option, Some, ap, rules, at_number, ports_of, goes, sends_so_many, member_of, around}
use Rattle.kernel_meaning.specs.Partition.{admits, messages_to_move}
use Rattle.lone_partition.proofs.Written.{then_made}
use Rattle.lone_partition.proofs.sending.send_port.Goals as goal

pub returns-clause-written : goal.returns-clause-written
returns-clause-written g c =
    let x = member_of g.E.Executor c.args.partition.now c.args.mem.now in
    let so_many : messages_to_move (at_number (ports_of x) c.args.port.0) ≡ Some c.in-Some.count = search rules in
    let split = ap (λ (o : Option ℕ). sends_so_many (around c.args.surroundings.now) c.args.moment.at c.args.port x o) so_many in
    then_made (goes (admits c.args.moment.at c.args.port)) (member_of g.E.Executor c.send_messages.new.partition c.send_messages.new.mem) split c.send_messages.ensures.written c.write_step.ensures.written

use Rattle.lone_partition.proofs.Prelude.{◌≡◌, Some, None, rules, leaving, member_of, around}
use Rattle.lone_partition.proofs.Sent.{none_sent, one_sent}
use Rattle.lone_partition.proofs.sending.send_message.Goals as goal

pub returns-in-Some-clause-written : goal.returns-in-Some-clause-written
returns-in-Some-clause-written g c =
    let x = member_of g.E.Executor c.args.partition.now c.args.mem.now in
    let there : Some c.in-Some.message ≡ leaving c.args.port x = search rules in
    one_sent (around c.args.surroundings.now) c.args.moment.at c.args.port x c.in-Some.message _ there c.way_out-way.ensures c.write_leave.ensures.written c.go_out.ensures.written

pub returns-in_default-clause-written : goal.returns-in_default-clause-written
returns-in_default-clause-written g c =
    let x = member_of g.E.Executor c.args.partition.now c.args.mem.now in
    let none : None ≡ leaving c.args.port x = search rules in
    none_sent (around c.args.surroundings.now) c.args.moment.at c.args.port x none c.write_leave.ensures.written

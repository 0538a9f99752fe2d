use Rattle.lone_partition.proofs.Prelude.{◌≢◌, rules, Alone, member_of, around, sent_of}
use Rattle.lone_partition.proofs.Traces.{no_tick, started}
use Rattle.lone_partition.proofs.running.start_and_run.Goals as goal

pub returns-then-ticks-eq0 : goal.returns-then-ticks-eq0
returns-then-ticks-eq0 g c =
    let a : Alone g.E.Executor.Control = record { around = around c.args.surroundings.now; member = member_of g.E.Executor c.args.partition.now c.args.mem.now } in
    no_tick a c.args.inputs.now c.args.ticks (sent_of g.S.Sink c.args.output.now) (search rules)

pub returns : goal.returns
returns g c =
    let a : Alone g.E.Executor.Control = record { around = around c.args.surroundings.now; member = member_of g.E.Executor c.args.partition.now c.args.mem.now } in
    let some : c.args.ticks ≢ 0 = search rules in
    started a c.args.inputs.now c.args.ticks c.first.result.at (member_of g.E.Executor c.write_step.new.partition c.write_step.new.mem) _ _ _ some c.first.ensures c.write_step.ensures.written c.run_ticks.ensures

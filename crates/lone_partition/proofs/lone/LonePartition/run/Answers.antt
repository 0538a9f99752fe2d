use Rattle.lone_partition.proofs.Prelude.{sym, subst, trace_alone, member_of, machine, Space, around}
use Rattle.lone_partition.specs.Written.{AreWritten}
use Rattle.lone_partition.proofs.Only.{only_lent}
use Rattle.lone_partition.proofs.lone.LonePartition.run.Goals as goal

pub returns : goal.returns
returns g c =
    let own = c.args.self in
    let ran = λ (s : Space). AreWritten (trace_alone (record { around = around own.surroundings; member = member_of machine own.partition s }) c.args.inputs.now c.args.ticks) (g.S.Sink.taken c.args.sink.now) (g.S.Sink.taken c.run_alone.new.sink) (g.S.Sink.failures c.args.sink.now) (g.S.Sink.failures c.run_alone.new.sink) c.run_alone.result in
    subst ran (sym (only_lent own.memory c.lend-mem.result.now c.lend-mem.ensures.lent)) c.run_alone.ensures

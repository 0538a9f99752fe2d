use Rattle.std.proofs.Common.{ap, ◌∙◌}
use Rattle.engine_meaning.specs.Engine.{body_at}
use Rattle.partition_base.specs.Bursting.{ticked_at}
use Rattle.partition_base.specs.Machines.{controls_of, engine_of}
use Rattle.partition_base.proofs.machine.PartitionProcessorExecutor.tick.Goals as goal

pub returns-clause-ticked : goal.returns-clause-ticked
returns-clause-ticked c =
    let m = c.args.self.now in
    let memory = c.args.mem.now in
    c.tick_at.ensures.ticked (body_at m.init m.handler m.processes.items)
    ∙ ap (λ p. ticked_at (engine_of m) p (controls_of m memory) memory.words) c.place.ensures

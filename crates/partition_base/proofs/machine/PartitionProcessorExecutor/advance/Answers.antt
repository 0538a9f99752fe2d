use Rattle.std.proofs.Common.{ap, ◌∙◌}
use Rattle.engine_meaning.specs.Engine.{body_at}
use Rattle.partition_base.specs.Bursting.{burst_at}
use Rattle.partition_base.specs.Machines.{controls_of, engine_of}
use Rattle.partition_base.proofs.machine.PartitionProcessorExecutor.advance.Goals as goal

pub returns-clause-burst : goal.returns-clause-burst
returns-clause-burst c =
    let m = c.args.self.now in
    let memory = c.args.mem.now in
    c.advance_at.ensures.burst (body_at m.init m.handler m.processes.items)
    ∙ ap (λ p. burst_at (engine_of m) c.args.k p (controls_of m memory) memory.words) c.place.ensures

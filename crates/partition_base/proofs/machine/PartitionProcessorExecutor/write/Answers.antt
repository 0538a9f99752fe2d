use Rattle.std.proofs.Common.{◌∷◌, ap, ◌∙◌}
use Rattle.partition_base.specs.Machines.{laid_of}
use Rattle.partition_base.specs.Slots.{stack_lengths}
use Rattle.partition_base.proofs.Places.{length_put}
use Rattle.partition_base.proofs.machine.PartitionProcessorExecutor.write.Goals as goal

pub returns-then-place-ge0-clause-fits : goal.returns-then-place-ge0-clause-fits
returns-then-place-ge0-clause-fits c =
    let mem = c.args.mem.now in
    ap laid_of c.put.ensures ∙ ap (λ n. n ∷ stack_lengths mem) (length_put mem.words c.unsigned_abs.result c.args.array.now) ∙ c.requires

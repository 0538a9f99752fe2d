-- The steps of one partition that the code makes.
use Rattle.apex_types.specs.declared.identity.At.{At}
use Rattle.kernel_meaning.specs.Partition.{Member, Moved, cold_start, breaks_down, advances, arrives, admits, goes_out}
use Rattle.lone_partition.specs.declared.step.PartitionStep.{PartitionStep}
use Rattle.lone_partition.specs.declared.step.PartitionStep.TheVariants as step

-- the effect of a step on its partition
abbrev pub step_of : {C : Type 0} → At → PartitionStep → Member C → Moved C
step_of at (step.Start c) x = cold_start at c x
step_of at (step.Arrive port m) x = arrives at port m x
step_of at (step.Admit port) x = admits at port x
step_of at (step.GoOut channel m) x = goes_out at channel m x
step_of at step.BreakDown x = breaks_down at x
step_of at step.Tick x = advances at x

-- A partition with a memory that belongs to no other partition.
use Rattle.std.specs.Prelude.{◌≡◌, List, [], get_or, length}
use Rattle.partition.specs.declared.partition.Partition.{Partition}
use Rattle.partition_base.specs.Machines.{laid_of, layout_of}
use Rattle.partition_base.specs.declared.machine.PartitionProcessor.{PartitionProcessor}
use Rattle.regions.specs.Space.{Space, seen}

-- the part of a memory that has no other
abbrev pub only_part : List Space → Space
only_part memory = get_or memory 0 (seen [] [] 0)

-- the memory has one part, and it has the layout of the partition's executor
pub record IsAlone (p : Partition PartitionProcessor Space) (memory : List Space) : Type 0 where
  pub one : length memory ≡ 1
  pub fits : laid_of (only_part memory) ≡ layout_of p.executor

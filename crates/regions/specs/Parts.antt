-- The parts of a memory by the numbers of their partitions.
use Rattle.std.specs.Prelude.{◌<◌, ◌≤◌, ◌-◌, ℕ, List, length}
use Rattle.apex_types.specs.declared.identity.PartitionId.{PartitionId}
use Rattle.regions.specs.Space.{Space}

-- partitions are numbered from 1
abbrev pub place_of : PartitionId → ℕ
place_of partition = partition.0 - 1

-- the partition is one of those that the memory was made for
abbrev pub HasPart : List Space → PartitionId → Type 0
HasPart memory partition = (0 < partition.0) × (partition.0 ≤ length memory)

-- The load of a schedule: the numbers of each partition, the ticks that no partition owns, and the gaps.
use Rattle.std.specs.Prelude.{◌≡◌, ℕ, ◌+◌, List, [], ◌∷◌, Some, None, sum_by}
use Rattle.kernel_meaning.specs.Windows.{Schedule}
use Rattle.module_meaning.specs.Table.{Table, Partition}
use Rattle.schedule_load.specs.Ownership.{ticks_of, least_offered, most_offered, periods_of}
use Rattle.schedule_load.specs.Gaps.{gaps_of}
use Rattle.schedule_load.specs.declared.load.FrameLoad.{FrameLoad}
use Rattle.schedule_load.specs.declared.load.PartitionLoad.{PartitionLoad}

-- the load of the partition with this number
abbrev pub partition_load : Schedule → ℕ → Partition → PartitionLoad
partition_load s number p = record {
  name = p.name;
  ticks = ticks_of s (Some number) 0 s.frame;
  period = p.period;
  wanted = p.duration;
  least = least_offered s number p.period (periods_of s.frame p.period);
  most = most_offered s number p.period (periods_of s.frame p.period);
}

-- the loads of partitions, the first of which has this number
abbrev pub partition_loads : Schedule → ℕ → List Partition → List PartitionLoad
partition_loads s number [] = []
partition_loads s number (p ∷ ps) = partition_load s number p ∷ partition_loads s (number + 1) ps

-- the ticks of a frame that these partitions own together
abbrev pub owned_ticks : List PartitionLoad → ℕ
owned_ticks loads = sum_by (λ load. load.ticks) loads

-- The load of a module table.
pub record IsLoadOf (t : Table) (load : FrameLoad) : Type 0 where
  pub frame : load.frame ≡ t.schedule.frame
  pub unowned : load.unowned ≡ ticks_of t.schedule None 0 t.schedule.frame
  pub partitions : load.partitions.items ≡ partition_loads t.schedule 1 t.partitions
  pub gaps : load.gaps.items ≡ gaps_of t.schedule

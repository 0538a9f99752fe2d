use Rattle.std.proofs.Common.{◌≡◌, ◌≤◌, ◌+◌, ◌-◌}
use Rattle.std.specs.Prelude.{option_map}
use Rattle.apex_types.specs.declared.identity.PartitionId.{PartitionId}
use Rattle.window_table.specs.Schedules.{schedule_of}
use Rattle.schedule_load.specs.Ownership.{ticks_of}
use Rattle.schedule_load.proofs.counting.ticks_of.Given as goal

abbrev pub invariant-loop-tick : goal.invariant-loop-tick
invariant-loop-tick l = record {
  past : l.low ≤ l.tick;
  bound : l.count ≤ l.tick - l.low;
  counted : l.count + ticks_of (schedule_of l.schedule) (option_map (λ (p : PartitionId). p.0) l.who) l.tick l.high ≡ ticks_of (schedule_of l.schedule) (option_map (λ (p : PartitionId). p.0) l.who) l.low l.high;
}

abbrev pub decreases-loop-tick : goal.decreases-loop-tick
decreases-loop-tick l = l.high - l.tick

use Rattle.lone_partition.proofs.Prelude.{◌≡◌, ◌≤◌, ◌+◌, ◌-◌, length, drop}
use Rattle.lone_partition.proofs.LinesOfTicks.{front}
use Rattle.lone_partition.proofs.lines.count_of_tick.Given as goal

abbrev pub invariant-loop-count : goal.invariant-loop-count
invariant-loop-count g l = record {
  within : l.count ≤ length l.lines;
  so_far : front g.L.HasTick.tick_of l.tick.0 l.lines ≡ l.count + front g.L.HasTick.tick_of l.tick.0 (drop l.count l.lines);
}

abbrev pub decreases-loop-count : goal.decreases-loop-count
decreases-loop-count g l = length l.lines - l.count

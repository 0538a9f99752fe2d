use Rattle.std.proofs.Common.{◌≡◌, ◌<◌, ◌≤◌, ◌-◌, ◌/◌}
use Rattle.window_table.specs.Schedules.{schedule_of}
use Rattle.schedule_load.proofs.Offers.{offers}
use Rattle.schedule_load.proofs.periods.offers_of.Given as goal

abbrev pub invariant-loop-passed : goal.invariant-loop-passed
invariant-loop-passed l = record {
  there : 0 < l.period;
  within : l.passed ≤ l.schedule.frame / l.period;
  so_far : l.offered ≡ offers (schedule_of l.schedule) l.partition.0 l.period l.passed;
}

abbrev pub decreases-loop-passed : goal.decreases-loop-passed
decreases-loop-passed l = l.schedule.frame / l.period - l.passed

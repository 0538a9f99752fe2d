use Rattle.std.proofs.Common.{option_map, arith}
use Rattle.apex_types.specs.declared.identity.PartitionId.{PartitionId}
use Rattle.window_table.specs.Schedules.{schedule_of}
use Rattle.schedule_load.proofs.Counts.{ends, goes_on}
use Rattle.schedule_load.proofs.counting.ticks_of.Goals as goal

pub loop-tick-preserved : goal.loop-tick-preserved
loop-tick-preserved c = record {
  past = omega (arith, c.loop-tick.invariant.past);
  bound = omega (arith, c.loop-tick.invariant.past, c.loop-tick.invariant.bound, c.counted-count.ensures.bound);
  counted = goes_on (schedule_of c.args.schedule.now) (option_map (λ (p : PartitionId). p.0) c.args.who) _ c.loop-tick.count c.counted-count.result c.loop-tick.tick c.stretch_from-next.result.ticks c.args.high _ c.stretch_from-next.ensures.within c.stretch_from-next.ensures.owner c.counted-count.ensures.ticks c.loop-tick.invariant.counted;
}

pub returns : goal.returns
returns c = ends (schedule_of c.args.schedule.now) (option_map (λ (p : PartitionId). p.0) c.args.who) c.loop-tick.count c.loop-tick.tick c.args.high _ c.loop-tick-test.false c.loop-tick.invariant.counted

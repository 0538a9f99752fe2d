use Rattle.std.proofs.Common.{◌≤◌, ◌+◌, option_map, arith}
use Rattle.apex_types.specs.declared.identity.PartitionId.{PartitionId}
use Rattle.window_table.specs.Schedules.{schedule_of}
use Rattle.schedule_load.proofs.Runs.{begun_at_most, ends, goes_on}
use Rattle.schedule_load.proofs.unowned.gaps.Goals as goal

pub loop-tick-preserved : goal.loop-tick-preserved
loop-tick-preserved c =
    let owner = option_map (λ (p : PartitionId). p.0) c.stretch_from-next.result.owner in
    let few : c.in_ok-begun.begun ≤ c.loop-tick.begun + c.stretch_from-next.result.ticks = begun_at_most c.loop-tick.begun c.stretch_from-next.result.ticks owner c.in_ok-begun.begun c.in_ok-begun.ensures.left in
    record {
      begun = omega (arith, few, c.loop-tick.invariant.begun);
      within = c.stretch_from-next.ensures.within;
      so_far = goes_on (schedule_of c.args.schedule.now) owner c.loop-tick.gaps.items c.follow.new.gaps.items c.loop-tick.begun c.in_ok-begun.begun c.loop-tick.tick c.stretch_from-next.result.ticks c.stretch_from-next.ensures.some c.stretch_from-next.ensures.within c.stretch_from-next.ensures.owner c.in_ok-begun.ensures.added c.in_ok-begun.ensures.left c.loop-tick.invariant.so_far;
    }

pub returns : goal.returns
returns c = ends (schedule_of c.args.schedule.now) c.loop-tick.gaps.items c.close.new.gaps.items c.loop-tick.begun c.loop-tick.tick c.loop-tick-test.false c.in_ok-close.ensures c.loop-tick.invariant.so_far

use Rattle.std.proofs.Common.{arith}
use Rattle.window_table.specs.Schedules.{schedule_of}
use Rattle.schedule_load.proofs.Offers.{all_offered, few, goes_on, none_offered, start}
use Rattle.schedule_load.proofs.periods.offers_of.Goals as goal

pub returns-then-period-eq0 : goal.returns-then-period-eq0
returns-then-period-eq0 c = none_offered (schedule_of c.args.schedule.now) c.args.partition.0 c.args.period c.args.schedule.now.frame c.if-period-eq0.true

pub loop-passed-init : goal.loop-passed-init
loop-passed-init c = record {
  there = omega (arith, c.if-period-eq0.false);
  within = omega arith;
  so_far = start (schedule_of c.args.schedule.now) c.args.partition.0 c.args.period;
}

pub overflow_add-passed : goal.overflow_add-passed
overflow_add-passed c = let h = few c.args.schedule.now.frame c.args.period c.loop-passed.invariant.there in omega (arith, h, c.next_alike-next.ensures.within)

pub loop-passed-preserved : goal.loop-passed-preserved
loop-passed-preserved c = record {
  there = c.loop-passed.invariant.there;
  within = c.next_alike-next.ensures.within;
  so_far = goes_on (schedule_of c.args.schedule.now) c.args.partition.0 c.args.period c.loop-passed.passed c.next_alike-next.result.count c.next_alike-next.result.ticks c.loop-passed.offered c.and-offered.result c.next_alike-next.ensures.some c.next_alike-next.ensures.ticks c.and-offered.ensures c.loop-passed.invariant.so_far;
}

pub returns : goal.returns
returns c = all_offered (schedule_of c.args.schedule.now) c.args.partition.0 c.args.period c.args.schedule.now.frame c.loop-passed.passed c.loop-passed.offered c.loop-passed.invariant.there c.loop-passed.invariant.within c.loop-passed-test.false c.loop-passed.invariant.so_far

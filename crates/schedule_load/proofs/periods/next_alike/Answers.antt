use Rattle.std.proofs.Common.{arith, sym, refl, ◌∙◌, ◌*◌, option_map}
use Rattle.apex_types.specs.declared.identity.PartitionId.{PartitionId}
use Rattle.window_table.specs.Schedules.{schedule_of}
use Rattle.window_table.proofs.Periods.{period_within}
use Rattle.schedule_load.proofs.Offers.{fit, in_stretch}
use Rattle.schedule_load.proofs.periods.next_alike.Goals as goal

pub overflow_mul-low : goal.overflow_mul-low
overflow_mul-low c = let h = period_within c.args.schedule.now.frame c.args.period c.args.passed c.requires.left c.requires.period in omega (arith, h)

pub overflow_add-low : goal.overflow_add-low
overflow_add-low c = let h = period_within c.args.schedule.now.frame c.args.period c.args.passed c.requires.left c.requires.period in omega (arith, h)

pub returns-clause-ticks : goal.returns-clause-ticks
returns-clause-ticks c = λ i below.
    in_stretch (schedule_of c.args.schedule.now) c.args.partition.0 c.args.period c.args.passed (c.args.passed * c.args.period) c.stretch_from-next.result.ticks c.min-whole.result (option_map (λ (p : PartitionId). p.0) c.stretch_from-next.result.owner) refl c.stretch_from-next.ensures.owner
    (fit c.stretch_from-next.result.ticks c.args.period c.min-whole.result _ c.min-whole.ensures) i below
    ∙ sym c.counted.ensures.ticks

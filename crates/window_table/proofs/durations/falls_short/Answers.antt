use Rattle.std.proofs.Common.{◌/◌, arith}
use Rattle.window_table.proofs.Periods.{short_here, no_duration}
use Rattle.window_table.proofs.durations.falls_short.Goals as goal

pub returns-then-offers_less : goal.returns-then-offers_less
returns-then-offers_less c =
    short_here (c.args.frame / c.args.partition.now.period) c.loop.counter _ _ _ _ _ _ _ _ _ _ c.from-period.ensures c.from-duration.ensures c.loop.invariant.start (omega arith) (c.not_ended-rest.ensures.same _ _ _ (omega arith)) (c.loop.invariant.ended _ _ _ (omega arith)) c.offers_less.ensures c.if-offers_less.true

pub returns-then-duration-eq0 : goal.returns-then-duration-eq0
returns-then-duration-eq0 c =
    no_duration _ _ _ _ _ _ c.from-duration.ensures c.if-duration-eq0.true

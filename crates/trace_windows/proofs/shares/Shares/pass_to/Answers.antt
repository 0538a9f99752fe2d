use Rattle.std.proofs.Common.{ap, arith}
use Rattle.trace_windows.specs.Standings.{in_run}
use Rattle.trace_windows.specs.declared.shares.Shares.{Shares}
use Rattle.trace_windows.proofs.Stretches.{passed_on}
use Rattle.trace_windows.proofs.Totals.{total_passed}
use Rattle.trace_windows.proofs.shares.Shares.pass_to.Goals as goal

pub returns-clause-counted : goal.returns-clause-counted
returns-clause-counted c =
    let old = c.args.self.now in
    let mid = c.count.new.self in
    passed_on old mid c.clear.new.self.items c.max.result c.max-2.result c.min-until.result (in_run c.args.tick.0)
    old.counted.rows.items mid.counted.rows.items c.count_frames.new.self.counted.rows.items
    c.in_ok-count.ensures.others c.clear.ensures.items c.max.ensures c.max-2.ensures c.min-until.ensures (omega (arith, c.if-until-self.false))
    c.in_ok-count.ensures.counted c.in_ok-count_frames.ensures.counted

pub returns-clause-total : goal.returns-clause-total
returns-clause-total c =
    let old = c.args.self.now in
    let mid = c.count.new.self in
    total_passed old.tick.0 old.from.0 mid.from.0 c.max.result c.max-2.result c.min-until.result (in_run c.args.tick.0)
    old.counted.rows.items mid.counted.rows.items c.count_frames.new.self.counted.rows.items
    (ap (λ (s : Shares). s.from.0) c.in_ok-count.ensures.others) c.max.ensures c.max-2.ensures c.min-until.ensures (omega (arith, c.if-until-self.false))
    c.in_ok-count.ensures.total c.in_ok-count_frames.ensures.total

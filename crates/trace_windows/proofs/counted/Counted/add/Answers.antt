use Rattle.std.proofs.Common.{List, arith, subst, sym}
use Rattle.std.proofs.lemmas.Result.{on_ok_weaker}
use Rattle.trace_windows.specs.Counts.{HasMore, HasTotal}
use Rattle.trace_windows.specs.declared.counted.Row.{Row}
use Rattle.trace_windows.proofs.Adding.{rows_last, rows_there}
use Rattle.trace_windows.proofs.Totals.{total_last, total_none, total_there}
use Rattle.trace_windows.proofs.counted.Counted.add.Goals as goal

pub returns-then-ticks-eq0-clause-total : goal.returns-then-ticks-eq0-clause-total
returns-then-ticks-eq0-clause-total c = total_none c.args.self.now.rows.items c.args.ticks c.if-ticks-eq0.true

pub returns-in-Some-clause-used : goal.returns-in-Some-clause-used
returns-in-Some-clause-used c =
    let rows = c.args.self.now.rows.items in
    rw c.add_at.ensures (rows_there rows c.in-Some.place c.args.ticks c.args.used.now (omega (arith, c.if-ticks-eq0.false)) (sym c.in-Some.ensures))

pub returns-in-Some-clause-total : goal.returns-in-Some-clause-total
returns-in-Some-clause-total c = rw c.add_at.ensures (total_there c.args.self.now.rows.items c.in-Some.place c.args.ticks c.args.used.now (sym c.in-Some.ensures))

pub returns-in-None-clause-used : goal.returns-in-None-clause-used
returns-in-None-clause-used c =
    let rows = c.args.self.now.rows.items in
    let more = rows_last rows c.args.ticks c.args.used.now (omega (arith, c.if-ticks-eq0.false)) (omega (arith, c.ranges.ticks.fits)) (sym c.in-None.ensures) in
    on_ok_weaker c.add_row.result (λ is. subst (λ (rs : List Row). HasMore c.args.used.now c.args.ticks rows rs) (sym is) more) c.add_row.ensures

pub returns-in-None-clause-total : goal.returns-in-None-clause-total
returns-in-None-clause-total c =
    let rows = c.args.self.now.rows.items in
    let more = total_last rows c.args.used.now c.args.ticks in
    on_ok_weaker c.add_row.result (λ is. subst (λ (rs : List Row). HasTotal c.args.ticks rows rs) (sym is) more) c.add_row.ensures

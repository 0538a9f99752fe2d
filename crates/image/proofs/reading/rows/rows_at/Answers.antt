use Rattle.std.proofs.Common.{[]}
use Rattle.std.proofs.lemmas.Result.{err_from_is_err_and}
use Rattle.machine_meaning.specs.ImageReading.{items_at}
use Rattle.image.specs.Named.{named}
use Rattle.image.proofs.Loop.{goes_on, stops, is_done}
use Rattle.image.proofs.reading.rows.rows_at.Goals as goal

pub returns-in_err-row : goal.returns-in_err-row
returns-in_err-row g c =
    let p = err_from_is_err_and c.from_residual.result c.from_residual.ensures.1 in
    rw (p.1, p.2) (stops (named c.in_err-row.field-0.0) (g.T.Row.reads c.args.limits) c.args.count c.loop.counter c.loop.rows.items c.loop.rest.now (items_at (g.T.Row.reads c.args.limits) c.args.count [] c.args.bytes.now) c.loop-test.true (rw c.deref.ensures.value at c.in_err-row.ensures) c.loop.invariant)

pub loop-preserved : goal.loop-preserved
loop-preserved g c =
    rw c.in_ok-push.ensures.items (goes_on (g.T.Row.reads c.args.limits) c.args.count c.loop.counter c.loop.rows.items c.loop.rest.now c.in_ok-row.row c.in_ok-row.after.now (items_at (g.T.Row.reads c.args.limits) c.args.count [] c.args.bytes.now) c.loop-test.true (rw c.deref.ensures.value at c.in_ok-row.ensures) c.loop.invariant)

pub returns : goal.returns
returns g c = is_done (g.T.Row.reads c.args.limits) c.args.count c.loop.counter c.loop.rows.items c.loop.rest.now (items_at (g.T.Row.reads c.args.limits) c.args.count [] c.args.bytes.now) c.loop-test.false c.loop.invariant

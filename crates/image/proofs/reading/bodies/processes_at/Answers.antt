use Rattle.std.proofs.Common.{[]}
use Rattle.machine_meaning.specs.ImageReading.{items_at, process_at}
use Rattle.image.specs.Named.{named}
use Rattle.image.proofs.Loop.{goes_on, stops, is_done}
use Rattle.image.proofs.reading.bodies.processes_at.Goals as goal

pub returns-in-Err : goal.returns-in-Err
returns-in-Err c =
    stops (named c.in-Err.fault) (process_at c.args.unit) c.args.count c.loop.counter c.loop.rows.items c.loop.rest.now (items_at (process_at c.args.unit) c.args.count [] c.args.bytes.now) c.loop-test.true (rw c.deref.ensures.value at c.in-Err.ensures) c.loop.invariant

pub loop-preserved : goal.loop-preserved
loop-preserved c =
    rw c.in_ok-push.ensures.items (goes_on (process_at c.args.unit) c.args.count c.loop.counter c.loop.rows.items c.loop.rest.now c.in-Ok.found.0 c.in-Ok.found.1.now (items_at (process_at c.args.unit) c.args.count [] c.args.bytes.now) c.loop-test.true (rw c.deref.ensures.value at c.in-Ok.ensures) c.loop.invariant)

pub returns : goal.returns
returns c = is_done (process_at c.args.unit) c.args.count c.loop.counter c.loop.rows.items c.loop.rest.now (items_at (process_at c.args.unit) c.args.count [] c.args.bytes.now) c.loop-test.false c.loop.invariant

use Rattle.std.proofs.Common.{[], ◌∙◌, ap}
use Rattle.std.proofs.lemmas.List.{map_push}
use Rattle.machine_meaning.specs.ImageReading.{items_at, item_at}
use Rattle.image.specs.Items.{item_of, items_of}
use Rattle.image.specs.Named.{named}
use Rattle.image.proofs.Loop.{goes_on, stops, is_done}
use Rattle.image.proofs.reading.items.items_at.Goals as goal

pub returns-in-Err : goal.returns-in-Err
returns-in-Err c =
    stops (named c.in-Err.fault) (item_at c.args.limits c.args.frame) c.args.count c.loop.counter (items_of c.loop.items.items) c.loop.rest.now (items_at (item_at c.args.limits c.args.frame) c.args.count [] c.args.bytes.now) c.loop-test.true (rw c.deref.ensures.value at c.in-Err.ensures) c.loop.invariant

pub loop-preserved : goal.loop-preserved
loop-preserved c =
    rw (ap items_of c.in_ok-push.ensures.items ∙ map_push _ c.loop.items.items c.in-Ok.found.0) (goes_on (item_at c.args.limits c.args.frame) c.args.count c.loop.counter (items_of c.loop.items.items) c.loop.rest.now (item_of c.in-Ok.found.0) c.in-Ok.found.1.now (items_at (item_at c.args.limits c.args.frame) c.args.count [] c.args.bytes.now) c.loop-test.true (rw c.deref.ensures.value at c.in-Ok.ensures) c.loop.invariant)

pub returns : goal.returns
returns c = is_done (item_at c.args.limits c.args.frame) c.args.count c.loop.counter (items_of c.loop.items.items) c.loop.rest.now (items_at (item_at c.args.limits c.args.frame) c.args.count [] c.args.bytes.now) c.loop-test.false c.loop.invariant

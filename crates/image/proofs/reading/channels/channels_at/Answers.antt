use Rattle.std.proofs.Common.{[], ◌∙◌, ap}
use Rattle.std.proofs.lemmas.List.{map_push}
use Rattle.machine_meaning.specs.ImageReading.{items_at, channel_at}
use Rattle.image.specs.Items.{channel_of, channels_of}
use Rattle.image.specs.Named.{named}
use Rattle.image.proofs.Loop.{goes_on, stops, is_done}
use Rattle.image.proofs.reading.channels.channels_at.Goals as goal

pub returns-in-Err : goal.returns-in-Err
returns-in-Err c =
    stops (named c.in-Err.fault) channel_at c.args.count c.loop.counter (channels_of c.loop.rows.items) c.loop.rest.now (items_at channel_at c.args.count [] c.args.bytes.now) c.loop-test.true (rw c.deref.ensures.value at c.in-Err.ensures) c.loop.invariant

pub loop-preserved : goal.loop-preserved
loop-preserved c =
    rw (ap channels_of c.in_ok-push.ensures.items ∙ map_push _ c.loop.rows.items c.in-Ok.found.0) (goes_on channel_at c.args.count c.loop.counter (channels_of c.loop.rows.items) c.loop.rest.now (channel_of c.in-Ok.found.0) c.in-Ok.found.1.now (items_at channel_at c.args.count [] c.args.bytes.now) c.loop-test.true (rw c.deref.ensures.value at c.in-Ok.ensures) c.loop.invariant)

pub returns : goal.returns
returns c = is_done channel_at c.args.count c.loop.counter (channels_of c.loop.rows.items) c.loop.rest.now (items_at channel_at c.args.count [] c.args.bytes.now) c.loop-test.false c.loop.invariant

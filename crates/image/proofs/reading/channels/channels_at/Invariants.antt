use Rattle.std.proofs.Common.{◌≡◌, ◌-◌, []}
use Rattle.machine_meaning.specs.ImageReading.{channel_at, items_at}
use Rattle.image.specs.Items.{channels_of}
use Rattle.image.proofs.reading.channels.channels_at.Given as goal

abbrev pub invariant-loop : goal.invariant-loop
invariant-loop l = items_at channel_at (l.count - l.counter) (channels_of l.rows.items) l.rest ≡ items_at channel_at l.count [] l.bytes

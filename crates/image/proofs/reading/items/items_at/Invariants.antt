use Rattle.std.proofs.Common.{◌≡◌, ◌-◌, []}
use Rattle.machine_meaning.specs.ImageReading.{item_at, items_at}
use Rattle.image.specs.Items.{items_of}
use Rattle.image.proofs.reading.items.items_at.Given as goal

abbrev pub invariant-loop : goal.invariant-loop
invariant-loop l = items_at (item_at l.limits l.frame) (l.count - l.counter) (items_of l.items.items) l.rest ≡ items_at (item_at l.limits l.frame) l.count [] l.bytes

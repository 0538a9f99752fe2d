use Rattle.std.proofs.Common.{◌≡◌, ◌-◌, []}
use Rattle.machine_meaning.specs.ImageReading.{items_at}
use Rattle.image.proofs.reading.rows.rows_at.Given as goal

abbrev pub invariant-loop : goal.invariant-loop
invariant-loop g l = items_at (g.T.Row.reads l.limits) (l.count - l.counter) l.rows.items l.rest ≡ items_at (g.T.Row.reads l.limits) l.count [] l.bytes

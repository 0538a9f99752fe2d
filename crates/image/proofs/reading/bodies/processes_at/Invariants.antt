use Rattle.std.proofs.Common.{◌≡◌, ◌-◌, []}
use Rattle.machine_meaning.specs.ImageReading.{process_at, items_at}
use Rattle.image.proofs.reading.bodies.processes_at.Given as goal

abbrev pub invariant-loop : goal.invariant-loop
invariant-loop l = items_at (process_at l.unit) (l.count - l.counter) l.rows.items l.rest ≡ items_at (process_at l.unit) l.count [] l.bytes

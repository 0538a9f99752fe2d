use Rattle.std.proofs.Common.{rules, ◌≤◌, length}
use Rattle.ports.proofs.Entering.{nobody_enters}
use Rattle.ports.proofs.arrival.admit.Goals as goal

-- no process enters at a place without a port
pub returns-else-place-count-clause-step : goal.returns-else-place-count-clause-step
returns-else-place-count-clause-step c =
    let beyond : length c.args.ports.now.ports ≤ c.args.place = search rules in
    rw (nobody_enters c.args.table.now c.args.ports.now c.args.place beyond) (search rules)

use Rattle.std.proofs.Common.{◌≡◌, ◌++◌, drop}
use Rattle.state_rows.specs.Rows.{rows_in}
use Rattle.state_rows.specs.States.{port_rows, placed, placed_from}
use Rattle.state_view.proofs.port_rows.write_ports.Given as goal

-- what is written so far, and what the rest adds
abbrev pub invariant-loop-place : goal.invariant-loop-place
invariant-loop-place l =
    let rows = port_rows l.of.name l.processes in
    l.text.items ++ rows_in l.of.form (placed_from rows l.place (drop l.place l.all)) ≡ l.initial.text.items ++ rows_in l.of.form (placed rows l.all)

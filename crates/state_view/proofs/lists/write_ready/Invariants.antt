use Rattle.std.proofs.Common.{◌≡◌, ◌++◌, drop}
use Rattle.state_rows.specs.Rows.{rows_in}
use Rattle.state_rows.specs.States.{ready_row, placed, placed_from}
use Rattle.state_view.proofs.lists.write_ready.Given as goal

-- what is written so far, and what the rest adds
abbrev pub invariant-loop-place : goal.invariant-loop-place
invariant-loop-place l =
    let rows = ready_row l.of.name l.processes in
    l.text.items ++ rows_in l.of.form (placed_from rows l.place (drop l.place l.entries)) ≡ l.initial.text.items ++ rows_in l.of.form (placed rows l.entries)

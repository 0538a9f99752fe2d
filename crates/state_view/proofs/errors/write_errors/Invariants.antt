use Rattle.std.proofs.Common.{◌≡◌, ◌++◌, drop}
use Rattle.state_rows.specs.Rows.{rows_in}
use Rattle.state_rows.specs.States.{error_row, placed, placed_from}
use Rattle.state_view.proofs.errors.write_errors.Given as goal

-- what is written so far, and what the rest adds
abbrev pub invariant-loop-place : goal.invariant-loop-place
invariant-loop-place l =
    let rows = error_row l.of.name l.processes in
    l.text.items ++ rows_in l.of.form (placed_from rows l.place (drop l.place l.errors.waiting)) ≡ l.initial.text.items ++ rows_in l.of.form (placed rows l.errors.waiting)

use Rattle.std.proofs.Common.{◌≡◌, ◌++◌, drop}
use Rattle.state_rows.specs.Rows.{rows_in}
use Rattle.state_rows.specs.States.{runner_rows, placed, placed_from}
use Rattle.partition_base.specs.Machines.{controls_of}
use Rattle.state_view.proofs.runners.write_runners.Given as goal

-- what is written so far, and what the rest adds
abbrev pub invariant-loop-place : goal.invariant-loop-place
invariant-loop-place l =
    let rows = runner_rows l.of.name l.code (controls_of l.processor l.memory) in
    l.text.items ++ rows_in l.of.form (placed_from rows l.place (drop l.place l.rows)) ≡ l.initial.text.items ++ rows_in l.of.form (placed rows l.rows)

use Rattle.std.proofs.Common.{◌≡◌, ◌++◌, drop}
use Rattle.state_rows.specs.Rows.{rows_in}
use Rattle.state_rows.specs.States.{message_row, placed, placed_from}
use Rattle.state_rows.specs.Fields.{field_of}
use Rattle.state_view.proofs.port_rows.write_port_messages.Given as goal

-- what is written so far, and what the rest adds
abbrev pub invariant-loop-place : goal.invariant-loop-place
invariant-loop-place l =
    let rows = message_row l.of.name (field_of l.object) in
    l.text.items ++ rows_in l.of.form (placed_from rows l.place (drop l.place l.port.messages)) ≡ l.initial.text.items ++ rows_in l.of.form (placed rows l.port.messages)

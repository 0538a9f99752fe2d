use Rattle.std.proofs.Common.{◌≡◌, ◌++◌, drop}
use Rattle.state_rows.specs.Rows.{fields_in}
use Rattle.state_rows.specs.Fields.{fields_of}
use Rattle.state_rows.proofs.row.write_fields.Given as goal

-- what is written so far, and what the rest adds
abbrev pub invariant-loop-field : goal.invariant-loop-field
invariant-loop-field l = l.text.items ++ fields_in l.form (fields_of (drop l.field-index l.fields)) ≡ l.initial.text.items ++ fields_in l.form (fields_of l.fields)

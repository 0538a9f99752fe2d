use Rattle.std.proofs.Common.{◌≡◌, ◌++◌, drop, map}
use Rattle.pal.specs.Tables.{counts_of}
use Rattle.pal_base.specs.View.{declaration_of, texts}
use Rattle.pal_meaning.specs.Resolve.{declaration_entries}
use Rattle.state_rows.specs.Named.{declared_rows, entries_rows}
use Rattle.state_rows.specs.Rows.{rows_in}
use Rattle.state_view.proofs.declared.write_declared.Given as goal

-- what is written so far, and what the rest adds
abbrev pub invariant-loop-declaration : goal.invariant-loop-declaration
invariant-loop-declaration l =
    let all = map (declaration_of (texts l.names.keys)) in
    l.text.items ++ rows_in l.of.form (entries_rows l.of.name l.data (declaration_entries l.ports (counts_of l.counts) (all (drop l.declaration-index l.declarations))))
    ≡ l.initial.text.items ++ rows_in l.of.form (declared_rows l.of.name l.ports l.data (all l.declarations))

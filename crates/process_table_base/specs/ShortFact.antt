-- That the rows of processes are short is one fact: it has at most one proof, so that a struct can carry it.
use Rattle.std.specs.Prelude.{List, [], ◌∷◌}
use Rattle.std.specs.Coded.{×_prop, Unit-prop}
use Rattle.std.proofs.Props.{props}
use Rattle.apex_types.specs.declared.row.ProcessRow.{ProcessRow}
use Rattle.process_table_base.specs.Bounds.{IsShort, AreShort}

short_prop : (row : ProcessRow) → IsProp (IsShort row)
short_prop row = hlevel props

pub shorts_prop : (rows : List ProcessRow) → IsProp (AreShort rows)
shorts_prop [] = Unit-prop
shorts_prop (row ∷ rows) = ×_prop (short_prop row) (shorts_prop rows)

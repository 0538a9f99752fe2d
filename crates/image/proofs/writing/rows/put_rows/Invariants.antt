use Rattle.std.proofs.Common.{◌≡◌, ◌++◌, drop}
use Rattle.std.specs.List.{flat_map}
use Rattle.image.proofs.writing.rows.put_rows.Given as goal

-- those so far, and those of the rest, are all
abbrev pub invariant-loop-row : goal.invariant-loop-row
invariant-loop-row g l = l.out.items ++ flat_map g.T.Spelled.spelled (drop l.row-index l.rows) ≡ l.initial.out.items ++ flat_map g.T.Spelled.spelled l.rows

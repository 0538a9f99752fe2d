use Rattle.std.proofs.Common.{◌≡◌, ◌++◌, map, drop}
use Rattle.std.specs.List.{list_any}
use Rattle.module_meaning.specs.TableRules.{cost_row, is_outside_cost}
use Rattle.window_table.proofs.limits.cost_rows.Given as goal

abbrev pub invariant-loop-number : goal.invariant-loop-number
invariant-loop-number l = record {
  within : list_any is_outside_cost l.numbers ≡ list_any is_outside_cost (drop l.number-index l.numbers);
  built : map cost_row l.numbers ≡ l.rows.items ++ map cost_row (drop l.number-index l.numbers);
}

use Rattle.std.proofs.Common.{◌≡◌, ◌++◌, map, drop}
use Rattle.pal_base.specs.View.{declaration_of, texts}
use Rattle.window_table.specs.Views.{partition_view}
use Rattle.lint.specs.Ports.{better_row}
use Rattle.lint.specs.Views.{found_all}
use Rattle.lint.proofs.port_rules.add_first_better.Given as goal

abbrev pub invariant-loop-row : goal.invariant-loop-row
invariant-loop-row l =
    found_all l.findings.items ++ better_row l.own (map (declaration_of (texts l.names.keys)) l.declarations) (map partition_view (drop l.row-index l.rows))
    ≡ found_all l.fn.findings.items ++ better_row l.own (map (declaration_of (texts l.names.keys)) l.declarations) (map partition_view l.rows)

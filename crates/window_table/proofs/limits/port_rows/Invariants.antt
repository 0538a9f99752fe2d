use Rattle.std.proofs.Common.{◌≡◌, ◌++◌, map, drop}
use Rattle.std.specs.List.{list_any}
use Rattle.module_meaning.specs.TableRules.{exceeds_port, port_row}
use Rattle.window_table.specs.Views.{port_text}
use Rattle.window_table.proofs.limits.port_rows.Given as goal

abbrev pub invariant-loop-port : goal.invariant-loop-port
invariant-loop-port l = record {
  within : list_any exceeds_port (map port_text l.ports) ≡ list_any exceeds_port (map port_text (drop l.port-index l.ports));
  built : map port_row (map port_text l.ports) ≡ l.rows.items ++ map port_row (map port_text (drop l.port-index l.ports));
}

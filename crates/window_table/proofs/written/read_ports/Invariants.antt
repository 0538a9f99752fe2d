use Rattle.std.proofs.Common.{◌≡◌, drop, map}
use Rattle.toml.specs.View.{items_view}
use Rattle.module_meaning.specs.TableRules.{tables_of, port_of}
use Rattle.window_table.specs.Views.{port_text}
use Rattle.window_table.proofs.Reading.{behind}
use Rattle.window_table.proofs.written.read_ports.Given as goal

abbrev pub invariant-loop-value : goal.invariant-loop-value
invariant-loop-value l = tables_of port_of (items_view l.values) ≡ behind (map port_text l.ports.items) (tables_of port_of (items_view (drop l.value-index l.values)))

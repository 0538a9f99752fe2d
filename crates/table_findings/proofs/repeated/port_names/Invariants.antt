use Rattle.std.proofs.Common.{◌≡◌, ◌++◌, drop, map}
use Rattle.table_findings.specs.Names.{port_names}
use Rattle.window_table.specs.Views.{port_text}
use Rattle.table_findings.proofs.repeated.port_names.Given as goal

abbrev pub invariant-loop-port : goal.invariant-loop-port
invariant-loop-port l =
    map (λ name. name.now) l.names.items ++ port_names (map port_text (drop l.port-index l.ports)) ≡ port_names (map port_text l.ports)

use Rattle.std.proofs.Common.{◌≡◌, drop, map}
use Rattle.table_findings.specs.Ends.{port_named}
use Rattle.window_table.specs.Views.{port_text}
use Rattle.table_findings.proofs.fitting.port_named.Given as goal

abbrev pub invariant-loop-port : goal.invariant-loop-port
invariant-loop-port l = port_named l.partition (map port_text (drop l.port-index l.ports)) l.text ≡ port_named l.partition (map port_text l.ports) l.text

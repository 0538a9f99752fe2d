use Rattle.std.proofs.Common.{◌≡◌, ◌++◌, drop, map}
use Rattle.table_findings.specs.Limits.{ports_from}
use Rattle.table_findings.specs.Views.{findings_of, row_of}
use Rattle.window_table.specs.Views.{port_text}
use Rattle.table_findings.proofs.bounds.ports.Given as goal

abbrev pub invariant-loop-index : goal.invariant-loop-index
invariant-loop-index l =
    findings_of l.found.items ++ ports_from (row_of l.partition) l.index (map port_text (drop l.index l.ports))
    ≡ findings_of l.fn.found.items ++ ports_from (row_of l.partition) 0 (map port_text l.ports)

use Rattle.std.proofs.Common.{◌≡◌, ◌++◌, drop, map}
use Rattle.table_findings.specs.Limits.{windows_from}
use Rattle.table_findings.specs.Views.{findings_of}
use Rattle.window_table.specs.Views.{window_text}
use Rattle.table_findings.proofs.bounds.windows.Given as goal

abbrev pub invariant-loop-index : goal.invariant-loop-index
invariant-loop-index l =
    findings_of l.found.items ++ windows_from l.index (map window_text (drop l.index l.windows))
    ≡ findings_of l.fn.found.items ++ windows_from 0 (map window_text l.windows)

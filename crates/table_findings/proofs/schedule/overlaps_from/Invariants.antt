use Rattle.std.proofs.Common.{◌≡◌, ◌++◌, drop, map, pos}
use Rattle.table_findings.specs.Schedule.{overlaps_from}
use Rattle.table_findings.specs.Views.{findings_of}
use Rattle.window_table.specs.Views.{window_text}
use Rattle.table_findings.proofs.schedule.overlaps_from.Given as goal

abbrev pub invariant-loop-index : goal.invariant-loop-index
invariant-loop-index l =
    findings_of l.found.items ++ overlaps_from l.frame l.before l.index (map window_text (drop l.index l.windows))
    ≡ findings_of l.fn.found.items ++ overlaps_from l.frame (pos 0) 0 (map window_text l.windows)

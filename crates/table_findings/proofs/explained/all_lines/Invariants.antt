use Rattle.std.proofs.Common.{drop, map, string_bytes}
use Rattle.finding_lines.specs.Reports.{report_of}
use Rattle.finding_lines.specs.Views.{entries_in}
use Rattle.finding_lines.proofs.Reported.{IsUnderWay}
use Rattle.table_findings.specs.Explained.{offset_of}
use Rattle.table_findings.specs.Views.{findings_of}
use Rattle.table_findings.proofs.explained.all_lines.Given as goal

abbrev pub invariant-loop-finding : goal.invariant-loop-finding
invariant-loop-finding l =
    IsUnderWay (report_of l.report) l.text (map (offset_of l.text (entries_in l.places)) (findings_of l.found))
    (map (offset_of l.text (entries_in l.places)) (findings_of (drop l.finding-index l.found))) (string_bytes l.lines)

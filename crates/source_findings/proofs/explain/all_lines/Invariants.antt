use Rattle.std.proofs.Common.{drop, map, string_bytes}
use Rattle.finding_lines.specs.Reports.{report_of}
use Rattle.finding_lines.proofs.Reported.{IsUnderWay}
use Rattle.source_findings.specs.Explained.{offset_of}
use Rattle.source_findings.specs.Views.{wrongs_of}
use Rattle.source_findings.proofs.explain.all_lines.Given as goal

abbrev pub invariant-loop-wrong : goal.invariant-loop-wrong
invariant-loop-wrong l =
    IsUnderWay (report_of l.report) l.text (map (offset_of l.text) (wrongs_of l.found)) (map (offset_of l.text) (wrongs_of (drop l.wrong-index l.found))) (string_bytes l.lines)

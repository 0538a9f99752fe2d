use Rattle.std.proofs.Common.{string_bytes}
use Rattle.finding_lines.specs.Reports.{report_of}
use Rattle.source_findings.proofs.Explained.{with_place}
use Rattle.source_findings.proofs.explain.grammar_lines.Goals as goal

pub returns : goal.returns
returns c = with_place string_bytes (report_of c.args.report) c.args.text.now c.in_ok-place.place c.place_lines.result c.in_ok-place.ensures c.place_lines.ensures

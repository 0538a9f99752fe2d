use Rattle.std.proofs.Common.{string_bytes}
use Rattle.finding_lines.specs.Reports.{report_of}
use Rattle.pal_base.specs.WrittenView.{program_of}
use Rattle.source_findings.proofs.Explained.{with_program}
use Rattle.source_findings.proofs.explain.program_lines.Goals as goal

pub returns : goal.returns
returns c =
    with_program string_bytes (report_of c.args.report) c.args.period c.args.text.now c.args.rule (program_of c.in_ok-program.program) c.broken_lines.result c.in_ok-program.ensures c.broken_lines.ensures

use Rattle.std.proofs.Common.{map, rules, string_bytes}
use Rattle.finding_lines.specs.Reports.{form_of, report_of}
use Rattle.command_line.specs.Explained.{costed_file}
use Rattle.command_line.proofs.Noted.{with_costed}
use Rattle.command_line.proofs.explaining.length_explained_with.Goals as goal

pub returns : goal.returns
returns c =
    with_costed string_bytes (form_of c.args.form) c.args.costs.now (map (λ s. s.now) c.args.given.files.now) (map (λ s. s.now) c.args.given.texts.now) c.args.partition.now (costed_file c.in_ok-costed.costed)
    (report_of c.report_on-report.result) c.explain_length.result c.report_on-report.ensures (search rules) c.explain_length.ensures

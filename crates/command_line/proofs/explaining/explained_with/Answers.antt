use Rattle.std.proofs.Common.{map, rules, string_bytes}
use Rattle.finding_lines.specs.Reports.{form_of, report_of}
use Rattle.window_table.specs.Views.{table_of}
use Rattle.command_line.specs.Explained.{source_file}
use Rattle.command_line.proofs.Noted.{with_source}
use Rattle.command_line.proofs.explaining.explained_with.Goals as goal

pub returns : goal.returns
returns c =
    with_source string_bytes (form_of c.args.form) (table_of c.args.table.now) (map (λ s. s.now) c.args.given.files.now) (map (λ s. s.now) c.args.given.texts.now) c.args.partition.now c.args.fault (source_file c.in_ok-source.source)
    (report_of c.report_on-report.result) c.explain_source.result c.report_on-report.ensures (search rules) c.explain_source.ensures

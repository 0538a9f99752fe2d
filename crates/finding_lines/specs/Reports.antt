-- How findings are reported.
use Rattle.std.specs.Prelude.{ℕ, List}
use Rattle.finding_lines.specs.declared.report.Form.{Form as FormOfCode}
use Rattle.finding_lines.specs.declared.report.Form.TheVariants as code
use Rattle.finding_lines.specs.declared.report.Report.{Report as ReportOfCode}

-- lines for people, or a JSON object for each, with the rule that is broken
pub data Form : Type 0 where
  plain : Form
  json : (rule : List ℕ) → Form

-- the file whose findings are reported, by its name, and the form
pub record Report : Type 0 where
  pub file : List ℕ
  pub form : Form

abbrev pub form_of : FormOfCode → Form
form_of code.Plain = plain
form_of (code.Json rule) = json rule.now

abbrev pub report_of : ReportOfCode → Report
report_of r = record { file = r.file.now; form = form_of r.form }

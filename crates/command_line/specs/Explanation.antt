-- The explanations of a refused source, of a program that is too long, and of a refused table.
use Rattle.std.specs.Prelude.{◌≡◌, ℕ, List, ◌++◌, codes}
use Rattle.finding_lines.specs.Reports.{Form, Report, json, plain}
use Rattle.pal.specs.declared.report.BodyCost.{BodyCost}
use Rattle.pal_base.specs.declared.fault.Refusal.{Refusal}
use Rattle.source_findings.specs.Explained as source_findings
use Rattle.table_findings.specs.Refused as table_findings
use Rattle.window_table.specs.declared.fault.TableFault.{TableFault}
use Rattle.command_line.specs.Sentences.{command_sentence, source_sentence, table_sentence}
use Rattle.command_line.specs.declared.explanations.sentences.CommandFault.TheVariants as command

-- a sentence on its own line, and the lines after it; the objects of findings come without a sentence
abbrev pub explanation : Form → List ℕ → List ℕ → List ℕ
explanation plain sentence lines = sentence ++ (codes "\n" ++ lines)
explanation (json rule) sentence lines = lines

-- the text explains the refusal of a source by this rule, for a partition of this period: the sentence, and what is wrong with this source
abbrev pub IsSourceExplanation : Report → ℕ → List ℕ → Refusal → List ℕ → Type 0
IsSourceExplanation r period source refusal text = (lines : List ℕ) × source_findings.IsExplanation r period source refusal lines × (text ≡ explanation r.form (source_sentence refusal) lines)

-- the text explains that the program of this source is too long, by the costs of its bodies: the sentence, and with which body it is
abbrev pub IsLengthExplanation : Report → List ℕ → List BodyCost → List ℕ → Type 0
IsLengthExplanation r source bodies text = (lines : List ℕ) × source_findings.IsOfLength r source bodies lines × (text ≡ explanation r.form (command_sentence command.Compile) lines)

-- the text explains the refusal of a table by this rule: the sentence, and what is wrong with this table
abbrev pub IsTableExplanation : Report → List ℕ → TableFault → List ℕ → Type 0
IsTableExplanation r table fault text = (lines : List ℕ) × table_findings.IsExplanation r table fault lines × (text ≡ explanation r.form (table_sentence fault) lines)

-- What is wrong with a table that is refused.
use Rattle.std.specs.Prelude.{◌≡◌, ◌⊎◌, ℕ, ◌≤◌, List, [], length, Some, None}
use Rattle.finding_lines.specs.Lines.{IsAt}
use Rattle.finding_lines.specs.Reports.{Report}
use Rattle.finding_lines.specs.Entries.{Entry, entries}
use Rattle.toml.specs.Data.{Members}
use Rattle.module_meaning.specs.Accepted.{IsDocument}
use Rattle.module_meaning.specs.TableRules.{TableText, table_text_of}
use Rattle.table_findings.specs.Durations.{short_periods}
use Rattle.table_findings.specs.Ends.{ends}
use Rattle.table_findings.specs.Explained.{AreOf}
use Rattle.table_findings.specs.Findings.{Finding}
use Rattle.table_findings.specs.Health.{health}
use Rattle.table_findings.specs.Limits.{limits}
use Rattle.table_findings.specs.Names.{names}
use Rattle.table_findings.specs.Schedule.{odd_periods, overlaps, without_release}
use Rattle.table_findings.specs.Shape.{shape}
use Rattle.window_table.specs.declared.fault.TableFault.{TableFault}
use Rattle.window_table.specs.declared.fault.TableFault.TheVariants as fault

-- each place where a table whose keys and types are right breaks a rule
abbrev pub findings_in : TableFault → TableText → List Finding
findings_in fault.Limit t = limits t
findings_in fault.Name t = names t
findings_in fault.Overlap t = overlaps t
findings_in fault.Period t = odd_periods t
findings_in fault.Duration t = short_periods t
findings_in fault.Ends t = ends t
findings_in fault.Release t = without_release t
findings_in f t = []

abbrev pub findings_with : TableFault → Members → List Finding
findings_with f ms = elim (table_text_of ms) [ None ↦ [] | Some t ↦ findings_in f t ]

-- each place where a document breaks a rule
abbrev pub findings : TableFault → Members → List Finding
findings fault.Shape ms = shape ms
findings fault.Health ms = health ms
findings f ms = findings_with f ms

-- the lines report the first twenty findings of a document
abbrev pub IsOfDocument : Report → List ℕ → Members → TableFault → List ℕ → Type 0
IsOfDocument r text ms f lines = (es : List Entry) × (entries text ≡ Some es) × AreOf r text es (findings f ms) lines

-- they report the place where the reading of a text ended
abbrev pub IsEnded : Report → List ℕ → List ℕ → Type 0
IsEnded r bytes lines = (offset : ℕ) × (offset ≤ length bytes) × IsAt r bytes offset lines

-- a text that is no document has the place where its reading ended; a document has its findings
abbrev pub IsExplanation : Report → List ℕ → TableFault → List ℕ → Type 0
IsExplanation r bytes f lines = ((ms : Members) × IsDocument bytes ms × IsOfDocument r bytes ms f lines) ⊎ (((ms : Members) → IsDocument bytes ms → ⊥) × IsEnded r bytes lines)

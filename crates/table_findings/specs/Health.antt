-- What is wrong with the health tables and with the actions of a document.
use Rattle.std.specs.Prelude.{ℕ, if◌then◌else◌, List, [], ◌++◌, codes, Some, None}
use Rattle.toml.specs.Data.{Data, Members, no_members, member, as_str, as_table}
use Rattle.module_meaning.specs.TableRules.{is_one_of, table_at}
use Rattle.table_findings.specs.Fields.{words_of}
use Rattle.table_findings.specs.Findings.{Finding, NoWord}
use Rattle.table_findings.specs.Shape.{each, items_at, of_part, one, row_at, word}
use Rattle.table_findings.specs.Subjects.{Row, Subject, Health, Module}
use Rattle.table_findings.specs.declared.fields.Part.TheVariants as part
use Rattle.table_findings.specs.declared.words.Words.TheVariants as words

-- a text that is no action
abbrev pub action : Subject → List ℕ → Data → List Finding
action subject key d = elim (as_str d) [ None ↦ [] | Some text ↦ if is_one_of (words_of words.PartitionAction) text then [] else one subject (Some key) (NoWord text words.PartitionAction) ]

abbrev pub actions : Subject → Members → List Finding
actions subject no_members = []
actions subject (member key d ms) = action subject key d ++ actions subject ms

-- the keys that a health table lacks or has not, and its texts that are no actions
abbrev pub errors : Row → Members → List Finding
errors row ms = elim (table_at (codes "hm") ms) [ None ↦ [] | Some table ↦ of_part (Health row) part.Health table ++ actions (Health row) table ]

abbrev pub partition : ℕ → Data → List Finding
partition i d = elim (as_table d) [ None ↦ [] | Some ms ↦ errors (row_at i (codes "name") ms) ms ]

abbrev pub health : Members → List Finding
health ms = word Module (codes "fault") words.ModuleAction ms ++ each partition 0 (items_at (codes "partition") ms)

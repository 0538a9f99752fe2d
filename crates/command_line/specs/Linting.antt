-- What of a module is accepted and probably not meant.
use Rattle.std.specs.Prelude.{◌≡◌, ℕ, ◌+◌, Bool, List, [], ◌∷◌, ◌++◌, map, Option, Result, Ok, Err}
use Rattle.std.specs.Io.KnownBytes.{Appends}
use Rattle.apex_types.specs.Line.{TakesBeginning}
use Rattle.module_meaning.specs.Accepted.{IsTable}
use Rattle.module_meaning.specs.Table.{Partition, Table}
use Rattle.pal_meaning.specs.Grammar.{IsProgramOf}
use Rattle.pal_meaning.specs.Syntax as written
use Rattle.pal_base.specs.WrittenView.{program_of}
use Rattle.pal_base.specs.declared.checked.Checked.{Checked}
use Rattle.pal_base.specs.declared.syntax.Program as tree
use Rattle.lint.specs.Findings.{partition_findings}
use Rattle.lint.specs.Sentences.{findings_text, have_findings}
use Rattle.lint.specs.Views.{found_all}
use Rattle.lint.specs.declared.report.PartitionFindings.{PartitionFindings}
use Rattle.window_table.specs.Views.{partition_view, table_of}
use Rattle.window_table.specs.declared.table.PartitionRow.{PartitionRow}
use Rattle.module.specs.Costs.{IsAcceptedModule}
use Rattle.module.specs.Sources.{IsSource}
use Rattle.streams.specs.States.{HasFailed, IsFlushed, Seen}
use Rattle.command_line.specs.Outcomes.{is_remarkable}
use Rattle.command_line.specs.States.{IsSilent}
use Rattle.command_line.specs.declared.linting.ReadModule.{ReadModule}
use Rattle.command_line.specs.declared.outcome.Outcome.{Outcome}
use Rattle.command_line.specs.declared.refusal.Refusal.{Refusal}
use Rattle.command_line.specs.declared.refusal.Refusal.TheVariants.{Memory, Write}

-- ---- of accepted sources

-- What is found in a source, both as written and as accepted, for the partition of a row, which has this number in the table.
pub record IsFoundOf (t : Table) (number : ℕ) (row : Partition) (source : written.Program) (given : Checked) (found : PartitionFindings) : Type 0 where
  pub partition : found.partition.now ≡ row.name
  pub findings : found_all found.findings.items ≡ partition_findings t number row.ports source given.program

-- one for each partition, in order, the first of which has this number
abbrev pub AreFoundOf : Table → ℕ → List Partition → List written.Program → List Checked → List PartitionFindings → Type 0
AreFoundOf t number (row ∷ rows) (source ∷ sources) (given ∷ accepted) (f ∷ found) = IsFoundOf t number row source given f × AreFoundOf t (number + 1) rows sources accepted found
AreFoundOf t number (row ∷ rows) (source ∷ sources) (given ∷ accepted) [] = ⊥
AreFoundOf t number _ _ _ found = found ≡ []

-- added after what is already there
abbrev pub AddsFound : Table → ℕ → List PartitionRow → List tree.Program → List Checked → List PartitionFindings → List PartitionFindings → Type 0
AddsFound t number rows trees accepted old new =
    (found : List PartitionFindings) × (new ≡ old ++ found) × AreFoundOf t number (map partition_view rows) (map program_of trees) accepted found

-- the text is that of a program
abbrev pub HasTree : List ℕ → Type 0
HasTree text = (tree : written.Program) × IsProgramOf text tree

abbrev pub HaveTrees : List (List ℕ) → Type 0
HaveTrees [] = Unit {0}
HaveTrees (text ∷ texts) = HasTree text × HaveTrees texts

-- each text is that of its program
abbrev pub AreTrees : List (List ℕ) → List written.Program → Type 0
AreTrees [] [] = Unit {0}
AreTrees (text ∷ texts) (p ∷ ps) = IsProgramOf text p × AreTrees texts ps
AreTrees _ _ = ⊥

abbrev pub AddsTrees : List (List ℕ) → List tree.Program → List tree.Program → Type 0
AddsTrees texts old new = (trees : List tree.Program) × (new ≡ old ++ trees) × AreTrees texts (map program_of trees)

-- The table and the sources are accepted, and this is what the code holds of them.
pub record IsReadModule (table : List ℕ) (sources : List (List ℕ)) (m : ReadModule) : Type 0 where
  pub accepted : IsAcceptedModule table sources m.accepted
  pub trees : AreTrees sources (map program_of m.trees.items)

-- this is found of a module
abbrev pub AreFoundOfModule : ReadModule → List PartitionFindings → Type 0
AreFoundOfModule m found = AddsFound (table_of m.accepted.table) 1 m.accepted.table.partitions.items m.trees.items m.accepted.sources.items [] found

-- the findings of a module were written, if there are any
abbrev pub AreShown : Bool → ReadModule → Option (List ℕ) → Option (List ℕ) → Type 0
AreShown any m old new = (found : List PartitionFindings) × AreFoundOfModule m found × (have_findings found ≡ any) × Appends old new (findings_text found)

-- why they are not written; if the stream took no more, it has a beginning of them
abbrev pub AreNotShown : ReadModule → Seen → Seen → Refusal → Type 0
AreNotShown m old new Write = HasFailed old new × (found : List PartitionFindings) × AreFoundOfModule m found × TakesBeginning old.taken new.taken (findings_text found)
AreNotShown m old new Memory = IsSilent old new
AreNotShown m old new _ = ⊥

-- how the writing of findings ends
abbrev pub AreToldOf : ReadModule → Seen → Seen → Result Outcome Refusal → Type 0
AreToldOf m old new (Ok outcome) = AreShown (is_remarkable outcome) m old.taken new.taken × IsFlushed old new
AreToldOf m old new (Err r) = AreNotShown m old new r

-- ---- of texts

-- The source is accepted for its partition and is the text of this program, and this is found of it.
pub record IsFound (t : Table) (number : ℕ) (row : Partition) (source : List ℕ) (found : PartitionFindings) : Type 0 where
  pub given : Checked
  pub accepted : IsSource row source given
  pub tree : written.Program
  pub written : IsProgramOf source tree
  pub of_tree : IsFoundOf t number row tree given found

abbrev pub AreAllFound : Table → ℕ → List Partition → List (List ℕ) → List PartitionFindings → Type 0
AreAllFound t number [] [] [] = Unit {0}
AreAllFound t number (row ∷ rows) (source ∷ sources) (f ∷ found) = IsFound t number row source f × AreAllFound t (number + 1) rows sources found
AreAllFound t number _ _ _ = ⊥

-- The table and the sources are accepted, and this is found of them.
pub record AreFound (table : List ℕ) (sources : List (List ℕ)) (found : List PartitionFindings) : Type 0 where
  pub rows : Table
  pub accepted : IsTable table rows
  pub of_rows : AreAllFound rows 1 rows.partitions sources found

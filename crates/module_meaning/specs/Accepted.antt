-- The table and the programs as which a module table and the sources of its partitions are
-- accepted.
use Rattle.std.specs.Prelude.{◌≡◌, ℕ, List, Some, IsUtf8, [], ◌∷◌, Ok}
use Rattle.toml.specs.Data.{Members}
use Rattle.toml.specs.Parse.{parse_document}
use Rattle.module_meaning.specs.Table.{Partition, Table}
use Rattle.pal_meaning.specs.Program.{Program}
use Rattle.pal_meaning.specs.Syntax as written
use Rattle.module_meaning.specs.TableRules as table_rules
use Rattle.pal_meaning.specs.WellFormed.{verdict}
use Rattle.pal_meaning.specs.Grammar.{IsProgramOf}

-- the bytes are a TOML document with these members
abbrev pub IsDocument : List ℕ → Members → Type 0
IsDocument bytes ms = IsUtf8 bytes × (parse_document bytes ≡ Some ms)

-- The text of a source is a program's, which is well formed for its partition; with its names
-- resolved it is this program.
pub record IsAccepted (row : Partition) (source : List ℕ) (program : Program) : Type 0 where
  pub tree : written.Program
  pub written : IsProgramOf source tree
  pub judged : verdict row.ports row.period tree ≡ Ok program

-- one source for each partition, in order
abbrev pub AreAccepted : List Partition → List (List ℕ) → List Program → Type 0
AreAccepted [] [] [] = Unit {0}
AreAccepted (row ∷ rows) (source ∷ sources) (p ∷ ps) = IsAccepted row source p × AreAccepted rows sources ps
AreAccepted _ _ _ = ⊥

-- a document that keeps the rules has these rows
abbrev pub IsJudged : Table → Type 0
IsJudged t = (document : Members) × (table_rules.verdict document ≡ Ok t)

-- the text of a table is a document that keeps the rules, with these rows
abbrev pub IsTable : List ℕ → Table → Type 0
IsTable text t = (document : Members) × IsDocument text document × (table_rules.verdict document ≡ Ok t)

-- a table and the sources of its partitions are accepted, as these rows and programs
pub record IsModule (table : List ℕ) (sources : List (List ℕ)) (t : Table) (programs : List Program) : Type 0 where
  pub rows : IsTable table t
  pub accepted : AreAccepted t.partitions sources programs

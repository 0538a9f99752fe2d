-- The reasons for which a module is refused, and when each refusal is right.
use Rattle.std.specs.Prelude.{◌≡◌, ◌≢◌, ◌⊎◌, ℕ, Bool, nat_lt, List, ◌∷◌, length, if◌then◌else◌, Option, Some, None}
use Rattle.apex_types.specs.Limits.{MOST_INSTRUCTIONS}
use Rattle.pal_meaning.specs.Program.{size_of, Program}
use Rattle.compiler.specs.declared.fault.CompileFault.TheVariants as compile
use Rattle.module_meaning.specs.Table.{Partition, Table}
use Rattle.pal_meaning.specs.Syntax as written
use Rattle.pal_meaning.specs.WellFormed.{verdict}
use Rattle.pal_base.specs.Answers.{Refuses, IsRefused}
use Rattle.pal_meaning.specs.Grammar.{IsProgramOf}
use Rattle.pal_base.specs.declared.fault.Refusal.{Refusal}
use Rattle.pal_base.specs.declared.fault.Refusal.TheVariants as refusal
use Rattle.window_table.specs.Refusals as table_refusals
use Rattle.window_table.specs.declared.fault.TableFault.TheVariants as table_fault
use Rattle.module_meaning.specs.Accepted.{IsAccepted, AreAccepted, IsTable}
use Rattle.module.specs.declared.fault.BuildFault.{BuildFault}
use Rattle.module.specs.declared.fault.BuildFault.TheVariants as fault

-- ---- refusals of a source

-- the text is refused, or the program that it is the text of is refused for this partition
abbrev pub IsNotAccepted : Partition → List ℕ → Refusal → Type 0
IsNotAccepted row source r = IsRefused r source ⊎ ((tree : written.Program) × IsProgramOf source tree × Refuses r (verdict row.ports row.period tree))

-- a refusal that says something about the source
abbrev pub IsSourceRefused : Partition → List ℕ → Refusal → Type 0
IsSourceRefused row source r = (r ≢ refusal.Memory) × IsNotAccepted row source r

-- one source for each partition: the first refused source is that of the partition with this name
abbrev pub IsFirstRefused : List Partition → List (List ℕ) → List ℕ → Refusal → Type 0
IsFirstRefused (row ∷ rows) (source ∷ sources) name r =
    ((name ≡ row.name) × IsSourceRefused row source r) ⊎ ((p : Program) × IsAccepted row source p × IsFirstRefused rows sources name r)
IsFirstRefused _ _ name r = ⊥

-- ---- what is built

abbrev pub is_too_long : Program → Bool
is_too_long p = nat_lt MOST_INSTRUCTIONS (size_of p)

-- the name of the first partition whose program is too long
abbrev pub first_too_long : List Partition → List Program → Option (List ℕ)
first_too_long (row ∷ rows) (p ∷ ps) = if is_too_long p then Some row.name else first_too_long rows ps
first_too_long _ _ = None

-- With this table the sources are accepted, and the first program that is too long is that of the
-- partition of this name.
pub record IsTooLong (t : Table) (sources : List (List ℕ)) (name : List ℕ) : Type 0 where
  pub programs : List Program
  pub accepted : AreAccepted t.partitions sources programs
  pub first : first_too_long t.partitions programs ≡ Some name

-- ---- refusals of a module

-- why sources are refused with an accepted table
abbrev pub IsRefusedWith : Table → List (List ℕ) → BuildFault → Type 0
IsRefusedWith t sources (fault.Table f) = ⊥
IsRefusedWith t sources fault.Sources = length sources ≢ length t.partitions
IsRefusedWith t sources (fault.Pal name f) = (length sources ≡ length t.partitions) × IsFirstRefused t.partitions sources name f.refusal
IsRefusedWith t sources (fault.Compile name f) = (f ≡ compile.TooLong) × IsTooLong t sources name
IsRefusedWith t sources fault.Memory = Unit {0}

-- Why a table and sources are refused: because of the table; with an accepted table, because of the
-- number of sources or of the first source that is refused; with accepted sources, because of the
-- first program that is too long. Out of memory says nothing.
abbrev pub IsRefusal : List ℕ → List (List ℕ) → BuildFault → Type 0
IsRefusal table sources (fault.Table f) = (f ≢ table_fault.Memory) × table_refusals.IsRefused table f
IsRefusal table sources fault.Memory = Unit {0}
IsRefusal table sources f = (t : Table) × IsTable table t × IsRefusedWith t sources f

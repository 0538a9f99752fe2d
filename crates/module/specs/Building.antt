-- The promises of a build, and their parts.
use Rattle.std.specs.Prelude.{◌≡◌, ◌≢◌, ℕ, false, List, map, Some, Ok, Err}
use Rattle.std.specs.List.{list_any}
use Rattle.apex_types.specs.declared.device.DeviceLine.{DeviceLine}
use Rattle.compiler.specs.declared.fault.CompileFault.TheVariants as compile
use Rattle.machine_meaning.specs.MachineMeaning.{row_of_item, machine_trace}
use Rattle.module_meaning.specs.Table.{Partition, Table}
use Rattle.machine_meaning.specs.ImageReading.{image_at}
use Rattle.machine_meaning.specs.ImageSpelling.{spelling}
use Rattle.pal_meaning.specs.Program.{Program}
use Rattle.module_meaning.specs.SourceMeaning.{source_trace}
use Rattle.pal_base.specs.declared.fault.PalFault.{PalFault}
use Rattle.pal_base.specs.declared.fault.Refusal.{Refusal}
use Rattle.pal_base.specs.declared.fault.Refusal.TheVariants as refusal
use Rattle.window_table.specs.Answers.{AnswersText}
use Rattle.window_table.specs.declared.fault.TableFault.TheVariants as table_fault
use Rattle.module_meaning.specs.Accepted.{IsModule}
use Rattle.module.specs.declared.fault.BuildFault.{BuildFault}
use Rattle.module.specs.declared.fault.BuildFault.TheVariants as fault
use Rattle.module.specs.Built.{built_image, built_items}
use Rattle.module.specs.Refusals.{IsFirstRefused, IsSourceRefused, first_too_long, is_too_long}

-- Table and sources are accepted, no program is too long, and the bytes spell the image of these
-- rows and programs: this version, these costs, this frame, this code. It is loaded with the
-- partitions of the table, and for all device lines and every number of ticks it means what the
-- table and sources mean.
pub record IsImageOf (table : List ℕ) (sources : List (List ℕ)) (bytes : List ℕ) : Type 0 where
  pub rows : Table
  pub programs : List Program
  pub accepted : IsModule table sources rows programs
  pub short : list_any is_too_long programs ≡ false
  pub spelled : bytes ≡ spelling (built_image rows programs)
  pub loaded : image_at bytes ≡ Ok (built_image rows programs)
  pub items : map row_of_item (built_items rows.partitions programs) ≡ rows.partitions
  pub meaning : (lines : List DeviceLine) (n : ℕ) → machine_trace (built_image rows programs) lines n ≡ source_trace rows programs lines n

-- ---- the steps of building

-- the reason for which a table is refused
abbrev pub IsTableRefusal : List ℕ → BuildFault → Type 0
IsTableRefusal text (fault.Table f) = (f ≢ table_fault.Memory) × AnswersText text (Err f)
IsTableRefusal text fault.Memory = Unit {0}
IsTableRefusal text _ = ⊥

-- the reason for which one source is refused
abbrev pub IsSourceRefusal : Partition → List ℕ → BuildFault → Type 0
IsSourceRefusal row source (fault.Pal name f) = (name ≡ row.name) × IsSourceRefused row source f.refusal
IsSourceRefusal row source fault.Memory = Unit {0}
IsSourceRefusal row source _ = ⊥

-- out of memory is reported as such
abbrev pub unless_memory : Refusal → BuildFault → BuildFault
unless_memory refusal.Memory f = fault.Memory
unless_memory _ f = f

-- the refusal of the source of the partition of this name
abbrev pub refusal_of : List ℕ → PalFault → BuildFault
refusal_of name f = unless_memory f.refusal (fault.Pal name f)

-- the reasons for which sources are refused, one for each partition
abbrev pub AreSourceRefusals : List Partition → List (List ℕ) → BuildFault → Type 0
AreSourceRefusals rows sources (fault.Pal name f) = IsFirstRefused rows sources name f.refusal
AreSourceRefusals rows sources fault.Memory = Unit {0}
AreSourceRefusals rows sources _ = ⊥

-- the reason for which accepted programs are refused: the first that is too long
abbrev pub IsLengthRefusal : List Partition → List Program → BuildFault → Type 0
IsLengthRefusal rows ps (fault.Compile name f) = (f ≡ compile.TooLong) × (first_too_long rows ps ≡ Some name)
IsLengthRefusal rows ps _ = ⊥

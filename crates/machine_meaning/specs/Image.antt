-- The values that an image spells.
use Rattle.std.specs.Prelude.{ℕ, ℤ, List, [], ◌∷◌, Option}
use Rattle.apex_types.specs.declared.row.SemaphoreRow.{SemaphoreRow}
use Rattle.apex_types.specs.declared.row.BufferRow.{BufferRow}
use Rattle.apex_types.specs.declared.row.BlackboardRow.{BlackboardRow}
use Rattle.apex_types.specs.declared.row.RoutineRow.{RoutineRow}
use Rattle.apex_types.specs.declared.row.ProcessRow.{ProcessRow}
use Rattle.apex_types.specs.declared.row.BodyRow.{BodyRow}
use Rattle.apex_types.specs.declared.codes.ModuleAction.{ModuleAction}
use Rattle.apex_types.specs.Versions.{costs_of}
use Rattle.apex_types.specs.declared.version.ImageVersion.{ImageVersion}
use Rattle.apex_types.specs.declared.version.ImageVersion.TheVariants.{Third}
use Rattle.kernel_meaning.specs.Windows.{Schedule}
use Rattle.module_meaning.specs.Table.{Channel, Partition}
use Rattle.machine_meaning.specs.Section.{Section}

-- the declarations of a source: data, semaphores, events, buffers and blackboards
pub record Objects : Type 0 where
  pub initial : List ℤ
  pub semaphores : List SemaphoreRow
  pub events : ℕ
  pub buffers : List BufferRow
  pub blackboards : List BlackboardRow

-- its bodies: procedures, processes, INIT and the handler
pub record Bodies : Type 0 where
  pub routines : List RoutineRow
  pub processes : List ProcessRow
  pub init : BodyRow
  pub handler : Option BodyRow

-- ---- the image

-- AP653IMG
abbrev pub magic : List ℕ
magic = 65 ∷ 80 ∷ 54 ∷ 53 ∷ 51 ∷ 73 ∷ 77 ∷ 71 ∷ []

-- a partition's row with its section
pub record Item : Type 0 where
  pub partition : Partition
  pub section : Section

pub record Image : Type 0 where
  pub schedule : Schedule
  pub fault : ModuleAction
  pub version : ImageVersion
  pub items : List Item
  pub channels : List Channel

-- the same image as one of the third version, which costs the same
abbrev pub upgraded : Image → Image
upgraded image = record image { version = Third (costs_of image.version) }

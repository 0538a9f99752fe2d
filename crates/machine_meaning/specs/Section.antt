-- The section of an image, which a partition's source becomes.
use Rattle.std.specs.Prelude.{ℕ, ℤ, List, Option}
use Rattle.apex_types.specs.declared.row.SemaphoreRow.{SemaphoreRow}
use Rattle.apex_types.specs.declared.row.BufferRow.{BufferRow}
use Rattle.apex_types.specs.declared.row.BlackboardRow.{BlackboardRow}
use Rattle.apex_types.specs.declared.row.RoutineRow.{RoutineRow}
use Rattle.apex_types.specs.declared.row.ProcessRow.{ProcessRow}
use Rattle.apex_types.specs.declared.row.BodyRow.{BodyRow}

-- the result of compiling a partition's source; an instruction is sixteen bytes
pub record Section : Type 0 where
  pub initial : List ℤ
  pub semaphores : List SemaphoreRow
  pub events : ℕ
  pub buffers : List BufferRow
  pub blackboards : List BlackboardRow
  pub routines : List RoutineRow
  pub processes : List ProcessRow
  pub init : BodyRow
  pub handler : Option BodyRow
  pub code : List (List ℕ)

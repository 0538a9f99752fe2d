-- Programs that never ask for the mode NORMAL before it, and traces in which a partition never enters
-- it.
use Rattle.std.specs.Prelude.{◌≡◌, ◌≢◌, ℕ, ℤ, pos, Bool, true, false, List, Some}
use Rattle.std.specs.List.{AllByRecursion}
use Rattle.apex_types.specs.declared.codes.Mode.TheVariants as mode
use Rattle.apex_types.specs.declared.event.Event.{Event}
use Rattle.apex_types.specs.declared.event.EventKind.TheVariants as event
use Rattle.apex_types.specs.declared.service.Service.{Service}
use Rattle.apex_types.specs.declared.service.Service.TheVariants as service
use Rattle.kernel_meaning.specs.PartitionServices.{number_of_mode}
use Rattle.pal_meaning.specs.Program.{Program}
use Rattle.lint_laws.specs.Lines.{NoLine}
use Rattle.lint_laws.specs.Numbers.{BlockFits}

-- the line says that the mode of the partition with this name becomes NORMAL
abbrev pub SaysNormal : List ℕ → Event → Type 0
SaysNormal name line = (line.partition ≡ Some name) × (line.kind ≡ event.Mode mode.Normal)

abbrev pub NeverNormal : List ℕ → List Event → Type 0
NeverNormal name lines = NoLine (SaysNormal name) lines

abbrev pub sets_mode : Service → Bool
sets_mode service.SetPartitionMode = true
sets_mode _ = false

abbrev pub IsNotNormal : ℤ → Type 0
IsNotNormal value = value ≢ pos (number_of_mode mode.Normal)

-- Each call of SET_PARTITION_MODE in INIT or in a procedure is of a number as it is written, and this is
-- not the number of NORMAL.
pub record NeverSetsNormal (program : Program) : Type 0 where
  pub init : BlockFits sets_mode IsNotNormal program.init.block
  pub procedures : AllByRecursion (λ p. BlockFits sets_mode IsNotNormal p.block) program.procedures

-- The load of a schedule, as it is shown.
use Rattle.std.specs.Prelude.{◌≡◌, ℕ, List, [], ◌∷◌, map}
use Rattle.apex_types.specs.declared.cost.Costs.{Costs}
use Rattle.apex_types.specs.declared.row.WindowRow.{WindowRow}
use Rattle.module_meaning.specs.Accepted.{IsTable}
use Rattle.module_meaning.specs.Table.{Partition, Table}
use Rattle.module.specs.Building.{IsTableRefusal}
use Rattle.module.specs.Sources.{AreSources}
use Rattle.pal_base.specs.declared.checked.Checked.{Checked}
use Rattle.schedule_load.specs.declared.report.PartitionBodies.{PartitionBodies}
use Rattle.schedule_load.specs.Bodies.{loads_of}
use Rattle.schedule_load.specs.Load.{IsLoadOf}
use Rattle.schedule_load.specs.declared.bodies.BodyLoad.{BodyLoad}
use Rattle.schedule_load.specs.declared.load.FrameLoad.{FrameLoad}
use Rattle.trace_picture.specs.Page.{IsPicture}
use Rattle.command_line.specs.declared.form.Form.{Form}
use Rattle.command_line.specs.declared.form.Form.TheVariants.{Tables, Rows, Picture}
use Rattle.command_line.specs.declared.refusal.Refusal.{Refusal}
use Rattle.command_line.specs.declared.refusal.Refusal.TheVariants.{Build, Memory}

-- ---- what is shown

-- the loads of the bodies of a partition's source
pub record SourceLoads : Type 0 where
  pub partition : List ℕ
  pub bodies : List BodyLoad

abbrev pub source_loads : PartitionBodies → SourceLoads
source_loads b = record { partition = b.partition; bodies = b.bodies.items }

-- those of accepted sources, one for each partition, in order
abbrev pub loads_of_sources : Costs → List Partition → List Checked → List SourceLoads
loads_of_sources costs [] given = []
loads_of_sources costs (row ∷ rows) [] = []
loads_of_sources costs (row ∷ rows) (source ∷ given) =
    record { partition = row.name; bodies = loads_of costs source.program } ∷ loads_of_sources costs rows given

-- What is shown of a module: its load, its windows, and the bodies of its sources.
pub record Shown : Type 0 where
  pub load : FrameLoad
  pub windows : List WindowRow
  pub bodies : List PartitionBodies

-- This is shown of a table and its accepted sources; without sources, only of the table.
pub record IsShownOf (t : Table) (given : List Checked) (shown : Shown) : Type 0 where
  pub load : IsLoadOf t shown.load
  pub windows : shown.windows ≡ t.schedule.windows
  pub bodies : map source_loads shown.bodies ≡ loads_of_sources t.costs t.partitions given

-- The table is accepted, and this is shown of it.
pub record IsLoadOfText (table : List ℕ) (shown : Shown) : Type 0 where
  pub rows : Table
  pub accepted : IsTable table rows
  pub loaded : IsShownOf rows [] shown

-- The table and the sources are accepted, and this is shown of them.
pub record AreLoaded (table : List ℕ) (sources : List (List ℕ)) (shown : Shown) : Type 0 where
  pub rows : Table
  pub accepted : IsTable table rows
  pub given : List Checked
  pub programs : AreSources rows.partitions sources given
  pub loaded : IsShownOf rows given shown

-- why there is no load of the table
abbrev pub IsRefusedTable : List ℕ → Refusal → Type 0
IsRefusedTable table (Build fault) = IsTableRefusal table fault
IsRefusedTable table Memory = Unit {0}
IsRefusedTable table _ = ⊥

-- What is known of a text in this form. Tables and rows are tested and not proved; a picture is one element whose tags match.
abbrev pub IsTextOf : Form → List ℕ → Type 0
IsTextOf Tables text = Unit {0}
IsTextOf Rows text = Unit {0}
IsTextOf Picture text = ∥ IsPicture text ∥₁

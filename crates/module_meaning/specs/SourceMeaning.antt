-- The meaning of the sources of a module: the trace. Kernel, windows and trace are those of an
-- image too; here the processes run on their sources.
use Rattle.std.specs.Prelude.{ℕ, ◌+◌, List, [], ◌∷◌, map, is_some, ◌≡◌, ◌≤◌, Ok}
use Rattle.apex_types.specs.Limits.{MOST_TICKS}
use Rattle.apex_types.specs.declared.device.DeviceLine.{DeviceLine}
use Rattle.apex_types.specs.declared.event.Event.{Event}
use Rattle.apex_types.specs.declared.event.Subject.TheVariants.{Process}
use Rattle.apex_types.specs.declared.process.ProcessStatus.{ProcessStatus}
use Rattle.apex_types.specs.declared.cost.Costs.{Costs}
use Rattle.apex_types.specs.declared.row.PortRow.{PortRow}
use Rattle.module_meaning.specs.Table.{Partition, Table, fixed_of}
use Rattle.kernel_meaning.specs.Kernel.{Fixed}
use Rattle.module_meaning.specs.Module.{Module, trace}
use Rattle.kernel_meaning.specs.Objects.{Objects, fresh_objects, fresh_ports}
use Rattle.kernel_meaning.specs.Partition.{Member}
use Rattle.pal_meaning.specs.Program as program
use Rattle.kernel_meaning.specs.Windows.{Schedule}
use Rattle.pal_meaning.specs.SourceControl.{SourceControl, source_engine}
use Rattle.kernel_meaning.specs.Fresh.{fresh_kernel, fresh_row, fresh_world}
use Rattle.module_meaning.specs.DeviceText.{verdict}
use Rattle.module_meaning.specs.Accepted.{IsModule}

-- ---- the meaning of sources

abbrev pub source_row : program.Process → ProcessStatus
source_row p = fresh_row (Process p.name) (record { 0 = p.priority }) p.period p.capacity

abbrev pub source_objects : program.Program → Objects
source_objects s = fresh_objects s.semaphores s.events s.buffers s.blackboards

abbrev pub source_member : Costs → Fixed → List PortRow → program.Program → Member SourceControl
source_member costs fixed ports source = record { engine = source_engine costs source; world = fresh_world (fresh_kernel fixed (map source_row source.processes) (source_objects source) (fresh_ports ports) (is_some source.handler)) source.initial }

-- each partition with its source, in order, with their numbers
abbrev pub source_members : Costs → Schedule → ℕ → List Partition → List program.Program → List (Member SourceControl)
source_members costs schedule number [] sources = []
source_members costs schedule number (p ∷ ps) [] = []
source_members costs schedule number (p ∷ ps) (s ∷ ss) = source_member costs (fixed_of schedule number p) p.ports s ∷ source_members costs schedule (number + 1) ps ss

-- the module of a table and the programs of its partitions
abbrev pub source_module : Table → List program.Program → Module SourceControl
source_module t sources = record { plan = record { schedule = t.schedule; channels = t.channels; fault = t.fault }; members = source_members t.costs t.schedule 1 t.partitions sources }

-- the source meaning: the trace of n ticks with these lines of the devices
abbrev pub source_trace : Table → List program.Program → List DeviceLine → ℕ → List Event
source_trace t sources devices n = trace (source_module t sources) devices n

-- Table and sources are accepted as this table and these programs, and the device text as these
-- lines for them, for a run of `n` ticks.
pub record IsAcceptedRun (table : List ℕ) (sources : List (List ℕ)) (devices : List ℕ) (n : ℕ) (t : Table) (programs : List program.Program) (lines : List DeviceLine) : Type 0 where
  pub accepted : IsModule table sources t programs
  pub taken : verdict t.partitions t.channels devices ≡ Ok lines
  pub few : n ≤ MOST_TICKS

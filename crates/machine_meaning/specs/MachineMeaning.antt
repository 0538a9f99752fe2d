-- The meaning of an image: the trace. Kernel, windows and trace are those of sources too; here the
-- processes run on the processor.
use Rattle.std.specs.Prelude.{ℕ, ◌+◌, List, [], ◌∷◌, map, is_some, Result}
use Rattle.apex_types.specs.declared.device.DeviceLine.{DeviceLine}
use Rattle.apex_types.specs.declared.event.Event.{Event}
use Rattle.apex_types.specs.declared.event.Subject.TheVariants.{Process}
use Rattle.apex_types.specs.declared.identity.Runner.{Runner}
use Rattle.apex_types.specs.declared.process.ProcessStatus.{ProcessStatus}
use Rattle.apex_types.specs.Versions.{costs_of}
use Rattle.apex_types.specs.declared.cost.Costs.{Costs}
use Rattle.apex_types.specs.declared.row.BodyRow.{BodyRow}
use Rattle.apex_types.specs.declared.row.PortRow.{PortRow}
use Rattle.apex_types.specs.declared.row.ProcessRow.{ProcessRow}
use Rattle.engine_meaning.specs.Engine.{Engine, body_at}
use Rattle.machine_meaning.specs.Image.{Item, Image}
use Rattle.machine_meaning.specs.Section.{Section}
use Rattle.machine_meaning.specs.Instructions.{reading}
use Rattle.kernel_meaning.specs.Kernel.{Fixed}
use Rattle.machine_meaning.specs.MachineControl.{MachineControl, machine_engine}
use Rattle.module_meaning.specs.Module.{Module, trace}
use Rattle.kernel_meaning.specs.Objects.{Objects, fresh_objects, fresh_ports}
use Rattle.kernel_meaning.specs.Partition.{Member}
use Rattle.kernel_meaning.specs.Windows.{Schedule}
use Rattle.module_meaning.specs.Table.{fixed_of, Partition}
use Rattle.kernel_meaning.specs.Fresh.{fresh_kernel, fresh_row, fresh_world}
use Rattle.apex_types.specs.declared.device.DeviceFault.{DeviceFault}
use Rattle.module_meaning.specs.DeviceText.{verdict}

-- ---- the meaning of an image

abbrev pub machine_row : ProcessRow → ProcessStatus
machine_row p = fresh_row (Process p.name) p.priority p.period p.capacity

abbrev pub body_of_row : ProcessRow → BodyRow
body_of_row p = p.body

abbrev pub machine_body : Section → Runner → BodyRow
machine_body s p = body_at s.init s.handler (map body_of_row s.processes) p

-- the processor with these costs and a partition's code, each instruction read from its sixteen bytes
abbrev pub section_engine : Costs → Section → Engine MachineControl
section_engine costs s = machine_engine costs (map reading s.code) s.routines (machine_body s)

abbrev pub section_objects : Section → Objects
section_objects s = fresh_objects s.semaphores s.events s.buffers s.blackboards

abbrev pub machine_member : Costs → Fixed → List PortRow → Section → Member MachineControl
machine_member costs fixed ports s = record { engine = section_engine costs s; world = fresh_world (fresh_kernel fixed (map machine_row s.processes) (section_objects s) (fresh_ports ports) (is_some s.handler)) s.initial }

-- each partition in order, with their numbers
abbrev pub machine_members : Costs → Schedule → ℕ → List Item → List (Member MachineControl)
machine_members costs schedule number [] = []
machine_members costs schedule number (i ∷ is) = machine_member costs (fixed_of schedule number i.partition) i.partition.ports i.section ∷ machine_members costs schedule (number + 1) is

abbrev pub machine_module : Image → Module MachineControl
machine_module i = record { plan = record { schedule = i.schedule; channels = i.channels; fault = i.fault }; members = machine_members (costs_of i.version) i.schedule 1 i.items }

-- the machine meaning: the trace of n ticks with these lines of the devices
abbrev pub machine_trace : Image → List DeviceLine → ℕ → List Event
machine_trace i devices n = trace (machine_module i) devices n

-- the verdict on a text for an image
abbrev pub row_of_item : Item → Partition
row_of_item i = i.partition

abbrev pub verdict_for : Image → List ℕ → Result (List DeviceLine) DeviceFault
verdict_for image text = verdict (map row_of_item image.items) image.channels text

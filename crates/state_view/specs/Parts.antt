-- The parts of a partition's rows, each with the rows of some kinds.
use Rattle.std.specs.Prelude.{◌||◌, ℕ, List, [], ◌∷◌, ◌++◌, codes, if◌then◌else◌}
use Rattle.std.specs.Str.{bytes_eq}
use Rattle.kernel_meaning.specs.Kernel.{Kernel}
use Rattle.kernel_meaning.specs.Partition.{Member}
use Rattle.machine_meaning.specs.Image.{Item}
use Rattle.machine_meaning.specs.MachineControl.{MachineControl}
use Rattle.state_rows.specs.Rows.{Row}
use Rattle.state_rows.specs.States.{data_rows, error_row, mode_row, member_rows, object_rows, placed, port_rows, process_rows, ready_row, runner_rows}
use Rattle.state_view.specs.declared.parts.Part.{Part}
use Rattle.state_view.specs.declared.parts.Part.TheVariants as parts

-- The part in which the rows with this first key are. Messages and waiters follow the object or the port that they are at.
abbrev pub part_with : List ℕ → Part
part_with key =
    if bytes_eq key (codes "mode") then parts.Mode
    else if bytes_eq key (codes "process") || bytes_eq key (codes "waits") then parts.Processes
    else if bytes_eq key (codes "ready") then parts.Ready
    else if bytes_eq key (codes "semaphore") || bytes_eq key (codes "event") || bytes_eq key (codes "buffer") || bytes_eq key (codes "blackboard") then parts.Objects
    else if bytes_eq key (codes "sampling") || bytes_eq key (codes "queuing") then parts.Ports
    else if bytes_eq key (codes "message") || bytes_eq key (codes "waiter") then parts.ObjectsAndPorts
    else if bytes_eq key (codes "error") then parts.Errors
    else if bytes_eq key (codes "data") then parts.Data
    else if bytes_eq key (codes "runner") || bytes_eq key (codes "stack") then parts.Runners
    else parts.Nothing

-- its rows, if they are rows of the kernel
abbrev pub kernel_part : Part → List ℕ → Kernel → List Row
kernel_part parts.Mode p k = mode_row p k ∷ []
kernel_part parts.Processes p k = placed (process_rows p k.processes) k.processes.rows
kernel_part parts.Ready p k = placed (ready_row p k.processes) k.processes.ready
kernel_part parts.Objects p k = object_rows p k.processes k.objects
kernel_part parts.Ports p k = placed (port_rows p k.processes) k.ports.ports
kernel_part parts.ObjectsAndPorts p k = object_rows p k.processes k.objects ++ placed (port_rows p k.processes) k.ports.ports
kernel_part parts.Errors p k = placed (error_row p k.processes) k.errors.waiting
kernel_part _ p k = []

-- its rows of a partition, whose item has its code
abbrev pub member_part : Part → Item → Member MachineControl → List Row
member_part parts.All i x = member_rows i x
member_part parts.Data i x = data_rows x.world.kernel.fixed.name x.world.words
member_part parts.Runners i x = placed (runner_rows x.world.kernel.fixed.name i.section.code x.world.controls) x.world.kernel.processes.rows
member_part part i x = kernel_part part x.world.kernel.fixed.name x.world.kernel

-- A partition before its first start.
use Rattle.std.specs.Prelude.{◌≤◌, List, length, map, is_some}
use Rattle.apex_types.specs.Limits.{MOST_OBJECTS, MOST_PROCESSES}
use Rattle.apex_types.specs.declared.row.PortRow.{PortRow}
use Rattle.apex_types.specs.declared.row.Section.{Section}
use Rattle.kernel_meaning.specs.Kernel.{Fixed, Kernel}
use Rattle.kernel_meaning.specs.Objects.{fresh_objects}
use Rattle.kernel_meaning.specs.Objects.{fresh_ports}
use Rattle.kernel_meaning.specs.Fresh.{fresh_kernel}
use Rattle.machine_meaning.specs.MachineMeaning.{machine_row}
use Rattle.ports.specs.Bounds as port_rows
use Rattle.process_table_base.specs.Bounds.{AreShort}

-- No more processes, ports and objects of a kind than a partition may have, and no period, capacity or
-- refresh period longer than 2^40 ticks.
pub record AreWithinLimits (ports : List PortRow) (s : Section) : Type 0 where
  pub processes : length s.processes.items ≤ MOST_PROCESSES
  pub times : AreShort s.processes.items
  pub semaphores : length s.semaphores.items ≤ MOST_OBJECTS
  pub events : s.events ≤ MOST_OBJECTS
  pub buffers : length s.buffers.items ≤ MOST_OBJECTS
  pub blackboards : length s.blackboards.items ≤ MOST_OBJECTS
  pub port_count : length ports ≤ MOST_OBJECTS
  pub refresh : port_rows.AreShort ports

-- Idle, with nothing created: no process, no object and no port of these rows, no message, and no error that
-- waits.
abbrev pub idle_kernel : Fixed → List PortRow → Section → Kernel
idle_kernel fixed ports s = fresh_kernel fixed (map machine_row s.processes.items) (fresh_objects s.semaphores.items s.events s.buffers.items s.blackboards.items) (fresh_ports ports) (is_some s.handler)

-- The surroundings of a partition in a module.
use Rattle.std.specs.Prelude.{ℕ, ◌+◌, List, [], ◌∷◌, Option, Some, None, if◌then◌else◌}
use Rattle.std.specs.List.{list_any}
use Rattle.apex_types.specs.declared.identity.PartitionId.{PartitionId}
use Rattle.apex_types.specs.declared.row.PortRow.{PortRow}
use Rattle.module_meaning.specs.Table.{Channel, is_device}
use Rattle.module_meaning.specs.Module.{Plan, channel_from}
use Rattle.kernel_meaning.specs.Windows.{schedule_of_partition}
use Rattle.isolation.specs.Alone.{Surroundings}

-- the name of a channel, if the device is among its destinations
abbrev pub name_to_device : Option Channel → Option (List ℕ)
name_to_device None = None
name_to_device (Some c) = if list_any is_device c.destinations then Some c.name else None

-- the ways out of the module from these ports of a partition, which are numbered from a number on
abbrev pub ways_from : List Channel → PartitionId → ℕ → List PortRow → List (Option (List ℕ))
ways_from channels p number [] = []
ways_from channels p number (row ∷ rows) = name_to_device (channel_from channels p (record { 0 = number })) ∷ ways_from channels p (number + 1) rows

-- The surroundings of a partition with these ports in a module: the major frame with its own
-- windows, the action on a fault of the module, and the ways out of its ports.
abbrev pub surroundings_of : Plan → ℕ → List PortRow → Surroundings
surroundings_of plan p rows = record { schedule = schedule_of_partition p plan.schedule; fault = plan.fault; ways_out = ways_from plan.channels (record { 0 = p }) 1 rows }

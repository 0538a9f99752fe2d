-- The slice of an image that belongs to one partition, and the partition that runs on its own with it.
use Rattle.std.specs.Prelude.{ℕ, List, Option, option_map}
use Rattle.apex_types.specs.declared.device.DeviceLine.{DeviceLine}
use Rattle.apex_types.specs.declared.event.Event.{Event}
use Rattle.apex_types.specs.Versions.{costs_of}
use Rattle.apex_types.specs.declared.cost.Costs.{Costs}
use Rattle.machine_meaning.specs.Image.{Item, Image}
use Rattle.module_meaning.specs.Table.{at_number, fixed_of}
use Rattle.machine_meaning.specs.MachineControl.{MachineControl}
use Rattle.machine_meaning.specs.MachineMeaning.{machine_member, machine_module}
use Rattle.isolation.specs.Alone.{Alone, InputLine, Surroundings, trace_alone}
use Rattle.isolation.specs.Brought.{inputs_of}
use Rattle.isolation.specs.Surrounded.{surroundings_of}

-- The costs of constructs, the partition's number, its row with its section, the major frame with
-- its own windows, the action on a fault of the module, and the ways out of its ports.
pub record Slice : Type 0 where
  pub costs : Costs
  pub number : ℕ
  pub item : Item
  pub around : Surroundings

-- The slice of an image for partition p, if the item is that of p.
abbrev pub slice_of : Image → ℕ → Item → Slice
slice_of image p item = record {
  costs = costs_of image.version;
  number = p;
  item = item;
  around = surroundings_of (machine_module image).plan p item.partition.ports;
}

-- the slice of an image, if it has a partition with this number
abbrev pub slice : Image → ℕ → Option Slice
slice image p = option_map (slice_of image p) (at_number image.items p)

-- a machine that holds this partition and no other
abbrev pub machine_alone : Slice → Alone MachineControl
machine_alone s = record { around = s.around; member = machine_member s.costs (fixed_of s.around.schedule s.number s.item.partition) s.item.partition.ports s.item.section }

-- The trace of n ticks of a partition on its own, from its slice and its inputs.
abbrev pub slice_trace : Slice → List InputLine → ℕ → List Event
slice_trace s inputs n = trace_alone (machine_alone s) inputs n

-- the inputs of a partition in n ticks of an image with these device lines
abbrev pub machine_inputs : Image → ℕ → List DeviceLine → ℕ → List InputLine
machine_inputs image p devices n = inputs_of (machine_module image) p devices n

-- The part of a run that belongs to one partition, and the inputs that the run brings it.
use Rattle.std.specs.Prelude.{ℕ, zero, suc, ◌+◌, ◌==◌, ℤ, Bool, true, false, List, [], ◌∷◌, ◌++◌, Option, Some, None, map, filter, flat_map, option_map, slice_get, if◌then◌else◌}
use Rattle.arrayvec.specs.ArrayVec.{ArrayVec}
use Rattle.apex_types.specs.declared.codes.ModuleAction.{ModuleAction}
use Rattle.apex_types.specs.declared.codes.ModuleAction.TheVariants as reaction
use Rattle.apex_types.specs.declared.device.DeviceInput.{DeviceInput}
use Rattle.apex_types.specs.declared.device.DeviceInput.TheVariants as device
use Rattle.apex_types.specs.declared.device.DeviceLine.{DeviceLine}
use Rattle.apex_types.specs.declared.event.Event.{Event}
use Rattle.apex_types.specs.declared.identity.At.{At}
use Rattle.apex_types.specs.declared.identity.PartitionId.{PartitionId}
use Rattle.apex_types.specs.declared.row.ChannelEnd.{ChannelEnd}
use Rattle.apex_types.specs.declared.row.ChannelEnd.TheVariants as ends
use Rattle.engine_meaning.specs.Digits.{same}
use Rattle.module_meaning.specs.Table.{Channel}
use Rattle.module_meaning.specs.Module.{Plan, Module, of_tick, inputs_all, channel_from, ports_from, module_tick, first_tick, next_tick, starts}
use Rattle.kernel_meaning.specs.Partition.{Member}
use Rattle.kernel_meaning.specs.Objects.{Port, is_source}
use Rattle.kernel_meaning.specs.Windows.{ended}
use Rattle.isolation.specs.Alone.{Input, InputLine, Arrive, ModuleFault, PartitionFault}

-- ---- the part of a trace
abbrev pub is_named : List ℕ → Option (List ℕ) → Bool
is_named name None = false
is_named name (Some other) = same name other

abbrev pub is_of : List ℕ → Event → Bool
is_of name e = is_named name e.partition

-- The part of a trace that belongs to a partition: the lines with its name.
abbrev pub part : List ℕ → List Event → List Event
part name trace = filter (is_of name) trace

-- ---- the inputs that a message brings
-- a message to these ends, as inputs of partition p
abbrev pub brought_to : ℕ → ArrayVec ℤ → List ChannelEnd → List Input
brought_to p m [] = []
brought_to p m (ends.Device ∷ es) = brought_to p m es
brought_to p m (ends.Port q port ∷ es) = if q.0 == p then Arrive port m ∷ brought_to p m es else brought_to p m es

abbrev pub brought_by : ℕ → ArrayVec ℤ → Option Channel → List Input
brought_by p m None = []
brought_by p m (Some c) = brought_to p m c.destinations

-- ---- the inputs that the devices bring
abbrev pub brought_in : Plan → ℕ → DeviceInput → List Input
brought_in plan p (device.Message channel m) = brought_by p m (slice_get plan.channels channel.0)
brought_in plan p (device.PartitionFault q) = if q.0 == p then PartitionFault ∷ [] else []
brought_in plan p device.ModuleFault = ModuleFault ∷ []

abbrev pub is_shutdown : ModuleAction → Bool
is_shutdown reaction.Shutdown = true
is_shutdown _ = false

abbrev pub shuts_down : ModuleAction → DeviceInput → Bool
shuts_down fault device.ModuleFault = is_shutdown fault
shuts_down fault _ = false

-- by each line in turn; after a shutdown there are no inputs
abbrev pub brought_in_all : Plan → ℕ → List DeviceLine → List Input
brought_in_all plan p [] = []
brought_in_all plan p (l ∷ ls) = brought_in plan p l.input ++ (if shuts_down plan.fault l.input then [] else brought_in_all plan p ls)

-- ---- the inputs that a partition brings when its window has ended
-- the messages that its source port holds, the oldest first, as inputs of partition p
abbrev pub held_port : List Channel → ℕ → PartitionId → ℕ → Port → List Input
held_port channels p q number x =
    if is_source x then flat_map (λ m. brought_by p m (channel_from channels q (record { 0 = number }))) x.messages else []

-- of these ports of partition q, which are numbered from a number on
abbrev pub held_ports : List Channel → ℕ → PartitionId → ℕ → List Port → List Input
held_ports channels p q number [] = []
held_ports channels p q number (x ∷ xs) = held_port channels p q number x ++ held_ports channels p q (number + 1) xs

abbrev pub held_ended : {C : Type 0} → List Channel → ℕ → List (Member C) → Option ℕ → List Input
held_ended channels p members None = []
held_ended channels p members (Some q) = held_ports channels p (record { 0 = q }) 1 (ports_from members q)

-- unless the module is shut down
abbrev pub brought_moved : {C : Type 0} → Plan → ℕ → List (Member C) → Option At → List Input
brought_moved plan p members None = []
brought_moved plan p members (Some at) = held_ended plan.channels p members (ended plan.schedule at)

-- ---- the inputs that a run brings
-- the inputs of partition p in a tick: first from the devices, then from the messages of the
-- partition whose window has ended
abbrev pub brought_tick : {C : Type 0} → Plan → ℕ → At → List DeviceLine → List (Member C) → List Input
brought_tick plan p at devices members =
    let lines = of_tick at.now.0 devices in
    let c = inputs_all plan at lines members in
    brought_in_all plan p lines ++ brought_moved plan p c.state c.at

abbrev pub line_in : ℕ → Input → InputLine
line_in t i = record { tick = record { 0 = t }; input = i }

abbrev pub inputs_from : {C : Type 0} → Plan → ℕ → List DeviceLine → ℕ → Option At → List (Member C) → List InputLine
inputs_from plan p devices zero at members = []
inputs_from plan p devices (suc n) None members = []
inputs_from plan p devices (suc n) (Some at) members =
    let r = module_tick plan at devices members in
    map (line_in at.now.0) (brought_tick plan p at devices members) ++ inputs_from plan p devices n (option_map next_tick r.at) r.state

-- The inputs of partition p in n ticks of a module with these device lines.
abbrev pub inputs_of : {C : Type 0} → Module C → ℕ → List DeviceLine → ℕ → List InputLine
inputs_of m p devices zero = []
inputs_of m p devices (suc n) = inputs_from m.plan p devices (suc n) (Some first_tick) (starts m.members).state

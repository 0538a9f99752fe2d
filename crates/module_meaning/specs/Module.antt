-- The module: its partitions, each in its windows, tick by tick; the messages between them; its trace.
use Rattle.std.specs.Prelude.{ℕ, zero, suc, ◌+◌, ◌==◌, ◌&&◌, ℤ, Bool, false, List, [], ◌∷◌, ◌++◌, Option, Some, None, length, map, filter, find, option_map, slice_get, slice_set}
use Rattle.std.specs.List.{flat_map}
use Rattle.arrayvec.specs.ArrayVec.{ArrayVec}
use Rattle.apex_types.specs.declared.codes.ErrorKind.TheVariants.{HardwareFault}
use Rattle.apex_types.specs.declared.codes.ModuleAction.{ModuleAction}
use Rattle.apex_types.specs.declared.codes.ModuleAction.TheVariants as reaction
use Rattle.apex_types.specs.declared.codes.Response.TheVariants as level
use Rattle.apex_types.specs.declared.codes.StartCondition.{StartCondition}
use Rattle.apex_types.specs.declared.codes.StartCondition.TheVariants as condition
use Rattle.apex_types.specs.declared.device.DeviceInput.{DeviceInput}
use Rattle.apex_types.specs.declared.device.DeviceInput.TheVariants as input
use Rattle.apex_types.specs.declared.device.DeviceLine.{DeviceLine}
use Rattle.apex_types.specs.declared.event.Event.{Event}
use Rattle.apex_types.specs.declared.event.EventKind.TheVariants as event
use Rattle.apex_types.specs.declared.identity.At.{At}
use Rattle.apex_types.specs.declared.identity.PartitionId.{PartitionId}
use Rattle.apex_types.specs.declared.identity.PortId.{PortId}
use Rattle.apex_types.specs.declared.row.ChannelEnd.{ChannelEnd}
use Rattle.apex_types.specs.declared.row.ChannelEnd.TheVariants as ends
use Rattle.module_meaning.specs.Table.{Channel, at_number}
use Rattle.kernel_meaning.specs.Partition.{Member, Moved, with_world, cold_start, breaks_down, advances, arrives, leaves, leaving, admits, goes_out, messages_to_move}
use Rattle.kernel_meaning.specs.Objects.{Port}
use Rattle.kernel_meaning.specs.Windows.{Schedule, tick_from, owner, ended}

-- the parts of a module that no tick changes: the major frame with its windows, the channels, and
-- the action on a fault of the module
pub record Plan : Type 0 where
  pub schedule : Schedule
  pub channels : List Channel
  pub fault : ModuleAction

-- the partitions in their order
pub record Module (Control : Type 0) : Type 0 where
  pub plan : Plan
  pub members : List (Member Control)

-- ---- steps of whatever has a state: of the partitions of a module, and of one partition alone

-- the state after a step, and the lines of the step
pub record Stepped (State : Type 0) : Type 0 where
  pub state : State
  pub lines : List Event

abbrev pub still : {S : Type 0} → S → Stepped S
still s = record { state = s; lines = [] }

-- one step, then another from where it led
abbrev pub then_goes : {S : Type 0} → Stepped S → (S → Stepped S) → Stepped S
then_goes a rest = let b = rest a.state in record { state = b.state; lines = a.lines ++ b.lines }

-- A step that may start the module again, or shut it down: the state after it, its lines, and the
-- tick with the origin that counts from here on; none if the module is shut down.
pub record Course (State : Type 0) : Type 0 where
  pub at : Option At
  pub state : State
  pub lines : List Event

-- a step after which the origin counts that counted before
abbrev pub goes_on : {S : Type 0} → At → Stepped S → Course S
goes_on at a = record { at = Some at; state = a.state; lines = a.lines }

-- one step, then another unless the module is shut down
abbrev pub unless_down : {S : Type 0} → Course S → (At → S → Course S) → Option At → Course S
unless_down c rest None = c
unless_down c rest (Some at) = let d = rest at c.state in record { at = d.at; state = d.state; lines = c.lines ++ d.lines }

abbrev pub then_runs : {S : Type 0} → Course S → (At → S → Course S) → Course S
then_runs c rest = unless_down c rest c.at

-- ---- a step of one partition, the others stay as they are

abbrev pub steps_member : {C : Type 0} → (Member C → Moved C) → List (Member C) → ℕ → Option (Member C) → Stepped (List (Member C))
steps_member step members place None = still members
steps_member step members place (Some x) = let m = step x in record { state = slice_set members place (with_world x m.world); lines = m.lines }

-- partitions are numbered from 1
abbrev pub steps : {C : Type 0} → (Member C → Moved C) → List (Member C) → ℕ → Stepped (List (Member C))
steps step members zero = still members
steps step members (suc place) = steps_member step members place (slice_get members place)

-- ---- the start

-- the first tick of a run
abbrev pub first_tick : At
first_tick = tick_from 0 0

-- each partition in order clears to a cold start, for a reason
abbrev pub started_member : {C : Type 0} → At → StartCondition → Member C → Member C
started_member at c x = with_world x (cold_start at c x).world

abbrev pub start_lines : {C : Type 0} → At → StartCondition → Member C → List Event
start_lines at c x = (cold_start at c x).lines

abbrev pub starts_all : {C : Type 0} → At → StartCondition → List (Member C) → Stepped (List (Member C))
starts_all at c members = record { state = map (started_member at c) members; lines = flat_map (start_lines at c) members }

-- the first start of the module
abbrev pub starts : {C : Type 0} → List (Member C) → Stepped (List (Member C))
starts members = starts_all first_tick condition.NormalStart members

-- ---- messages

-- a message by a channel arrives at one of its ends; the partition of the source reports a message
-- to a device
abbrev pub delivers : {C : Type 0} → At → Channel → ArrayVec ℤ → ChannelEnd → ChannelEnd → List (Member C) → Stepped (List (Member C))
delivers at c m source (ends.Port q port) members = steps (arrives at port m) members q.0
delivers at c m (ends.Port p port) ends.Device members = steps (goes_out at c.name m) members p.0
delivers at c m ends.Device ends.Device members = still members

-- to each of these ends in turn
abbrev pub delivers_all : {C : Type 0} → At → Channel → ArrayVec ℤ → List ChannelEnd → List (Member C) → Stepped (List (Member C))
delivers_all at c m [] members = still members
delivers_all at c m (e ∷ es) members = then_goes (delivers at c m c.source e members) (delivers_all at c m es)

-- by a channel, to all its destinations in their order; without a channel it goes nowhere
abbrev pub goes_by : {C : Type 0} → At → ArrayVec ℤ → Option Channel → List (Member C) → Stepped (List (Member C))
goes_by at m None members = still members
goes_by at m (Some c) members = delivers_all at c m c.destinations members

-- ---- faults of the module

-- the line of a fault, which is no partition's
abbrev pub fault_line : At → ModuleAction → Event
fault_line at action = record { tick = at.now; partition = None; kind = event.Error HardwareFault None (level.Module action) }

abbrev pub tells_fault : {C : Type 0} → At → ModuleAction → List (Member C) → Stepped (List (Member C))
tells_fault at action members = record { state = members; lines = fault_line at action ∷ [] }

-- a tick that is its own origin
abbrev pub as_origin : At → At
as_origin at = record { now = at.now; origin = at.now }

-- A fault of the module is ignored, shuts it down, or resets it: this tick becomes the origin, and each
-- partition in order clears to a cold start.
abbrev pub breaks_module : {C : Type 0} → At → ModuleAction → List (Member C) → Course (List (Member C))
breaks_module at reaction.Ignore members = goes_on at (tells_fault at reaction.Ignore members)
breaks_module at reaction.Shutdown members = record { at = None; state = members; lines = fault_line at reaction.Shutdown ∷ [] }
breaks_module at reaction.Reset members = goes_on (as_origin at) (then_goes (tells_fault at reaction.Reset members) (starts_all (as_origin at) condition.HmModuleRestart))

-- ---- the devices

abbrev pub inputs : {C : Type 0} → Plan → At → DeviceInput → List (Member C) → Course (List (Member C))
inputs plan at (input.Message channel m) members = goes_on at (goes_by at m (slice_get plan.channels channel.0) members)
inputs plan at (input.PartitionFault p) members = goes_on at (steps (breaks_down at) members p.0)
inputs plan at input.ModuleFault members = breaks_module at plan.fault members

-- each line in turn, unless the module is shut down
abbrev pub inputs_all : {C : Type 0} → Plan → At → List DeviceLine → List (Member C) → Course (List (Member C))
inputs_all plan at [] members = goes_on at (still members)
inputs_all plan at (l ∷ ls) members = then_runs (inputs plan at l.input members) (λ a ms. inputs_all plan a ls ms)

abbrev pub is_of_tick : ℕ → DeviceLine → Bool
is_of_tick t l = l.tick.0 == t

-- the lines of a tick, in their order
abbrev pub of_tick : ℕ → List DeviceLine → List DeviceLine
of_tick t lines = filter (is_of_tick t) lines

-- ---- moves

abbrev pub is_port : PartitionId → PortId → ChannelEnd → Bool
is_port p port ends.Device = false
is_port p port (ends.Port q other) = (q.0 == p.0) && (other.0 == port.0)

-- the channel whose source a port is
abbrev pub channel_from : List Channel → PartitionId → PortId → Option Channel
channel_from channels p port = find (λ c. is_port p port c.source) channels

-- the view of a partition, or `none` without a partition
abbrev pub of_member : {C B : Type 0} → B → (Member C → B) → Option (Member C) → B
of_member none sees None = none
of_member none sees (Some x) = sees x

-- the message leaves its port, and goes by its channel
abbrev pub moves_found : {C : Type 0} → List Channel → At → PartitionId → PortId → List (Member C) → Option (ArrayVec ℤ) → Stepped (List (Member C))
moves_found channels at p port members None = still members
moves_found channels at p port members (Some m) = then_goes (steps (leaves at port) members p.0) (goes_by at m (channel_from channels p port))

-- the first message of a port
abbrev pub moves_message : {C : Type 0} → List Channel → At → PartitionId → PortId → List (Member C) → Stepped (List (Member C))
moves_message channels at p port members = moves_found channels at p port members (of_member None (leaving port) (at_number members p.0))

-- `n` messages of a port, one after another
abbrev pub moves_messages : {C : Type 0} → ℕ → List Channel → At → PartitionId → PortId → List (Member C) → Stepped (List (Member C))
moves_messages zero channels at p port members = still members
moves_messages (suc n) channels at p port members = then_goes (moves_message channels at p port members) (moves_messages n channels at p port)

-- `n` messages, then the senders that wait for room; nothing for a port that is not a source
abbrev pub moves_so_many : {C : Type 0} → List Channel → At → PartitionId → PortId → List (Member C) → Option ℕ → Stepped (List (Member C))
moves_so_many channels at p port members None = still members
moves_so_many channels at p port members (Some n) = then_goes (moves_messages n channels at p port members) (λ ms. steps (admits at port) ms p.0)

abbrev pub ports_of : {C : Type 0} → Member C → List Port
ports_of x = x.world.kernel.ports.ports

abbrev pub ports_from : {C : Type 0} → List (Member C) → ℕ → List Port
ports_from members p = of_member [] ports_of (at_number members p)

-- all messages that a source port holds, the oldest first, then the senders that wait for room in it
abbrev pub moves_port : {C : Type 0} → List Channel → At → PartitionId → PortId → List (Member C) → Stepped (List (Member C))
moves_port channels at p port members = moves_so_many channels at p port members (messages_to_move (at_number (ports_from members p.0) port.0))

-- `n` ports of a partition, from port `number`
abbrev pub moves_ports : {C : Type 0} → ℕ → ℕ → List Channel → At → PartitionId → List (Member C) → Stepped (List (Member C))
moves_ports zero number channels at p members = still members
moves_ports (suc n) number channels at p members =
    then_goes (moves_port channels at p (record { 0 = number }) members) (moves_ports n (number + 1) channels at p)

-- the moves of the partition whose window has ended: those of its source ports, in number order
abbrev pub moves_ended : {C : Type 0} → List Channel → At → List (Member C) → Option ℕ → Stepped (List (Member C))
moves_ended channels at members None = still members
moves_ended channels at members (Some p) = moves_ports (length (ports_from members p)) 1 channels at (record { 0 = p }) members

-- ---- one tick

abbrev pub ticks_owner : {C : Type 0} → At → List (Member C) → Option ℕ → Stepped (List (Member C))
ticks_owner at members None = still members
ticks_owner at members (Some p) = steps (advances at) members p

-- the moves of messages, then the tick of the owner
abbrev pub moves_and_ticks : {C : Type 0} → Plan → At → List (Member C) → Course (List (Member C))
moves_and_ticks plan at members =
    goes_on at (then_goes (moves_ended plan.channels at members (ended plan.schedule at)) (λ ms. ticks_owner at ms (owner plan.schedule at)))

-- In a tick the devices' lines of this tick act first. Then the messages of the partition move
-- whose window has ended. Then the owner of the tick's window runs. After a shutdown nothing
-- happens.
abbrev pub module_tick : {C : Type 0} → Plan → At → List DeviceLine → List (Member C) → Course (List (Member C))
module_tick plan at devices members =
    then_runs (inputs_all plan at (of_tick at.now.0 devices) members) (moves_and_ticks plan)

-- ---- the trace

-- the next tick
abbrev pub next_tick : At → At
next_tick at = tick_from at.origin.0 (at.now.0 + 1)

-- the lines of `n` ticks from a tick; a module that is shut down writes none
abbrev pub trace_from : {C : Type 0} → Plan → List DeviceLine → ℕ → Option At → List (Member C) → List Event
trace_from plan devices zero at members = []
trace_from plan devices (suc n) None members = []
trace_from plan devices (suc n) (Some at) members =
    let r = module_tick plan at devices members in
    r.lines ++ trace_from plan devices n (option_map next_tick r.at) r.state

-- The trace of n ticks with these lines of the devices: the start of each partition before tick 0, then the
-- ticks. Of no tick it is empty.
abbrev pub trace : {C : Type 0} → Module C → List DeviceLine → ℕ → List Event
trace m devices zero = []
trace m devices (suc n) = let s = starts m.members in s.lines ++ trace_from m.plan devices (suc n) (Some first_tick) s.state

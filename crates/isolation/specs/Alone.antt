-- One partition alone: its own windows, its record, and its inputs from outside.
use Rattle.std.specs.Prelude.{ℕ, zero, suc, ◌+◌, ◌==◌, ℤ, Bool, List, [], ◌∷◌, ◌++◌, Option, Some, None, length, option_map, is_some, if◌then◌else◌}
use Rattle.arrayvec.specs.ArrayVec.{ArrayVec}
use Rattle.apex_types.specs.declared.codes.ModuleAction.{ModuleAction}
use Rattle.apex_types.specs.declared.codes.ModuleAction.TheVariants as reaction
use Rattle.apex_types.specs.declared.codes.StartCondition.TheVariants as condition
use Rattle.apex_types.specs.declared.event.Event.{Event}
use Rattle.apex_types.specs.declared.identity.At.{At}
use Rattle.apex_types.specs.declared.identity.PortId.{PortId}
use Rattle.module_meaning.specs.Table.{at_number}
use Rattle.module_meaning.specs.Module.{Stepped, Course, still, then_goes, goes_on, then_runs, as_origin, first_tick, next_tick, ports_of}
use Rattle.kernel_meaning.specs.Partition.{Member, Moved, with_world, cold_start, breaks_down, advances, arrives, leaves, leaving, admits, goes_out, messages_to_move}
use Rattle.kernel_meaning.specs.Windows.{Schedule, owner, ended}
pub use Rattle.isolation.specs.declared.input.Input.{Input}
pub use Rattle.isolation.specs.declared.input.Input.TheVariants.{Arrive, ModuleFault, PartitionFault}
pub use Rattle.isolation.specs.declared.input.InputLine.{InputLine}

-- The parts of one partition that no tick changes: the major frame with its own windows, the action
-- on a fault of the module, and for each of its ports in number order the name of the channel by
-- which its messages leave the module, if there is one.
pub record Surroundings : Type 0 where
  pub schedule : Schedule
  pub fault : ModuleAction
  pub ways_out : List (Option (List ℕ))

abbrev pub way_of : Option (Option (List ℕ)) → Option (List ℕ)
way_of None = None
way_of (Some way) = way

-- the way out of a port, if there is such a port and it has one
abbrev pub way_out : Surroundings → PortId → Option (List ℕ)
way_out s port = way_of (at_number s.ways_out port.0)

-- a partition with its surroundings
pub record Alone (Control : Type 0) : Type 0 where
  pub around : Surroundings
  pub member : Member Control

-- a step of a partition
abbrev pub goes : {C : Type 0} → (Member C → Moved C) → Member C → Stepped (Member C)
goes step x = record { state = with_world x (step x).world; lines = (step x).lines }

-- ---- the inputs
-- a fault of the module, whose line belongs to no partition
abbrev pub meets_fault : {C : Type 0} → At → ModuleAction → Member C → Course (Member C)
meets_fault at reaction.Ignore x = goes_on at (still x)
meets_fault at reaction.Shutdown x = record { at = None; state = x; lines = [] }
meets_fault at reaction.Reset x = goes_on (as_origin at) (goes (cold_start (as_origin at) condition.HmModuleRestart) x)

abbrev pub takes : {C : Type 0} → ModuleAction → At → Input → Member C → Course (Member C)
takes fault at (Arrive port m) x = goes_on at (goes (arrives at port m) x)
takes fault at ModuleFault x = meets_fault at fault x
takes fault at PartitionFault x = goes_on at (goes (breaks_down at) x)

-- each in turn, unless the module is shut down
abbrev pub takes_all : {C : Type 0} → ModuleAction → At → List Input → Member C → Course (Member C)
takes_all fault at [] x = goes_on at (still x)
takes_all fault at (i ∷ is) x = then_runs (takes fault at i x) (λ a y. takes_all fault a is y)

abbrev pub is_in_tick : ℕ → InputLine → Bool
is_in_tick t l = l.tick.0 == t

abbrev pub inputs_in : ℕ → List InputLine → List Input
inputs_in t [] = []
inputs_in t (l ∷ ls) = if is_in_tick t l then l.input ∷ inputs_in t ls else inputs_in t ls

-- ---- its own messages
-- a message that has left a port leaves the module too, if its channel goes to the device
abbrev pub goes_by_way : {C : Type 0} → At → ArrayVec ℤ → Option (List ℕ) → Member C → Stepped (Member C)
goes_by_way at m None x = still x
goes_by_way at m (Some channel) x = goes (goes_out at channel m) x

abbrev pub sends_found : {C : Type 0} → Surroundings → At → PortId → Member C → Option (ArrayVec ℤ) → Stepped (Member C)
sends_found s at port x None = still x
sends_found s at port x (Some m) = then_goes (goes (leaves at port) x) (goes_by_way at m (way_out s port))

-- the first message of a port, whatever happens to it
abbrev pub sends_message : {C : Type 0} → Surroundings → At → PortId → Member C → Stepped (Member C)
sends_message s at port x = sends_found s at port x (leaving port x)

abbrev pub sends_messages : {C : Type 0} → ℕ → Surroundings → At → PortId → Member C → Stepped (Member C)
sends_messages zero s at port x = still x
sends_messages (suc n) s at port x = then_goes (sends_message s at port x) (sends_messages n s at port)

abbrev pub sends_so_many : {C : Type 0} → Surroundings → At → PortId → Member C → Option ℕ → Stepped (Member C)
sends_so_many s at port x None = still x
sends_so_many s at port x (Some n) = then_goes (sends_messages n s at port x) (goes (admits at port))

-- all messages of a source port, the oldest first, then the senders that wait for room in it
abbrev pub sends_port : {C : Type 0} → Surroundings → At → PortId → Member C → Stepped (Member C)
sends_port s at port x = sends_so_many s at port x (messages_to_move (at_number (ports_of x) port.0))

-- sends the messages of n ports, from port `number` on
abbrev pub sends_ports : {C : Type 0} → ℕ → ℕ → Surroundings → At → Member C → Stepped (Member C)
sends_ports zero number s at x = still x
sends_ports (suc n) number s at x = then_goes (sends_port s at (record { 0 = number }) x) (sends_ports n (number + 1) s at)

-- ---- one tick
-- if its window has ended, its source ports send, in number order
abbrev pub sends_ended : {C : Type 0} → Surroundings → At → Member C → Bool → Stepped (Member C)
sends_ended s at x ends = if ends then sends_ports (length (ports_of x)) 1 s at x else still x

-- advances if its window holds the tick
abbrev pub ticks_own : {C : Type 0} → At → Member C → Bool → Stepped (Member C)
ticks_own at x owns = if owns then goes (advances at) x else still x

abbrev pub sends_and_ticks : {C : Type 0} → Surroundings → At → Member C → Course (Member C)
sends_and_ticks s at x =
    goes_on at (then_goes (sends_ended s at x (is_some (ended s.schedule at))) (λ y. ticks_own at y (is_some (owner s.schedule at))))

-- In a tick, the inputs act first. Then the partition's messages leave, if its window has ended.
-- Then it advances, if the tick is in its window. After a shutdown nothing happens.
abbrev pub tick_alone : {C : Type 0} → Surroundings → At → List Input → Member C → Course (Member C)
tick_alone s at inputs x = then_runs (takes_all s.fault at inputs x) (sends_and_ticks s)

-- ---- the trace
abbrev pub alone_from : {C : Type 0} → Surroundings → List InputLine → ℕ → Option At → Member C → List Event
alone_from s inputs zero at x = []
alone_from s inputs (suc n) None x = []
alone_from s inputs (suc n) (Some at) x =
    let r = tick_alone s at (inputs_in at.now.0 inputs) x in
    r.lines ++ alone_from s inputs n (option_map next_tick r.at) r.state

-- The trace of n ticks of a partition on its own, with its inputs: its start before tick 0, then the
-- ticks.
abbrev pub trace_alone : {C : Type 0} → Alone C → List InputLine → ℕ → List Event
trace_alone a inputs zero = []
trace_alone a inputs (suc n) =
    let s = goes (cold_start first_tick condition.NormalStart) a.member in
    s.lines ++ alone_from a.around inputs (suc n) (Some first_tick) s.state

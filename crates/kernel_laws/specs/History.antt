-- A run of a module, step by step. Each step is a move of one partition, or the line of a fault of the module.
use Rattle.std.specs.Prelude.{ℕ, zero, suc, ℤ, List, [], ◌∷◌, Option, Some, None, option_map}
use Rattle.arrayvec.specs.ArrayVec.{ArrayVec}
use Rattle.apex_types.specs.declared.codes.ModuleAction.{ModuleAction}
use Rattle.apex_types.specs.declared.codes.StartCondition.{StartCondition}
use Rattle.apex_types.specs.declared.device.DeviceLine.{DeviceLine}
use Rattle.apex_types.specs.declared.identity.At.{At}
use Rattle.apex_types.specs.declared.identity.PortId.{PortId}
use Rattle.module_meaning.specs.Module.{Plan, Module, Stepped, still, then_goes, steps, starts, first_tick, next_tick, module_tick, tells_fault}
use Rattle.kernel_meaning.specs.Partition.{Member, Moved, cold_start, breaks_down, arrives, leaves, admits, goes_out, advances}

-- The moves of a module with a partition: it clears it to a cold start, breaks its hardware, lets a
-- message arrive at a port or leave it, lets the senders that wait at a port enter, lets a message
-- go out by a channel, or gives it a tick.
pub data Move : Type 0 where
  Starts : (at : At) (condition : StartCondition) → Move
  BreaksDown : (at : At) → Move
  Arrives : (at : At) (port : PortId) (message : ArrayVec ℤ) → Move
  Leaves : (at : At) (port : PortId) → Move
  Admits : (at : At) (port : PortId) → Move
  GoesOut : (at : At) (channel : List ℕ) (message : ArrayVec ℤ) → Move
  Advances : (at : At) → Move

abbrev pub makes : {C : Type 0} → Move → Member C → Moved C
makes (Starts at condition) x = cold_start at condition x
makes (BreaksDown at) x = breaks_down at x
makes (Arrives at port message) x = arrives at port message x
makes (Leaves at port) x = leaves at port x
makes (Admits at port) x = admits at port x
makes (GoesOut at channel message) x = goes_out at channel message x
makes (Advances at) x = advances at x

-- a move of the partition with a number, or the line of a fault of the module
pub data Happening : Type 0 where
  Moves : (p : ℕ) (move : Move) → Happening
  Tells : (at : At) (action : ModuleAction) → Happening

abbrev pub happens : {C : Type 0} → Happening → List (Member C) → Stepped (List (Member C))
happens (Moves p move) members = steps (makes move) members p
happens (Tells at action) members = tells_fault at action members

-- each in turn
abbrev pub all_happen : {C : Type 0} → List Happening → List (Member C) → Stepped (List (Member C))
all_happen [] members = still members
all_happen (h ∷ hs) members = then_goes (happens h members) (all_happen hs)

-- ---- the states of a run

-- the members after n ticks from `at` on; ticks do not change the members of a module that is shut
-- down
abbrev pub members_from : {C : Type 0} → Plan → List DeviceLine → ℕ → Option At → List (Member C) → List (Member C)
members_from plan devices zero at members = members
members_from plan devices (suc n) None members = members
members_from plan devices (suc n) (Some at) members =
    let r = module_tick plan at devices members in
    members_from plan devices n (option_map next_tick r.at) r.state

-- The members after n ticks of a run: before its first tick the module has started them.
abbrev pub members_after : {C : Type 0} → Module C → List DeviceLine → ℕ → List (Member C)
members_after m devices zero = m.members
members_after m devices (suc n) = let s = starts m.members in members_from m.plan devices (suc n) (Some first_tick) s.state

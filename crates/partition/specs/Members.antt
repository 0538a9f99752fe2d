-- A partition with its memory, as the member of the definitions.
use Rattle.std.specs.Prelude.{◌≡◌, ◌≤◌, ℕ, ◌+◌, ◌-◌, List, ◌++◌, length, Option, Some, None}
use Rattle.apex_types.specs.declared.identity.At.{At}
use Rattle.apex_types.specs.declared.event.Event.{Event}
use Rattle.apex_types.specs.declared.log.EventLog.{Ghosts as Log}
use Rattle.apex_types.specs.Runners.{Action}
use Rattle.kernel_meaning.specs.Kernel.{Kernel}
use Rattle.kernel_meaning.specs.Partition.{Member, Moved, with_world, act, act_all}
use Rattle.apex_types.specs.declared.limits.TheConstants.{MOST_EVENTS}
use Rattle.partition_base.specs.declared.executor.Executor.{Ghosts}
use Rattle.partition.specs.Gathering.{Gathers, ticks_within}
use Rattle.partition.specs.declared.partition.Partition.{Partition}

-- a kernel over an executor, with the memory
abbrev pub member_at : {E X : Type 0} → (g : Ghosts E X) → Kernel → E → X → Member g.Control
member_at g kernel executor mem = record {
  engine = g.engine executor;
  world = record { kernel = kernel; controls = g.controls executor mem; words = g.words mem; initial = g.initial executor };
}

abbrev pub member_of : {E X : Type 0} → (g : Ghosts E X) → Partition E X → X → Member g.Control
member_of g p mem = member_at g p.kernel p.executor mem

abbrev pub acts : {C : Type 0} → Action → Member C → Member C
acts action x = with_world x (act x.engine action x.world)

abbrev pub acts_at : {C : Type 0} → Option Action → Member C → Member C
acts_at None x = x
acts_at (Some action) x = acts action x

abbrev pub acts_all : {C : Type 0} → List Action → Member C → Member C
acts_all actions x = with_world x (act_all x.engine actions x.world)

-- The log holds what it held before, followed by these events.
abbrev pub IsTold : {L : Type 0} → (g : Log L) → L → L → List Event → Type 0
IsTold g old new events = g.held new ≡ g.held old ++ g.pieces events

-- Some events with this property were recorded.
abbrev pub TellsSome : {L : Type 0} → (g : Log L) → L → L → (List Event → Type 0) → Type 0
TellsSome g old new is_so = (told : List Event) × IsTold g old new told × is_so told

-- A member moved: `after` is the member after it, and its lines were recorded.
abbrev pub IsMoved : {C : Type 0} → Moved C → Member C → Member C → (List Event → Type 0) → Type 0
IsMoved m before after is_told = (after ≡ with_world before m.world) × is_told m.lines

-- The log holds what it held before, followed by these events, and the room for further lines is
-- less by their number: the room that the log has at least, and the one that is counted.
abbrev pub IsRecorded : {L : Type 0} → (g : Log L) → L → L → (before after : ℕ) → List Event → Type 0
IsRecorded g old new before after events = IsTold g old new events × (g.room old ≤ g.room new + length events) × (after ≡ before - length events)

-- Some events with this property were recorded, and their lines counted.
abbrev pub RecordsSome : {L : Type 0} → (g : Log L) → L → L → (before after : ℕ) → (List Event → Type 0) → Type 0
RecordsSome g old new before after is_so = (told : List Event) × IsRecorded g old new before after told × is_so told

-- Ticks of a member from `at` on, with room for so many lines: `ticks` ticks lead to `after` and
-- write `lines`.
abbrev pub HasGone : {C : Type 0} → At → (room : ℕ) → Member C → Member C → List Event → ℕ → Type 0
HasGone at room before after lines ticks = (after ≡ with_world before after.world) × Gathers before.engine at.origin.0 room before.world at.now.0 ticks lines after.world

-- n ticks of a member from `at` on, or fewer, once their lines leave less room than a tick may need:
-- `ticks` ticks, with all their lines.
abbrev pub HasAdvanced : {C : Type 0} → At → ℕ → Member C → Member C → List Event → ℕ → Type 0
HasAdvanced at n before after lines ticks = (after ≡ with_world before after.world) × (ticks_within before.engine at.origin.0 MOST_EVENTS n before.world at.now.0 ≡ record { control = after.world; words = at.now.0 + ticks; told = lines; ticks = ticks })

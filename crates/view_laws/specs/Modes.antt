-- In which ticks a view shows a mode, and how many of them a summary counts.
use Rattle.std.specs.Prelude.{◌+◌, ℕ, suc, Bool, true, false, ◌&&◌, List, [], ◌∷◌, Option, Some, None}
use Rattle.apex_types.specs.declared.codes.Mode.{Mode}
use Rattle.apex_types.specs.declared.codes.Mode.TheVariants as mode
use Rattle.apex_types.specs.declared.device.DeviceLine.{DeviceLine}
use Rattle.apex_types.specs.declared.event.Event.{Event}
use Rattle.kernel_laws.specs.History.{members_after}
use Rattle.kernel_meaning.specs.Partition.{Member}
use Rattle.module_meaning.specs.Module.{Module}
use Rattle.module_meaning.specs.Table.{at_number}
use Rattle.trace_stays.specs.declared.span.Span.{Span}
use Rattle.trace_stays.specs.declared.stay.HeldMode.{HeldMode}
use Rattle.trace_stays.specs.declared.stay.ModeStay.{ModeStay}
use Rattle.trace_view.specs.Partitions.{no_partition, partition_total}
use Rattle.trace_view.specs.Starts.{told_first}
use Rattle.trace_view.specs.Whole.{partition_in}
use Rattle.trace_view.specs.declared.modes.ModeTicks.{ModeTicks}
use Rattle.trace_windows.specs.Uses.{one_if}
use Rattle.view_laws.specs.Ticks.{has_tick}

abbrev pub is_same_mode : Mode → Mode → Bool
is_same_mode mode.Idle mode.Idle = true
is_same_mode mode.ColdStart mode.ColdStart = true
is_same_mode mode.WarmStart mode.WarmStart = true
is_same_mode mode.Normal mode.Normal = true
is_same_mode _ _ = false

-- how many of these stays are in this mode and have this tick
abbrev pub mode_in : Mode → ℕ → List ModeStay → ℕ
mode_in m t [] = 0
mode_in m t (s ∷ ss) = one_if (is_same_mode m s.mode && has_tick t s.span) + mode_in m t ss

-- the mode held is this one
abbrev pub is_held : Mode → Option HeldMode → Bool
is_held m None = false
is_held m (Some held) = is_same_mode m held.mode

-- ---- a run

abbrev pub has_mode : {C : Type 0} → Mode → Option (Member C) → Bool
has_mode m None = false
has_mode m (Some x) = is_same_mode m x.world.kernel.mode

-- partition p is in this mode after tick t of a run
abbrev pub is_in_mode : {C : Type 0} → Module C → List DeviceLine → ℕ → Mode → ℕ → Bool
is_in_mode run devices p m t = has_mode m (at_number (members_after run devices (suc t)) p)

-- ---- a summary

abbrev pub ticks_for : Mode → ModeTicks → ℕ
ticks_for mode.Normal t = t.normal
ticks_for mode.ColdStart t = t.cold_start
ticks_for mode.WarmStart t = t.warm_start
ticks_for mode.Idle t = t.idle

-- the ticks in a mode that a summary counts for a partition
abbrev pub mode_counted : (window closing : Span) → List Event → List ℕ → Mode → ℕ
mode_counted window closing lines name m = ticks_for m (partition_total closing (partition_in window told_first lines (no_partition name))).modes

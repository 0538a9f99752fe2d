-- The numbers of a partition, line by line.
use Rattle.std.specs.Prelude.{ℕ, Bool, true, false, ◌||◌, if◌then◌else◌, List, [], ◌∷◌, ◌++◌, map, Option, Some, None}
use Rattle.apex_types.specs.declared.codes.Mode.{Mode}
use Rattle.apex_types.specs.declared.event.Event.{Event}
use Rattle.apex_types.specs.declared.event.EventKind.{EventKind}
use Rattle.apex_types.specs.declared.event.EventKind.TheVariants as event
use Rattle.apex_types.specs.declared.identity.Ticks.{Ticks}
use Rattle.engine_meaning.specs.Digits.{same}
use Rattle.trace_stays.specs.Following.{is_of}
use Rattle.trace_stays.specs.Stays.{mode_behind, mode_ended}
use Rattle.trace_stays.specs.declared.span.Span.{Span}
use Rattle.trace_stays.specs.declared.stay.ModeStay.{ModeStay}
use Rattle.trace_view.specs.Counting.{with_mode_stay}
use Rattle.trace_view.specs.Starts.{condition_for, with_start}
use Rattle.trace_view.specs.Tallies.{has_tick, is_read}
use Rattle.trace_view.specs.declared.modes.ModeTicks.{ModeTicks}
use Rattle.trace_view.specs.declared.partitions.PartitionRow.{PartitionRow}
use Rattle.trace_view.specs.declared.report.PartitionTotal.{PartitionTotal}
use Rattle.trace_view.specs.declared.starts.Starts.{Starts}
use Rattle.trace_view.specs.declared.told.Told.{Told}

-- a partition without a line
abbrev pub no_partition : List ℕ → PartitionRow
no_partition name = record {
  name = name;
  watch = record { held = None };
  modes = record { normal = 0; cold_start = 0; warm_start = 0; idle = 0 };
  starts = record { cold = 0; warm = 0; conditions = record { normal_start = 0; partition_restart = 0; hm_module_restart = 0; hm_partition_restart = 0 } };
}

-- the ticks in each mode, with those of the stay that is over
abbrev pub with_mode_over : Span → Option ModeStay → ModeTicks → ModeTicks
with_mode_over window None t = t
with_mode_over window (Some stay) t = with_mode_stay window stay t

-- the starts after a line MODE; it counts if its tick is in the window
abbrev pub starts_behind : Bool → Told → Mode → List ℕ → Starts → Starts
starts_behind true told m name s = with_start (condition_for name told) m s
starts_behind false told m name s = s

-- the partition enters a mode
abbrev pub entered : Span → Told → Ticks → Mode → PartitionRow → PartitionRow
entered window told t m p = record {
  name = p.name;
  watch = record { held = mode_behind p.watch.held m t.0 };
  modes = with_mode_over window (mode_ended p.watch.held t.0) p.modes;
  starts = starts_behind (has_tick window t.0) told m p.name p.starts;
}

-- after a line of this partition
abbrev pub read_by : Span → Told → Ticks → EventKind → PartitionRow → PartitionRow
read_by window told t (event.Mode m) p = entered window told t m p
read_by window told t _ p = p

-- after a line
abbrev pub partition_behind : Span → Told → Event → PartitionRow → PartitionRow
partition_behind window told e p = if is_of p.name e.partition then read_by window told e.tick e.kind p else p

-- ---- the rows

abbrev pub has_row : List ℕ → List PartitionRow → Bool
has_row name [] = false
has_row name (p ∷ ps) = same p.name name || has_row name ps

-- a partition has a row from its first line on
abbrev pub with_partition : Option (List ℕ) → List PartitionRow → List PartitionRow
with_partition None ps = ps
with_partition (Some name) ps = if has_row name ps then ps else ps ++ no_partition name ∷ []

-- after a line that is read
abbrev pub partitions_behind : Span → Told → Event → List PartitionRow → List PartitionRow
partitions_behind window told e ps = map (partition_behind window told e) (with_partition e.partition ps)

-- after a line
abbrev pub partitions_after : Span → Told → Event → List PartitionRow → List PartitionRow
partitions_after window told e ps = if is_read window e.tick.0 then partitions_behind window told e ps else ps

-- ---- the totals of a report

-- its numbers where the window ends
abbrev pub partition_total : Span → PartitionRow → PartitionTotal
partition_total window p = record {
  name = p.name;
  modes = with_mode_over window (mode_ended p.watch.held window.until.0) p.modes;
  starts = p.starts;
}

-- The ticks in a mode that a summary counts for a partition of a run are those in which it is in the mode.
use Rattle.std.proofs.Common.{◌≡◌, ◌<◌, ◌≤◌, ℕ, zero, suc, Bool, List, None, refl, ap, ◌∙◌, subst, arith}
use Rattle.std.specs.Prelude.{◌-◌}
use Rattle.apex_types.specs.Limits.{MOST_TICKS}
use Rattle.apex_types.specs.declared.codes.Mode.{Mode}
use Rattle.apex_types.specs.declared.codes.Mode.TheVariants as mode
use Rattle.apex_types.specs.declared.device.DeviceLine.{DeviceLine}
use Rattle.apex_types.specs.declared.event.Event.{Event}
use Rattle.module_meaning.specs.Module.{Module, trace}
use Rattle.trace_stays.specs.Stays.{span}
use Rattle.trace_stays.specs.Traces.{modes_in}
use Rattle.trace_stays.specs.declared.span.Span.{Span}
use Rattle.trace_view.specs.Partitions.{no_partition, partition_total}
use Rattle.trace_view.specs.Starts.{told_first}
use Rattle.trace_view.specs.Whole.{partition_in}
use Rattle.trace_view.specs.declared.partitions.PartitionRow.{PartitionRow}
use Rattle.trace_windows.specs.Uses.{one_if}
use Rattle.view_laws.specs.Counted.{AreBeforeTick}
use Rattle.view_laws.specs.Modes.{mode_counted, mode_in, ticks_for}
use Rattle.view_laws.specs.Reading.{up_to}
use Rattle.view_laws.specs.Ticks.{ticks_when}
use Rattle.view_laws.proofs.Counted.{before_tick}
use Rattle.view_laws.proofs.Lines.{up_to_are}
use Rattle.view_laws.proofs.ModeTallies.{counted_modes, none_read, read_up_to}
use Rattle.view_laws.proofs.Run.{run_order, run_up_to}

-- lines at the end and behind it are not read
module _ {C : Type 0} (m : Module C) (devices : List DeviceLine) (n : ℕ) (name : List ℕ) where
  pub row_part : (window : Span) (u : ℕ) → window.until.0 ≡ u → u ≤ n → partition_in window told_first (trace m devices n) (no_partition name) ≡ partition_in window told_first (trace m devices u) (no_partition name)
  row_part window zero is l = none_read window 0 (trace m devices n) (no_partition name) is (run_order m devices n)
  row_part window (suc t) is l =
      read_up_to window t 0 (trace m devices n) told_first (no_partition name) is (run_order m devices n)
      ∙ ap (λ (lines : List Event). partition_in window told_first lines (no_partition name)) (run_up_to m devices n t (omega (arith, l)))

module _ {C : Type 0} (m : Module C) (devices : List DeviceLine) (n : ℕ) (name : List ℕ) (k : Mode) (is : ℕ → Bool) (few : n ≤ MOST_TICKS)
    (shown : (j t : ℕ) → t < j → mode_in k t (modes_in (trace m devices j) j name None) ≡ one_if (is t)) where
  pub run_counted : (from until : ℕ) → until ≤ n → mode_counted (span from until) (span from until) (trace m devices n) name k ≡ ticks_when is from (until - from)
  run_counted from zero l =
      let none : 0 ≡ 0 - from = omega arith in
      ap (λ (p : PartitionRow). ticks_for k (partition_total (span from 0) p).modes) (none_read (span from 0) 0 (trace m devices n) (no_partition name) refl (run_order m devices n))
      ∙ nothing k
      ∙ ap (ticks_when is from) none
    where
      nothing : (k : Mode) → ticks_for k (no_partition name).modes ≡ 0
      nothing mode.Normal = refl
      nothing mode.ColdStart = refl
      nothing mode.WarmStart = refl
      nothing mode.Idle = refl
  run_counted from (suc t) l =
      let part : up_to t (trace m devices n) ≡ trace m devices (suc t) = run_up_to m devices n t (omega (arith, l)) in
      let enough : suc t ≤ MOST_TICKS = omega (arith, l, few) in
      ap (λ (p : PartitionRow). ticks_for k (partition_total (span from (suc t)) p).modes) (read_up_to (span from (suc t)) t 0 (trace m devices n) told_first (no_partition name) refl (run_order m devices n))
      ∙ ap (λ (lines : List Event). mode_counted (span from (suc t)) (span from (suc t)) lines name k) part
      ∙ counted_modes (trace m devices (suc t)) name k is from (suc t) enough
      (subst (AreBeforeTick (suc t)) part (before_tick t (up_to t (trace m devices n)) (up_to_are t (trace m devices n))))
      (λ i h. shown (suc t) i h)

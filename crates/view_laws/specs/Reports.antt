-- The report of the trace of a run, next to what the kernel did in it.
use Rattle.std.specs.Prelude.{◌≡◌, ◌≤◌, ◌-◌, ℕ, true, false, List, Option, Some, None}
use Rattle.apex_types.specs.Limits.{MOST_TICKS}
use Rattle.apex_types.specs.Line.{subject_text}
use Rattle.apex_types.specs.declared.codes.Mode.{Mode}
use Rattle.apex_types.specs.declared.codes.ProcessState.{ProcessState}
use Rattle.apex_types.specs.declared.codes.ProcessState.TheVariants.{Running}
use Rattle.apex_types.specs.declared.codes.StartCondition.{StartCondition}
use Rattle.apex_types.specs.declared.device.DeviceLine.{DeviceLine}
use Rattle.apex_types.specs.declared.event.Event.{Event}
use Rattle.apex_types.specs.declared.event.Subject.{Subject}
use Rattle.apex_types.specs.declared.identity.Ticks.{Ticks}
use Rattle.kernel_meaning.specs.Windows.{Schedule}
use Rattle.machine_meaning.specs.Image.{Image}
use Rattle.machine_meaning.specs.ImageLimits.{IsLawful}
use Rattle.machine_meaning.specs.MachineMeaning.{machine_module, machine_trace}
use Rattle.module_meaning.specs.Accepted.{IsModule}
use Rattle.module_meaning.specs.Module.{Module}
use Rattle.module_meaning.specs.SourceMeaning.{source_module, source_trace}
use Rattle.module_meaning.specs.Table.{Table, at_number}
use Rattle.pal_meaning.specs.Program.{Program}
use Rattle.state_laws.specs.Starts.{starts_in}
use Rattle.trace_view.specs.Counting.{capped}
use Rattle.trace_view.specs.Turns as turns
use Rattle.trace_view.specs.Whole.{partition_at, process_at}
use Rattle.trace_view.specs.declared.report.ProcessTotal.{ProcessTotal}
use Rattle.trace_view.specs.declared.report.Report.{Report}
use Rattle.trace_windows.specs.declared.shares.Shares.{Shares}
use Rattle.view_laws.specs.Modes.{is_in_mode, ticks_for}
use Rattle.view_laws.specs.Shown.{HasOwnWord}
use Rattle.view_laws.specs.Starts as starts
use Rattle.view_laws.specs.Starts.{is_with, starts_for, starts_when, starts_with}
use Rattle.view_laws.specs.Spent.{AreSpent, names_of_image, names_of_table}
use Rattle.view_laws.specs.Ticks.{IsRunner, ends_in_state, is_resting, is_running, rests_in_state, runs_in_tick, ticks_when}

-- the windows, if they are known, are those of this schedule, and of partitions with these names
abbrev pub AreWindowsOf : Schedule → List (List ℕ) → Option (Schedule × List (List ℕ)) → Type 0
AreWindowsOf schedule names None = Unit {0}
AreWindowsOf schedule names (Some w) = (w.0 ≡ schedule) × (w.1 ≡ names)

-- the ticks in a state of a row; none without one
abbrev pub ticks_shown : ProcessState → Option ProcessTotal → ℕ
ticks_shown state None = 0
ticks_shown state (Some row) = turns.ticks_for state row.tally.ticks

-- what the processor did, if the windows are known
abbrev pub AreSharesSpent : {C : Type 0} → Module C → List DeviceLine → (from until : ℕ) → Option Shares → Type 0
AreSharesSpent m devices from until None = Unit {0}
AreSharesSpent m devices from until (Some s) = AreSpent m devices from until s.counted.rows.items

-- In the ticks of the report, each row of what the processor did has the ticks that it spends so in the run. Each runner has the ticks in RUNNING in which it
-- runs. Of each other state it has no more than those after which it is in the state; of READY and WAITING it has all of these that it does not spend. Each
-- partition has the ticks in a mode after which it is in the mode. It has its starts in each mode and with each condition, at most 2^64 - 1 of them.
pub record TellsRun {C : Type 0} (m : Module C) (devices : List DeviceLine) (lines : List Event) (names : List (List ℕ)) (from until : ℕ) (report : Report) : Type 0 where
  pub spent : AreSharesSpent m devices from until report.shares
  pub running : (p : ℕ) (name : List ℕ) (who : Subject) → at_number names p ≡ Some name → HasOwnWord lines who
      → ticks_shown Running (process_at name (subject_text who) report.processes.items) ≡ ticks_when (runs_in_tick m devices p who) from (until - from)
  pub others : (p : ℕ) (name : List ℕ) (who : Subject) (wanted : ProcessState) → at_number names p ≡ Some name → HasOwnWord lines who → IsRunner m devices p who until → is_running wanted ≡ false
      → ticks_shown wanted (process_at name (subject_text who) report.processes.items) ≤ ticks_when (ends_in_state m devices p who wanted) from (until - from)
  pub resting : (p : ℕ) (name : List ℕ) (who : Subject) (wanted : ProcessState) → at_number names p ≡ Some name → HasOwnWord lines who → IsRunner m devices p who until → is_resting wanted ≡ true
      → ticks_when (rests_in_state m devices p who wanted) from (until - from) ≤ ticks_shown wanted (process_at name (subject_text who) report.processes.items)
  pub modes : (p : ℕ) (name : List ℕ) (mode : Mode) → at_number names p ≡ Some name
      → ticks_for mode (partition_at name report.partitions.items).modes ≡ ticks_when (is_in_mode m devices p mode) from (until - from)
  pub starts : (p : ℕ) (name : List ℕ) (mode : Mode) → at_number names p ≡ Some name
      → starts_for mode (partition_at name report.partitions.items).starts ≡ capped (starts_when (starts.is_in_mode mode) from (starts_in m devices p until))
  pub conditions : (p : ℕ) (name : List ℕ) (c : StartCondition) → at_number names p ≡ Some name
      → starts_with c (partition_at name report.partitions.items).starts.conditions ≡ capped (starts_when (is_with c) from (starts_in m devices p until))

-- ---- a report of lines, if they are those of a run

-- So it is if these are the lines of any run of a lawful image, by the windows of the image, and the ticks of the report are ticks of the run.
abbrev pub TellsMachines : (AreIts : List Event → Type 0) → Ticks → Option (Schedule × List (List ℕ)) → Report → Type 0
TellsMachines AreIts from windows report =
    (image : Image) (devices : List DeviceLine) (n : ℕ) → IsLawful image → n ≤ MOST_TICKS → AreWindowsOf image.schedule (names_of_image image) windows → AreIts (machine_trace image devices n)
    → report.extent.window.until.0 ≤ n → TellsRun (machine_module image) devices (machine_trace image devices n) (names_of_image image) from.0 report.extent.window.until.0 report

-- and so if they are those of any run of an accepted module
abbrev pub TellsModules : (AreIts : List Event → Type 0) → Ticks → Option (Schedule × List (List ℕ)) → Report → Type 0
TellsModules AreIts from windows report =
    (table : List ℕ) (sources : List (List ℕ)) (t : Table) (programs : List Program) (devices : List DeviceLine) (n : ℕ) → IsModule table sources t programs → n ≤ MOST_TICKS
    → AreWindowsOf t.schedule (names_of_table t) windows → AreIts (source_trace t programs devices n)
    → report.extent.window.until.0 ≤ n → TellsRun (source_module t programs) devices (source_trace t programs devices n) (names_of_table t) from.0 report.extent.window.until.0 report

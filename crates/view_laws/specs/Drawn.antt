-- The picture of the trace of a run, next to what the kernel did in it.
use Rattle.std.specs.Prelude.{◌≡◌, ◌<◌, ◌≤◌, ℕ, true, false, if◌then◌else◌, is_some, List, Option, Some, None}
use Rattle.apex_types.specs.Limits.{MOST_TICKS}
use Rattle.apex_types.specs.Line.{subject_text}
use Rattle.apex_types.specs.declared.codes.Mode.{Mode}
use Rattle.apex_types.specs.declared.codes.ProcessState.{ProcessState}
use Rattle.apex_types.specs.declared.device.DeviceLine.{DeviceLine}
use Rattle.apex_types.specs.declared.event.Event.{Event}
use Rattle.apex_types.specs.declared.event.Subject.{Subject}
use Rattle.apex_types.specs.declared.identity.Ticks.{Ticks}
use Rattle.kernel_meaning.specs.Windows.{Schedule}
use Rattle.machine_meaning.specs.Image.{Image}
use Rattle.machine_meaning.specs.ImageLimits.{IsLawful}
use Rattle.machine_meaning.specs.MachineMeaning.{machine_module, machine_trace}
use Rattle.module_meaning.specs.Accepted.{IsModule}
use Rattle.module_meaning.specs.Module.{Module}
use Rattle.module_meaning.specs.SourceMeaning.{source_module, source_trace}
use Rattle.module_meaning.specs.Table.{Table, at_number}
use Rattle.pal_meaning.specs.Program.{Program}
use Rattle.state_laws.specs.Spending.{owner_in}
use Rattle.trace_picture.specs.Drawn.{modes_drawn, stays_drawn}
use Rattle.trace_picture.specs.declared.drawing.Drawing.{Drawing}
use Rattle.trace_stays.specs.declared.stay.Stay.{Stay}
use Rattle.trace_windows.specs.Uses.{one_if}
use Rattle.trace_windows.specs.Whole.{owner_at}
use Rattle.trace_windows.specs.declared.windows.Windows.{Windows}
use Rattle.view_laws.specs.Modes.{is_in_mode, mode_in}
use Rattle.view_laws.specs.Reports.{AreWindowsOf}
use Rattle.view_laws.specs.Shown.{HasOwnWord}
use Rattle.view_laws.specs.Spent.{names_of_image, names_of_table}
use Rattle.view_laws.specs.Ticks.{ends_in_state, is_owned, is_resting, is_running, rests_in_state, running_in, runs_in_tick, state_in, state_in_run, works_in_tick}

-- how many bars in RUNNING have a tick in a window of partition p: there the process has the processor
abbrev pub at_work_in : (p t : ℕ) → Windows → List Stay → ℕ
at_work_in p t w stays = if is_owned p (owner_at t w.stretches.items) then running_in t stays else 0

-- the windows that are drawn are of partitions with these names
abbrev pub AreNamed : List (List ℕ) → Option Windows → Type 0
AreNamed names None = Unit {0}
AreNamed names (Some w) = w.names.items ≡ names

-- In each tick of the picture, which is one from `from` on and before `until`: a runner has one bar in RUNNING just if it runs in the tick, and none else. It has
-- no bar in another state but in the one that it is in after the tick, and it has that bar in READY and WAITING, if it does not spend the tick. A partition has
-- one bar in the mode that it is in after the tick, and none in another. If the windows are drawn, the tick is in one of the partition that owns it, and there the
-- runner that spends the tick, and no other, is at work.
pub record DrawsRun {C : Type 0} (m : Module C) (devices : List DeviceLine) (lines : List Event) (names : List (List ℕ)) (from until : ℕ) (d : Drawing) : Type 0 where
  pub running : (p t : ℕ) (name : List ℕ) (who : Subject) → at_number names p ≡ Some name → HasOwnWord lines who → from ≤ t → t < until
      → running_in t (stays_drawn name (subject_text who) d) ≡ one_if (runs_in_tick m devices p who t)
  pub others : (p t : ℕ) (name : List ℕ) (who : Subject) (wanted : ProcessState) → at_number names p ≡ Some name → HasOwnWord lines who → from ≤ t → t < until
      → is_some (state_in_run m devices p who t) ≡ true → is_running wanted ≡ false → state_in wanted t (stays_drawn name (subject_text who) d) ≤ one_if (ends_in_state m devices p who wanted t)
  pub resting : (p t : ℕ) (name : List ℕ) (who : Subject) (wanted : ProcessState) → at_number names p ≡ Some name → HasOwnWord lines who → from ≤ t → t < until
      → is_some (state_in_run m devices p who t) ≡ true → is_resting wanted ≡ true → one_if (rests_in_state m devices p who wanted t) ≤ state_in wanted t (stays_drawn name (subject_text who) d)
  pub modes : (p t : ℕ) (name : List ℕ) (mode : Mode) → at_number names p ≡ Some name → from ≤ t → t < until → mode_in mode t (modes_drawn name d) ≡ one_if (is_in_mode m devices p mode t)
  pub named : AreNamed names d.windows
  pub owners : (w : Windows) (t : ℕ) → d.windows ≡ Some w → from ≤ t → t < until → owner_at t w.stretches.items ≡ owner_in m devices t
  pub at_work : (w : Windows) (p t : ℕ) (name : List ℕ) (who : Subject) → d.windows ≡ Some w → at_number names p ≡ Some name → HasOwnWord lines who → from ≤ t → t < until
      → at_work_in p t w (stays_drawn name (subject_text who) d) ≡ one_if (works_in_tick m devices p who t)

-- ---- a picture of lines, if they are those of a run

-- So it is if these are the lines of any run of a lawful image, by the windows of the image, and the ticks of the picture are ticks of the run.
abbrev pub DrawsMachines : (AreIts : List Event → Type 0) → Ticks → Option (Schedule × List (List ℕ)) → Drawing → Type 0
DrawsMachines AreIts from windows d =
    (image : Image) (devices : List DeviceLine) (n : ℕ) → IsLawful image → n ≤ MOST_TICKS → AreWindowsOf image.schedule (names_of_image image) windows → AreIts (machine_trace image devices n)
    → d.axis.span.until.0 ≤ n → DrawsRun (machine_module image) devices (machine_trace image devices n) (names_of_image image) from.0 d.axis.span.until.0 d

-- and so if they are those of any run of an accepted module
abbrev pub DrawsModules : (AreIts : List Event → Type 0) → Ticks → Option (Schedule × List (List ℕ)) → Drawing → Type 0
DrawsModules AreIts from windows d =
    (table : List ℕ) (sources : List (List ℕ)) (t : Table) (programs : List Program) (devices : List DeviceLine) (n : ℕ) → IsModule table sources t programs → n ≤ MOST_TICKS
    → AreWindowsOf t.schedule (names_of_table t) windows → AreIts (source_trace t programs devices n)
    → d.axis.span.until.0 ≤ n → DrawsRun (source_module t programs) devices (source_trace t programs devices n) (names_of_table t) from.0 d.axis.span.until.0 d

-- The timers of the processes: when the due time and the deadline of each come.
use Rattle.std.specs.Prelude.{◌≡◌, ℕ, suc, false, List, Option, Some, None, slice_get}
use Rattle.apex_types.specs.declared.identity.Runner.{Runner}
use Rattle.apex_types.specs.declared.identity.Runner.TheVariants.{Process}
use Rattle.apex_types.specs.declared.process.Due.{Due}
use Rattle.apex_types.specs.declared.process.ProcessStatus.{ProcessStatus}
use Rattle.kernel_meaning.specs.Times.{tick_of}
use Rattle.links.specs.Timers.{IsExact, has_come, number_of, tick_in}
use Rattle.process_table_base.specs.declared.timers.Timers.{Timers}

-- the tick of a due time, if any
abbrev pub due_tick : Option Due → Option ℕ
due_tick None = None
due_tick (Some due) = Some (tick_of due)

-- the record of a process, which follows those of INIT and the handler
abbrev pub record_of : List ProcessStatus → ℕ → Option ProcessStatus
record_of rows p = slice_get rows (suc (suc p))

abbrev pub due_of : Option ProcessStatus → Option ℕ
due_of None = None
due_of (Some r) = due_tick r.due

abbrev pub deadline_of : Option ProcessStatus → Option ℕ
deadline_of None = None
deadline_of (Some r) = number_of r.deadline

-- the tick of the due time of each process that has one
abbrev pub due_times : List ProcessStatus → ℕ → Option ℕ
due_times rows p = due_of (record_of rows p)

-- the tick of the deadline of each process that has one
abbrev pub deadlines : List ProcessStatus → ℕ → Option ℕ
deadlines rows p = deadline_of (record_of rows p)

-- The timers have just the ticks of these records.
pub record AreTimed (rows : List ProcessStatus) (t : Timers) : Type 0 where
  pub dues : IsExact (due_times rows) t.dues
  pub missed : IsExact (deadlines rows) t.deadlines

-- the timers have just the ticks of this record for its process; INIT and the handler have none
abbrev pub HasTicksOf : Runner → ProcessStatus → Timers → Type 0
HasTicksOf (Process p) r t = (tick_in p.0 t.dues ≡ due_tick r.due) × (tick_in p.0 t.deadlines ≡ number_of r.deadline)
HasTicksOf _ r t = Unit {0}

-- neither the due time nor the deadline of the record has come
pub record IsQuiet (now : ℕ) (row : Option ProcessStatus) : Type 0 where
  pub due : has_come now (due_of row) ≡ false
  pub missed : has_come now (deadline_of row) ≡ false

-- no due time and no deadline of a process has come
abbrev pub AreQuiet : ℕ → List ProcessStatus → Type 0
AreQuiet now rows = (p : ℕ) → IsQuiet now (record_of rows p)

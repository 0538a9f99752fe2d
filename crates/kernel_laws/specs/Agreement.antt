-- The ready list of a partition and the records of its processes agree.
use Rattle.std.specs.Prelude.{◌≡◌, ◌↔◌, ℕ, true, false, List, Option, Some, None, is_some, slice_get}
use Rattle.apex_types.specs.Runners.{place_of}
use Rattle.apex_types.specs.declared.identity.Priority.{Priority}
use Rattle.apex_types.specs.declared.identity.ProcessIndex.{ProcessIndex}
use Rattle.apex_types.specs.declared.identity.Runner.{Runner}
use Rattle.apex_types.specs.declared.identity.Runner.TheVariants as runner
use Rattle.apex_types.specs.declared.process.Entry.{Entry}
use Rattle.apex_types.specs.declared.process.Lock.{Lock}
use Rattle.apex_types.specs.declared.process.Lock.TheVariants as lock
use Rattle.apex_types.specs.declared.process.ProcessStatus.{ProcessStatus}
use Rattle.apex_types.specs.declared.process.Wait.TheVariants as wait
use Rattle.kernel_laws.specs.Choice.{IsAmong}
use Rattle.kernel_meaning.specs.Partition.{is_ready}
use Rattle.kernel_meaning.specs.ProcessServices.{is_ready_state}
use Rattle.kernel_meaning.specs.Processes.{Processes}

-- the record of a process
abbrev pub record_at : List ProcessStatus → ProcessIndex → Option ProcessStatus
record_at rows p = slice_get rows (place_of (runner.Process p))

-- a record that is READY or RUNNING, with this current priority
abbrev pub IsReadyAt : Option ProcessStatus → Priority → Type 0
IsReadyAt None priority = ⊥
IsReadyAt (Some r) priority = (is_ready_state r.state ≡ true) × (r.current_priority ≡ priority)

-- a process that is READY or RUNNING is not suspended, waits for nothing, and has no due time
pub record IsPlain (r : ProcessStatus) : Type 0 where
  pub suspended : is_ready_state r.state ≡ true → r.suspended ≡ false
  pub waits : is_ready_state r.state ≡ true → r.wait ≡ wait.Nothing
  pub due : is_ready_state r.state ≡ true → r.due ≡ None

-- The ready list holds exactly the processes whose records are READY or RUNNING, each with its
-- current priority. If a process runs, or holds the lock, it is one of these. INIT and the error
-- handler have records.
pub record Agree (rows : List ProcessStatus) (ready : List Entry) (running : Option Runner) (held : Lock) : Type 0 where
  pub listed : (e : Entry) → (IsAmong e ready ↔ IsReadyAt (record_at rows e.process) e.priority)
  pub plain : (p : ProcessIndex) (r : ProcessStatus) → record_at rows p ≡ Some r → IsPlain r
  pub runs : (p : ProcessIndex) → running ≡ Some (runner.Process p) → is_ready (record_at rows p) ≡ true
  pub holds : (level : ℕ) (p : ProcessIndex) → held ≡ lock.Held level p → is_ready (record_at rows p) ≡ true
  pub init : is_some (slice_get rows (place_of runner.Init)) ≡ true
  pub handler : is_some (slice_get rows (place_of runner.Handler)) ≡ true

abbrev pub RecordsAgree : Processes → Type 0
RecordsAgree s = Agree s.rows s.ready s.running s.lock

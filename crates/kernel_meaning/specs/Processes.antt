-- The processes of a partition, and the few ways in which services change them.
--
-- The ready processes are in one list in the order of choice: the highest priority first, among
-- equals the process that has been ready longest. INIT and the error handler are in no list: their
-- records say whether they are ready. The processes that wait for an object or a port are in its
-- list, in the order of their release.
use Rattle.std.specs.Prelude.{ℕ, suc, ℤ, pos, ◌==◌, ◌||◌, Bool, true, false, not, is_some, List, [], ◌∷◌, Option, Some, None, if◌then◌else◌, slice_get, slice_set}
use Rattle.arrayvec.specs.ArrayVec.{ArrayVec}
use Rattle.apex_types.specs.Runners.{place_of}
use Rattle.apex_types.specs.declared.codes.Mode.{Mode}
use Rattle.apex_types.specs.declared.codes.Mode.TheVariants as mode
use Rattle.apex_types.specs.declared.codes.ProcessState.{ProcessState}
use Rattle.apex_types.specs.declared.codes.ProcessState.TheVariants.{Dormant, Ready, Waiting}
use Rattle.apex_types.specs.declared.codes.ReturnCode.{ReturnCode}
use Rattle.apex_types.specs.declared.event.EventKind.{EventKind}
use Rattle.apex_types.specs.declared.event.EventKind.TheVariants as event
use Rattle.apex_types.specs.declared.event.Subject.{Subject}
use Rattle.apex_types.specs.declared.event.Subject.TheVariants.{Init}
use Rattle.apex_types.specs.declared.identity.Priority.{Priority}
use Rattle.apex_types.specs.declared.identity.ProcessIndex.{ProcessIndex}
use Rattle.apex_types.specs.declared.identity.Runner.{Runner}
use Rattle.apex_types.specs.declared.identity.Runner.TheVariants as runner
use Rattle.apex_types.specs.Runners as action
use Rattle.apex_types.specs.declared.process.Due.{Due}
use Rattle.apex_types.specs.declared.process.Entry.{Entry}
use Rattle.apex_types.specs.declared.process.Lock.{Lock}
use Rattle.apex_types.specs.declared.process.Lock.TheVariants as lock
use Rattle.apex_types.specs.declared.process.ProcessStatus.{ProcessStatus}
use Rattle.apex_types.specs.declared.process.Wait.{Wait}
use Rattle.apex_types.specs.declared.process.Wait.TheVariants as wait
use Rattle.apex_types.specs.declared.service.Service.{Service}
pub use Rattle.kernel_meaning.specs.Queues.{entry, is_entry_of, without, behind_equals}
use Rattle.kernel_meaning.specs.Queues.{Queues, without_in_all}
use Rattle.kernel_meaning.specs.Step.{Step, nothing, after, answered, zeros}

pub record Processes : Type 0 where
  -- INIT's record, the handler's, then those of the processes in the order of the source
  pub rows : List ProcessStatus
  pub ready : List Entry
  -- the current runner: the one chosen last
  pub running : Option Runner
  pub lock : Lock
  -- the waiting lists, one for each object and port
  pub queues : Queues
  -- for each process in the order of the source, the message of the call in which it waits
  pub handed : List (ArrayVec ℤ)

abbrev pub row_of : Processes → Runner → Option ProcessStatus
row_of s p = slice_get s.rows (place_of p)

abbrev pub who_of : Option ProcessStatus → Subject
who_of None = Init
who_of (Some r) = r.who

-- the subject of the lines of p
abbrev pub subject : Processes → Runner → Subject
subject s p = who_of (row_of s p)

abbrev pub index : ℕ → ProcessIndex
index place = record { 0 = place }

-- ---- the list of the ready processes

-- removes p from the ready list
abbrev pub leaves : Runner → List Entry → List Entry
leaves (runner.Process p) ready = without p.0 ready
leaves _ ready = ready

-- adds p to the ready list, after its equals
abbrev pub goes_last : Runner → Priority → List Entry → List Entry
goes_last (runner.Process p) priority ready = behind_equals (entry p priority) (without p.0 ready)
goes_last _ priority ready = ready

-- ---- the waiting lists

-- p waits in no list
abbrev pub leaves_queues : Runner → Queues → Queues
leaves_queues (runner.Process p) queues = without_in_all p.0 queues
leaves_queues _ queues = queues

abbrev pub no_longer_waits : Processes → Runner → Processes
no_longer_waits s p = record s { queues = leaves_queues p s.queues }

-- ---- the current runner, and the holder of the lock

abbrev pub is_same : Runner → Runner → Bool
is_same runner.Init runner.Init = true
is_same runner.Handler runner.Handler = true
is_same (runner.Process p) (runner.Process q) = p.0 == q.0
is_same _ _ = false

-- p no longer runs
abbrev pub not_running : Runner → Option Runner → Option Runner
not_running p None = None
not_running p (Some q) = if is_same p q then None else Some q

abbrev pub is_held : Lock → Bool
is_held lock.Free = false
is_held (lock.Held level holder) = true

-- the lock is free if p held it
abbrev pub without_holder : Runner → Lock → Lock
without_holder p lock.Free = lock.Free
without_holder p (lock.Held level holder) = if is_same p (runner.Process holder) then lock.Free else lock.Held level holder

-- ---- a record with its place in the lists

abbrev pub put_row : Processes → Runner → ProcessStatus → Processes
put_row s p r = record s { rows = slice_set s.rows (place_of p) r }

-- with this record, ready, in the list after its equals
abbrev pub put_ready : Processes → Runner → ProcessStatus → Processes
put_ready s p r = record s { rows = slice_set s.rows (place_of p) r; ready = goes_last p r.current_priority s.ready }

-- with this record, neither ready nor running
abbrev pub put_unready : Processes → Runner → ProcessStatus → Processes
put_unready s p r = record s { rows = slice_set s.rows (place_of p) r; ready = leaves p s.ready; running = not_running p s.running }

-- with this record, in no list and without the lock
abbrev pub put_dormant : Processes → Runner → ProcessStatus → Processes
put_dormant s p r = record s { rows = slice_set s.rows (place_of p) r; ready = leaves p s.ready; running = not_running p s.running; lock = without_holder p s.lock; queues = leaves_queues p s.queues }

-- ---- changes of one process, each with its line

-- the line of a runner that begins to wait; no line if it waited before
abbrev pub waiting_lines : Subject → ProcessState → List EventKind
waiting_lines who Waiting = []
waiting_lines who _ = event.State who Waiting ∷ []

-- The process becomes READY and goes last. A suspended process continues to wait until it is
-- resumed.
abbrev pub wakes : Processes → Runner → ProcessStatus → Step Processes
wakes s p r =
    if r.suspended then nothing (put_unready s p (record r { wait = wait.Nothing; due = None }))
    else record {
      part = put_ready s p (record r { state = Ready; wait = wait.Nothing; due = None });
      lines = event.State r.who Ready ∷ [];
      actions = [];
    }

-- It waits, until its due time if it has one.
abbrev pub waits : Processes → Runner → ProcessStatus → Wait → Option Due → Step Processes
waits s p r reason due = record {
  part = put_unready s p (record r { state = Waiting; wait = reason; due = due });
  lines = waiting_lines r.who r.state;
  actions = [];
}

-- The runner becomes dormant: it is in no list, has no due time, no deadline and nothing left to
-- do; if it held the lock, the lock is free.
abbrev pub rests : Processes → Runner → ProcessStatus → Step Processes
rests s p r = record {
  part = put_dormant s p (record r { state = Dormant; suspended = false; wait = wait.Nothing; due = None; deadline = None });
  lines = event.State r.who Dormant ∷ [];
  actions = action.Stop p ∷ [];
}

abbrev pub rests_found : Processes → Runner → Option ProcessStatus → Step Processes
rests_found s p None = nothing s
rests_found s p (Some r) = rests s p r

-- ---- answers

abbrev pub answers : Processes → Runner → Service → ReturnCode → List ℤ → Step Processes
answers s p service c outputs = answered s p (subject s p) service c outputs

-- a refused service changes nothing, and its outputs are 0
abbrev pub refuses : Processes → Runner → Service → ReturnCode → Step Processes
refuses s p service c = answers s p service c (zeros service)

-- ---- the end of a wait

-- the outputs of the service in which a process waits, in vain
abbrev pub zeros_of_wait : Wait → List ℤ
zeros_of_wait (wait.Service service) = zeros service
zeros_of_wait (wait.Object service array) = zeros service
zeros_of_wait _ = []

-- The RET line and the answer of the service in which a process waits, if it waits in one.
abbrev pub answers_wait : Processes → Runner → ProcessStatus → ReturnCode → List ℤ → Wait → Step Processes
answers_wait s p r c outputs (wait.Service service) = answered s p r.who service c outputs
answers_wait s p r c outputs (wait.Object service array) = answered s p r.who service c outputs
answers_wait s p r c outputs _ = nothing s

-- its service returns these outputs, and it is ready
abbrev pub released_with : Processes → Runner → ProcessStatus → ReturnCode → List ℤ → Step Processes
released_with s p r c outputs = after (answers_wait s p r c outputs r.wait) (wakes (no_longer_waits s p) p r)

-- its service returns outputs of 0, and it is ready
abbrev pub released : Processes → Runner → ProcessStatus → ReturnCode → Step Processes
released s p r c = released_with s p r c (zeros_of_wait r.wait)

-- ---- processes by the number that a program gives

abbrev pub numbered : ProcessIndex → Option ProcessStatus → Option (Runner × ProcessStatus)
numbered p None = None
numbered p (Some r) = Some (runner.Process p, r)

-- the process with this number, which is its place from 1 on, with its record
abbrev pub process_at : Processes → ℤ → Option (Runner × ProcessStatus)
process_at s (pos (suc n)) = numbered (index n) (row_of s (runner.Process (index n)))
process_at s _ = None

-- a test of the process found, which a missing one does not pass
abbrev pub has : Option (Runner × ProcessStatus) → (ProcessStatus → Bool) → Bool
has None test = false
has (Some f) test = test f.1

-- applies `step` to the process found; without one, does nothing
abbrev pub on : Option (Runner × ProcessStatus) → Processes → (Runner → ProcessStatus → Step Processes) → Step Processes
on None s step = nothing s
on (Some f) s step = step f.0 f.1

abbrev pub is_created : ProcessStatus → Bool
is_created r = r.created

abbrev pub is_dormant_state : ProcessState → Bool
is_dormant_state Dormant = true
is_dormant_state _ = false

abbrev pub is_dormant : ProcessStatus → Bool
is_dormant r = is_dormant_state r.state

abbrev pub is_suspended : ProcessStatus → Bool
is_suspended r = r.suspended

abbrev pub is_periodic : ProcessStatus → Bool
is_periodic r = is_some r.period

-- no process with this number was created since the last Clear
abbrev pub is_unknown : Processes → ℤ → Bool
is_unknown s id = not (has (process_at s id) is_created)

-- the number is the caller's own
abbrev pub is_own : Runner → Option (Runner × ProcessStatus) → Bool
is_own p None = false
is_own p (Some f) = is_same p f.0

-- no process, or the caller itself
abbrev pub is_no_other : Processes → Runner → ℤ → Bool
is_no_other s p id = is_unknown s id || is_own p (process_at s id)

-- Whether the caller may not wait: it is INIT or the handler, or preemption is locked.
abbrev pub is_busy : Processes → Runner → Bool
is_busy s (runner.Process p) = is_held s.lock
is_busy s _ = true

abbrev pub is_normal : Mode → Bool
is_normal mode.Normal = true
is_normal _ = false

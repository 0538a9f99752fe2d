-- The services on processes and on time, a row each.
use Rattle.std.specs.Prelude.{ℕ, suc, ◌+◌, ℤ, pos, negsuc, Bool, true, false, not, ◌&&◌, ◌||◌, nat_le, [], ◌∷◌, Option, Some, None, is_some, if◌then◌else◌, zero, nat_lt}
use Rattle.apex_types.specs.Limits.{GREATEST_PRIORITY, MOST_LOCK_LEVEL}
use Rattle.apex_types.specs.declared.codes.Mode.{Mode}
use Rattle.apex_types.specs.declared.codes.ProcessState.{ProcessState}
use Rattle.apex_types.specs.declared.codes.ProcessState.TheVariants.{Dormant, Ready, Running, Waiting}
use Rattle.apex_types.specs.declared.codes.ReturnCode.TheVariants as code
use Rattle.apex_types.specs.declared.identity.At.{At}
use Rattle.apex_types.specs.declared.identity.Priority.{Priority}
use Rattle.apex_types.specs.declared.identity.Runner.{Runner}
use Rattle.apex_types.specs.declared.identity.Runner.TheVariants as runner
use Rattle.apex_types.specs.declared.identity.Ticks.{Ticks}
use Rattle.apex_types.specs.declared.process.Due.{Due}
use Rattle.apex_types.specs.declared.process.Lock.{Lock}
use Rattle.apex_types.specs.declared.process.Lock.TheVariants as lock
use Rattle.apex_types.specs.declared.process.ProcessStatus.{ProcessStatus}
use Rattle.apex_types.specs.declared.process.Wait.{Wait}
use Rattle.apex_types.specs.declared.process.Wait.TheVariants as wait
use Rattle.apex_types.specs.declared.service.Service.{Service}
use Rattle.apex_types.specs.declared.service.Service.TheVariants as service
use Rattle.kernel_meaning.specs.Times.{is_delay, is_duration, amount, starts, ticks}
use Rattle.engine_meaning.specs.Operators.{is_zero}
use Rattle.kernel_meaning.specs.Processes.{Processes, row_of, put_row, put_ready, wakes, waits, rests, rests_found, answers, refuses, released, process_at, has, on, is_created, is_dormant, is_held, is_periodic, is_same, is_suspended, is_unknown, is_no_other, is_busy, is_normal}
use Rattle.kernel_meaning.specs.Step.{Step, nothing, after, row}
use Rattle.apex_types.specs.declared.process.Due.TheVariants as due_time

-- The services on processes, a row each.

-- ---- GET_PROCESS_ID

abbrev pub get_process_id : Processes → Runner → ℤ → Step Processes
get_process_id s p name =
    row (refuses s p service.GetProcessId)
    ((is_unknown s name, code.InvalidConfig)
    ∷ [])
    (answers s p service.GetProcessId code.NoError (name ∷ []))

-- ---- GET_PROCESS_STATUS

abbrev pub number_of_state : ProcessState → ℕ
number_of_state Dormant = 0
number_of_state Ready = 1
number_of_state Running = 2
number_of_state Waiting = 3

-- the tick of a deadline, -1 for none
abbrev pub word_of_deadline : Option Ticks → ℤ
word_of_deadline None = negsuc 0
word_of_deadline (Some tick) = pos tick.0

abbrev pub tells_status : Processes → Runner → Runner → ProcessStatus → Step Processes
tells_status s p q r = answers s p service.GetProcessStatus code.NoError (pos (number_of_state r.state) ∷ pos r.current_priority.0 ∷ word_of_deadline r.deadline ∷ [])

abbrev pub get_process_status : Processes → Runner → ℤ → Step Processes
get_process_status s p id =
    row (refuses s p service.GetProcessStatus)
    ((is_unknown s id, code.InvalidParam)
    ∷ [])
    (on (process_at s id) s (tells_status s p))

-- ---- CREATE_PROCESS

abbrev pub creates : Processes → Runner → ProcessStatus → Step Processes
creates s q r = nothing (put_row s q (record r { created = true }))

-- INVALID_MODE in normal mode; INVALID_CONFIG: no process has this name; NO_ACTION: already created
abbrev pub create_process : Mode → Processes → Runner → ℤ → Step Processes
create_process m s p name =
    row (refuses s p service.CreateProcess)
    ((is_normal m, code.InvalidMode)
    ∷ (not (is_some (process_at s name)), code.InvalidConfig)
    ∷ (has (process_at s name) is_created, code.NoAction)
    ∷ [])
    (after (answers s p service.CreateProcess code.NoError (name ∷ [])) (on (process_at s name) s (creates s)))

-- ---- SET_PRIORITY

abbrev pub is_priority : ℤ → Bool
is_priority (negsuc n) = false
is_priority (pos n) = nat_le 1 n && nat_le n GREATEST_PRIORITY

abbrev pub priority_of : ℤ → Priority
priority_of v = record { 0 = amount v }

abbrev pub is_ready_state : ProcessState → Bool
is_ready_state Ready = true
is_ready_state Running = true
is_ready_state _ = false

-- a ready process goes last among those of its new priority
abbrev pub takes_priority : Processes → Priority → Runner → ProcessStatus → Step Processes
takes_priority s v q r =
    let raised : ProcessStatus = record r { current_priority = v } in
    nothing (if is_ready_state r.state then put_ready s q raised else put_row s q raised)

abbrev pub set_priority : Processes → Runner → ℤ → ℤ → Step Processes
set_priority s p id v =
    row (refuses s p service.SetPriority)
    ((is_unknown s id, code.InvalidParam)
    ∷ (not (is_priority v), code.InvalidParam)
    ∷ (has (process_at s id) is_dormant, code.InvalidMode)
    ∷ [])
    (after (answers s p service.SetPriority code.NoError []) (on (process_at s id) s (takes_priority s (priority_of v))))

-- ---- SUSPEND_SELF, SUSPEND and RESUME

-- the due time of a wait of at most n ticks; none for an unlimited wait (a negative limit)
abbrev pub time_out : At → ℤ → Option Due
time_out at (negsuc n) = None
time_out at (pos n) = Some (due_time.TimeOut (ticks (at.now.0 + n)))

abbrev pub suspends_self : At → Processes → Runner → ℤ → Option ProcessStatus → Step Processes
suspends_self at s p limit None = nothing s
suspends_self at s p limit (Some r) = waits s p (record r { suspended = true }) (wait.Service service.SuspendSelf) (time_out at limit)

abbrev pub of_row : (ProcessStatus → Bool) → Option ProcessStatus → Bool
of_row test None = false
of_row test (Some r) = test r

-- at a limit of 0 nothing happens; otherwise the caller waits until it is resumed, or for its
-- time-out
abbrev pub suspend_self : At → Processes → Runner → ℤ → Step Processes
suspend_self at s p limit =
    row (refuses s p service.SuspendSelf)
    ((is_busy s p, code.InvalidMode)
    ∷ (not (is_duration limit), code.InvalidParam)
    ∷ (of_row is_periodic (row_of s p), code.InvalidMode)
    ∷ [])
    (if is_zero limit then answers s p service.SuspendSelf code.NoError [] else suspends_self at s p limit (row_of s p))

-- whether the process of a runner holds the preemption lock
abbrev pub holds : Lock → Runner → Bool
holds lock.Free q = false
holds (lock.Held level holder) q = is_same q (runner.Process holder)

abbrev pub is_holder : Lock → Option (Runner × ProcessStatus) → Bool
is_holder l None = false
is_holder l (Some f) = holds l f.0

-- continues to wait for what it waited for, and until it is resumed
abbrev pub suspends : Processes → Runner → ProcessStatus → Step Processes
suspends s q r = waits s q (record r { suspended = true }) r.wait r.due

abbrev pub suspend : Processes → Runner → ℤ → Step Processes
suspend s p id =
    row (refuses s p service.Suspend)
    ((is_no_other s p id, code.InvalidParam)
    ∷ (has (process_at s id) is_dormant || has (process_at s id) is_periodic || is_holder s.lock (process_at s id), code.InvalidMode)
    ∷ (has (process_at s id) is_suspended, code.NoAction)
    ∷ [])
    (after (answers s p service.Suspend code.NoError []) (on (process_at s id) s (suspends s)))

abbrev pub resumes_from : Processes → Runner → ProcessStatus → Wait → Step Processes
resumes_from s q r wait.Nothing = wakes s q r
resumes_from s q r (wait.Service service.SuspendSelf) = released s q r code.NoError
resumes_from s q r _ = nothing (put_row s q r)

-- its SUSPEND_SELF ends; if it waits for nothing else it is ready
abbrev pub resumes : Processes → Runner → ProcessStatus → Step Processes
resumes s q r = resumes_from s q (record r { suspended = false }) r.wait

abbrev pub resume : Processes → Runner → ℤ → Step Processes
resume s p id =
    row (refuses s p service.Resume)
    ((is_no_other s p id, code.InvalidParam)
    ∷ (has (process_at s id) is_dormant || has (process_at s id) is_periodic, code.InvalidMode)
    ∷ (not (has (process_at s id) is_suspended), code.NoAction)
    ∷ [])
    (after (answers s p service.Resume code.NoError []) (on (process_at s id) s (resumes s)))

-- ---- STOP

abbrev pub stop : Processes → Runner → ℤ → Step Processes
stop s p id =
    row (refuses s p service.Stop)
    ((is_no_other s p id, code.InvalidParam)
    ∷ (has (process_at s id) is_dormant, code.NoAction)
    ∷ [])
    (after (answers s p service.Stop code.NoError []) (on (process_at s id) s (rests s)))

-- ---- STOP_SELF

-- The caller becomes dormant, and gets no reply. At INIT's end this does nothing: the partition
-- clears.
abbrev pub stop_self : Processes → Runner → Step Processes
stop_self s runner.Init = nothing s
stop_self s p = rests_found s p (row_of s p)

-- ---- START and DELAYED_START; `next` is the partition's next release point

abbrev pub start : Mode → At → (next : ℕ) → Processes → Runner → ℤ → Step Processes
start m at next s p id =
    row (refuses s p service.Start)
    ((is_unknown s id, code.InvalidParam)
    ∷ (not (has (process_at s id) is_dormant), code.NoAction)
    ∷ [])
    (after (answers s p service.Start code.NoError []) (on (process_at s id) s (λ q. starts m at next s q (ticks 0))))

-- a delay of at least the period of a periodic process
abbrev pub is_beyond : ℕ → Option Ticks → Bool
is_beyond delay None = false
is_beyond delay (Some period) = nat_le period.0 delay

abbrev pub delayed_start : Mode → At → (next : ℕ) → Processes → Runner → ℤ → ℤ → Step Processes
delayed_start m at next s p id delay =
    row (refuses s p service.DelayedStart)
    ((is_unknown s id, code.InvalidParam)
    ∷ (not (is_delay delay), code.InvalidParam)
    ∷ (has (process_at s id) (λ r. is_beyond (amount delay) r.period), code.InvalidParam)
    ∷ (not (has (process_at s id) is_dormant), code.NoAction)
    ∷ [])
    (after (answers s p service.DelayedStart code.NoError []) (on (process_at s id) s (λ q. starts m at next s q (ticks (amount delay)))))

-- ---- LOCK_PREEMPTION and UNLOCK_PREEMPTION

abbrev pub level_of : Lock → ℕ
level_of lock.Free = 0
level_of (lock.Held level holder) = level

-- the handler, and any runner before normal mode, may neither lock nor unlock
abbrev pub may_not_lock : Mode → Runner → Bool
may_not_lock m runner.Handler = true
may_not_lock m _ = not (is_normal m)

-- one level up; the caller becomes the holder of a free lock
abbrev pub locked_by : Runner → Lock → Lock
locked_by (runner.Process p) lock.Free = lock.Held 1 p
locked_by _ lock.Free = lock.Free
locked_by _ (lock.Held level holder) = lock.Held (level + 1) holder

abbrev pub with_lock : Processes → Runner → Service → Lock → Step Processes
with_lock s p v l = after (answers s p v code.NoError (pos (level_of l) ∷ [])) (nothing (record s { lock = l }))

abbrev pub lock_preemption : Mode → Processes → Runner → Step Processes
lock_preemption m s p =
    row (refuses s p service.LockPreemption)
    ((may_not_lock m p, code.NoAction)
    ∷ (nat_le MOST_LOCK_LEVEL (level_of s.lock), code.InvalidConfig)
    ∷ [])
    (with_lock s p service.LockPreemption (locked_by p s.lock))

-- one level down; at level 0 the lock is free
abbrev pub unlocked : Lock → Lock
unlocked (lock.Held (suc (suc level)) holder) = lock.Held (suc level) holder
unlocked _ = lock.Free

abbrev pub unlock_preemption : Mode → Processes → Runner → Step Processes
unlock_preemption m s p =
    row (refuses s p service.UnlockPreemption)
    ((may_not_lock m p || not (is_held s.lock), code.NoAction)
    ∷ [])
    (with_lock s p service.UnlockPreemption (unlocked s.lock))

-- ---- GET_MY_ID

-- the number of a process; INIT and the handler have none
abbrev pub number_of : Runner → Option ℕ
number_of (runner.Process p) = Some (p.0 + 1)
number_of _ = None

abbrev pub get_my_id : Processes → Runner → Option ℕ → Step Processes
get_my_id s p None = refuses s p service.GetMyId code.InvalidMode
get_my_id s p (Some number) = answers s p service.GetMyId code.NoError (pos number ∷ [])

-- The services on time.

abbrev pub get_time : At → Processes → Runner → Step Processes
get_time at s p = answers s p service.GetTime code.NoError (pos at.now.0 ∷ [])

-- ---- TIMED_WAIT

abbrev pub yields : Processes → Runner → Option ProcessStatus → Step Processes
yields s p None = nothing s
yields s p (Some r) = nothing (put_ready s p r)

abbrev pub waits_until : Processes → Runner → Option ProcessStatus → ℕ → Step Processes
waits_until s p None tick = nothing s
waits_until s p (Some r) tick = waits s p r (wait.Service service.TimedWait) (Some (due_time.Delay (record { 0 = tick })))

-- without a delay the caller goes last; otherwise it waits for its due time
abbrev pub delays : At → Processes → Runner → ℤ → Step Processes
delays at s p (negsuc n) = nothing s
delays at s p (pos zero) = after (answers s p service.TimedWait code.NoError []) (yields s p (row_of s p))
delays at s p (pos (suc n)) = waits_until s p (row_of s p) (at.now.0 + suc n)

abbrev pub timed_wait : At → Processes → Runner → ℤ → Step Processes
timed_wait at s p delay =
    row (refuses s p service.TimedWait)
    ((is_busy s p, code.InvalidMode)
    ∷ (not (is_delay delay), code.InvalidParam)
    ∷ [])
    (delays at s p delay)

-- ---- PERIODIC_WAIT

-- it has met its deadline, and waits for its next release, one period after the last
abbrev pub waits_for_period : Processes → Runner → ProcessStatus → Option Ticks → Step Processes
waits_for_period s p r None = nothing s
waits_for_period s p r (Some period) = waits s p (record r { deadline = None }) (wait.Service service.PeriodicWait) (Some (due_time.Release (ticks (r.release.0 + period.0))))

abbrev pub waits_periodically : Processes → Runner → Option ProcessStatus → Step Processes
waits_periodically s p None = nothing s
waits_periodically s p (Some r) = waits_for_period s p r r.period

abbrev pub periodic_wait : Processes → Runner → Step Processes
periodic_wait s p =
    row (refuses s p service.PeriodicWait)
    ((is_busy s p, code.InvalidMode)
    ∷ (not (of_row is_periodic (row_of s p)), code.InvalidMode)
    ∷ [])
    (waits_periodically s p (row_of s p))

-- ---- REPLENISH

-- a deadline n ticks from now; none without a limit (a negative number)
abbrev pub deadline_in : At → ℤ → Option Ticks
deadline_in at (negsuc n) = None
deadline_in at (pos n) = Some (ticks (at.now.0 + n))

-- whether a budget reaches past the next release of a periodic process
abbrev pub reaches_past : At → ℤ → ProcessStatus → Option Ticks → Bool
reaches_past at budget r None = false
reaches_past at (negsuc n) r (Some period) = true
reaches_past at (pos n) r (Some period) = nat_lt (r.release.0 + period.0) (at.now.0 + n)

abbrev pub has_no_deadline : ProcessStatus → Bool
has_no_deadline r = not (is_some r.capacity)

abbrev pub replenishes : At → Processes → Runner → ℤ → Option ProcessStatus → Step Processes
replenishes at s p budget None = nothing s
replenishes at s p budget (Some r) = nothing (put_row s p (record r { deadline = deadline_in at budget }))

abbrev pub replenish : Mode → At → Processes → Runner → ℤ → Step Processes
replenish m at s p budget =
    row (refuses s p service.Replenish)
    ((may_not_lock m p, code.NoAction)
    ∷ (not (is_duration budget), code.InvalidParam)
    ∷ (of_row has_no_deadline (row_of s p), code.NoAction)
    ∷ (of_row (λ r. reaches_past at budget r r.period) (row_of s p), code.InvalidMode)
    ∷ [])
    (after (answers s p service.Replenish code.NoError []) (replenishes at s p budget (row_of s p)))

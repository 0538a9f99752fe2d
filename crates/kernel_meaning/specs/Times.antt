-- The times that programs give, the start of a process, its release, the normal start, and what is due.
use Rattle.std.specs.Prelude.{ℕ, zero, ℤ, pos, negsuc, Bool, true, false, nat_le, suc, ◌+◌, ◌-◌, ◌==◌, [], ◌∷◌, length, Option, Some, None, if◌then◌else◌, is_some}
use Rattle.apex_types.specs.Limits.{MOST_TICKS}
use Rattle.apex_types.specs.declared.codes.Mode.{Mode}
use Rattle.apex_types.specs.declared.identity.At.{At}
use Rattle.apex_types.specs.declared.identity.Runner.{Runner}
use Rattle.apex_types.specs.declared.identity.Runner.TheVariants as runner
use Rattle.apex_types.specs.declared.identity.Ticks.{Ticks}
use Rattle.apex_types.specs.declared.process.ProcessStatus.{ProcessStatus}
use Rattle.apex_types.specs.declared.process.Wait.{Wait}
use Rattle.apex_types.specs.declared.process.Wait.TheVariants as wait
use Rattle.kernel_meaning.specs.Processes.{Processes, row_of, index, wakes, waits, is_normal, is_periodic, put_row, released}
use Rattle.kernel_meaning.specs.Step.{Step, nothing, after, message}
use Rattle.apex_types.specs.declared.codes.ErrorKind.TheVariants.{DeadlineMissed}
use Rattle.apex_types.specs.declared.codes.Mode.TheVariants as mode
use Rattle.apex_types.specs.declared.codes.PartitionAction.{PartitionAction}
use Rattle.apex_types.specs.declared.codes.PartitionAction.TheVariants as response
use Rattle.apex_types.specs.declared.codes.Response.TheVariants as level
use Rattle.apex_types.specs.declared.codes.ReturnCode.TheVariants as code
use Rattle.apex_types.specs.declared.event.EventKind.TheVariants as event
use Rattle.apex_types.specs.declared.identity.ProcessIndex.{ProcessIndex}
use Rattle.apex_types.specs.Runners as asks
use Rattle.apex_types.specs.declared.process.Due.{Due}
use Rattle.apex_types.specs.declared.process.Due.TheVariants as due_time
use Rattle.apex_types.specs.declared.service.Service.TheVariants as service

-- The times that programs give, in ticks.

-- a delay is at least 0 and at most the ticks of a run
abbrev pub is_delay : ℤ → Bool
is_delay (negsuc n) = false
is_delay (pos n) = nat_le n MOST_TICKS

-- a time-out or a budget is a delay, or -1 for no limit
abbrev pub is_duration : ℤ → Bool
is_duration (negsuc zero) = true
is_duration v = is_delay v

-- the value of a word, 0 for a negative word
abbrev pub amount : ℤ → ℕ
amount (pos n) = n
amount (negsuc n) = 0

-- The start of a process, its release, and the normal start.

abbrev pub ticks : ℕ → Ticks
ticks n = record { 0 = n }

-- ---- a release

-- the tick n ticks after `tick`; none without a limit
abbrev pub later : Ticks → Option Ticks → Option Ticks
later tick None = None
later tick (Some n) = Some (ticks (tick.0 + n.0))

-- The record of a process that is released at a tick: its deadline is its time capacity later.
abbrev pub released_at : Ticks → ProcessStatus → ProcessStatus
released_at tick r = record r { release = tick; deadline = later tick r.capacity }

-- ---- a start

abbrev pub begins : Processes → Runner → Step Processes
begins s q = record { part = s; lines = []; actions = asks.Begin q ∷ [] }

abbrev pub waits_for_release : Processes → Runner → ProcessStatus → ℕ → Step Processes
waits_for_release s q r tick = waits s q r wait.FirstRelease (Some (due_time.Release (ticks tick)))

-- In normal mode: releases a periodic process `delay` ticks after the partition's next release
-- point, which is `next`; an aperiodic process `delay` ticks from now, immediately if the delay is 0.
abbrev pub starts_in_normal : At → (next : ℕ) → Processes → Runner → Ticks → ProcessStatus → Step Processes
starts_in_normal at next s q delay r =
    if is_periodic r then waits_for_release s q r (next + delay.0)
    else if delay.0 == 0 then wakes s q (released_at at.now r)
    else waits_for_release s q r (at.now.0 + delay.0)

-- Starts with a fresh stack and the base priority; before normal mode the process waits for the
-- normal start, with its delay kept.
abbrev pub starts : Mode → At → ℕ → Processes → Runner → Ticks → ProcessStatus → Step Processes
starts m at next s q delay r =
    let fresh : ProcessStatus = record r { current_priority = r.base_priority } in
    after (begins s q) (if is_normal m then starts_in_normal at next s q delay fresh else waits s q fresh (wait.NormalStart delay) None)

-- ---- the normal start

-- A process that was started before normal mode takes the normal case of its start; its priority
-- and suspension are kept.
abbrev pub starts_if_waiting : At → ℕ → Processes → Runner → ProcessStatus → Wait → Step Processes
starts_if_waiting at next s q r (wait.NormalStart delay) = starts_in_normal at next s q delay r
starts_if_waiting at next s q r _ = nothing s

abbrev pub starts_waiting : At → ℕ → Processes → Runner → Option ProcessStatus → Step Processes
starts_waiting at next s q None = nothing s
starts_waiting at next s q (Some r) = starts_if_waiting at next s q r r.wait

-- starts those of n processes from index `place` on that wait for the normal start, in number order
abbrev pub start_from : At → ℕ → ℕ → ℕ → Processes → Step Processes
start_from at next zero place s = nothing s
start_from at next (suc n) place s =
    let t = starts_waiting at next s (runner.Process (index place)) (row_of s (runner.Process (index place))) in
    after t (start_from at next n (place + 1) t.part)

abbrev pub start_all_waiting : At → ℕ → Processes → Step Processes
start_all_waiting at next s = start_from at next (length s.rows - 2) 0 s

-- What is due in a tick of a partition: for each process in number order its due time, then its
-- deadline.

-- ---- due times

-- A process that suspended itself is no longer suspended at its time-out; any other stays
-- suspended.
abbrev pub timed_out : ProcessStatus → Wait → ProcessStatus
timed_out r (wait.Service service.SuspendSelf) = record r { suspended = false }
timed_out r _ = r

-- A release point is reached, a delay is over, or the wait was in vain.
abbrev pub ends_wait : Processes → Runner → ProcessStatus → Due → Step Processes
ends_wait s p r (due_time.Release tick) = released s p (released_at tick r) code.NoError
ends_wait s p r (due_time.Delay tick) = released s p r code.NoError
ends_wait s p r (due_time.TimeOut tick) = released s p (timed_out r r.wait) code.TimedOut

abbrev pub tick_of : Due → ℕ
tick_of (due_time.Release tick) = tick.0
tick_of (due_time.Delay tick) = tick.0
tick_of (due_time.TimeOut tick) = tick.0

abbrev pub treats_due : At → Processes → Runner → ProcessStatus → Option Due → Step Processes
treats_due at s p r None = nothing s
treats_due at s p r (Some due) = if nat_le (tick_of due) at.now.0 then ends_wait s p r due else nothing s

-- ---- a missed deadline

-- After a process is treated: the step, how many more errors may wait for the handler, and the mode
-- of the Clear that ends the treatment of the others.
pub record Treated : Type 0 where
  pub step : Step Processes
  pub free : ℕ
  pub clears : Option Mode

abbrev pub without_clear : ℕ → Step Processes → Treated
without_clear free s = record { step = s; free = free; clears = None }

-- the mode that an action of a partition leads to
abbrev pub mode_of_action : PartitionAction → Option Mode
mode_of_action response.Ignore = None
mode_of_action response.Idle = Some mode.Idle
mode_of_action response.WarmStart = Some mode.WarmStart
mode_of_action response.ColdStart = Some mode.ColdStart

-- Queues the error for the handler if there is room; otherwise the partition handles it with this
-- action. Removes the deadline.
abbrev pub misses : ℕ → PartitionAction → Processes → ProcessIndex → ProcessStatus → Treated
misses (suc free) action s p r = record {
  step = record {
    part = put_row s (runner.Process p) (record r { deadline = None });
    lines = event.Error DeadlineMissed (Some r.who) level.Handler ∷ [];
    actions = asks.Queue (record { kind = DeadlineMissed; process = p; words = message [] }) ∷ [];
  };
  free = free;
  clears = None;
}
misses zero action s p r = record {
  step = record {
    part = put_row s (runner.Process p) (record r { deadline = None });
    lines = event.Error DeadlineMissed (Some r.who) (level.Partition action) ∷ [];
    actions = [];
  };
  free = 0;
  clears = mode_of_action action;
}

abbrev pub is_past : ℕ → Option Ticks → Bool
is_past now None = false
is_past now (Some tick) = nat_le tick.0 now

abbrev pub treats_deadline : At → ℕ → PartitionAction → Processes → ProcessIndex → Option ProcessStatus → Treated
treats_deadline at free action s p None = without_clear free (nothing s)
treats_deadline at free action s p (Some r) = if is_past at.now.0 r.deadline then misses free action s p r else without_clear free (nothing s)

-- ---- each process

abbrev pub treated_after : Step Processes → Treated → Treated
treated_after s t = record { step = after s t.step; free = t.free; clears = t.clears }

-- one process: its due time, then its deadline
abbrev pub treats : At → ℕ → PartitionAction → Processes → ProcessIndex → Option ProcessStatus → Treated
treats at free action s p None = without_clear free (nothing s)
treats at free action s p (Some r) =
    let d = treats_due at s (runner.Process p) r r.due in
    treated_after d (treats_deadline at free action d.part p (row_of d.part (runner.Process p)))

-- treats the others, unless there is a Clear
abbrev pub then_others : Treated → Treated → Treated
then_others t others = if is_some t.clears then t else treated_after t.step others

-- treats n processes from index `place` on, in number order
abbrev pub due_from : At → PartitionAction → ℕ → ℕ → ℕ → Processes → Treated
due_from at action zero place free s = without_clear free (nothing s)
due_from at action (suc n) place free s =
    let t = treats at free action s (index place) (row_of s (runner.Process (index place))) in
    then_others t (due_from at action n (place + 1) t.free t.step.part)

-- Each process in number order: its due time if it is at most now, then its deadline if it is at
-- most now. `free` more errors may wait for the handler; `action` is the partition's action for a
-- missed deadline.
abbrev pub due : At → ℕ → PartitionAction → Processes → Treated
due at free action s = due_from at action (length s.rows - 2) 0 free s

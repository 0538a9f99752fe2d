-- A step of the kernel of a partition that is not in NORMAL does not lead there, unless it serves a call for NORMAL.
use Rattle.std.proofs.Common.{◌≡◌, ◌≢◌, ℕ, zero, suc, ℤ, pos, negsuc, Bool, true, false, List, [], ◌∷◌, Option, Some, None, refl}
use Rattle.std.specs.Prelude.{◌+◌, if◌then◌else◌, is_some}
use Rattle.arrayvec.specs.ArrayVec.{ArrayVec}
use Rattle.apex_types.specs.declared.codes.ErrorKind.{ErrorKind}
use Rattle.apex_types.specs.declared.codes.ErrorKind.TheVariants as error
use Rattle.apex_types.specs.declared.codes.Mode.{Mode}
use Rattle.apex_types.specs.declared.codes.Mode.TheVariants as mode
use Rattle.apex_types.specs.declared.codes.PartitionAction.{PartitionAction}
use Rattle.apex_types.specs.declared.codes.PartitionAction.TheVariants as action
use Rattle.apex_types.specs.declared.codes.Response.{Response}
use Rattle.apex_types.specs.declared.codes.Response.TheVariants as response
use Rattle.apex_types.specs.declared.codes.ReturnCode.TheVariants as code
use Rattle.apex_types.specs.declared.codes.StartCondition.{StartCondition}
use Rattle.apex_types.specs.declared.codes.StartCondition.TheVariants as condition
use Rattle.apex_types.specs.declared.identity.At.{At}
use Rattle.apex_types.specs.declared.identity.ProcessIndex.{ProcessIndex}
use Rattle.apex_types.specs.declared.identity.Runner.{Runner}
use Rattle.apex_types.specs.declared.identity.Runner.TheVariants as runner
use Rattle.apex_types.specs.declared.process.Due.{Due}
use Rattle.apex_types.specs.declared.process.Due.TheVariants as due_time
use Rattle.apex_types.specs.declared.process.ProcessStatus.{ProcessStatus}
use Rattle.apex_types.specs.declared.process.WaitingError.{WaitingError}
use Rattle.apex_types.specs.declared.service.ArrayPlace.{ArrayPlace}
use Rattle.apex_types.specs.declared.service.Call.{Call}
use Rattle.apex_types.specs.declared.service.Call.TheVariants as call
use Rattle.apex_types.specs.declared.service.Service.TheVariants as service
use Rattle.engine_meaning.specs.Engine.{Asks, Nothing, Calls, Faults, Ends}
use Rattle.kernel_meaning.specs.HealthServices.{report, create_error_handler, creates_found, get_error_status, takes_error, starts_handler, begins_if_dormant, raises, waits_or_leaves, queues, response_of, raise_application_error, ignores, is_fault, enters_mode, acts_on_error, then_acts, handles, faults, then_clears, breaks, action_of}
use Rattle.kernel_meaning.specs.Kernel.{Errors, Kernel, of_processes, of_ports, of_ports_alone, with_errors, with_objects, with_ports}
use Rattle.kernel_meaning.specs.Partition.{preempts, runs, leaves_processor, takes_processor, chooses, chooses_with_handler, treats_due, serves, treats_asked}
use Rattle.kernel_meaning.specs.PartitionServices.{clears, clear_lines, next_release_of, set_partition_mode, is_cold, ends_body}
use Rattle.kernel_meaning.specs.PortServices as arrival
use Rattle.kernel_meaning.specs.Objects.{port_at}
use Rattle.kernel_meaning.specs.Processes.{Processes, row_of, index, is_normal, answers, refuses, rests_found, zeros_of_wait}
use Rattle.kernel_meaning.specs.ProcessServices.{number_of}
use Rattle.kernel_meaning.specs.Sharing.{Sharing, waiting}
use Rattle.kernel_meaning.specs.Step.{Step, nothing, after}
use Rattle.kernel_meaning.specs.Times as times
use Rattle.kernel_meaning.specs.Times.{Treated, begins, ends_wait, timed_out, released_at, misses, is_past, treats_deadline, treats, due_from, mode_of_action}
use Rattle.lint_laws.proofs.Controls.{AsksAllowed}
use Rattle.lint_laws.proofs.NormalCalls.{CallIsOther}
use Rattle.lint_laws.proofs.Lines.{AreSilent, Silent, both, either, in_turn, wakes_silent, rests_silent, released_with_silent, get_process_id_silent, get_process_status_silent, create_process_silent, set_priority_silent, suspend_self_silent, suspend_silent, resume_silent, stop_silent, start_silent, delayed_start_silent, lock_silent, unlock_silent, my_id_silent, timed_wait_silent, periodic_wait_silent, replenish_silent, objects_silent, ports_silent, arrives_silent, enter_silent, leaves_silent}

-- ---- modes

abbrev pub IsOut : Kernel → Type 0
IsOut k = is_normal k.mode ≡ false

-- a mode to enter, if any, that is not NORMAL
abbrev pub IsOutMode : Option Mode → Type 0
IsOutMode None = Unit {0}
IsOutMode (Some m) = is_normal m ≡ false

-- it stays out of NORMAL, and no line says otherwise
pub record StaysOut (s : Step Kernel) : Type 0 where
  pub mode : IsOut s.part
  pub lines : Silent s

either_out : (b : Bool) (s t : Step Kernel) → StaysOut s → StaysOut t → StaysOut (if b then s else t)
either_out true s t h k = h
either_out false s t h k = k

after_out : (s t : Step Kernel) → Silent s → StaysOut t → StaysOut (after s t)
after_out s t h k = record { mode = k.mode; lines = both s.lines t.lines h k.lines }

pub of_out : (k : Kernel) (s : Step Processes) → IsOut k → Silent s → StaysOut (of_processes k s)
of_out k s h l = record { mode = h; lines = l }

pub action_out : (a : PartitionAction) → IsOutMode (mode_of_action a)
action_out action.Ignore = tt
action_out action.Idle = refl
action_out action.WarmStart = refl
action_out action.ColdStart = refl

-- ---- Clear, and errors

pub clears_out : (k : Kernel) (m : Mode) (c : StartCondition) → is_normal m ≡ false → StaysOut (clears k m c)
clears_out k m c h = record { mode = h; lines = by_mode m h }
  where
    by_mode : (m : Mode) → is_normal m ≡ false → AreSilent (clear_lines m)
    by_mode mode.Idle h = (refl, tt)
    by_mode mode.ColdStart h = (refl, (refl, tt))
    by_mode mode.WarmStart h = (refl, (refl, tt))
    by_mode mode.Normal h = (h, (refl, tt))

pub then_clears_out : (k : Kernel) (o : Option Mode) → IsOut k → IsOutMode o → StaysOut (then_clears k o)
then_clears_out k None h l = record { mode = h; lines = tt }
then_clears_out k (Some m) h l = clears_out k m condition.HmPartitionRestart l

pub breaks_out : (k : Kernel) → IsOut k → StaysOut (breaks k)
breaks_out k h =
    let a = action_of k.fixed.health error.HardwareFault in
    let c = then_clears_out k (mode_of_action a) h (action_out a) in
    record { mode = c.mode; lines = (refl, c.lines) }

ignores_out : (k : Kernel) (p : Runner) (e : ErrorKind) → IsOut k → StaysOut (ignores k p e)
ignores_out k runner.Init e h = either_out (is_fault e) _ (nothing k) (clears_out k mode.Idle condition.HmPartitionRestart refl) (record { mode = h; lines = tt })
ignores_out k runner.Handler e h = record { mode = h; lines = tt }
ignores_out k (runner.Process p) e h = record { mode = h; lines = tt }

enters_out : (k : Kernel) (p : Runner) (e : ErrorKind) (o : Option Mode) → IsOut k → IsOutMode o → StaysOut (enters_mode k p e o)
enters_out k p e None h l = ignores_out k p e h
enters_out k p e (Some m) h l = clears_out k m condition.HmPartitionRestart l

acts_out : (k : Kernel) (p : Runner) (e : ErrorKind) (o : Option PartitionAction) → IsOut k → StaysOut (acts_on_error k p e o)
acts_out k p e None h = record { mode = h; lines = tt }
acts_out k p e (Some a) h = enters_out k p e (mode_of_action a) h (action_out a)

queues_silent : (p : Runner) (e : ErrorKind) (words : List ℤ) → Silent (queues p e words)
queues_silent runner.Init e words = tt
queues_silent runner.Handler e words = tt
queues_silent (runner.Process p) e words = tt

error_silent : (p : Runner) (e : ErrorKind) (words : List ℤ) (r : Response) → Silent (waits_or_leaves p e words r)
error_silent p e words response.Handler = queues_silent p e words
error_silent p e words (response.Partition a) = tt
error_silent p e words (response.Module a) = tt

acts_after : (k : Kernel) (p : Runner) (e : ErrorKind) (s : Step (Option PartitionAction)) → IsOut k → Silent s → StaysOut (then_acts k p e s)
acts_after k p e s h l = let a = acts_out k p e s.part h in record { mode = a.mode; lines = both s.lines (acts_on_error k p e s.part).lines l a.lines }

raises_silent : (k : Kernel) (p : Runner) (e : ErrorKind) (words : List ℤ) → Silent (raises k.fixed.health k.mode (with_errors k) p e words)
raises_silent k p e words = (refl, error_silent p e words (response_of k.fixed.health k.mode (with_errors k) p e))

pub faults_out : (k : Kernel) (p : Runner) (e : ErrorKind) → IsOut k → StaysOut (faults k p e)
faults_out k p e h =
    let s = of_processes k (rests_found k.processes p (row_of k.processes p)) in
    after_out s (handles s.part p e []) (rests_silent k.processes p (row_of k.processes p)) (acts_after s.part p e (raises s.part.fixed.health s.part.mode (with_errors s.part) p e []) h (raises_silent s.part p e []))

raise_silent : (k : Kernel) (p : Runner) (e : ℤ) (array : ArrayPlace) (size : ℤ) (words : List ℤ) → Silent (raise_application_error k.fixed.health k.mode (with_errors k) p e array size words)
raise_silent k p e array size words = search (either, raises_silent)

takes_error_silent : (b : Sharing Errors) (p : Runner) (array : ArrayPlace) (es : List WaitingError) → Silent (takes_error b p array es)
takes_error_silent b p array [] = (refl, tt)
takes_error_silent b p array (e ∷ es) = (refl, tt)

creates_silent : (s : Processes) (o : Option ProcessStatus) → Silent (creates_found s runner.Handler o)
creates_silent s None = tt
creates_silent s (Some r) = tt

error_status_silent : (b : Sharing Errors) (p : Runner) (array : ArrayPlace) → Silent (get_error_status b p array)
error_status_silent b p array = search (either, takes_error_silent)

create_handler_silent : (m : Mode) (b : Sharing Errors) (p : Runner) → Silent (create_error_handler m b p)
create_handler_silent m b p = search (either, creates_silent) depth 9

report_silent : (s : Processes) (p : Runner) (array : ArrayPlace) (size : ℤ) (words : List ℤ) → Silent (report s p array size words)
report_silent s p array size words = search (either)

-- ---- the end of a body, and the requests

pub ends_body_out : (k : Kernel) (p : Runner) → IsOut k → StaysOut (ends_body k p)
ends_body_out k runner.Init h = clears_out k mode.Idle condition.PartitionRestart refl
ends_body_out k runner.Handler h = record { mode = h; lines = rests_silent k.processes runner.Handler (row_of k.processes runner.Handler) }
ends_body_out k (runner.Process p) h = record { mode = h; lines = rests_silent k.processes (runner.Process p) (row_of k.processes (runner.Process p)) }

set_mode_out : (at : At) (k : Kernel) (p : Runner) (m : ℤ) → IsOut k → m ≢ pos 3 → StaysOut (set_partition_mode at k p m)
set_mode_out at k p (negsuc n) h other = record { mode = h; lines = (refl, tt) }
set_mode_out at k p (pos zero) h other = record { mode = refl; lines = (refl, (refl, tt)) }
set_mode_out at k p (pos (suc zero)) h other = record { mode = refl; lines = (refl, (refl, (refl, tt))) }
set_mode_out at k p (pos (suc (suc zero))) h other =
    either_out (is_cold k.mode) (of_processes k (refuses k.processes p service.SetPartitionMode code.InvalidMode))
    (after (of_processes k (answers k.processes p service.SetPartitionMode code.NoError [])) (clears k mode.WarmStart condition.PartitionRestart))
    (record { mode = h; lines = (refl, tt) }) (record { mode = refl; lines = (refl, (refl, (refl, tt))) })
set_mode_out at k p (pos (suc (suc (suc zero)))) h other = absurd (other refl)
set_mode_out at k p (pos (suc (suc (suc (suc n))))) h other = record { mode = h; lines = (refl, tt) }

serves_out : (at : At) (k : Kernel) (p : Runner) (c : Call) (words : List ℤ) → IsOut k → CallIsOther c → StaysOut (serves at k p c words)
serves_out at k p call.GetPartitionStatus words h o = record { mode = h; lines = (refl, tt) }
serves_out at k p (call.SetPartitionMode m) words h o = set_mode_out at k p m h o
serves_out at k p call.StopSelf words h o = ends_body_out k p h
serves_out at k p (call.ReportApplicationMessage array size) words h o = record { mode = h; lines = report_silent k.processes p array size words }
serves_out at k p call.CreateErrorHandler words h o = record { mode = h; lines = create_handler_silent k.mode (with_errors k) p }
serves_out at k p (call.GetErrorStatus array) words h o = record { mode = h; lines = error_status_silent (with_errors k) p array }
serves_out at k p (call.RaiseApplicationError e array size) words h o = acts_after k p error.ApplicationError _ h (raise_silent k p e array size words)
serves_out at k p (call.GetProcessId name) words h o = record { mode = h; lines = get_process_id_silent k.processes p name }
serves_out at k p (call.GetProcessStatus id) words h o = record { mode = h; lines = get_process_status_silent k.processes p id }
serves_out at k p (call.CreateProcess name) words h o = record { mode = h; lines = create_process_silent k.processes p k.mode name }
serves_out at k p (call.SetPriority id v) words h o = record { mode = h; lines = set_priority_silent k.processes p id v }
serves_out at k p (call.SuspendSelf limit) words h o = record { mode = h; lines = suspend_self_silent k.processes p at limit }
serves_out at k p (call.Suspend id) words h o = record { mode = h; lines = suspend_silent k.processes p id }
serves_out at k p (call.Resume id) words h o = record { mode = h; lines = resume_silent k.processes p id }
serves_out at k p (call.Stop id) words h o = record { mode = h; lines = stop_silent k.processes p id }
serves_out at k p (call.Start id) words h o = record { mode = h; lines = start_silent k.processes p k.mode at (next_release_of at k) id }
serves_out at k p (call.DelayedStart id delay) words h o = record { mode = h; lines = delayed_start_silent k.processes p k.mode at (next_release_of at k) id delay }
serves_out at k p call.LockPreemption words h o = record { mode = h; lines = lock_silent k.processes p k.mode }
serves_out at k p call.UnlockPreemption words h o = record { mode = h; lines = unlock_silent k.processes p k.mode }
serves_out at k p call.GetMyId words h o = record { mode = h; lines = my_id_silent k.processes p (number_of p) }
serves_out at k p (call.TimedWait delay) words h o = record { mode = h; lines = timed_wait_silent k.processes p at delay }
serves_out at k p call.PeriodicWait words h o = record { mode = h; lines = periodic_wait_silent k.processes p }
serves_out at k p call.GetTime words h o = record { mode = h; lines = (refl, tt) }
serves_out at k p (call.Replenish budget) words h o = record { mode = h; lines = replenish_silent k.processes p k.mode at budget }
serves_out at k p (call.Object c) words h o = record { mode = h; lines = objects_silent (with_objects k) p k.mode at c words }
serves_out at k p (call.Port c) words h o = record { mode = h; lines = ports_silent (with_ports k) p k.mode at c words }

pub asked_out : (at : At) (k : Kernel) (p : Runner) (a : Asks) (words : List ℤ) → IsOut k → AsksAllowed CallIsOther a → StaysOut (treats_asked at k p a words)
asked_out at k p Nothing words h o = record { mode = h; lines = tt }
asked_out at k p (Calls c) words h o = serves_out at k p c words h o
asked_out at k p (Faults e) words h o = faults_out k p e h
asked_out at k p Ends words h o = ends_body_out k p h

-- ---- what is due

record TreatsOut (t : Treated) : Type 0 where
  lines : Silent t.step
  clears : IsOutMode t.clears

either_treated : (b : Bool) (s t : Treated) → TreatsOut s → TreatsOut t → TreatsOut (if b then s else t)
either_treated true s t h k = h
either_treated false s t h k = k

module _ (at : At) (a : PartitionAction) where
  due_silent : (s : Processes) (p : Runner) (r : ProcessStatus) (d : Due) → Silent (ends_wait s p r d)
  due_silent s p r (due_time.Release tick) = released_with_silent s p (released_at tick r) _ (zeros_of_wait r.wait)
  due_silent s p r (due_time.Delay tick) = released_with_silent s p r _ (zeros_of_wait r.wait)
  due_silent s p r (due_time.TimeOut tick) = released_with_silent s p (timed_out r r.wait) _ (zeros_of_wait (timed_out r r.wait).wait)

  one_silent : (s : Processes) (p : Runner) (r : ProcessStatus) (o : Option Due) → Silent (times.treats_due at s p r o)
  one_silent s p r None = tt
  one_silent s p r (Some d) = search (either, due_silent)

  misses_out : (free : ℕ) (s : Processes) (p : ProcessIndex) (r : ProcessStatus) → TreatsOut (misses free a s p r)
  misses_out zero s p r = record { lines = (refl, tt); clears = action_out a }
  misses_out (suc free) s p r = record { lines = (refl, tt); clears = tt }

  deadline_out : (free : ℕ) (s : Processes) (p : ProcessIndex) (o : Option ProcessStatus) → TreatsOut (treats_deadline at free a s p o)
  deadline_out free s p None = record { lines = tt; clears = tt }
  deadline_out free s p (Some r) = either_treated (is_past at.now.0 r.deadline) _ _ (misses_out free s p r) (record { lines = tt; clears = tt })

  treats_out : (free : ℕ) (s : Processes) (p : ProcessIndex) (o : Option ProcessStatus) → TreatsOut (treats at free a s p o)
  treats_out free s p None = record { lines = tt; clears = tt }
  treats_out free s p (Some r) =
      let d = times.treats_due at s (runner.Process p) r r.due in
      let t = deadline_out free d.part p (row_of d.part (runner.Process p)) in
      record { lines = both d.lines _ (one_silent s (runner.Process p) r r.due) t.lines; clears = t.clears }

  due_from_out : (n place free : ℕ) (s : Processes) → TreatsOut (due_from at a n place free s)
  due_from_out zero place free s = record { lines = tt; clears = tt }
  due_from_out (suc n) place free s =
      let t = treats at free a s (index place) (row_of s (runner.Process (index place))) in
      let g = treats_out free s (index place) (row_of s (runner.Process (index place))) in
      let rest = due_from_out n (place + 1) t.free t.step.part in
      either_treated (is_some t.clears) _ _ g (record { lines = both t.step.lines _ g.lines rest.lines; clears = rest.clears })

pub due_lines : (at : At) (k : Kernel) → Silent (treats_due at k).step
due_lines at k = (due_from_out at _ _ 0 _ k.processes).lines

pub due_clears : (at : At) (k : Kernel) → IsOutMode (treats_due at k).clears
due_clears at k = (due_from_out at _ _ 0 _ k.processes).clears

-- ---- the choice

handler_silent : (s : Processes) (o : Option ProcessStatus) → Silent (begins_if_dormant s o)
handler_silent s None = tt
handler_silent s (Some r) = search (either, wakes_silent)

starts_silent : (m : Mode) (b : Sharing Errors) → Silent (starts_handler m b)
starts_silent m b = search (either, handler_silent)

leaves_it : (s : Processes) (o : Option Runner) → Silent (leaves_processor s o)
leaves_it s None = tt
leaves_it s (Some p) = by_row (row_of s p)
  where
    by_row : (o : Option ProcessStatus) → Silent (preempts s p o)
    by_row None = tt
    by_row (Some r) = (refl, tt)

takes_it : (s : Processes) (o : Option Runner) → Silent (takes_processor s o)
takes_it s None = tt
takes_it s (Some p) = by_row (row_of s p)
  where
    by_row : (o : Option ProcessStatus) → Silent (runs s p o)
    by_row None = tt
    by_row (Some r) = (refl, tt)

chooses_silent : (m : Mode) (s : Processes) → Silent (chooses m s)
chooses_silent m s = search (either, in_turn, leaves_it, takes_it)

pub choice_out : (k : Kernel) → IsOut k → StaysOut (chooses_with_handler k)
choice_out k h =
    let s = starts_handler k.mode (with_errors k) in
    record { mode = h; lines = both s.lines (chooses k.mode s.part).lines (starts_silent k.mode (with_errors k)) (chooses_silent k.mode s.part) }

-- ---- messages

pub arrives_out : (at : At) (k : Kernel) (place : ℕ) (m : ArrayVec ℤ) → IsOut k → StaysOut (of_ports k (arrival.arrives at (with_ports k) place m))
arrives_out at k place m h = record { mode = h; lines = arrives_silent (with_ports k) at place m (port_at k.ports place) }

pub admits_out : (k : Kernel) (place : ℕ) → IsOut k → StaysOut (of_ports k (arrival.admits (with_ports k) place))
admits_out k place h = record { mode = h; lines = enter_silent (waiting k.processes (arrival.list place)) place (with_ports k) }

pub leaves_out : (k : Kernel) (place : ℕ) → IsOut k → StaysOut (of_ports_alone k (arrival.leaves k.ports place))
leaves_out k place h = record { mode = h; lines = leaves_silent k.ports place (port_at k.ports place) }

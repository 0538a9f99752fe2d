-- Each step of a partition keeps the agreement of the ready list with the records.
use Rattle.kernel_laws.proofs.Prelude.{◌≡◌, ℤ, List, ◌∷◌, refl, ◌∙◌, not, At, Runner, Action, Call, Engine, Asks, Nothing, Calls, Faults, Ends, is_message_length, Kernel, of_processes, with_errors, with_objects, with_ports, World, act, act_all, chooses_with_handler, pick, serves, treats_asked, treats_due, next_release_of, number_of, Processes, Step, chosen_among}
use Rattle.std.proofs.Common.{[]}
use Rattle.apex_types.specs.Runners as action
use Rattle.apex_types.specs.declared.service.Call.TheVariants as call
use Rattle.kernel_laws.proofs.RecordChoice.{chooses_agrees, picked_runs}
use Rattle.kernel_laws.proofs.RecordKernel.{KernelAgrees, create_handler_agrees, due_from_agrees, ends_body_agrees, error_status_agrees, faults_agrees, handler_agrees, raise_agrees, set_mode_agrees}
use Rattle.kernel_laws.proofs.RecordObjects.{objects_agree, ports_agree}
use Rattle.kernel_laws.proofs.RecordRows.{IsCaller, create_process_agrees, delayed_start_agrees, get_my_id_agrees, get_process_id_agrees, get_process_status_agrees, lock_preemption_agrees, periodic_wait_agrees, replenish_agrees, resume_agrees, set_priority_agrees, start_agrees, stop_agrees, suspend_agrees, suspend_self_agrees, timed_wait_agrees, unlock_preemption_agrees}
use Rattle.kernel_laws.proofs.Records.{either}

-- ---- the requests of a process

module _ (at : At) (k : Kernel) (h : KernelAgrees k) (p : Runner) (caller : IsCaller k.processes p) where
  abbrev IsKept : Step Kernel → Type 0
  IsKept s = KernelAgrees s.part

  serves_agrees : (c : Call) (words : List ℤ) → IsKept (serves at k p c words)
  serves_agrees call.GetPartitionStatus words = h
  serves_agrees (call.SetPartitionMode m) words = set_mode_agrees at k p m h
  serves_agrees call.StopSelf words = ends_body_agrees k p h
  serves_agrees (call.ReportApplicationMessage array size) words = either (λ (s : Processes). s) (not (is_message_length array.size size)) _ _ (λ e. h) (λ e. h)
  serves_agrees call.CreateErrorHandler words = create_handler_agrees (with_errors k) h p k.mode
  serves_agrees (call.GetErrorStatus array) words = error_status_agrees (with_errors k) h p array
  serves_agrees (call.RaiseApplicationError e array size) words = raise_agrees k p e array size words h
  serves_agrees (call.GetProcessId name) words = get_process_id_agrees k.processes h p name
  serves_agrees (call.GetProcessStatus id) words = get_process_status_agrees k.processes h p id
  serves_agrees (call.CreateProcess name) words = create_process_agrees k.processes h p k.mode name
  serves_agrees (call.SetPriority id v) words = set_priority_agrees k.processes h p id v
  serves_agrees (call.SuspendSelf limit) words = suspend_self_agrees k.processes h p at limit
  serves_agrees (call.Suspend id) words = suspend_agrees k.processes h p id
  serves_agrees (call.Resume id) words = resume_agrees k.processes h p id
  serves_agrees (call.Stop id) words = stop_agrees k.processes h p id
  serves_agrees (call.Start id) words = start_agrees k.processes h p k.mode at (next_release_of at k) id
  serves_agrees (call.DelayedStart id delay) words = delayed_start_agrees k.processes h p k.mode at (next_release_of at k) id delay
  serves_agrees call.LockPreemption words = lock_preemption_agrees k.processes h p k.mode caller
  serves_agrees call.UnlockPreemption words = unlock_preemption_agrees k.processes h p k.mode
  serves_agrees call.GetMyId words = get_my_id_agrees k.processes h p (number_of p)
  serves_agrees (call.TimedWait delay) words = timed_wait_agrees k.processes h p at delay caller
  serves_agrees call.PeriodicWait words = periodic_wait_agrees k.processes h p
  serves_agrees call.GetTime words = h
  serves_agrees (call.Replenish budget) words = replenish_agrees k.processes h p k.mode at budget
  serves_agrees (call.Object c) words = objects_agree (with_objects k) h p k.mode at c words
  serves_agrees (call.Port c) words = ports_agree (with_ports k) h p k.mode at c words

  pub asked_agrees : (a : Asks) (words : List ℤ) → IsKept (treats_asked at k p a words)
  asked_agrees Nothing words = h
  asked_agrees (Calls c) words = serves_agrees c words
  asked_agrees (Faults e) words = faults_agrees k p e h
  asked_agrees Ends words = ends_body_agrees k p h

-- ---- what is due, and the choice

pub due_agrees : (at : At) (k : Kernel) → KernelAgrees k → KernelAgrees (of_processes k (treats_due at k).step).part
due_agrees at k h = due_from_agrees at _ _ 0 _ k.processes h

pub choice_agrees : (k : Kernel) → KernelAgrees k → KernelAgrees (chooses_with_handler k).part
choice_agrees k h = chooses_agrees k.mode (chosen_among k) (handler_agrees k.mode (with_errors k) h)

pub choice_runs : (k : Kernel) → KernelAgrees k → (chooses_with_handler k).part.processes.running ≡ pick k.mode (chosen_among k)
choice_runs k h = picked_runs k.mode (chosen_among k) (handler_agrees k.mode (with_errors k) h)

-- ---- the actions of the kernel change no process

module _ {C : Type 0} where
  act_same : (e : Engine C) (a : Action) (w : World C) → (act e a w).kernel.processes ≡ w.kernel.processes
  act_same e (action.Begin p) w = refl
  act_same e (action.Stop p) w = refl
  act_same e action.StopAll w = refl
  act_same e (action.Reply p answer) w = refl
  act_same e action.Restore w = refl
  act_same e (action.Write place array) w = refl
  act_same e (action.Queue error) w = refl

  pub acts_same : (e : Engine C) (actions : List Action) (w : World C) → (act_all e actions w).kernel.processes ≡ w.kernel.processes
  acts_same e [] w = refl
  acts_same e (a ∷ rest) w = acts_same e rest (act e a w) ∙ act_same e a w

-- The services on the partition's mode and on errors keep the invariant of a partition, and so does the handling of
-- errors.
use Rattle.isolation.proofs.Prelude.{ℤ, Bool, true, List, ◌∷◌, Option, Some, None, ◌&&◌, not, is_some, if◌then◌else◌, ErrorKind, Mode, PartitionAction, At, Runner, ProcessStatus, PortRow, ArrayPlace, mode_of_action, Errors, ignores, is_fault, enters_mode_of_action, acts_on_error, raise_application_error, raises_application_error, raises, faults, Kernel, of_processes, with_errors, enters_mode, mode_of, wants, is_warm, is_cold, next_release_of, set_partition_mode, ends_body, row_of, rests_found, is_normal, Sharing, Step}
use Rattle.std.proofs.Common.{[]}
use Rattle.apex_types.specs.declared.codes.ErrorKind.TheVariants as error
use Rattle.apex_types.specs.declared.codes.Mode.TheVariants as mode
use Rattle.apex_types.specs.declared.codes.StartCondition.TheVariants as condition
use Rattle.apex_types.specs.declared.identity.Runner.TheVariants as runner
use Rattle.apex_types.specs.declared.process.WaitingError.{WaitingError}
use Rattle.kernel_meaning.specs.HealthServices.{create_error_handler, creates_found, get_error_status, takes_error}
use Rattle.kernel_meaning.specs.PartitionServices.{starts_normally}
use Rattle.isolation.proofs.Handed.{IsSoundProcesses, either_so, row_sound, rests_found_sound}
use Rattle.isolation.proofs.ObjectRows.{either as either_shared}
use Rattle.isolation.proofs.ProcessRows.{stop_self_sound, all_start_sound}
use Rattle.isolation.proofs.Sounds.{IsSoundKernel, clears_sound}

module _ (rows : List PortRow) where
  -- ---- errors that wait
  module _ (b : Sharing Errors) (h : IsSoundProcesses rows b.processes) (p : Runner) where
    abbrev IsKept : Step (Sharing Errors) → Type 0
    IsKept s = IsSoundProcesses rows s.part.processes

    creates_found_sound : (o : Option ProcessStatus) → IsSoundProcesses rows (creates_found b.processes runner.Handler o).part
    creates_found_sound None = h
    creates_found_sound (Some r) = row_sound rows b.processes runner.Handler (record r { created = true }) h

    pub create_handler_sound : (m : Mode) → IsKept (create_error_handler m b p)
    create_handler_sound m = search (either_shared, creates_found_sound (row_of b.processes runner.Handler))

    takes_error_sound : (array : ArrayPlace) (es : List WaitingError) → IsKept (takes_error b p array es)
    takes_error_sound array [] = h
    takes_error_sound array (e ∷ rest) = h

    pub error_status_sound : (array : ArrayPlace) → IsKept (get_error_status b p array)
    error_status_sound array = search (either_shared, takes_error_sound array b.shared.waiting)

  -- ---- the partition
  abbrev Sound : Step Kernel → Type 0
  Sound s = IsSoundKernel rows s.part

  pub either : (b : Bool) (s t : Step Kernel) → Sound s → Sound t → Sound (if b then s else t)
  either b s t h k = either_so (λ (c : Kernel). IsSoundKernel rows c) b s t h k

  -- the end of a body, and the services on the mode
  pub ends_body_sound : (k : Kernel) (p : Runner) → IsSoundKernel rows k → Sound (ends_body k p)
  ends_body_sound k runner.Init h = clears_sound rows k mode.Idle condition.PartitionRestart h
  ends_body_sound k runner.Handler h = record { holding = h.holding; processes = stop_self_sound rows k.processes h.processes runner.Handler }
  ends_body_sound k (runner.Process q) h = record { holding = h.holding; processes = stop_self_sound rows k.processes h.processes (runner.Process q) }

  normally_sound : (at : At) (k : Kernel) → IsSoundKernel rows k → Sound (starts_normally at k)
  normally_sound at k h = record {
    holding = h.holding;
    processes = all_start_sound rows at (next_release_of at k) (rests_found k.processes runner.Init (row_of k.processes runner.Init)).part (rests_found_sound rows k.processes runner.Init (row_of k.processes runner.Init) h.processes);
  }

  enters_sound : (at : At) (k : Kernel) (o : Option Mode) → IsSoundKernel rows k → Sound (enters_mode at k o)
  enters_sound at k None h = h
  enters_sound at k (Some mode.Normal) h = normally_sound at k h
  enters_sound at k (Some mode.Idle) h = clears_sound rows k mode.Idle condition.PartitionRestart h
  enters_sound at k (Some mode.ColdStart) h = clears_sound rows k mode.ColdStart condition.PartitionRestart h
  enters_sound at k (Some mode.WarmStart) h = clears_sound rows k mode.WarmStart condition.PartitionRestart h

  pub set_mode_sound : (at : At) (k : Kernel) (p : Runner) (m : ℤ) → IsSoundKernel rows k → Sound (set_partition_mode at k p m)
  set_mode_sound at k p m h =
      either (not (is_some (mode_of m))) _ _ h (either (wants is_normal (mode_of m) && is_normal k.mode) _ _ h (either (wants is_warm (mode_of m) && is_cold k.mode) _ _ h (enters_sound at k (mode_of m) h)))

  -- ---- the partition's response to an error
  ignores_sound : (k : Kernel) (p : Runner) (e : ErrorKind) → IsSoundKernel rows k → Sound (ignores k p e)
  ignores_sound k runner.Init e h = either (is_fault e) _ _ (clears_sound rows k mode.Idle condition.HmPartitionRestart h) h
  ignores_sound k runner.Handler e h = h
  ignores_sound k (runner.Process q) e h = h

  enters_of_action_sound : (k : Kernel) (p : Runner) (e : ErrorKind) (o : Option Mode) → IsSoundKernel rows k → Sound (enters_mode_of_action k p e o)
  enters_of_action_sound k p e None h = ignores_sound k p e h
  enters_of_action_sound k p e (Some m) h = clears_sound rows k m condition.HmPartitionRestart h

  acts_sound : (k : Kernel) (p : Runner) (e : ErrorKind) (o : Option PartitionAction) → IsSoundKernel rows k → Sound (acts_on_error k p e o)
  acts_sound k p e None h = h
  acts_sound k p e (Some a) h = enters_of_action_sound k p e (mode_of_action a) h

  -- a service that raises an error, and a fault
  pub raise_sound : (k : Kernel) (p : Runner) (e : ℤ) (array : ArrayPlace) (size : ℤ) (words : List ℤ) → IsSoundKernel rows k → Sound (raises_application_error k p e array size words)
  raise_sound k p e array size words h = acts_sound k p error.ApplicationError (raise_application_error k.fixed.health k.mode (with_errors k) p e array size words).part h

  pub faults_sound : (k : Kernel) (p : Runner) (e : ErrorKind) → IsSoundKernel rows k → Sound (faults k p e)
  faults_sound k p e h =
      let j = (of_processes k (rests_found k.processes p (row_of k.processes p))).part in
      acts_sound j p e (raises j.fixed.health j.mode (with_errors j) p e []).part (record { holding = h.holding; processes = rests_found_sound rows k.processes p (row_of k.processes p) h.processes })

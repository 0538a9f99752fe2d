-- The services and the choice continue the numbers.
use Rattle.kernel_laws.proofs.Prelude.{Bool, List, None, Option, Some, false, refl, true, ℕ, ℤ, ◌∙◌, ◌∷◌, ◌≡◌, if◌then◌else◌, not, ◌&&◌, place_of, Discipline, Mode, Ready, Running, At, ListKey, Runner, ProcessStatus, WaitingError, ArrayPlace, Call, Asks, Nothing, Calls, Faults, Ends, Errors, begins_if_dormant, create_error_handler, creates_found, get_error_status, is_message_length, is_waiting, starts_handler, takes_error, Kernel, with_errors, with_objects, with_ports, chooses_with_handler, pick, treats_asked, are_same, chooses, leaves_processor, preempts, runs, serves, takes_processor, next_release_of, number_of, Processes, is_dormant, is_normal, put_ready, put_unready, row_of, is_same, Sharing, is_large_enough, begins, Step, after, lifted, nothing, Goes, May, nobody, may_by, may_asked}
use Rattle.std.proofs.Common.{[]}
use Rattle.std.specs.Prelude.{length}
use Rattle.apex_types.specs.declared.limits.TheConstants.{MOST_REPORT_WORDS}
use Rattle.apex_types.specs.declared.codes.ReturnCode.TheVariants as code
use Rattle.apex_types.specs.declared.event.EventKind.TheVariants as event
use Rattle.apex_types.specs.declared.identity.Runner.TheVariants as runner
use Rattle.apex_types.specs.declared.process.Wait.TheVariants as wait
use Rattle.apex_types.specs.declared.service.Call.TheVariants as call
use Rattle.apex_types.specs.declared.service.Service.TheVariants as service
use Rattle.kernel_meaning.specs.HealthServices.{error_status, is_handler_created, report}
use Rattle.kernel_meaning.specs.Kernel.{of_errors}
use Rattle.kernel_meaning.specs.PartitionServices.{status_of}
use Rattle.kernel_meaning.specs.Processes.{refuses}
use Rattle.kernel_meaning.specs.Sharing as sharing
use Rattle.kernel_laws.proofs.OfKernel.{Moves, IsReady, of_moves, of_objects_moves, of_ports_moves, set_mode_moves, ends_body_moves, raise_moves, faults_moves}
use Rattle.kernel_laws.proofs.OfObjects.{serves_objects_shares}
use Rattle.kernel_laws.proofs.OfPorts.{serves_ports_shares}
use Rattle.kernel_laws.proofs.OfProcesses.{get_process_id_goes, get_process_status_goes, create_process_goes, set_priority_goes, suspend_self_goes, suspend_goes, resume_goes, stop_goes, start_goes, delayed_start_goes, lock_preemption_goes, unlock_preemption_goes, get_my_id_goes, get_time_goes, timed_wait_goes, periodic_wait_goes, replenish_goes}
use Rattle.kernel_laws.proofs.Primitives.{named_set}
use Rattle.kernel_laws.proofs.Shares.{Shares, IsSet, row_shares, after_shares, becomes_shares, answers_shares, refuses_shares, fills_shares, of_shares}
use Rattle.kernel_laws.proofs.NumberSteps.{Named, nothing_goes, after_goes, put_goes, row_is_of, refuse_goes, answer_goes, row_goes}

module _ (d : ListKey → Discipline) (names : List (List ℕ)) where
  -- ---- errors

  abbrev ToErrors : May → sharing.Sharing Errors → Step (sharing.Sharing Errors) → Type 0
  ToErrors may b t = Shares d names Errors (λ e. Unit {0}) may b t

  of_errors_moves : (may : May) (k : Kernel) (t : Step (sharing.Sharing Errors)) → IsReady d names k → ToErrors may (with_errors k) t → Moves d names may k (of_errors k t)
  of_errors_moves may k t h g = record { goes = g.goes; objects = h.objects; ports = h.ports }

  creates_found_goes : (may : May) (s : Processes) (p : Runner) → Named d names s → Goes d names may s (creates_found s p (row_of s p))
  creates_found_goes may s p h = by_row (row_of s p) refl
    where
      by_row : (o : Option ProcessStatus) → row_of s p ≡ o → Goes d names may s (creates_found s p o)
      by_row None e = nothing_goes d names may s h
      by_row (Some r) e = put_goes d names may s p (record r { created = true }) h (row_is_of d names s p r h e)

  create_handler_shares : (may : May) (m : Mode) (b : sharing.Sharing Errors) (p : Runner) → IsSet d names Errors (λ e. Unit {0}) b → ToErrors may b (create_error_handler m b p)
  create_handler_shares may m b p h =
      row_shares d names Errors (λ e. Unit {0}) may b (sharing.refuses b p service.CreateErrorHandler)
      ((is_normal m, code.InvalidMode) ∷ (not b.shared.has_handler, code.InvalidConfig) ∷ (is_handler_created b.processes, code.NoAction) ∷ []) _
      (refuses_shares d names Errors (λ e. Unit {0}) may b p service.CreateErrorHandler h)
      (after_shares d names Errors (λ e. Unit {0}) may b _ _ (answers_shares d names Errors (λ e. Unit {0}) may b p service.CreateErrorHandler code.NoError [] h)
      (λ k. of_shares d names Errors (λ e. Unit {0}) may b _ k (creates_found_goes may b.processes runner.Handler k.named)))

  takes_error_shares : (may : May) (b : sharing.Sharing Errors) (p : Runner) (array : ArrayPlace) (es : List WaitingError) → IsSet d names Errors (λ e. Unit {0}) b
      → ToErrors may b (takes_error b p array es)
  takes_error_shares may b p array [] h = refuses_shares d names Errors (λ e. Unit {0}) may b p service.GetErrorStatus h code.NoAction
  takes_error_shares may b p array (e ∷ rest) h =
      after_shares d names Errors (λ e. Unit {0}) may b _ _ (answers_shares d names Errors (λ e. Unit {0}) may b p service.GetErrorStatus code.NoError (error_status e) h)
      (λ k. after_shares d names Errors (λ e. Unit {0}) may b _ _ (fills_shares d names Errors (λ e. Unit {0}) may b (Some array) e.words k)
      (λ g. becomes_shares d names Errors (λ e. Unit {0}) may b _ g tt))

  error_status_shares : (may : May) (b : sharing.Sharing Errors) (p : Runner) (array : ArrayPlace) → IsSet d names Errors (λ e. Unit {0}) b → ToErrors may b (get_error_status b p array)
  error_status_shares may b p array h =
      row_shares d names Errors (λ e. Unit {0}) may b (sharing.refuses b p service.GetErrorStatus)
      ((not (is_same p runner.Handler), code.InvalidConfig) ∷ (not (is_large_enough MOST_REPORT_WORDS array), code.InvalidParam) ∷ []) _
      (refuses_shares d names Errors (λ e. Unit {0}) may b p service.GetErrorStatus h) (takes_error_shares may b p array b.shared.waiting h)

  report_goes : (may : May) (s : Processes) (p : Runner) (array : ArrayPlace) (length : ℤ) (words : List ℤ) → Named d names s → Goes d names may s (report s p array length words)
  report_goes may s p array length words h =
      row_goes d names may s (refuses s p service.ReportApplicationMessage) ((not (is_message_length array.size length), code.InvalidParam) ∷ []) _
      (refuse_goes d names may s p service.ReportApplicationMessage h) (after_goes d names may s _ _ (answer_goes d names may s p service.ReportApplicationMessage code.NoError [] h)
      (λ k. record { takings = []; follows = λ n o. o; named = k; told = refl; allowed = tt }))

  serves_moves : (at : At) (k : Kernel) (p : Runner) (c : Call) (words : List ℤ) → IsReady d names k → Moves d names (may_by p c) k (serves at k p c words)
  serves_moves at k p call.GetPartitionStatus words h = of_moves d names nobody k _ h (answer_goes d names nobody k.processes p service.GetPartitionStatus code.NoError (status_of k) h.named)
  serves_moves at k p (call.SetPartitionMode m) words h = set_mode_moves d names nobody at k p m h
  serves_moves at k p call.StopSelf words h = ends_body_moves d names nobody k p h
  serves_moves at k p (call.ReportApplicationMessage array length) words h = of_moves d names nobody k _ h (report_goes nobody k.processes p array length words h.named)
  serves_moves at k p call.CreateErrorHandler words h = of_errors_moves nobody k _ h (create_handler_shares nobody k.mode (with_errors k) p (record { named = h.named; fit = tt }))
  serves_moves at k p (call.GetErrorStatus array) words h = of_errors_moves nobody k _ h (error_status_shares nobody (with_errors k) p array (record { named = h.named; fit = tt }))
  serves_moves at k p (call.RaiseApplicationError e array length) words h = raise_moves d names nobody k p e array length words h
  serves_moves at k p (call.GetProcessId name) words h =
      of_moves d names (may_by p (call.GetProcessId name)) k _ h (get_process_id_goes d names (may_by p (call.GetProcessId name)) k.processes p name h.named)
  serves_moves at k p (call.GetProcessStatus id) words h =
      of_moves d names (may_by p (call.GetProcessStatus id)) k _ h (get_process_status_goes d names (may_by p (call.GetProcessStatus id)) k.processes p id h.named)
  serves_moves at k p (call.CreateProcess name) words h =
      of_moves d names (may_by p (call.CreateProcess name)) k _ h (create_process_goes d names (may_by p (call.CreateProcess name)) k.mode k.processes p name h.named)
  serves_moves at k p (call.SetPriority id v) words h = of_moves d names (may_by p (call.SetPriority id v)) k _ h (set_priority_goes d names k.processes p id v h.named)
  serves_moves at k p (call.SuspendSelf limit) words h =
      of_moves d names (may_by p (call.SuspendSelf limit)) k _ h (suspend_self_goes d names (may_by p (call.SuspendSelf limit)) at k.processes p limit h.named)
  serves_moves at k p (call.Suspend id) words h = of_moves d names (may_by p (call.Suspend id)) k _ h (suspend_goes d names (may_by p (call.Suspend id)) k.processes p id h.named)
  serves_moves at k p (call.Resume id) words h = of_moves d names (may_by p (call.Resume id)) k _ h (resume_goes d names (may_by p (call.Resume id)) k.processes p id h.named)
  serves_moves at k p (call.Stop id) words h = of_moves d names (may_by p (call.Stop id)) k _ h (stop_goes d names (may_by p (call.Stop id)) k.processes p id h.named)
  serves_moves at k p (call.Start id) words h =
      of_moves d names (may_by p (call.Start id)) k _ h (start_goes d names (may_by p (call.Start id)) k.mode at (next_release_of at k) k.processes p id h.named)
  serves_moves at k p (call.DelayedStart id delay) words h =
      of_moves d names (may_by p (call.DelayedStart id delay)) k _ h (delayed_start_goes d names (may_by p (call.DelayedStart id delay)) k.mode at
      (next_release_of at k) k.processes p id delay h.named)
  serves_moves at k p call.LockPreemption words h =
      of_moves d names (may_by p call.LockPreemption) k _ h (lock_preemption_goes d names (may_by p call.LockPreemption) k.mode k.processes p h.named)
  serves_moves at k p call.UnlockPreemption words h =
      of_moves d names (may_by p call.UnlockPreemption) k _ h (unlock_preemption_goes d names (may_by p call.UnlockPreemption) k.mode k.processes p h.named)
  serves_moves at k p call.GetMyId words h = of_moves d names (may_by p call.GetMyId) k _ h (get_my_id_goes d names (may_by p call.GetMyId) k.processes p (number_of p) h.named)
  serves_moves at k p (call.TimedWait delay) words h = of_moves d names (may_by p (call.TimedWait delay)) k _ h (timed_wait_goes d names at k.processes p delay h.named)
  serves_moves at k p call.PeriodicWait words h = of_moves d names (may_by p call.PeriodicWait) k _ h (periodic_wait_goes d names (may_by p call.PeriodicWait) k.processes p h.named)
  serves_moves at k p call.GetTime words h = of_moves d names (may_by p call.GetTime) k _ h (get_time_goes d names (may_by p call.GetTime) at k.processes p h.named)
  serves_moves at k p (call.Replenish budget) words h =
      of_moves d names (may_by p (call.Replenish budget)) k _ h (replenish_goes d names (may_by p (call.Replenish budget)) k.mode at k.processes p budget h.named)
  serves_moves at k p (call.Object c) words h =
      of_objects_moves d names (may_by p (call.Object c)) k _ h (serves_objects_shares d names k.mode at (with_objects k) p c words (record { named = h.named; fit = h.objects }))
  serves_moves at k p (call.Port c) words h =
      of_ports_moves d names (may_by p (call.Port c)) k _ h (serves_ports_shares d names k.mode at (with_ports k) p c words (record { named = h.named; fit = h.ports }))

  pub asked_moves : (at : At) (k : Kernel) (p : Runner) (a : Asks) (words : List ℤ) → IsReady d names k → Moves d names (may_asked p a) k (treats_asked at k p a words)
  asked_moves at k p Nothing words h = of_moves d names nobody k _ h (nothing_goes d names nobody k.processes h.named)
  asked_moves at k p (Calls c) words h = serves_moves at k p c words h
  asked_moves at k p (Faults e) words h = faults_moves d names nobody k p e h
  asked_moves at k p Ends words h = ends_body_moves d names nobody k p h

  -- ---- the choice changes no list

  pub record Stays (s : Processes) (t : Step Processes) : Type 0 where
    pub ready : t.part.ready ≡ s.ready
    pub queues : t.part.queues ≡ s.queues
    pub named : Named d names t.part

  stays_here : (s : Processes) → Named d names s → Stays s (nothing s)
  stays_here s h = record { ready = refl; queues = refl; named = h }

  stays_after : (s : Processes) (t u : Step Processes) → Stays s t → Stays t.part u → Stays s (after t u)
  stays_after s t u h k = record { ready = k.ready ∙ h.ready; queues = k.queues ∙ h.queues; named = k.named }

  stays_either : (s : Processes) (b : Bool) (t u : Step Processes) → Stays s t → Stays s u → Stays s (if b then t else u)
  stays_either s true t u h k = h
  stays_either s false t u h k = k

  preempts_stays : (s : Processes) (p : Runner) → Named d names s → Stays s (preempts s p (row_of s p))
  preempts_stays s p h = by_row (row_of s p) refl
    where
      by_row : (o : Option ProcessStatus) → row_of s p ≡ o → Stays s (preempts s p o)
      by_row None e = stays_here s h
      by_row (Some r) e = record { ready = refl; queues = refl; named = named_set names s.rows (place_of p) (record r { state = Ready }) h (row_is_of d names s p r h e) }

  runs_stays : (s : Processes) (p : Runner) → Named d names s → Stays s (runs s p (row_of s p))
  runs_stays s p h = by_row (row_of s p) refl
    where
      by_row : (o : Option ProcessStatus) → row_of s p ≡ o → Stays s (runs s p o)
      by_row None e = stays_here s h
      by_row (Some r) e = record { ready = refl; queues = refl; named = named_set names s.rows (place_of p) (record r { state = Running }) h (row_is_of d names s p r h e) }

  leaves_stays : (s : Processes) (o : Option Runner) → Named d names s → Stays s (leaves_processor s o)
  leaves_stays s None h = stays_here s h
  leaves_stays s (Some p) h = preempts_stays s p h

  takes_stays : (s : Processes) (o : Option Runner) → Named d names s → Stays s (takes_processor s o)
  takes_stays s None h = stays_here s h
  takes_stays s (Some p) h = runs_stays s p h

  chooses_stays : (m : Mode) (s : Processes) → Named d names s → Stays s (chooses m s)
  chooses_stays m s h =
      stays_either s (are_same s.running (pick m s)) _ _ (stays_here s h) (let l = leaves_stays s s.running h in stays_after s _ _ l (takes_stays _ (pick m s) l.named))

  wakes_handler : (s : Processes) (r : ProcessStatus) → Named d names s → row_of s runner.Handler ≡ Some r → (b : Bool)
      → Stays s (if b then nothing (put_unready s runner.Handler (record r { wait = wait.Nothing; due = None })) else record { part = put_ready s runner.Handler (record r { state = Ready; wait = wait.Nothing; due = None }); lines = event.State r.who Ready ∷ []; actions = [] })
  wakes_handler s r h e true = record { ready = refl; queues = refl; named = named_set names s.rows 1 _ h (row_is_of d names s runner.Handler r h e) }
  wakes_handler s r h e false = record { ready = refl; queues = refl; named = named_set names s.rows 1 _ h (row_is_of d names s runner.Handler r h e) }

  begins_stays : (s : Processes) → Named d names s → Stays s (begins_if_dormant s (row_of s runner.Handler))
  begins_stays s h = by_row (row_of s runner.Handler) refl
    where
      by_row : (o : Option ProcessStatus) → row_of s runner.Handler ≡ o → Stays s (begins_if_dormant s o)
      by_row None e = stays_here s h
      by_row (Some r) e =
          stays_either s (r.created && is_dormant r) _ _ (stays_after s (begins s runner.Handler) _ (record { ready = refl; queues = refl; named = h }) (wakes_handler s r h e r.suspended))
          (stays_here s h)

  pub handler_stays : (m : Mode) (b : sharing.Sharing Errors) → Named d names b.processes → Stays b.processes (starts_handler m b)
  handler_stays m b h = stays_either b.processes (is_normal m && is_waiting b.shared.waiting) _ _ (begins_stays b.processes h) (stays_here b.processes h)

  pub choice_stays : (k : Kernel) → Named d names k.processes → Stays k.processes (lifted (λ (x : Kernel). x.processes) (chooses_with_handler k))
  choice_stays k h =
      let l = handler_stays k.mode (with_errors k) h in
      stays_after k.processes (starts_handler k.mode (with_errors k)) _ l (chooses_stays k.mode _ l.named)

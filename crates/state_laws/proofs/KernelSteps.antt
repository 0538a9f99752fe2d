-- The lines of what a runner asks for agree with it, and it spends the tick.
use Rattle.std.proofs.Common.{◌≡◌, ◌≢◌, ℕ, suc, ℤ, pos, Bool, true, false, not, List, [], ◌∷◌, Option, Some, None, refl, sym, ap, ◌∙◌, subst, ◌++◌, arith}
use Rattle.std.specs.Prelude.{◌&&◌, slice_get, if◌then◌else◌, is_some}
use Rattle.std.specs.Ordering.{int_eq}
use Rattle.std.proofs.lemmas.Bool.{false≢true}
use Rattle.std.proofs.lemmas.Option.{none-some}
use Rattle.apex_types.specs.Runners.{place_of}
use Rattle.apex_types.specs.declared.codes.ErrorKind.{ErrorKind}
use Rattle.apex_types.specs.declared.codes.ErrorKind.TheVariants as error
use Rattle.apex_types.specs.declared.codes.Mode.{Mode}
use Rattle.apex_types.specs.declared.codes.Mode.TheVariants as mode
use Rattle.apex_types.specs.declared.codes.PartitionAction.{PartitionAction}
use Rattle.apex_types.specs.declared.codes.PartitionAction.TheVariants as action
use Rattle.apex_types.specs.declared.codes.ProcessState.TheVariants.{Dormant}
use Rattle.apex_types.specs.declared.codes.Response.{Response}
use Rattle.apex_types.specs.declared.codes.Response.TheVariants as response
use Rattle.apex_types.specs.declared.codes.ReturnCode.{ReturnCode}
use Rattle.apex_types.specs.declared.codes.ReturnCode.TheVariants as code
use Rattle.apex_types.specs.declared.codes.StartCondition.{StartCondition}
use Rattle.apex_types.specs.declared.codes.StartCondition.TheVariants as condition
use Rattle.apex_types.specs.declared.event.EventKind.TheVariants as event
use Rattle.apex_types.specs.declared.event.Subject.TheVariants.{Init, Handler, Process}
use Rattle.apex_types.specs.declared.event.Subject.{Subject}
use Rattle.apex_types.specs.declared.identity.At.{At}
use Rattle.apex_types.specs.declared.identity.Runner.{Runner}
use Rattle.apex_types.specs.declared.identity.Runner.TheVariants as runner
use Rattle.apex_types.specs.declared.process.ProcessStatus.{ProcessStatus}
use Rattle.apex_types.specs.declared.process.Wait.TheVariants as wait
use Rattle.apex_types.specs.declared.process.WaitingError.{WaitingError}
use Rattle.apex_types.specs.declared.service.ArrayPlace.{ArrayPlace}
use Rattle.apex_types.specs.declared.service.Call.{Call}
use Rattle.apex_types.specs.declared.service.Call.TheVariants as call
use Rattle.apex_types.specs.declared.service.Service.TheVariants as service
use Rattle.engine_meaning.specs.Engine.{Asks, Nothing, Calls, Faults, Ends}
use Rattle.kernel_laws.proofs.Places.{get_set_same}
use Rattle.kernel_laws.specs.WhoWaits.{AreWaiting}
use Rattle.kernel_meaning.specs.HealthServices.{report, is_message_length, create_error_handler, creates_found, is_handler_created, get_error_status, takes_error, raises, waits_or_leaves, response_of, is_fault, tells_error, then_acts, handles, faults, leaves_none, raises_application_error}
use Rattle.kernel_meaning.specs.Kernel.{Errors, Kernel, of_processes, with_errors, with_objects, with_ports}
use Rattle.kernel_meaning.specs.Partition.{serves, treats_asked}
use Rattle.kernel_meaning.specs.PartitionServices.{clears, next_release_of, starts_normally, mode_of, wants, is_warm, is_cold, set_partition_mode, ends_body, enters_normal}
use Rattle.kernel_meaning.specs.PartitionServices as services
use Rattle.kernel_meaning.specs.Processes.{Processes, row_of, is_normal, is_same, rests, rests_found, not_running, refuses, subject, answers, who_of}
use Rattle.kernel_meaning.specs.ProcessServices.{number_of}
use Rattle.kernel_meaning.specs.Sharing as sharing
use Rattle.kernel_meaning.specs.Sharing.{Sharing, is_large_enough}
use Rattle.apex_types.specs.declared.limits.TheConstants.{MOST_REPORT_WORDS}
use Rattle.kernel_meaning.specs.Step.{Step, after, first_words, lifted}
use Rattle.kernel_meaning.specs.Times.{start_all_waiting}
use Rattle.state_laws.specs.Told.{Told, cleared, expected, is_init, worked_in, worker_by_lines, running_or, is_from_outside}
use Rattle.state_laws.specs.Starts.{has_start, starts_of}
use Rattle.state_laws.specs.States.{who_runs}
use Rattle.state_laws.proofs.Starting.{AreSaid, TellsStarts, no_start, none_said, said_both, starts_after, starts_none}
use Rattle.state_laws.proofs.Agreement.{AreDistinct, Kept, agrees_after, reads, reads_both, IsRunning, KernelAgrees, Goes, either as either_goes}
use Rattle.state_laws.proofs.Changes.{kept, rests_found_goes, rests_goes}
use Rattle.state_laws.proofs.Clears.{clears_go, cleared_worker}
use Rattle.state_laws.proofs.Objects.{objects_go, ports_go}
use Rattle.state_laws.proofs.Services.{still_running, all_start_go, stop_self_goes, get_process_id_goes, get_process_status_goes, create_process_goes, set_priority_goes, suspend_self_goes, suspend_goes, resume_goes, stop_goes, start_goes, delayed_start_goes, lock_preemption_goes, unlock_preemption_goes, get_my_id_goes, timed_wait_goes, periodic_wait_goes, replenish_goes}
use Rattle.state_laws.proofs.Subjects.{runner_itself}

-- After a step of the kernel: with its lines what is told agrees, and in some respect the same is told. The starts are told, each after a line that gives its
-- condition, if it is so of the line before the step.
pub record GoesAfter {A : Type 0} (Before : Option StartCondition → Type 0) (of : Told → A) (tick : ℕ) (t : Told) (s : Step Kernel) : Type 0 where
  pub agrees : KernelAgrees (reads tick t s.lines) s.part
  pub same : of (reads tick t s.lines) ≡ of t
  pub starts : TellsStarts tick t s
  pub said : (last : Option StartCondition) → Before last → AreSaid tick last t s.lines

-- after any line
abbrev pub KernelGoes : {A : Type 0} → (of : Told → A) → ℕ → Told → Step Kernel → Type 0
KernelGoes of tick t s = GoesAfter (λ last. Unit {0}) of tick t s

-- after one that gives the condition of the next start
abbrev pub KernelFollows : {A : Type 0} → (of : Told → A) → ℕ → Told → Step Kernel → Type 0
KernelFollows of tick t s = GoesAfter (λ last. last ≡ Some t.next) of tick t s

module _ {A : Type 0} (of : Told → A) (tick : ℕ) where
  pub any_follows : (t : Told) (s : Step Kernel) → KernelGoes of tick t s → KernelFollows of tick t s
  any_follows t s g = record { agrees = g.agrees; same = g.same; starts = g.starts; said = λ last is. g.said last tt }

  -- a step of processes makes no start
  pub same_starts : (t : Told) (s : Step Processes) → Goes of tick t s → (reads tick t s.lines).starts ≡ t.starts
  same_starts t s g = ap (λ (x : Kept). x.starts) g.mode

  pub goes_without : (t : Told) (s : Step Kernel) → KernelAgrees (reads tick t s.lines) s.part → of (reads tick t s.lines) ≡ of t → (reads tick t s.lines).starts ≡ t.starts → KernelGoes of tick t s
  goes_without t s agrees same e = record { agrees = agrees; same = same; starts = starts_none tick t s e; said = λ last b. none_said tick last t s.lines (no_start tick t s.lines e) }

  pub of_goes : (t : Told) (k : Kernel) (s : Step Processes) → KernelAgrees t k → Goes of tick t s → KernelGoes of tick t (of_processes k s)
  of_goes t k s h g = goes_without t (of_processes k s) (agrees_after t (reads tick t s.lines) k (of_processes k s).part h g.mode refl g.agrees) g.same (same_starts t s g)

  -- the first of two steps makes no start
  pub kernel_in_turn : (t : Told) (s u : Step Kernel) → has_start s.lines ≡ false → KernelGoes of tick t s → KernelGoes of tick (reads tick t s.lines) u → KernelGoes of tick t (after s u)
  kernel_in_turn t s u none h k =
      let e = reads_both tick t s.lines u.lines in
      record {
        agrees = subst (λ (v : Told). KernelAgrees v u.part) (sym e) k.agrees;
        same = ap of e ∙ k.same ∙ h.same;
        starts = starts_after tick t s u none h.starts k.starts;
        said = λ last b. said_both tick last t s.lines u.lines (h.said last tt) (λ x. k.said x tt);
      }

-- ---- responses to errors

pub same_twice : (b : Bool) (t : Told) → (if b then t else t) ≡ t
same_twice true t = refl
same_twice false t = refl

no_lines : (p : Runner) (e : ErrorKind) (words : List ℤ) (r : Response) → (waits_or_leaves p e words r).lines ≡ []
no_lines runner.Init e words response.Handler = refl
no_lines runner.Handler e words response.Handler = refl
no_lines (runner.Process p) e words response.Handler = refl
no_lines p e words (response.Partition a) = refl
no_lines p e words (response.Module a) = refl

abbrev is_init_runner : Runner → Bool
is_init_runner runner.Init = true
is_init_runner _ = false

module _ (tick : ℕ) (t : Told) where
  abbrev Works : Step Kernel → Type 0
  Works s = KernelGoes (worker_by_lines tick) tick t s

  either : (b : Bool) (s u : Step Kernel) → Works s → Works u → Works (if b then s else u)
  either true s u h k = h
  either false s u h k = k

  module _ (k : Kernel) (h : KernelAgrees t k) where
    stays : (actions : List _) → Works (record { part = k; lines = []; actions = actions })
    stays actions = record { agrees = h; same = refl; starts = refl; said = λ last b. tt }

    of_works : (s : Step Processes) → Goes (worker_by_lines tick) tick t s → Works (of_processes k s)
    of_works s g = of_goes (worker_by_lines tick) tick t k s h g

    -- the partition becomes idle by itself
    idles_works : Works (clears k mode.Idle condition.PartitionRestart)
    idles_works =
        let named = h.processes.named in
        let g = clears_go tick t k mode.Idle condition.PartitionRestart named refl h.orderly h.next in
        record { agrees = g.agrees; same = cleared_worker tick t (clears k mode.Idle condition.PartitionRestart) g; starts = g.starts; said = λ last b. none_said tick last t (event.Mode mode.Idle ∷ []) refl }

-- the next start condition is not another one
pub same_next : (t : Told) (k : Kernel) → KernelAgrees t k → KernelAgrees (record t { next = t.next }) k
same_next t k h = record { mode = h.mode; condition = h.condition; next = h.next; orderly = h.orderly; processes = record { named = h.processes.named; states = h.processes.states; running = h.processes.running; runs = h.processes.runs } }

no_later : (rows : List ProcessStatus) (i : ℕ) {r : ProcessStatus} → slice_get rows 0 ≡ None → slice_get rows (suc i) ≡ Some r → ⊥
no_later [] i {r} e f = none-some r f
no_later (x ∷ xs) i e f = none-some x (sym e)

-- INIT has the first record, and no other
init_is_init : (s : Processes) → AreDistinct s.rows → (p : Runner) (r : ProcessStatus) → row_of s p ≡ Some r → is_init (Some (subject s p)) ≡ is_init_runner p
init_is_init s named p r there = ap (λ (o : Option ProcessStatus). is_init (Some (who_of o))) there ∙ by_runner p there
  where
    other : (w : Subject) → w ≢ Init → is_init (Some w) ≡ false
    other Init n = absurd (n refl)
    other Handler n = refl
    other (Process name) n = refl

    later : (i : ℕ) → slice_get s.rows (suc i) ≡ Some r → r.who ≢ Init
    later i here e = by_first (slice_get s.rows 0) refl
      where
        by_first : (o : Option ProcessStatus) → slice_get s.rows 0 ≡ o → ⊥
        by_first None f = no_later s.rows i f here
        by_first (Some x) f = let is = named.apart (suc i) 0 r x here f (e ∙ sym (named.first x f)) in absurd (omega (arith, is))

    by_runner : (q : Runner) → row_of s q ≡ Some r → is_init (Some r.who) ≡ is_init_runner q
    by_runner runner.Init here = ap (λ (w : Subject). is_init (Some w)) (named.first r here)
    by_runner runner.Handler here = other r.who (later 0 here)
    by_runner (runner.Process i) here = other r.who (later (suc i.0) here)

module _ (tick : ℕ) (t : Told) (k : Kernel) where
  -- a Clear with the condition that is expected
  clears_follows : (m : Mode) (c : StartCondition) → AreDistinct k.processes.rows → t.orderly ≡ true → is_normal m ≡ false → t.next ≡ c → KernelFollows (worker_by_lines tick) tick t (clears k m c)
  clears_follows m c named orderly other n =
      let g = clears_go tick t k m c named other orderly n in
      record { agrees = g.agrees; same = cleared_worker tick t (clears k m c) g; starts = g.starts; said = g.said }

module _ (tick : ℕ) (t : Told) (k : Kernel) (h : KernelAgrees t k) (p : Runner) (e : ErrorKind) (words : List ℤ) where
  abbrev who : Subject
  who = subject k.processes p

  abbrev raised : Response → Step (Option PartitionAction)
  raised how = after (tells_error None e (Some who) how) (waits_or_leaves p e words how)

  -- the error waits for the handler
  by_handler : (q : Runner) → KernelGoes (worker_by_lines tick) tick t (then_acts k q e (after (tells_error None e (Some who) response.Handler) (waits_or_leaves q e words response.Handler)))
  by_handler runner.Init = record { agrees = h; same = refl; starts = refl; said = λ last b. (tt, tt) }
  by_handler runner.Handler = record { agrees = h; same = refl; starts = refl; said = λ last b. (tt, tt) }
  by_handler (runner.Process i) = record { agrees = h; same = refl; starts = refl; said = λ last b. (tt, tt) }

  -- a step from what is told after the line of the error: with its lines what is told agrees, and the same spends the tick
  pub record Leads (w : Told) (s : Step Kernel) : Type 0 where
    pub agrees : KernelAgrees (reads tick w s.lines) s.part
    pub same : worker_by_lines tick (reads tick w s.lines) ≡ worker_by_lines tick t
    pub starts : (reads tick w s.lines).starts ≡ starts_of tick s ++ t.starts
    pub said : AreSaid tick (Some condition.HmPartitionRestart) w s.lines

  -- The partition is cleared. If the error is from outside, nobody ran.
  leads_to : (m : Mode) → is_normal m ≡ false → (outside : Bool) → (outside ≡ true → t.running ≡ None)
      → Leads (record (if outside then cleared t else t) { next = condition.HmPartitionRestart }) (clears k m condition.HmPartitionRestart)
  leads_to m other true none =
      let g = clears_follows tick (record (cleared t) { next = condition.HmPartitionRestart }) k m condition.HmPartitionRestart h.processes.named h.orderly other refl in
      record { agrees = g.agrees; same = g.same ∙ sym (ap (λ (o : Option Subject). running_or o (worked_in tick t.worked)) (none refl)); starts = g.starts; said = g.said (Some condition.HmPartitionRestart) refl }
  leads_to m other false none =
      let g = clears_follows tick (record t { next = condition.HmPartitionRestart }) k m condition.HmPartitionRestart h.processes.named h.orderly other refl in
      record { agrees = g.agrees; same = g.same; starts = g.starts; said = g.said (Some condition.HmPartitionRestart) refl }

  -- an ignored error leads to nothing
  leads_nowhere : (outside : Bool) → Leads (record (if outside then t else t) { next = t.next }) (record { part = k; lines = []; actions = [] })
  leads_nowhere true = record { agrees = same_next t k h; same = refl; starts = refl; said = tt }
  leads_nowhere false = record { agrees = same_next t k h; same = refl; starts = refl; said = tt }

  -- but a fault of INIT leaves the partition idle
  of_init : (fault init outside : Bool) → (fault ≡ true → init ≡ true)
      → Leads (record (if outside then t else t) { next = expected (fault && init) t.next }) (if fault then clears k mode.Idle condition.HmPartitionRestart else record { part = k; lines = []; actions = [] })
  of_init true true true is = leads_to mode.Idle refl false (λ f. absurd (false≢true f))
  of_init true true false is = leads_to mode.Idle refl false (λ f. absurd (false≢true f))
  of_init true false outside is = absurd (false≢true (is refl))
  of_init false init outside is = leads_nowhere outside

  of_other : (fault init outside : Bool) → (fault ≡ true → init ≡ false) → Leads (record (if outside then t else t) { next = expected (fault && init) t.next }) (record { part = k; lines = []; actions = [] })
  of_other true true outside is = absurd (false≢true (sym (is refl)))
  of_other true false outside is = leads_nowhere outside
  of_other false init outside is = leads_nowhere outside

  by_ignore : (q : Runner) → (is_fault e ≡ true → is_init (Some who) ≡ is_init_runner q) → KernelGoes (worker_by_lines tick) tick t (then_acts k q e (raised (response.Partition action.Ignore)))
  by_ignore runner.Init is = let g = of_init (is_fault e) (is_init (Some who)) (is_from_outside e) is in record { agrees = g.agrees; same = g.same; starts = g.starts; said = λ last b. (tt, g.said) }
  by_ignore runner.Handler is = let g = of_other (is_fault e) (is_init (Some who)) (is_from_outside e) is in record { agrees = g.agrees; same = g.same; starts = g.starts; said = λ last b. (tt, g.said) }
  by_ignore (runner.Process i) is = let g = of_other (is_fault e) (is_init (Some who)) (is_from_outside e) is in record { agrees = g.agrees; same = g.same; starts = g.starts; said = λ last b. (tt, g.said) }

  module _ (none : is_from_outside e ≡ true → t.running ≡ None) (is : is_fault e ≡ true → is_init (Some who) ≡ is_init_runner p) where
    by_response : (how : Response) → KernelGoes (worker_by_lines tick) tick t (then_acts k p e (raised how))
    by_response response.Handler = by_handler p
    by_response (response.Module a) = record { agrees = h; same = refl; starts = refl; said = λ last b. (tt, tt) }
    by_response (response.Partition action.Ignore) = by_ignore p is
    by_response (response.Partition action.Idle) = let g = leads_to mode.Idle refl (is_from_outside e) none in record { agrees = g.agrees; same = g.same; starts = g.starts; said = λ last b. (tt, g.said) }
    by_response (response.Partition action.WarmStart) = let g = leads_to mode.WarmStart refl (is_from_outside e) none in record { agrees = g.agrees; same = g.same; starts = g.starts; said = λ last b. (tt, g.said) }
    by_response (response.Partition action.ColdStart) = let g = leads_to mode.ColdStart refl (is_from_outside e) none in record { agrees = g.agrees; same = g.same; starts = g.starts; said = λ last b. (tt, g.said) }

    -- An error while nobody runs, or one that is not from outside. If it is one from outside, all are gone with its line, and then cleared.
    pub handles_works : KernelGoes (worker_by_lines tick) tick t (handles k p e words)
    handles_works = by_response (response_of k.fixed.health k.mode (with_errors k) p e)

-- ---- the mode

enters_works : (tick : ℕ) (t : Told) (k : Kernel) → KernelAgrees t k → Works tick t (enters_normal k)
enters_works tick t k h =
    let p = h.processes in
    record {
      agrees = record { mode = refl; condition = h.condition; next = h.next; orderly = h.orderly; processes = record { named = p.named; states = p.states; running = p.running; runs = p.runs } };
      same = refl;
      starts = refl;
      said = λ last b. ((λ f. absurd (false≢true f)), tt);
    }

module _ (tick : ℕ) (t : Told) (k : Kernel) (h : KernelAgrees t k) where
  abbrev Holds : Step Kernel → Type 0
  Holds s = KernelGoes (worker_by_lines tick) tick t s

  pub normally_works : (at : At) → Holds (starts_normally at k)
  normally_works at =
      let i = of_processes k (rests_found k.processes runner.Init (row_of k.processes runner.Init)) in
      let r = rests_found_goes tick t k.processes h.processes runner.Init in
      let a = of_works tick t k h _ r in
      let u = reads tick t i.lines in
      let n = enters_normal i.part in
      let b = enters_works tick u i.part a.agrees in
      let v = reads tick u n.lines in
      let s = start_all_waiting at (next_release_of at k) n.part.processes in
      let c = of_works tick v n.part b.agrees s (all_start_go tick at (next_release_of at k) v n.part.processes b.agrees.processes) in
      kernel_in_turn (worker_by_lines tick) tick t i (after n (of_processes n.part s)) (no_start tick t i.lines (same_starts (worker_by_lines tick) tick t _ r)) a
      (kernel_in_turn (worker_by_lines tick) tick u n (of_processes n.part s) refl b c)

  -- with the line of the service's answer before it, which gives the condition
  follows_answer : (p : Runner) (u : Step Kernel) → KernelFollows (worker_by_lines tick) tick t u → Holds (after (of_processes k (answers k.processes p service.SetPartitionMode code.NoError [])) u)
  follows_answer p u g = record { agrees = g.agrees; same = g.same; starts = g.starts; said = λ last b. (tt, g.said (Some condition.PartitionRestart) (ap Some (sym h.next))) }

  set_mode_works : (at : At) (p : Runner) (m : ℤ) → Holds (set_partition_mode at k p m)
  set_mode_works at p m =
      either tick t (not (is_some (mode_of m))) _ _ (refused code.InvalidParam)
      (either tick t (wants is_normal (mode_of m) && is_normal k.mode) _ _ (refused code.NoAction)
      (either tick t (wants is_warm (mode_of m) && is_cold k.mode) _ _ (refused code.InvalidMode)
      (follows_answer p (services.enters_mode at k (mode_of m)) (enters (mode_of m)))))
    where
      refused : (c : ReturnCode) → Holds (of_processes k (refuses k.processes p service.SetPartitionMode c))
      refused c = record { agrees = h; same = refl; starts = refl; said = λ last b. (tt, tt) }

      enters : (o : Option Mode) → KernelFollows (worker_by_lines tick) tick t (services.enters_mode at k o)
      enters None = any_follows (worker_by_lines tick) tick t _ (stays tick t k h [])
      enters (Some mode.Normal) = any_follows (worker_by_lines tick) tick t _ (normally_works at)
      enters (Some mode.Idle) = clears_follows tick t k mode.Idle condition.PartitionRestart h.processes.named h.orderly refl h.next
      enters (Some mode.ColdStart) = clears_follows tick t k mode.ColdStart condition.PartitionRestart h.processes.named h.orderly refl h.next
      enters (Some mode.WarmStart) = clears_follows tick t k mode.WarmStart condition.PartitionRestart h.processes.named h.orderly refl h.next

  pub ends_body_works : (p : Runner) → Holds (ends_body k p)
  ends_body_works runner.Init = idles_works tick t k h
  ends_body_works runner.Handler = of_works tick t k h _ (stop_self_goes tick t k.processes h.processes runner.Handler)
  ends_body_works (runner.Process p) = of_works tick t k h _ (stop_self_goes tick t k.processes h.processes (runner.Process p))

  -- ---- a fault of the current runner

  -- it rests first, and then nobody runs
  pub faults_works : (p : Runner) (e : ErrorKind) → k.processes.running ≡ Some p → Holds (faults k p e)
  faults_works p e current = by_row (row_of k.processes p) refl
    where
      by_row : (o : Option ProcessStatus) → row_of k.processes p ≡ o → Holds (let s = of_processes k (rests_found k.processes p o) in after s (handles s.part p e []))
      by_row None there = absurd (let runs = h.processes.runs p current in subst (IsRunning p) there runs)
      by_row (Some r) there =
          let rest = rests_goes tick t k.processes h.processes p r there in
          let s = of_processes k (rests k.processes p r) in
          let a = of_works tick t k h _ rest in
          let u = reads tick t s.lines in
          let still : not_running p k.processes.running ≡ None = ap (not_running p) current ∙ ap (λ (b : Bool). if b then None else Some p) (runner_itself p) in
          let none : u.running ≡ None = a.agrees.processes.running ∙ ap (who_runs s.part.processes.rows) still in
          let own : is_init (Some (subject s.part.processes p)) ≡ is_init_runner p =
          init_is_init s.part.processes a.agrees.processes.named p (record r { state = Dormant; suspended = false; wait = wait.Nothing; due = None; deadline = None }) (get_set_same k.processes.rows (place_of p) r _ there) in
          kernel_in_turn (worker_by_lines tick) tick t s (handles s.part p e []) (no_start tick t s.lines (same_starts (worker_by_lines tick) tick t _ rest)) a
          (handles_works tick u s.part a.agrees p e [] (λ f. none) (λ f. own))

  -- an error that the program raises
  raise_works : (p : Runner) (e : ℤ) (array : ArrayPlace) (size : ℤ) (words : List ℤ) → Holds (raises_application_error k p e array size words)
  raise_works p e array size words = by_tests (not (int_eq e (pos 1))) (not (is_message_length array.size size))
    where
      refused : Step (Option PartitionAction)
      refused = leaves_none (refuses k.processes p service.RaiseApplicationError code.InvalidParam)

      raising : Step (Option PartitionAction)
      raising =
          after (leaves_none (answers k.processes p service.RaiseApplicationError code.NoError []))
          (raises k.fixed.health k.mode (with_errors k) p error.ApplicationError (first_words size words))

      by_tests : (b c : Bool) → Holds (then_acts k p error.ApplicationError (if b then refused else if c then refused else raising))
      by_tests true c = record { agrees = h; same = refl; starts = refl; said = λ last x. (tt, tt) }
      by_tests false true = record { agrees = h; same = refl; starts = refl; said = λ last x. (tt, tt) }
      by_tests false false =
          let g = handles_works tick t k h p error.ApplicationError (first_words size words) (λ f. absurd (false≢true f)) (λ f. absurd (false≢true f)) in
          record { agrees = g.agrees; same = g.same; starts = g.starts; said = λ last x. (tt, g.said None tt) }

  -- ---- the services on errors

  module _ (p : Runner) where
    abbrev Shares : Step (Sharing Errors) → Type 0
    Shares s = Goes (worker_by_lines tick) tick t (lifted (λ (x : Sharing Errors). x.processes) s)

    either_shared : (b : Bool) (s u : Step (Sharing Errors)) → Shares s → Shares u → Shares (if b then s else u)
    either_shared true s u g l = g
    either_shared false s u g l = l

    told_errors : (v : _) (c : _) (outputs : List ℤ) → Shares (sharing.answers (with_errors k) p v c outputs)
    told_errors v c outputs = record { agrees = h.processes; mode = refl; same = refl }

    creates_goes : (o : Option ProcessStatus) → row_of k.processes runner.Handler ≡ o → Goes (worker_by_lines tick) tick t (creates_found k.processes runner.Handler o)
    creates_goes None there = record { agrees = h.processes; mode = refl; same = refl }
    creates_goes (Some r) there = record {
      agrees = kept tick t k.processes h.processes runner.Handler r (record r { created = true }) there refl refl (still_running runner.Handler r (record r { created = true }) refl refl refl refl);
      mode = refl;
      same = refl;
    }

    create_handler_goes : Shares (create_error_handler k.mode (with_errors k) p)
    create_handler_goes =
        let c = creates_goes (row_of k.processes runner.Handler) refl in
        either_shared (is_normal k.mode) _ _ (told_errors _ _ _) (either_shared (not k.errors.has_handler) _ _ (told_errors _ _ _) (either_shared (is_handler_created k.processes) _
        (after (sharing.answers (with_errors k) p service.CreateErrorHandler code.NoError []) (sharing.of_processes (with_errors k) (creates_found k.processes runner.Handler (row_of k.processes runner.Handler))))
        (told_errors _ _ _) (record { agrees = c.agrees; mode = c.mode; same = c.same })))

    takes_error_goes : (array : ArrayPlace) (es : List WaitingError) → Shares (takes_error (with_errors k) p array es)
    takes_error_goes array [] = told_errors _ _ _
    takes_error_goes array (e ∷ es) = record { agrees = h.processes; mode = refl; same = refl }

    error_status_goes : (array : ArrayPlace) → Shares (get_error_status (with_errors k) p array)
    error_status_goes array =
        either_shared (not (is_same p runner.Handler)) _ _ (told_errors _ _ _) (either_shared (not (is_large_enough MOST_REPORT_WORDS array)) _ _ (told_errors _ _ _) (takes_error_goes array k.errors.waiting))

    report_goes : (array : ArrayPlace) (size : ℤ) (words : List ℤ) → Goes (worker_by_lines tick) tick t (report k.processes p array size words)
    report_goes array size words =
        either_goes (worker_by_lines tick) tick t (not (is_message_length array.size size)) _ _ (record { agrees = h.processes; mode = refl; same = refl }) (record { agrees = h.processes; mode = refl; same = refl })

    -- ---- what the current runner asks for

    module _ (current : k.processes.running ≡ Some p) (w : AreWaiting k.processes.rows k.processes.queues) where
      serves_works : (at : At) (c : Call) (words : List ℤ) → Holds (serves at k p c words)
      serves_works at call.GetPartitionStatus words = record { agrees = h; same = refl; starts = refl; said = λ last b. (tt, tt) }
      serves_works at (call.SetPartitionMode m) words = set_mode_works at p m
      serves_works at call.StopSelf words = ends_body_works p
      serves_works at (call.ReportApplicationMessage array size) words = of_works tick t k h _ (report_goes array size words)
      serves_works at call.CreateErrorHandler words = let g = create_handler_goes in goes_without (worker_by_lines tick) tick t _ (agrees_after t _ k _ h g.mode refl g.agrees) g.same (ap (λ (x : Kept). x.starts) g.mode)
      serves_works at (call.GetErrorStatus array) words = let g = error_status_goes array in goes_without (worker_by_lines tick) tick t _ (agrees_after t _ k _ h g.mode refl g.agrees) g.same (ap (λ (x : Kept). x.starts) g.mode)
      serves_works at (call.RaiseApplicationError e array size) words = raise_works p e array size words
      serves_works at (call.GetProcessId name) words = of_works tick t k h _ (get_process_id_goes tick t k.processes h.processes p name)
      serves_works at (call.GetProcessStatus id) words = of_works tick t k h _ (get_process_status_goes tick t k.processes h.processes p id)
      serves_works at (call.CreateProcess name) words = of_works tick t k h _ (create_process_goes tick t k.processes h.processes p k.mode name)
      serves_works at (call.SetPriority id v) words = of_works tick t k h _ (set_priority_goes tick t k.processes h.processes p id v)
      serves_works at (call.SuspendSelf limit) words = of_works tick t k h _ (suspend_self_goes tick t k.processes h.processes p at limit)
      serves_works at (call.Suspend id) words = of_works tick t k h _ (suspend_goes tick t k.processes h.processes p id)
      serves_works at (call.Resume id) words = of_works tick t k h _ (resume_goes tick t k.processes h.processes p id)
      serves_works at (call.Stop id) words = of_works tick t k h _ (stop_goes tick t k.processes h.processes p id)
      serves_works at (call.Start id) words = of_works tick t k h _ (start_goes tick t k.processes h.processes p k.mode at (next_release_of at k) id)
      serves_works at (call.DelayedStart id delay) words = of_works tick t k h _ (delayed_start_goes tick t k.processes h.processes p k.mode at (next_release_of at k) id delay)
      serves_works at call.LockPreemption words = of_works tick t k h _ (lock_preemption_goes tick t k.processes h.processes p k.mode)
      serves_works at call.UnlockPreemption words = of_works tick t k h _ (unlock_preemption_goes tick t k.processes h.processes p k.mode)
      serves_works at call.GetMyId words = of_works tick t k h _ (get_my_id_goes tick t k.processes h.processes p (number_of p))
      serves_works at (call.TimedWait delay) words = of_works tick t k h _ (timed_wait_goes tick t k.processes h.processes p at delay)
      serves_works at call.PeriodicWait words = of_works tick t k h _ (periodic_wait_goes tick t k.processes h.processes p)
      serves_works at call.GetTime words = record { agrees = h; same = refl; starts = refl; said = λ last b. (tt, tt) }
      serves_works at (call.Replenish budget) words = of_works tick t k h _ (replenish_goes tick t k.processes h.processes p k.mode at budget)
      serves_works at (call.Object c) words = let g = objects_go tick t (with_objects k) h.processes w p k.mode at c words in goes_without (worker_by_lines tick) tick t _ (agrees_after t _ k _ h g.mode refl g.agrees) g.same (ap (λ (x : Kept). x.starts) g.mode)
      serves_works at (call.Port c) words = let g = ports_go tick t (with_ports k) h.processes p k.mode at c words in goes_without (worker_by_lines tick) tick t _ (agrees_after t _ k _ h g.mode refl g.agrees) g.same (ap (λ (x : Kept). x.starts) g.mode)

      pub asked_works : (at : At) (a : Asks) (words : List ℤ) → Holds (treats_asked at k p a words)
      asked_works at Nothing words = stays tick t k h []
      asked_works at (Calls c) words = serves_works at c words
      asked_works at (Faults e) words = faults_works p e current
      asked_works at Ends words = ends_body_works p

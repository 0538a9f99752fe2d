-- Steps of a partition continue the numbers.
use Rattle.kernel_laws.proofs.Prelude.{Bool, List, None, Option, Some, false, refl, suc, true, zero, ℕ, ℤ, ◌∷◌, ◌≡◌, if◌then◌else◌, is_some, nat_le, not, pos, slice_get, ◌&&◌, Discipline, ErrorKind, Mode, PartitionAction, Ready, ReturnCode, StartCondition, At, ListKey, ProcessIndex, Runner, Due, ProcessStatus, Wait, ArrayPlace, Treated, due_from, ends_wait, is_past, misses, mode_of_action, tick_of, timed_out, treated_after, treats, treats_deadline, breaks, is_message_length, acts_on_error, faults, is_fault, then_clears, raises_application_error, raises, action_of, raise_application_error, Kernel, of_objects, of_ports, with_objects, with_ports, of_processes, with_errors, Objects, treats_due, clears, next_release_of, ends_body, enters_mode, forgotten, is_cold, is_warm, mode_of, ready_init, set_partition_mode, started_rows, starts_normally, wants, Ports, discipline_of, Processes, index, is_normal, rests_found, row_of, Sharing, released_at, start_from, starts_if_waiting, starts_waiting, Step, after, lifted, nothing, row, first_words, AreNamed, Goes, called, HaveDisciplines, PortsHaveDisciplines, May, nobody}
use Rattle.std.proofs.Common.{[]}
use Rattle.std.specs.Ordering.{int_eq}
use Rattle.std.specs.Prelude.{length, map, ◌+◌}
use Rattle.apex_types.specs.declared.codes.Discipline.TheVariants as discipline
use Rattle.apex_types.specs.declared.codes.ErrorKind.TheVariants as error
use Rattle.apex_types.specs.declared.codes.Mode.TheVariants as mode
use Rattle.apex_types.specs.declared.codes.Response.{Response}
use Rattle.apex_types.specs.declared.codes.Response.TheVariants as response
use Rattle.apex_types.specs.declared.codes.ReturnCode.TheVariants as code
use Rattle.apex_types.specs.declared.codes.StartCondition.TheVariants as condition
use Rattle.apex_types.specs.declared.identity.ListKey.TheVariants as key
use Rattle.apex_types.specs.declared.identity.Runner.TheVariants as runner
use Rattle.apex_types.specs.declared.process.Due.TheVariants as due_time
use Rattle.apex_types.specs.declared.process.Wait.TheVariants as wait
use Rattle.apex_types.specs.declared.service.Service.TheVariants as service
use Rattle.kernel_meaning.specs.Times as due
use Rattle.kernel_meaning.specs.HealthServices.{handles, queues, then_acts, waits_or_leaves, leaves_none, response_of, tells_error}
use Rattle.kernel_meaning.specs.HealthServices as health
use Rattle.kernel_meaning.specs.Objects.{cleared_blackboard, cleared_buffer, cleared_event, cleared_semaphore}
use Rattle.kernel_meaning.specs.PartitionServices.{clear_lines, enters_normal}
use Rattle.kernel_meaning.specs.Objects.{cleared_port}
use Rattle.kernel_meaning.specs.Processes.{refuses}
use Rattle.kernel_meaning.specs.Sharing as sharing
use Rattle.kernel_laws.proofs.OfProcesses.{normal_goes}
use Rattle.kernel_laws.proofs.Primitives.{in_order_cleared, named_at, named_map, named_set}
use Rattle.kernel_laws.proofs.Shares.{Shares, each_map}
use Rattle.kernel_laws.proofs.NumberSteps.{Named, IsOf, nothing_goes, either_goes, after_goes, put_goes, rests_goes, release_goes, row_is_of, refuse_goes, answer_goes}

module _ (d : ListKey → Discipline) (names : List (List ℕ)) where
  -- a step of a partition's kernel, and what it needs
  pub record Moves (may : May) (k : Kernel) (t : Step Kernel) : Type 0 where
    pub goes : Goes d names may k.processes (lifted (λ (x : Kernel). x.processes) t)
    pub objects : HaveDisciplines d t.part.objects
    pub ports : PortsHaveDisciplines d t.part.ports

  pub record IsReady (k : Kernel) : Type 0 where
    pub named : Named d names k.processes
    pub objects : HaveDisciplines d k.objects
    pub ports : PortsHaveDisciplines d k.ports

  pub of_moves : (may : May) (k : Kernel) (s : Step Processes) → IsReady k → Goes d names may k.processes s → Moves may k (of_processes k s)
  of_moves may k s h g = record { goes = g; objects = h.objects; ports = h.ports }

  either_moves : (may : May) (k : Kernel) (b : Bool) (t u : Step Kernel) → Moves may k t → Moves may k u → Moves may k (if b then t else u)
  either_moves may k true t u h g = h
  either_moves may k false t u h g = g

  row_moves : (may : May) (k : Kernel) (refused : ReturnCode → Step Kernel) (checks : List (Bool × ReturnCode)) (effect : Step Kernel) → ((c : ReturnCode) → Moves may k (refused c))
      → Moves may k effect → Moves may k (row refused checks effect)
  row_moves may k refused [] effect h g = g
  row_moves may k refused (check ∷ checks) effect h g = either_moves may k check.0 (refused check.1) (row refused checks effect) (h check.1) (row_moves may k refused checks effect h g)

  pub after_moves : (may : May) (k : Kernel) (t u : Step Kernel) → Moves may k t → (IsReady t.part → Moves may t.part u) → Moves may k (after t u)
  after_moves may k t u h next =
      let g = next (record { named = h.goes.named; objects = h.objects; ports = h.ports }) in
      record {
        goes = after_goes d names may k.processes (lifted (λ (x : Kernel). x.processes) t) (lifted (λ (x : Kernel). x.processes) u) h.goes (λ n. g.goes);
        objects = g.objects;
        ports = g.ports;
      }

  -- ---- Clear

  started_named : (m : Mode) (rows : List ProcessStatus) → AreNamed names rows → AreNamed names (started_rows m rows)
  started_named m rows h = by_mode m
    where
      first : (o : Option ProcessStatus) → slice_get rows 0 ≡ o → AreNamed names (ready_init o rows)
      first None e = h
      first (Some r) e = named_set names rows 0 (record r { state = Ready }) h (named_at names rows 0 r h e)

      by_mode : (m : Mode) → AreNamed names (started_rows m rows)
      by_mode mode.Idle = h
      by_mode mode.ColdStart = first (slice_get rows 0) refl
      by_mode mode.WarmStart = first (slice_get rows 0) refl
      by_mode mode.Normal = first (slice_get rows 0) refl

  clear_told : (m : Mode) → [] ≡ called (clear_lines m)
  clear_told mode.Idle = refl
  clear_told mode.ColdStart = refl
  clear_told mode.WarmStart = refl
  clear_told mode.Normal = refl

  pub clears_moves : (may : May) (k : Kernel) (m : Mode) (c : StartCondition) → IsReady k → Moves may k (clears k m c)
  clears_moves may k m c h = record {
    goes = record {
      takings = [];
      follows = λ n o. in_order_cleared d n k.processes.queues;
      named = started_named m (map forgotten k.processes.rows) (named_map names forgotten (λ r. refl) k.processes.rows h.named);
      told = clear_told m;
      allowed = tt;
    };
    objects = record {
      semaphores = each_map (λ place x. x.row.discipline ≡ d (key.Semaphore place)) cleared_semaphore (λ place x e. e) k.objects.semaphores h.objects.semaphores;
      events = each_map (λ place x. discipline.Fifo ≡ d (key.Event place)) cleared_event (λ place x e. e) k.objects.events h.objects.events;
      buffers = each_map (λ place x. x.row.discipline ≡ d (key.Buffer place)) cleared_buffer (λ place x e. e) k.objects.buffers h.objects.buffers;
      blackboards = each_map (λ place x. discipline.Fifo ≡ d (key.Blackboard place)) cleared_blackboard (λ place x e. e) k.objects.blackboards h.objects.blackboards;
    };
    ports = each_map (λ place x. discipline_of x.row.kind ≡ d (key.Port place)) cleared_port (λ place x e. e) k.ports.ports h.ports;
  }

  -- ---- the normal start and the end of a body

  rests_found_goes : (may : May) (s : Processes) (p : Runner) → Named d names s → Goes d names may s (rests_found s p (row_of s p))
  rests_found_goes may s p h = by_row (row_of s p) refl
    where
      by_row : (o : Option ProcessStatus) → row_of s p ≡ o → Goes d names may s (rests_found s p o)
      by_row None e = nothing_goes d names may s h
      by_row (Some r) e = rests_goes d names may s p r h (row_is_of d names s p r h e)

  starts_if_goes : (may : May) (at : At) (next : ℕ) (s : Processes) (q : Runner) (r : ProcessStatus) (w : Wait) → Named d names s → IsOf d names q r
      → Goes d names may s (starts_if_waiting at next s q r w)
  starts_if_goes may at next s q r (wait.NormalStart delay) h e = normal_goes d names may at next s q delay r h e
  starts_if_goes may at next s q r _ h e = nothing_goes d names may s h

  starts_waiting_goes : (may : May) (at : At) (next : ℕ) (s : Processes) (q : Runner) → Named d names s → Goes d names may s (starts_waiting at next s q (row_of s q))
  starts_waiting_goes may at next s q h = by_row (row_of s q) refl
    where
      by_row : (o : Option ProcessStatus) → row_of s q ≡ o → Goes d names may s (starts_waiting at next s q o)
      by_row None e = nothing_goes d names may s h
      by_row (Some r) e = starts_if_goes may at next s q r r.wait h (row_is_of d names s q r h e)

  start_from_goes : (may : May) (at : At) (next n place : ℕ) (s : Processes) → Named d names s → Goes d names may s (start_from at next n place s)
  start_from_goes may at next zero place s h = nothing_goes d names may s h
  start_from_goes may at next (suc n) place s h =
      after_goes d names may s _ _ (starts_waiting_goes may at next s (runner.Process (index place)) h) (λ k. start_from_goes may at next n (place + 1) _ k)

  enters_normal_moves : (may : May) (k : Kernel) → IsReady k → Moves may k (enters_normal k)
  enters_normal_moves may k h = record { goes = record { takings = []; follows = λ n o. o; named = h.named; told = refl; allowed = tt }; objects = h.objects; ports = h.ports }

  starts_normally_moves : (may : May) (at : At) (k : Kernel) → IsReady k → Moves may k (starts_normally at k)
  starts_normally_moves may at k h =
      after_moves may k (of_processes k (rests_found k.processes runner.Init (row_of k.processes runner.Init))) _ (of_moves may k _ h (rests_found_goes may k.processes runner.Init h.named))
      (λ i. after_moves may _ _ _ (enters_normal_moves may _ i) (λ j. of_moves may _ _ j (start_from_goes may at (next_release_of at k) _ 0 _ j.named)))

  enters_mode_moves : (may : May) (at : At) (k : Kernel) (o : Option Mode) → IsReady k → Moves may k (enters_mode at k o)
  enters_mode_moves may at k None h = of_moves may k _ h (nothing_goes d names may k.processes h.named)
  enters_mode_moves may at k (Some mode.Normal) h = starts_normally_moves may at k h
  enters_mode_moves may at k (Some mode.Idle) h = clears_moves may k mode.Idle condition.PartitionRestart h
  enters_mode_moves may at k (Some mode.ColdStart) h = clears_moves may k mode.ColdStart condition.PartitionRestart h
  enters_mode_moves may at k (Some mode.WarmStart) h = clears_moves may k mode.WarmStart condition.PartitionRestart h

  pub set_mode_moves : (may : May) (at : At) (k : Kernel) (p : Runner) (m : ℤ) → IsReady k → Moves may k (set_partition_mode at k p m)
  set_mode_moves may at k p m h =
      row_moves may k (λ c. of_processes k (refuses k.processes p service.SetPartitionMode c))
      ((not (is_some (mode_of m)), code.InvalidParam) ∷ (wants is_normal (mode_of m) && is_normal k.mode, code.NoAction) ∷ (wants is_warm (mode_of m) && is_cold k.mode, code.InvalidMode)
      ∷ []) _ (λ c. of_moves may k _ h (refuse_goes d names may k.processes p service.SetPartitionMode h.named c))
      (after_moves may k _ _ (of_moves may k _ h (answer_goes d names may k.processes p service.SetPartitionMode code.NoError [] h.named)) (λ j. enters_mode_moves may at k (mode_of m) j))

  pub ends_body_moves : (may : May) (k : Kernel) (p : Runner) → IsReady k → Moves may k (ends_body k p)
  ends_body_moves may k runner.Init h = clears_moves may k mode.Idle condition.PartitionRestart h
  ends_body_moves may k runner.Handler h = of_moves may k _ h (rests_found_goes may k.processes runner.Handler h.named)
  ends_body_moves may k (runner.Process p) h = of_moves may k _ h (rests_found_goes may k.processes (runner.Process p) h.named)

  -- ---- errors

  ignores_moves : (may : May) (k : Kernel) (p : Runner) (e : ErrorKind) → IsReady k → Moves may k (health.ignores k p e)
  ignores_moves may k runner.Init e h =
      either_moves may k (is_fault e) _ _ (clears_moves may k mode.Idle condition.HmPartitionRestart h) (of_moves may k _ h (nothing_goes d names may k.processes h.named))
  ignores_moves may k runner.Handler e h = of_moves may k _ h (nothing_goes d names may k.processes h.named)
  ignores_moves may k (runner.Process p) e h = of_moves may k _ h (nothing_goes d names may k.processes h.named)

  enters_moves : (may : May) (k : Kernel) (p : Runner) (e : ErrorKind) (o : Option Mode) → IsReady k → Moves may k (health.enters_mode k p e o)
  enters_moves may k p e None h = ignores_moves may k p e h
  enters_moves may k p e (Some m) h = clears_moves may k m condition.HmPartitionRestart h

  acts_moves : (may : May) (k : Kernel) (p : Runner) (e : ErrorKind) (o : Option PartitionAction) → IsReady k → Moves may k (acts_on_error k p e o)
  acts_moves may k p e None h = of_moves may k _ h (nothing_goes d names may k.processes h.named)
  acts_moves may k p e (Some action) h = enters_moves may k p e (mode_of_action action) h

  -- an error reports no process as ready
  queues_told : (p : Runner) (e : ErrorKind) (words : List ℤ) → [] ≡ called (queues p e words).lines
  queues_told runner.Init e words = refl
  queues_told runner.Handler e words = refl
  queues_told (runner.Process p) e words = refl

  waits_told : (p : Runner) (e : ErrorKind) (words : List ℤ) (r : Response) → [] ≡ called (waits_or_leaves p e words r).lines
  waits_told p e words response.Handler = queues_told p e words
  waits_told p e words (response.Partition action) = refl
  waits_told p e words (response.Module action) = refl

  -- a step that leaves the partition unchanged and reports no process as ready, then the action that remains
  -- to be done
  then_acts_moves : (may : May) (k : Kernel) (p : Runner) (e : ErrorKind) (s : Step (Option PartitionAction)) → IsReady k → [] ≡ called s.lines → Moves may k (then_acts k p e s)
  then_acts_moves may k p e s h told =
      after_moves may k _ _ (record { goes = record { takings = []; follows = λ n o. o; named = h.named; told = told; allowed = tt }; objects = h.objects; ports = h.ports }) (λ j. acts_moves may k p e s.part j)

  handles_moves : (may : May) (k : Kernel) (p : Runner) (e : ErrorKind) (words : List ℤ) → IsReady k → Moves may k (handles k p e words)
  handles_moves may k p e words h = then_acts_moves may k p e (raises k.fixed.health k.mode (with_errors k) p e words) h (waits_told p e words (response_of k.fixed.health k.mode (with_errors k) p e))

  pub faults_moves : (may : May) (k : Kernel) (p : Runner) (e : ErrorKind) → IsReady k → Moves may k (faults k p e)
  faults_moves may k p e h = after_moves may k _ _ (of_moves may k _ h (rests_found_goes may k.processes p h.named)) (λ j. handles_moves may _ p e [] j)

  pub then_clears_moves : (may : May) (k : Kernel) (o : Option Mode) → IsReady k → Moves may k (then_clears k o)
  then_clears_moves may k None h = of_moves may k _ h (nothing_goes d names may k.processes h.named)
  then_clears_moves may k (Some m) h = clears_moves may k m condition.HmPartitionRestart h

  pub breaks_moves : (may : May) (k : Kernel) → IsReady k → Moves may k (breaks k)
  breaks_moves may k h =
      after_moves may k (tells_error k error.HardwareFault None (response.Partition (action_of k.fixed.health error.HardwareFault))) _
      (record { goes = record { takings = []; follows = λ n o. o; named = h.named; told = refl; allowed = tt }; objects = h.objects; ports = h.ports }) (λ j. then_clears_moves may k _ j)

  row_told : {P : Type 0} (refused : ReturnCode → Step P) (checks : List (Bool × ReturnCode)) (effect : Step P) → ((c : ReturnCode) → [] ≡ called (refused c).lines) → [] ≡ called effect.lines
      → [] ≡ called (row refused checks effect).lines
  row_told refused [] effect h g = g
  row_told refused (check ∷ checks) effect h g = either check.0 (row_told refused checks effect h g)
    where
      either : (b : Bool) → [] ≡ called (row refused checks effect).lines → [] ≡ called (if b then refused check.1 else row refused checks effect).lines
      either true later = h check.1
      either false later = later

  pub raise_moves : (may : May) (k : Kernel) (p : Runner) (e : ℤ) (array : ArrayPlace) (length : ℤ) (words : List ℤ) → IsReady k → Moves may k (raises_application_error k p e array length words)
  raise_moves may k p e array length words h =
      then_acts_moves may k p error.ApplicationError (raise_application_error k.fixed.health k.mode (with_errors k) p e array length words) h
      (row_told (λ c. leaves_none (refuses k.processes p service.RaiseApplicationError c))
      ((not (int_eq e (pos 1)), code.InvalidParam) ∷ (not (is_message_length array.size length), code.InvalidParam) ∷ []) _
      (λ c. refl) (waits_told p error.ApplicationError (first_words length words) (response_of k.fixed.health k.mode (with_errors k) p error.ApplicationError)))

  -- ---- what is due

  ends_wait_goes : (may : May) (s : Processes) (p : Runner) (r : ProcessStatus) (o : Due) → Named d names s → IsOf d names p r → Goes d names may s (ends_wait s p r o)
  ends_wait_goes may s p r (due_time.Release tick) h e = release_goes d names may s p (released_at tick r) code.NoError h e
  ends_wait_goes may s p r (due_time.Delay tick) h e = release_goes d names may s p r code.NoError h e
  ends_wait_goes may s p r (due_time.TimeOut tick) h e = release_goes d names may s p (timed_out r r.wait) code.TimedOut h (timed_of r.wait)
    where
      timed_of : (w : Wait) → IsOf d names p (timed_out r w)
      timed_of (wait.Service service.SuspendSelf) = e
      timed_of _ = e

  treats_due_goes : (may : May) (at : At) (s : Processes) (p : Runner) (r : ProcessStatus) (o : Option Due) → Named d names s → IsOf d names p r
      → Goes d names may s (due.treats_due at s p r o)
  treats_due_goes may at s p r None h e = nothing_goes d names may s h
  treats_due_goes may at s p r (Some o) h e = either_goes d names may s (nat_le (tick_of o) at.now.0) _ _ (ends_wait_goes may s p r o h e) (nothing_goes d names may s h)

  misses_goes : (may : May) (free : ℕ) (action : PartitionAction) (s : Processes) (p : ProcessIndex) (r : ProcessStatus) → Named d names s → IsOf d names (runner.Process p) r
      → Goes d names may s (misses free action s p r).step
  misses_goes may zero action s p r h e =
      let g = put_goes d names may s (runner.Process p) (record r { deadline = None }) h e in record { takings = []; follows = λ n o. o; named = g.named; told = refl; allowed = tt }
  misses_goes may (suc free) action s p r h e =
      let g = put_goes d names may s (runner.Process p) (record r { deadline = None }) h e in record { takings = []; follows = λ n o. o; named = g.named; told = refl; allowed = tt }

  deadline_goes : (may : May) (at : At) (free : ℕ) (action : PartitionAction) (s : Processes) (p : ProcessIndex) → Named d names s
      → Goes d names may s (treats_deadline at free action s p (row_of s (runner.Process p))).step
  deadline_goes may at free action s p h = by_row (row_of s (runner.Process p)) refl
    where
      by_test : (r : ProcessStatus) → IsOf d names (runner.Process p) r → (b : Bool) → Goes d names may s (if b then misses free action s p r else due.without_clear free (nothing s)).step
      by_test r e true = misses_goes may free action s p r h e
      by_test r e false = nothing_goes d names may s h

      by_row : (o : Option ProcessStatus) → row_of s (runner.Process p) ≡ o → Goes d names may s (treats_deadline at free action s p o).step
      by_row None e = nothing_goes d names may s h
      by_row (Some r) e = by_test r (row_is_of d names s (runner.Process p) r h e) (is_past at.now.0 r.deadline)

  treats_goes : (may : May) (at : At) (free : ℕ) (action : PartitionAction) (s : Processes) (p : ProcessIndex) → Named d names s
      → Goes d names may s (treats at free action s p (row_of s (runner.Process p))).step
  treats_goes may at free action s p h = by_row (row_of s (runner.Process p)) refl
    where
      by_row : (o : Option ProcessStatus) → row_of s (runner.Process p) ≡ o → Goes d names may s (treats at free action s p o).step
      by_row None e = nothing_goes d names may s h
      by_row (Some r) e =
          after_goes d names may s _ _ (treats_due_goes may at s (runner.Process p) r r.due h (row_is_of d names s (runner.Process p) r h e)) (λ k. deadline_goes may at free action _ p k)

  others_goes : (may : May) (s : Processes) (t o : Treated) (b : Bool) → Goes d names may s t.step → (Named d names t.step.part → Goes d names may t.step.part o.step)
      → Goes d names may s (if b then t else treated_after t.step o).step
  others_goes may s t o true h k = h
  others_goes may s t o false h k = after_goes d names may s t.step o.step h k

  due_from_goes : (may : May) (at : At) (action : PartitionAction) (n place free : ℕ) (s : Processes) → Named d names s → Goes d names may s (due_from at action n place free s).step
  due_from_goes may at action zero place free s h = nothing_goes d names may s h
  due_from_goes may at action (suc n) place free s h =
      let t = treats at free action s (index place) (row_of s (runner.Process (index place))) in
      others_goes may s t (due_from at action n (place + 1) t.free t.step.part) (is_some t.clears) (treats_goes may at free action s (index place) h)
      (λ k. due_from_goes may at action n (place + 1) t.free t.step.part k)

  pub due_moves : (at : At) (k : Kernel) → IsReady k → Moves nobody k (of_processes k (treats_due at k).step)
  due_moves at k h = of_moves nobody k _ h (due_from_goes nobody at _ _ 0 _ k.processes h.named)

  -- ---- services

  pub of_objects_moves : (may : May) (k : Kernel) (t : Step (sharing.Sharing Objects)) → IsReady k → Shares d names Objects (HaveDisciplines d) may (with_objects k) t
      → Moves may k (of_objects k t)
  of_objects_moves may k t h g = record { goes = g.goes; objects = g.fit; ports = h.ports }

  pub of_ports_moves : (may : May) (k : Kernel) (t : Step (sharing.Sharing Ports)) → IsReady k → Shares d names Ports (PortsHaveDisciplines d) may (with_ports k) t
      → Moves may k (of_ports k t)
  of_ports_moves may k t h g = record { goes = g.goes; objects = h.objects; ports = g.fit }

-- No tick of a partition changes which of its ports are sources.
use Rattle.module.proofs.Prelude.{◌≡◌, ℕ, zero, suc, ℤ, Bool, true, false, List, ◌∷◌, map, Option, Some, None, refl, sym, ap, ◌∙◌, slice_get, slice_set, is_some, same_Some, ArrayVec, StartCondition, At, Engine, Kernel, Port, Ports, is_source, World, moved, tick, Step}
use Rattle.std.proofs.Common.{[], subst}
use Rattle.std.specs.Prelude.{pos, negsuc, not, ◌&&◌, if◌then◌else◌}
use Rattle.apex_types.specs.Runners.{Action, place_of}
use Rattle.apex_types.specs.Runners as action
use Rattle.apex_types.specs.declared.codes.ErrorKind.{ErrorKind}
use Rattle.apex_types.specs.declared.codes.ErrorKind.TheVariants as error
use Rattle.apex_types.specs.declared.codes.Mode.{Mode}
use Rattle.apex_types.specs.declared.codes.Mode.TheVariants as mode
use Rattle.apex_types.specs.declared.codes.PartitionAction.{PartitionAction}
use Rattle.apex_types.specs.declared.codes.ReturnCode.TheVariants as code
use Rattle.apex_types.specs.declared.codes.StartCondition.TheVariants as condition
use Rattle.apex_types.specs.declared.identity.Runner.{Runner}
use Rattle.apex_types.specs.declared.identity.Runner.TheVariants as runner
use Rattle.apex_types.specs.declared.service.ArrayPlace.{ArrayPlace}
use Rattle.apex_types.specs.declared.service.Call.{Call}
use Rattle.apex_types.specs.declared.service.Call.TheVariants as call
use Rattle.apex_types.specs.declared.service.PortCall.{PortCall}
use Rattle.apex_types.specs.declared.service.PortCall.TheVariants as port
use Rattle.apex_types.specs.declared.service.Service.{Service}
use Rattle.apex_types.specs.declared.service.Service.TheVariants as service
use Rattle.engine_meaning.specs.Engine.{Asks, Nothing, Calls, Faults, Ends}
use Rattle.kernel_meaning.specs.HealthServices.{acts_on_error, enters_mode as enters_mode_of_action, faults, ignores, is_fault, raise_application_error, raises, then_clears}
use Rattle.kernel_meaning.specs.Kernel.{of_processes, with_errors, with_ports}
use Rattle.kernel_meaning.specs.Objects.{cleared_port, is_full, is_sampling, if_sampling, numbered_in, placed, queuing, sampling, those_queuing, those_sampling, unless_sampling, with_message, with_sample}
use Rattle.kernel_meaning.specs.Partition.{act, act_all, chooses_with_handler, control_at, due_phase, given, prepares, serves, spends_chosen, ticked, treating_phase, treats_asked, treats_due}
use Rattle.kernel_meaning.specs.PartitionServices.{clears, ends_body, enters_mode, is_cold, is_warm, mode_of, set_partition_mode, wants}
use Rattle.kernel_meaning.specs.PortServices.{becomes_port, clear_queuing_port, clears_port, creates, is_created, is_valid, read_sampling_message, reads_sample, receive_queuing_message, receives, send_queuing_message, sends, serves_ports, write_sampling_message, writes_sample}
use Rattle.kernel_meaning.specs.Processes.{is_normal, rests_found, row_of}
use Rattle.kernel_meaning.specs.Sharing.{Sharing, answers, create, get_id, get_status, has, is_large_enough, is_length, on}
use Rattle.kernel_meaning.specs.Step.{first_words, message}
use Rattle.kernel_meaning.specs.Times.{is_duration, mode_of_action}

-- ---- the ports

abbrev sources : List Port → List Bool
sources ports = map is_source ports

-- of each port of a partition, whether it is a source
abbrev pub sources_of : Kernel → List Bool
sources_of k = sources k.ports.ports

put_keeps : (ports : List Port) (k : ℕ) (z w : Port) → slice_get ports k ≡ Some z → is_source w ≡ is_source z → sources (slice_set ports k w) ≡ sources ports
put_keeps [] k z w e same = refl
put_keeps (x ∷ xs) zero z w e same = ap (λ b. b ∷ sources xs) (same ∙ ap is_source (sym (same_Some x z e)))
put_keeps (x ∷ xs) (suc k) z w e same = ap (λ bs. is_source x ∷ bs) (put_keeps xs k z w e same)

cleared_keeps : (ports : List Port) → sources (map cleared_port ports) ≡ sources ports
cleared_keeps [] = refl
cleared_keeps (x ∷ xs) = ap (λ bs. is_source x ∷ bs) (cleared_keeps xs)

-- ---- the services on ports

module _ (b : Sharing Ports) where
  abbrev Keeps : Step (Sharing Ports) → Type 0
  Keeps s = sources s.part.shared.ports ≡ sources b.shared.ports

  abbrev IsThere : ℕ × Port → Type 0
  IsThere f = slice_get b.shared.ports f.0 ≡ Some f.1

  either : (c : Bool) (s t : Step (Sharing Ports)) → Keeps s → Keeps t → Keeps (if c then s else t)
  either true s t h k = h
  either false s t h k = k

  becomes_keeps : (k : ℕ) (z w : Port) → slice_get b.shared.ports k ≡ Some z → is_source w ≡ is_source z → Keeps (becomes_port b k w)
  becomes_keeps k z w e same = put_keeps b.shared.ports k z w e same

  numbered_found : (id : ℤ) (f : ℕ × Port) → numbered_in b.shared.ports id ≡ Some f → IsThere f
  numbered_found (pos zero) f e = absurd (cc)
  numbered_found (negsuc n) f e = absurd (cc)
  numbered_found (pos (suc n)) f e = there (slice_get b.shared.ports n) refl e
    where
      there : (o : Option Port) → slice_get b.shared.ports n ≡ o → placed n o ≡ Some f → IsThere f
      there None k g = absurd (cc)
      there (Some z) k g = subst IsThere (same_Some (n, z) f g) k

  sampling_found : (id : ℤ) (f : ℕ × Port) → sampling b.shared id ≡ Some f → IsThere f
  sampling_found id f e = there (numbered_in b.shared.ports id) refl e
    where
      is : (t : Bool) (g : ℕ × Port) → if_sampling t g ≡ Some f → g ≡ f
      is true g k = same_Some g f k
      is false g k = absurd (cc)

      there : (o : Option (ℕ × Port)) → numbered_in b.shared.ports id ≡ o → those_sampling o ≡ Some f → IsThere f
      there None k g = absurd (cc)
      there (Some x) k g = numbered_found id f (k ∙ ap (λ (y : ℕ × Port). Some y) (is (is_sampling x.1) x g))

  queuing_found : (id : ℤ) (f : ℕ × Port) → queuing b.shared id ≡ Some f → IsThere f
  queuing_found id f e = there (numbered_in b.shared.ports id) refl e
    where
      is : (t : Bool) (g : ℕ × Port) → unless_sampling t g ≡ Some f → g ≡ f
      is true g k = absurd (cc)
      is false g k = same_Some g f k

      there : (o : Option (ℕ × Port)) → numbered_in b.shared.ports id ≡ o → those_queuing o ≡ Some f → IsThere f
      there None k g = absurd (cc)
      there (Some x) k g = numbered_found id f (k ∙ ap (λ (y : ℕ × Port). Some y) (is (is_sampling x.1) x g))

  on_keeps : (o : Option (ℕ × Port)) (step : ℕ → Port → Step (Sharing Ports)) → ((f : ℕ × Port) → o ≡ Some f → IsThere f) → ((k : ℕ) (z : Port) → slice_get b.shared.ports k ≡ Some z → Keeps (step k z)) → Keeps (on o b step)
  on_keeps None step found g = refl
  on_keeps (Some f) step found g = g f.0 f.1 (found f refl)

  create_keeps : (m : Mode) (p : Runner) (v : Service) (name : ℤ) (o : Option (ℕ × Port)) → ((f : ℕ × Port) → o ≡ Some f → IsThere f) → Keeps (create m b p v name o is_created (creates b))
  create_keeps m p v name o found = either (is_normal m) _ _ refl (either (not (is_some o)) _ _ refl (either (has o is_created) _ _ refl (on_keeps o (creates b) found (λ k z e. becomes_keeps k z (record z { created = true }) e refl))))

  id_keeps : (p : Runner) (v : Service) (name : ℤ) (o : Option (ℕ × Port)) → Keeps (get_id b p v name o is_created)
  id_keeps p v name o = either (not (has o is_created)) _ _ refl refl

  status_keeps : (p : Runner) (v : Service) (o : Option (ℕ × Port)) (values : ℕ → Port → List ℤ) → Keeps (get_status b p v o is_created values)
  status_keeps p v o values = either (not (has o is_created)) _ _ refl (told o)
    where
      told : (o : Option (ℕ × Port)) → Keeps (on o b (λ place x. answers b p v code.NoError (values place x)))
      told None = refl
      told (Some f) = refl

  write_keeps : (p : Runner) (id : ℤ) (array : ArrayPlace) (size : ℤ) (words : List ℤ) → Keeps (write_sampling_message b p id array size words)
  write_keeps p id array size words =
      either (not (has (sampling b.shared id) is_created)) _ _ refl (either (not (has (sampling b.shared id) is_source)) _ _ refl (either (not (has (sampling b.shared id) (λ x. is_length x.row.words array size))) _ _ refl
      (on_keeps (sampling b.shared id) (writes_sample b p (message (first_words size words))) (sampling_found id) (λ k z e. becomes_keeps k z (with_sample z (message (first_words size words))) e refl))))

  read_keeps : (at : At) (p : Runner) (id : ℤ) (array : ArrayPlace) → Keeps (read_sampling_message at b p id array)
  read_keeps at p id array =
      either (not (has (sampling b.shared id) is_created)) _ _ refl (either (has (sampling b.shared id) is_source) _ _ refl (either (not (has (sampling b.shared id) (λ x. is_large_enough x.row.words array))) _ _ refl
      (on_keeps (sampling b.shared id) (λ place x. reads_sample at b p array place x x.messages) (sampling_found id) (λ k z e. reads k z e z.messages))))
    where
      reads : (k : ℕ) (z : Port) → slice_get b.shared.ports k ≡ Some z → (ms : List (ArrayVec ℤ)) → Keeps (reads_sample at b p array k z ms)
      reads k z e [] = refl
      reads k z e (m ∷ rest) = becomes_keeps k z (record z { valid = is_valid at z }) e refl

  send_keeps : (at : At) (p : Runner) (id : ℤ) (array : ArrayPlace) (size limit : ℤ) (words : List ℤ) → Keeps (send_queuing_message at b p id array size limit words)
  send_keeps at p id array size limit words =
      either (not (has (queuing b.shared id) is_created)) _ _ refl (either (not (is_duration limit)) _ _ refl (either (not (has (queuing b.shared id) is_source)) _ _ refl (either (not (has (queuing b.shared id) (λ x. is_length x.row.words array size))) _ _ refl
      (on_keeps (queuing b.shared id) (sends at b p limit (message (first_words size words))) (queuing_found id) (λ k z e. either (is_full z) _ _ refl (becomes_keeps k z (with_message z (message (first_words size words))) e refl))))))

  receive_keeps : (at : At) (p : Runner) (id : ℤ) (array : ArrayPlace) (limit : ℤ) → Keeps (receive_queuing_message at b p id array limit)
  receive_keeps at p id array limit =
      either (not (has (queuing b.shared id) is_created)) _ _ refl (either (not (is_duration limit)) _ _ refl (either (has (queuing b.shared id) is_source) _ _ refl (either (not (has (queuing b.shared id) (λ x. is_large_enough x.row.words array))) _ _ refl
      (on_keeps (queuing b.shared id) (λ place x. receives at b p array limit place x x.messages) (queuing_found id) (λ k z e. takes k z e z.messages)))))
    where
      takes : (k : ℕ) (z : Port) → slice_get b.shared.ports k ≡ Some z → (ms : List (ArrayVec ℤ)) → Keeps (receives at b p array limit k z ms)
      takes k z e [] = refl
      takes k z e (m ∷ rest) = becomes_keeps k z (record z { messages = rest; overflowed = false }) e refl

  clear_keeps : (p : Runner) (id : ℤ) → Keeps (clear_queuing_port b p id)
  clear_keeps p id =
      either (not (has (queuing b.shared id) is_created)) _ _ refl (either (has (queuing b.shared id) is_source) _ _ refl
      (on_keeps (queuing b.shared id) (clears_port b p) (queuing_found id) (λ k z e. becomes_keeps k z (record z { messages = []; overflowed = false }) e refl)))

  ports_keep : (m : Mode) (at : At) (p : Runner) (c : PortCall) (words : List ℤ) → Keeps (serves_ports m at b p c words)
  ports_keep m at p (port.CreateSamplingPort name) words = create_keeps m p service.CreateSamplingPort name (sampling b.shared name) (sampling_found name)
  ports_keep m at p (port.WriteSamplingMessage id array size) words = write_keeps p id array size words
  ports_keep m at p (port.ReadSamplingMessage id array) words = read_keeps at p id array
  ports_keep m at p (port.GetSamplingPortId name) words = id_keeps p service.GetSamplingPortId name (sampling b.shared name)
  ports_keep m at p (port.GetSamplingPortStatus id) words = status_keeps p service.GetSamplingPortStatus (sampling b.shared id) _
  ports_keep m at p (port.CreateQueuingPort name) words = create_keeps m p service.CreateQueuingPort name (queuing b.shared name) (queuing_found name)
  ports_keep m at p (port.SendQueuingMessage id array size limit) words = send_keeps at p id array size limit words
  ports_keep m at p (port.ReceiveQueuingMessage id array limit) words = receive_keeps at p id array limit
  ports_keep m at p (port.GetQueuingPortId name) words = id_keeps p service.GetQueuingPortId name (queuing b.shared name)
  ports_keep m at p (port.GetQueuingPortStatus id) words = status_keeps p service.GetQueuingPortStatus (queuing b.shared id) _
  ports_keep m at p (port.ClearQueuingPort id) words = clear_keeps p id

-- ---- a step of the kernel

abbrev KernelKeeps : Kernel → Step Kernel → Type 0
KernelKeeps k s = sources_of s.part ≡ sources_of k

either_step : (k : Kernel) (c : Bool) (s t : Step Kernel) → KernelKeeps k s → KernelKeeps k t → KernelKeeps k (if c then s else t)
either_step k true s t g h = g
either_step k false s t g h = h

clears_keeps : (k : Kernel) (m : Mode) (c : StartCondition) → KernelKeeps k (clears k m c)
clears_keeps k m c = cleared_keeps k.ports.ports

then_clears_keeps : (k : Kernel) (o : Option Mode) → KernelKeeps k (then_clears k o)
then_clears_keeps k None = refl
then_clears_keeps k (Some m) = clears_keeps k m condition.HmPartitionRestart

ends_keeps : (k : Kernel) (p : Runner) → KernelKeeps k (ends_body k p)
ends_keeps k runner.Init = clears_keeps k mode.Idle condition.PartitionRestart
ends_keeps k runner.Handler = refl
ends_keeps k (runner.Process n) = refl

enters_keeps : (at : At) (k : Kernel) (o : Option Mode) → KernelKeeps k (enters_mode at k o)
enters_keeps at k None = refl
enters_keeps at k (Some mode.Normal) = refl
enters_keeps at k (Some mode.Idle) = clears_keeps k mode.Idle condition.PartitionRestart
enters_keeps at k (Some mode.ColdStart) = clears_keeps k mode.ColdStart condition.PartitionRestart
enters_keeps at k (Some mode.WarmStart) = clears_keeps k mode.WarmStart condition.PartitionRestart

mode_keeps : (at : At) (k : Kernel) (p : Runner) (m : ℤ) → KernelKeeps k (set_partition_mode at k p m)
mode_keeps at k p m =
    either_step k (not (is_some (mode_of m))) _ _ refl (either_step k (wants is_normal (mode_of m) && is_normal k.mode) _ _ refl (either_step k (wants is_warm (mode_of m) && is_cold k.mode) _ _ refl (enters_keeps at k (mode_of m))))

ignores_keeps : (k : Kernel) (p : Runner) (e : ErrorKind) → KernelKeeps k (ignores k p e)
ignores_keeps k runner.Init e = either_step k (is_fault e) _ _ (clears_keeps k mode.Idle condition.HmPartitionRestart) refl
ignores_keeps k runner.Handler e = refl
ignores_keeps k (runner.Process n) e = refl

action_keeps : (k : Kernel) (p : Runner) (e : ErrorKind) (o : Option Mode) → KernelKeeps k (enters_mode_of_action k p e o)
action_keeps k p e None = ignores_keeps k p e
action_keeps k p e (Some m) = clears_keeps k m condition.HmPartitionRestart

acts_keep : (k : Kernel) (p : Runner) (e : ErrorKind) (o : Option PartitionAction) → KernelKeeps k (acts_on_error k p e o)
acts_keep k p e None = refl
acts_keep k p e (Some a) = action_keeps k p e (mode_of_action a)

faults_keep : (k : Kernel) (p : Runner) (e : ErrorKind) → KernelKeeps k (faults k p e)
faults_keep k p e =
    let s = of_processes k (rests_found k.processes p (row_of k.processes p)) in
    acts_keep s.part p e (raises s.part.fixed.health s.part.mode (with_errors s.part) p e []).part

module _ (at : At) (k : Kernel) (p : Runner) where
  serves_keep : (c : Call) (words : List ℤ) → KernelKeeps k (serves at k p c words)
  serves_keep call.GetPartitionStatus words = refl
  serves_keep (call.SetPartitionMode m) words = mode_keeps at k p m
  serves_keep call.StopSelf words = ends_keeps k p
  serves_keep (call.ReportApplicationMessage array size) words = refl
  serves_keep call.CreateErrorHandler words = refl
  serves_keep (call.GetErrorStatus array) words = refl
  serves_keep (call.RaiseApplicationError e array size) words = acts_keep k p error.ApplicationError (raise_application_error k.fixed.health k.mode (with_errors k) p e array size words).part
  serves_keep (call.GetProcessId name) words = refl
  serves_keep (call.GetProcessStatus id) words = refl
  serves_keep (call.CreateProcess name) words = refl
  serves_keep (call.SetPriority id v) words = refl
  serves_keep (call.SuspendSelf limit) words = refl
  serves_keep (call.Suspend id) words = refl
  serves_keep (call.Resume id) words = refl
  serves_keep (call.Stop id) words = refl
  serves_keep (call.Start id) words = refl
  serves_keep (call.DelayedStart id delay) words = refl
  serves_keep call.LockPreemption words = refl
  serves_keep call.UnlockPreemption words = refl
  serves_keep call.GetMyId words = refl
  serves_keep (call.TimedWait delay) words = refl
  serves_keep call.PeriodicWait words = refl
  serves_keep call.GetTime words = refl
  serves_keep (call.Replenish budget) words = refl
  serves_keep (call.Object c) words = refl
  serves_keep (call.Port c) words = ports_keep (with_ports k) k.mode at p c words

  asked_keeps : (a : Asks) (words : List ℤ) → KernelKeeps k (treats_asked at k p a words)
  asked_keeps Nothing words = refl
  asked_keeps (Calls c) words = serves_keep c words
  asked_keeps (Faults e) words = faults_keep k p e
  asked_keeps Ends words = ends_keeps k p

-- ---- a tick

module _ {C : Type 0} (e : Engine C) where
  act_keeps : (a : Action) (w : World C) → sources_of (act e a w).kernel ≡ sources_of w.kernel
  act_keeps (action.Begin p) w = refl
  act_keeps (action.Stop p) w = refl
  act_keeps action.StopAll w = refl
  act_keeps (action.Reply p answer) w = refl
  act_keeps action.Restore w = refl
  act_keeps (action.Write place array) w = refl
  act_keeps (action.Queue x) w = refl

  all_keep : (actions : List Action) (w : World C) → sources_of (act_all e actions w).kernel ≡ sources_of w.kernel
  all_keep [] w = refl
  all_keep (a ∷ rest) w = all_keep rest (act e a w) ∙ act_keeps a w

  moved_keeps : (at : At) (s : Step Kernel) (w : World C) → KernelKeeps w.kernel s → sources_of (moved at e s w).world.kernel ≡ sources_of w.kernel
  moved_keeps at s w h = all_keep s.actions (record w { kernel = s.part }) ∙ h

  chosen_keeps : (at : At) (o : Option Runner) (w : World C) → sources_of (spends_chosen e at o w).world.kernel ≡ sources_of w.kernel
  chosen_keeps at None w = refl
  chosen_keeps at (Some p) w =
      let r = ticked e (control_at w.controls (place_of p)) w.words in
      moved_keeps at (treats_asked at w.kernel p r.asks (given r.asks r.words)) (record w { controls = slice_set w.controls (place_of p) r.control; words = r.words }) (asked_keeps at w.kernel p r.asks (given r.asks r.words))

  -- what is due, the choice, and the tick of the chosen runner
  pub tick_keeps : (at : At) (w : World C) → sources_of (tick e at w).world.kernel ≡ sources_of w.kernel
  tick_keeps at w =
      let t = treats_due at w.kernel in
      let treated = (treating_phase e at w).world in
      let cleared = (due_phase e at w).world in
      let chosen = (prepares e at w).world in
      chosen_keeps at chosen.kernel.processes.running chosen
      ∙ moved_keeps at (chooses_with_handler cleared.kernel) cleared refl
      ∙ moved_keeps at (then_clears treated.kernel t.clears) treated (then_clears_keeps treated.kernel t.clears)
      ∙ moved_keeps at (of_processes w.kernel t.step) w refl

-- The lines of a run: those of a tick have this tick, and the module's tell where frames begin and that it is shut down.
use Rattle.std.proofs.Common.{◌≡◌, ◌<◌, ◌≤◌, ℕ, zero, suc, Bool, true, false, List, [], ◌∷◌, ◌++◌, length, Option, Some, None, refl, sym, ap, ◌∙◌, subst, arith}
use Rattle.std.specs.Prelude.{◌+◌, if◌then◌else◌, option_map, slice_get, slice_set}
use Rattle.std.specs.List.{flat_map}
use Rattle.std.proofs.lemmas.Bool.{le-ltb, lt-ltb}
use Rattle.arrayvec.specs.ArrayVec.{ArrayVec}
use Rattle.apex_types.specs.Runners.{place_of}
use Rattle.apex_types.specs.declared.codes.Mode.TheVariants as mode
use Rattle.apex_types.specs.declared.codes.ModuleAction.{ModuleAction}
use Rattle.apex_types.specs.declared.codes.ModuleAction.TheVariants as reaction
use Rattle.apex_types.specs.declared.codes.StartCondition.{StartCondition}
use Rattle.apex_types.specs.declared.codes.StartCondition.TheVariants as condition
use Rattle.apex_types.specs.declared.device.DeviceInput.{DeviceInput}
use Rattle.apex_types.specs.declared.device.DeviceInput.TheVariants as device
use Rattle.apex_types.specs.declared.device.DeviceLine.{DeviceLine}
use Rattle.apex_types.specs.declared.event.Event.{Event}
use Rattle.apex_types.specs.declared.event.EventKind.{EventKind}
use Rattle.apex_types.specs.declared.identity.At.{At}
use Rattle.apex_types.specs.declared.identity.PartitionId.{PartitionId}
use Rattle.apex_types.specs.declared.identity.PortId.{PortId}
use Rattle.apex_types.specs.declared.identity.Runner.{Runner}
use Rattle.apex_types.specs.declared.row.ChannelEnd.{ChannelEnd}
use Rattle.apex_types.specs.declared.row.ChannelEnd.TheVariants as ends
use Rattle.isolation.proofs.Now.{inputs_in_tick, tick_in}
use Rattle.kernel_laws.specs.History.{Move, Starts, BreaksDown, Arrives, Leaves, Admits, GoesOut, Advances, makes, members_after, members_from}
use Rattle.engine_meaning.specs.Engine.{Engine}
use Rattle.kernel_meaning.specs.HealthServices.{breaks, then_clears}
use Rattle.kernel_meaning.specs.Kernel.{Kernel, of_ports, of_ports_alone, of_processes, with_ports}
use Rattle.kernel_meaning.specs.Partition.{Member, World, chooses_with_handler, choice_phase, clearing_phase, control_at, due_phase, given, leaving, messages_to_move, moved, place_of_port, prepares, spending_phase, spends_chosen, tick, ticked, told, treating_phase, treats_asked, treats_due, with_world}
use Rattle.kernel_meaning.specs.PartitionServices.{clears}
use Rattle.kernel_meaning.specs.PortServices as ports
use Rattle.kernel_meaning.specs.Step.{Step}
use Rattle.kernel_meaning.specs.Windows.{ended, owner}
use Rattle.module_meaning.specs.Module.{Course, Module, Plan, Stepped, as_origin, breaks_module, channel_from, delivers, delivers_all, first_tick, goes_by, inputs, inputs_all, module_tick, moves_and_ticks, moves_ended, moves_found, moves_message, moves_messages, moves_port, moves_ports, moves_so_many, next_tick, of_member, of_tick, ports_from, start_lines, starts_all, steps, steps_member, still, then_goes, ticks_owner, trace, trace_from, unless_down, goes_on}
use Rattle.module_meaning.specs.Standing.{IsNow}
use Rattle.module_meaning.specs.Table.{Channel, at_number}
use Rattle.state_laws.specs.Spending.{before_owner, before_owner_from, before_owner_in}
use Rattle.trace_windows.specs.Frames.{Frames, at_first, with_line}
use Rattle.trace_windows.specs.Runs.{AreInOrder}
use Rattle.view_laws.specs.Reading.{frames_after, up_to}
use Rattle.view_laws.proofs.Lines.{AreUpTo, framed, framed_so}

-- ---- lines of a tick

abbrev pub AreOf : ℕ → List Event → Type 0
AreOf n [] = Unit {0}
AreOf n (e ∷ es) = (e.tick.0 ≡ n) × AreOf n es

-- each is of a partition
abbrev IsNamed : Option (List ℕ) → Type 0
IsNamed None = ⊥
IsNamed (Some name) = Unit {0}

abbrev AreNamed : List Event → Type 0
AreNamed [] = Unit {0}
AreNamed (e ∷ es) = IsNamed e.partition × AreNamed es

both_of : (n : ℕ) (a b : List Event) → AreOf n a → AreOf n b → AreOf n (a ++ b)
both_of n [] b h k = k
both_of n (e ∷ a) b h k = (h.0, both_of n a b h.1 k)

both_named : (a b : List Event) → AreNamed a → AreNamed b → AreNamed (a ++ b)
both_named [] b h k = k
both_named (e ∷ a) b h k = (h.0, both_named a b h.1 k)

pub frames_both : (f : Frames) (a b : List Event) → frames_after f (a ++ b) ≡ frames_after (frames_after f a) b
frames_both f [] b = refl
frames_both f (e ∷ a) b = frames_both (with_line e f) a b

-- lines of partitions leave the frames
named_frames : (f : Frames) (lines : List Event) → AreNamed lines → frames_after f lines ≡ f
named_frames f [] h = refl
named_frames f (e ∷ es) h = ap (λ (g : Frames). frames_after g es) (framed_so e f ∙ by_partition e.partition h.0) ∙ named_frames f es h.1
  where
    by_partition : (p : Option (List ℕ)) → IsNamed p → framed p e.kind e.tick.0 f ≡ f
    by_partition None k = absurd k
    by_partition (Some name) k = refl

-- ---- a move of one partition

told_of : (name : List ℕ) (at : At) (kinds : List EventKind) → AreOf at.now.0 (told name at kinds)
told_of name at [] = tt
told_of name at (k ∷ ks) = (refl, told_of name at ks)

told_named : (name : List ℕ) (at : At) (kinds : List EventKind) → AreNamed (told name at kinds)
told_named name at [] = tt
told_named name at (k ∷ ks) = (tt, told_named name at ks)

-- the lines of a step are of this tick and of partitions, and the partitions stay as many
pub record Quiet {C : Type 0} (n count : ℕ) (a : Stepped (List (Member C))) : Type 0 where
  pub of : AreOf n a.lines
  pub named : AreNamed a.lines
  pub kept : length a.state ≡ count

pub record QuietLines (n : ℕ) (lines : List Event) : Type 0 where
  pub of : AreOf n lines
  pub named : AreNamed lines

both_quiet : (n : ℕ) (a b : List Event) → QuietLines n a → QuietLines n b → QuietLines n (a ++ b)
both_quiet n a b h k = record { of = both_of n a b h.of k.of; named = both_named a b h.named k.named }

told_quiet : (name : List ℕ) (at : At) (kinds : List EventKind) → QuietLines at.now.0 (told name at kinds)
told_quiet name at kinds = record { of = told_of name at kinds; named = told_named name at kinds }

length_set : {A : Type 0} (xs : List A) (i : ℕ) (x : A) → length (slice_set xs i x) ≡ length xs
length_set [] i x = refl
length_set (a ∷ xs) zero x = refl
length_set (a ∷ xs) (suc i) x = ap suc (length_set xs i x)

abbrev at_of : Move → At
at_of (Starts at c) = at
at_of (BreaksDown at) = at
at_of (Arrives at port m) = at
at_of (Leaves at port) = at
at_of (Admits at port) = at
at_of (GoesOut at channel m) = at
at_of (Advances at) = at

-- The frames begin at the origin; they end with a shutdown.
abbrev pub HasFrames : Option At → Frames → Type 0
HasFrames None f = f.is_down ≡ true
HasFrames (Some at) f = (f.is_down ≡ false) × (f.origin ≡ at.origin.0)

module _ {C : Type 0} where
  moved_quiet : (at : At) (e : Engine C) (s : Step Kernel) (w : World C) → QuietLines at.now.0 (moved at e s w).lines
  moved_quiet at e s w = told_quiet w.kernel.fixed.name at s.lines

  spends_quiet : (e : Engine C) (at : At) (o : Option Runner) (w : World C) → QuietLines at.now.0 (spends_chosen e at o w).lines
  spends_quiet e at None w = record { of = tt; named = tt }
  spends_quiet e at (Some p) w =
      let r = ticked e (control_at w.controls (place_of p)) w.words in
      moved_quiet at e (treats_asked at w.kernel p r.asks (given r.asks r.words)) (record w { controls = slice_set w.controls (place_of p) r.control; words = r.words })

  tick_quiet : (e : Engine C) (at : At) (w : World C) → QuietLines at.now.0 (tick e at w).lines
  tick_quiet e at w =
      let treated = treating_phase e at w in
      let due = due_phase e at w in
      let ready = prepares e at w in
      both_quiet at.now.0 ready.lines (spending_phase e at ready.world).lines
      (both_quiet at.now.0 due.lines (choice_phase e at due.world).lines
      (both_quiet at.now.0 treated.lines (clearing_phase e at (treats_due at w.kernel).clears treated.world).lines
      (moved_quiet at e (of_processes w.kernel (treats_due at w.kernel).step) w)
      (moved_quiet at e (then_clears treated.world.kernel (treats_due at w.kernel).clears) treated.world))
      (moved_quiet at e (chooses_with_handler due.world.kernel) due.world))
      (spends_quiet e at ready.world.kernel.processes.running ready.world)

  move_quiet : (move : Move) (x : Member C) → QuietLines (at_of move).now.0 (makes move x).lines
  move_quiet (Starts at c) x = moved_quiet at x.engine (clears x.world.kernel mode.ColdStart c) x.world
  move_quiet (BreaksDown at) x = moved_quiet at x.engine (breaks x.world.kernel) x.world
  move_quiet (Arrives at port m) x = moved_quiet at x.engine (of_ports x.world.kernel (ports.arrives at (with_ports x.world.kernel) (place_of_port port) m)) x.world
  move_quiet (Leaves at port) x = moved_quiet at x.engine (of_ports_alone x.world.kernel (ports.leaves x.world.kernel.ports (place_of_port port))) x.world
  move_quiet (Admits at port) x = moved_quiet at x.engine (of_ports x.world.kernel (ports.admits (with_ports x.world.kernel) (place_of_port port))) x.world
  move_quiet (GoesOut at channel m) x = record { of = (refl, tt); named = (tt, tt) }
  move_quiet (Advances at) x = tick_quiet x.engine at x.world

  still_quiet : (n : ℕ) (ms : List (Member C)) → Quiet n (length ms) (still ms)
  still_quiet n ms = record { of = tt; named = tt; kept = refl }

  then_quiet : (n count : ℕ) (a : Stepped (List (Member C))) (rest : List (Member C) → Stepped (List (Member C))) → Quiet n count a → ((ms : List (Member C)) → Quiet n (length ms) (rest ms)) → Quiet n count (then_goes a rest)
  then_quiet n count a rest h k =
      let b = k a.state in
      record { of = both_of n a.lines (rest a.state).lines h.of b.of; named = both_named a.lines (rest a.state).lines h.named b.named; kept = b.kept ∙ h.kept }

  member_quiet : (move : Move) (ms : List (Member C)) (q : ℕ) (o : Option (Member C)) → Quiet (at_of move).now.0 (length ms) (steps_member (makes move) ms q o)
  member_quiet move ms q None = still_quiet (at_of move).now.0 ms
  member_quiet move ms q (Some x) = let k = move_quiet move x in record { of = k.of; named = k.named; kept = length_set ms q (with_world x (makes move x).world) }

  steps_quiet : (move : Move) (ms : List (Member C)) (p : ℕ) → Quiet (at_of move).now.0 (length ms) (steps (makes move) ms p)
  steps_quiet move ms zero = still_quiet (at_of move).now.0 ms
  steps_quiet move ms (suc q) = member_quiet move ms q (slice_get ms q)

  -- ---- the starts

  starts_quiet : (at : At) (c : StartCondition) (ms : List (Member C)) → Quiet at.now.0 (length ms) (starts_all at c ms)
  starts_quiet at c [] = record { of = tt; named = tt; kept = refl }
  starts_quiet at c (x ∷ ms) =
      let h = move_quiet (Starts at c) x in
      let k = starts_quiet at c ms in
      record { of = both_of at.now.0 (start_lines at c x) (flat_map (start_lines at c) ms) h.of k.of; named = both_named (start_lines at c x) (flat_map (start_lines at c) ms) h.named k.named; kept = ap suc k.kept }

  -- ---- messages

  delivers_quiet : (at : At) (c : Channel) (m : ArrayVec _) (source e : ChannelEnd) (ms : List (Member C)) → Quiet at.now.0 (length ms) (delivers at c m source e ms)
  delivers_quiet at c m source (ends.Port q port) ms = steps_quiet (Arrives at port m) ms q.0
  delivers_quiet at c m (ends.Port p port) ends.Device ms = steps_quiet (GoesOut at c.name m) ms p.0
  delivers_quiet at c m ends.Device ends.Device ms = still_quiet at.now.0 ms

  all_quiet : (at : At) (c : Channel) (m : ArrayVec _) (es : List ChannelEnd) (ms : List (Member C)) → Quiet at.now.0 (length ms) (delivers_all at c m es ms)
  all_quiet at c m [] ms = still_quiet at.now.0 ms
  all_quiet at c m (e ∷ es) ms = then_quiet at.now.0 (length ms) (delivers at c m c.source e ms) (delivers_all at c m es) (delivers_quiet at c m c.source e ms) (all_quiet at c m es)

  goes_quiet : (at : At) (m : ArrayVec _) (o : Option Channel) (ms : List (Member C)) → Quiet at.now.0 (length ms) (goes_by at m o ms)
  goes_quiet at m None ms = still_quiet at.now.0 ms
  goes_quiet at m (Some c) ms = all_quiet at c m c.destinations ms

  -- ---- moves

  found_quiet : (channels : List Channel) (at : At) (p : PartitionId) (port : PortId) (o : Option (ArrayVec _)) (ms : List (Member C)) → Quiet at.now.0 (length ms) (moves_found channels at p port ms o)
  found_quiet channels at p port None ms = still_quiet at.now.0 ms
  found_quiet channels at p port (Some m) ms =
      then_quiet at.now.0 (length ms) (steps (makes (Leaves at port)) ms p.0) (goes_by at m (channel_from channels p port)) (steps_quiet (Leaves at port) ms p.0) (goes_quiet at m (channel_from channels p port))

  message_quiet : (channels : List Channel) (at : At) (p : PartitionId) (port : PortId) (ms : List (Member C)) → Quiet at.now.0 (length ms) (moves_message channels at p port ms)
  message_quiet channels at p port ms = found_quiet channels at p port (of_member None (leaving port) (at_number ms p.0)) ms

  messages_quiet : (n : ℕ) (channels : List Channel) (at : At) (p : PartitionId) (port : PortId) (ms : List (Member C)) → Quiet at.now.0 (length ms) (moves_messages n channels at p port ms)
  messages_quiet zero channels at p port ms = still_quiet at.now.0 ms
  messages_quiet (suc n) channels at p port ms =
      then_quiet at.now.0 (length ms) (moves_message channels at p port ms) (moves_messages n channels at p port) (message_quiet channels at p port ms) (messages_quiet n channels at p port)

  many_quiet : (channels : List Channel) (at : At) (p : PartitionId) (port : PortId) (o : Option ℕ) (ms : List (Member C)) → Quiet at.now.0 (length ms) (moves_so_many channels at p port ms o)
  many_quiet channels at p port None ms = still_quiet at.now.0 ms
  many_quiet channels at p port (Some n) ms =
      then_quiet at.now.0 (length ms) (moves_messages n channels at p port ms) (λ ns. steps (makes (Admits at port)) ns p.0) (messages_quiet n channels at p port ms) (λ ns. steps_quiet (Admits at port) ns p.0)

  ports_quiet : (n number : ℕ) (channels : List Channel) (at : At) (p : PartitionId) (ms : List (Member C)) → Quiet at.now.0 (length ms) (moves_ports n number channels at p ms)
  ports_quiet zero number channels at p ms = still_quiet at.now.0 ms
  ports_quiet (suc n) number channels at p ms =
      let port : PortId = record { 0 = number } in
      then_quiet at.now.0 (length ms) (moves_port channels at p port ms) (moves_ports n (number + 1) channels at p)
      (many_quiet channels at p port (messages_to_move (at_number (ports_from ms p.0) number)) ms) (ports_quiet n (number + 1) channels at p)

  ended_quiet : (channels : List Channel) (at : At) (o : Option ℕ) (ms : List (Member C)) → Quiet at.now.0 (length ms) (moves_ended channels at ms o)
  ended_quiet channels at None ms = still_quiet at.now.0 ms
  ended_quiet channels at (Some p) ms = ports_quiet (length (ports_from ms p)) 1 channels at (record { 0 = p }) ms

  owner_quiet : (at : At) (o : Option ℕ) (ms : List (Member C)) → Quiet at.now.0 (length ms) (ticks_owner at ms o)
  owner_quiet at None ms = still_quiet at.now.0 ms
  owner_quiet at (Some p) ms = steps_quiet (Advances at) ms p

  -- ---- faults of the module, and the devices

  -- a step from one tick and origin to where it leads
  pub record Leads (n count : ℕ) (at : At) (c : Course (List (Member C))) : Type 0 where
    pub of : AreOf n c.lines
    pub frames : (f : Frames) → HasFrames (Some at) f → HasFrames c.at (frames_after f c.lines)
    pub kept : length c.state ≡ count

  quiet_leads : (n count : ℕ) (at : At) (a : Stepped (List (Member C))) → Quiet n count a → Leads n count at (goes_on at a)
  quiet_leads n count at a h = record { of = h.of; frames = λ f k. subst (HasFrames (Some at)) (sym (named_frames f a.lines h.named)) k; kept = h.kept }

  breaks_leads : (at : At) (fault : ModuleAction) (ms : List (Member C)) → Leads at.now.0 (length ms) at (breaks_module at fault ms)
  breaks_leads at reaction.Ignore ms = record { of = (refl, tt); frames = λ f k. k; kept = refl }
  breaks_leads at reaction.Shutdown ms = record { of = (refl, tt); frames = λ f k. refl; kept = refl }
  breaks_leads at reaction.Reset ms =
      let h = starts_quiet (as_origin at) condition.HmModuleRestart ms in
      record {
        of = (refl, h.of);
        frames = λ f k.
            let g : Frames = record f { origin = at.now.0 } in
            subst (HasFrames (Some (as_origin at))) (sym (named_frames g (flat_map (start_lines (as_origin at) condition.HmModuleRestart) ms) h.named)) (k.0, refl);
        kept = h.kept;
      }

  input_leads : (plan : Plan) (at : At) (i : DeviceInput) (ms : List (Member C)) → Leads at.now.0 (length ms) at (inputs plan at i ms)
  input_leads plan at (device.Message channel m) ms = quiet_leads at.now.0 (length ms) at (goes_by at m (slice_get plan.channels channel.0) ms) (goes_quiet at m (slice_get plan.channels channel.0) ms)
  input_leads plan at (device.PartitionFault p) ms = quiet_leads at.now.0 (length ms) at (steps (makes (BreaksDown at)) ms p.0) (steps_quiet (BreaksDown at) ms p.0)
  input_leads plan at device.ModuleFault ms = breaks_leads at plan.fault ms

  -- one step, then another
  both_lead : (n count : ℕ) (at : At) (c : Course (List (Member C))) (rest : At → List (Member C) → Course (List (Member C))) → IsNow n c.at → Leads n count at c
      → ((a : At) (ms : List (Member C)) → a.now.0 ≡ n → Leads n (length ms) a (rest a ms)) → Leads n count at (unless_down c rest c.at)
  both_lead n count at c rest now h k = by_at c.at now h.frames
    where
      by_at : (o : Option At) → IsNow n o → ((f : Frames) → HasFrames (Some at) f → HasFrames o (frames_after f c.lines)) → Leads n count at (unless_down c rest o)
      by_at None e frames = record { of = h.of; frames = h.frames; kept = h.kept }
      by_at (Some a) e frames =
          let d = k a c.state e in
          record {
            of = both_of n c.lines (rest a c.state).lines h.of d.of;
            frames = λ f g. subst (HasFrames (rest a c.state).at) (sym (frames_both f c.lines (rest a c.state).lines)) (d.frames (frames_after f c.lines) (frames f g));
            kept = d.kept ∙ h.kept;
          }

  inputs_lead : (n : ℕ) (plan : Plan) (ls : List DeviceLine) (at : At) (ms : List (Member C)) → at.now.0 ≡ n → Leads n (length ms) at (inputs_all plan at ls ms)
  inputs_lead n plan [] at ms e = record { of = tt; frames = λ f k. k; kept = refl }
  inputs_lead n plan (l ∷ ls) at ms e =
      both_lead n (length ms) at (inputs plan at l.input ms) (λ a ns. inputs_all plan a ls ns) (now_in plan at l.input ms e)
      (subst (λ (i : ℕ). Leads i (length ms) at (inputs plan at l.input ms)) e (input_leads plan at l.input ms))
      (λ a ns k. inputs_lead n plan ls a ns k)
    where
      fault_now : (at : At) (a : ModuleAction) (ms : List (Member C)) → at.now.0 ≡ n → IsNow n (breaks_module at a ms).at
      fault_now at reaction.Ignore ms e = e
      fault_now at reaction.Shutdown ms e = tt
      fault_now at reaction.Reset ms e = e

      now_in : (plan : Plan) (at : At) (i : DeviceInput) (ms : List (Member C)) → at.now.0 ≡ n → IsNow n (inputs plan at i ms).at
      now_in plan at (device.Message channel m) ms e = e
      now_in plan at (device.PartitionFault p) ms e = e
      now_in plan at device.ModuleFault ms e = fault_now at plan.fault ms e

  -- ---- a tick

  moves_lead : (n : ℕ) (plan : Plan) (at : At) (ms : List (Member C)) → at.now.0 ≡ n → Leads n (length ms) at (moves_and_ticks plan at ms)
  moves_lead n plan at ms e =
      subst (λ (i : ℕ). Leads i (length ms) at (moves_and_ticks plan at ms)) e
      (quiet_leads at.now.0 (length ms) at _ (then_quiet at.now.0 (length ms) (moves_ended plan.channels at ms (ended plan.schedule at)) (λ ns. ticks_owner at ns (owner plan.schedule at)) (ended_quiet plan.channels at (ended plan.schedule at) ms) (owner_quiet at (owner plan.schedule at))))

  pub tick_leads : (plan : Plan) (devices : List DeviceLine) (at : At) (ms : List (Member C)) → Leads at.now.0 (length ms) at (module_tick plan at devices ms)
  tick_leads plan devices at ms =
      both_lead at.now.0 (length ms) at (inputs_all plan at (of_tick at.now.0 devices) ms) (moves_and_ticks plan) (inputs_in_tick plan at.now.0 (of_tick at.now.0 devices) at ms refl)
      (inputs_lead at.now.0 plan (of_tick at.now.0 devices) at ms refl)
      (λ a ns e. moves_lead at.now.0 plan a ns e)

  -- the tick up to the owner's leads to the same origin, with as many partitions
  before_same : (plan : Plan) (devices : List DeviceLine) (at : At) (ms : List (Member C)) → (before_owner plan at devices ms).at ≡ (module_tick plan at devices ms).at
  before_same plan devices at ms = by_at (inputs_all plan at (of_tick at.now.0 devices) ms).at refl
    where
      c : Course (List (Member C))
      c = inputs_all plan at (of_tick at.now.0 devices) ms

      by_at : (o : Option At) → c.at ≡ o → (unless_down c (λ a ns. goes_on a (moves_ended plan.channels a ns (ended plan.schedule a))) o).at ≡ (unless_down c (moves_and_ticks plan) o).at
      by_at None e = refl
      by_at (Some a) e = refl

  before_count : (plan : Plan) (devices : List DeviceLine) (at : At) (ms : List (Member C)) → length (before_owner plan at devices ms).state ≡ length ms
  before_count plan devices at ms = by_at (inputs_all plan at (of_tick at.now.0 devices) ms).at
    where
      c : Course (List (Member C))
      c = inputs_all plan at (of_tick at.now.0 devices) ms

      by_at : (o : Option At) → length (unless_down c (λ a ns. goes_on a (moves_ended plan.channels a ns (ended plan.schedule a))) o).state ≡ length ms
      by_at None = let h = inputs_lead at.now.0 plan (of_tick at.now.0 devices) at ms refl in h.kept
      by_at (Some a) = let h = inputs_lead at.now.0 plan (of_tick at.now.0 devices) at ms refl in let k = ended_quiet plan.channels a (ended plan.schedule a) c.state in k.kept ∙ h.kept

  before_now : (plan : Plan) (devices : List DeviceLine) (at : At) (ms : List (Member C)) → IsNow at.now.0 (before_owner plan at devices ms).at
  before_now plan devices at ms = subst (IsNow at.now.0) (sym (before_same plan devices at ms)) (tick_in plan devices at ms)

-- ---- lines in order

order_from : (m from : ℕ) (lines : List Event) → from ≤ m → AreInOrder m lines → AreInOrder from lines
order_from m from [] l h = tt
order_from m from (e ∷ es) l h = let a = h.0 in (omega (arith, l, a), h.1)

order_both : (m n from : ℕ) (a b : List Event) → from ≤ n → n ≤ m → AreOf n a → AreInOrder m b → AreInOrder from (a ++ b)
order_both m n from [] b l k h g = order_from m from b (omega (arith, l, k)) g
order_both m n from (e ∷ a) b l k h g = let is = h.0 in (omega (arith, is, l), order_both m n e.tick.0 a b (omega (arith, is)) k h.1 g)

of_up_to : (n t : ℕ) (lines : List Event) → n ≤ t → AreOf n lines → AreUpTo t lines
of_up_to n t [] l h = tt
of_up_to n t (e ∷ es) l h = let is = h.0 in (omega (arith, is, l), of_up_to n t es l h.1)

up_to_front : (t : ℕ) (a b : List Event) → AreUpTo t a → up_to t (a ++ b) ≡ a ++ up_to t b
up_to_front t [] b h = refl
up_to_front t (e ∷ a) b h = ap (λ (c : Bool). if c then [] else e ∷ up_to t (a ++ b)) (le-ltb t e.tick.0 h.0) ∙ ap (λ (es : List Event). e ∷ es) (up_to_front t a b h.1)

later_none : (t : ℕ) (lines : List Event) → AreInOrder (suc t) lines → up_to t lines ≡ []
later_none t [] h = refl
later_none t (e ∷ es) h = let l = h.0 in ap (λ (c : Bool). if c then [] else e ∷ up_to t es) (lt-ltb t e.tick.0 (omega (arith, l)))

next_now : (n : ℕ) (o : Option At) → IsNow n o → IsNow (suc n) (option_map next_tick o)
next_now n None e = tt
next_now n (Some at) e = omega (arith, e)

next_frames : (o : Option At) (f : Frames) → HasFrames o f → HasFrames (option_map next_tick o) f
next_frames None f h = h
next_frames (Some at) f h = h

module _ {C : Type 0} (plan : Plan) (devices : List DeviceLine) where
  abbrev result : At → List (Member C) → Course (List (Member C))
  result at ms = module_tick plan at devices ms

  abbrev later : ℕ → At → List (Member C) → List Event
  later n at ms = trace_from plan devices n (option_map next_tick (result at ms).at) (result at ms).state

  after_tick : (now : ℕ) (at : At) (ms : List (Member C)) → IsNow now (Some at) → IsNow (suc now) (option_map next_tick (result at ms).at)
  after_tick now at ms e = next_now now (result at ms).at (subst (λ (n : ℕ). IsNow n (result at ms).at) e (tick_in plan devices at ms))

  of_now : (now : ℕ) (at : At) (ms : List (Member C)) → IsNow now (Some at) → AreOf now (result at ms).lines
  of_now now at ms e = subst (λ (n : ℕ). AreOf n (result at ms).lines) e (tick_leads plan devices at ms).of

  trace_order : (n now : ℕ) (o : Option At) (ms : List (Member C)) → IsNow now o → AreInOrder now (trace_from plan devices n o ms)
  trace_order zero now o ms e = tt
  trace_order (suc n) now None ms e = tt
  trace_order (suc n) now (Some at) ms e =
      order_both (suc now) now now (result at ms).lines (later n at ms) (omega arith) (omega arith) (of_now now at ms e)
      (trace_order n (suc now) (option_map next_tick (result at ms).at) (result at ms).state (after_tick now at ms e))

  trace_up_to : (i k now : ℕ) (o : Option At) (ms : List (Member C)) → i < k → IsNow now o → up_to (now + i) (trace_from plan devices k o ms) ≡ trace_from plan devices (suc i) o ms
  trace_up_to i zero now o ms l e = absurd (omega (arith, l))
  trace_up_to i (suc k) now None ms l e = refl
  trace_up_to zero (suc k) now (Some at) ms l e =
      let rest = trace_order k (suc now) (option_map next_tick (result at ms).at) (result at ms).state (after_tick now at ms e) in
      let is : suc now ≡ suc (now + 0) = omega arith in
      up_to_front (now + 0) (result at ms).lines (later k at ms) (of_up_to now (now + 0) (result at ms).lines (omega arith) (of_now now at ms e))
      ∙ ap (λ (es : List Event). (result at ms).lines ++ es) (later_none (now + 0) (later k at ms) (subst (λ (n : ℕ). AreInOrder n (later k at ms)) is rest))
  trace_up_to (suc i) (suc k) now (Some at) ms l e =
      let is : now + suc i ≡ suc now + i = omega arith in
      up_to_front (now + suc i) (result at ms).lines (later k at ms) (of_up_to now (now + suc i) (result at ms).lines (omega arith) (of_now now at ms e))
      ∙ ap (λ (es : List Event). (result at ms).lines ++ es)
      (ap (λ (t : ℕ). up_to t (later k at ms)) is ∙ trace_up_to i k (suc now) (option_map next_tick (result at ms).at) (result at ms).state (omega (arith, l)) (after_tick now at ms e))

  from_frames : (n now : ℕ) (o : Option At) (ms : List (Member C)) (f : Frames) → IsNow now o → HasFrames o f → HasFrames (before_owner_from plan devices n o ms).at (frames_after f (trace_from plan devices (suc n) o ms))
  from_frames zero now None ms f e h = h
  from_frames zero now (Some at) ms f e h =
      let k = tick_leads plan devices at ms in
      subst (λ (g : Frames). HasFrames (before_owner plan at devices ms).at g) (sym (frames_both f (result at ms).lines []))
      (subst (λ (o : Option At). HasFrames o (frames_after f (result at ms).lines)) (sym (before_same plan devices at ms)) (k.frames f h))
  from_frames (suc n) now None ms f e h = h
  from_frames (suc n) now (Some at) ms f e h =
      let k = tick_leads plan devices at ms in
      let rest = from_frames n (suc now) (option_map next_tick (result at ms).at) (result at ms).state (frames_after f (result at ms).lines) (after_tick now at ms e) (next_frames (result at ms).at (frames_after f (result at ms).lines) (k.frames f h)) in
      subst (λ (g : Frames). HasFrames (before_owner_from plan devices (suc n) (Some at) ms).at g) (sym (frames_both f (result at ms).lines (later (suc n) at ms))) rest

  from_now : (n now : ℕ) (o : Option At) (ms : List (Member C)) → IsNow now o → IsNow (now + n) (before_owner_from plan devices n o ms).at
  from_now zero now None ms e = tt
  from_now zero now (Some at) ms e = let is : at.now.0 ≡ now + 0 = omega (arith, e) in subst (λ (t : ℕ). IsNow t (before_owner plan at devices ms).at) is (before_now plan devices at ms)
  from_now (suc n) now None ms e = tt
  from_now (suc n) now (Some at) ms e =
      let is : suc now + n ≡ now + suc n = omega arith in
      subst (λ (t : ℕ). IsNow t (before_owner_from plan devices (suc n) (Some at) ms).at) is (from_now n (suc now) (option_map next_tick (result at ms).at) (result at ms).state (after_tick now at ms e))

  from_count : (n : ℕ) (o : Option At) (ms : List (Member C)) → length (before_owner_from plan devices n o ms).state ≡ length ms
  from_count zero None ms = refl
  from_count zero (Some at) ms = before_count plan devices at ms
  from_count (suc n) None ms = refl
  from_count (suc n) (Some at) ms = from_count n (option_map next_tick (result at ms).at) (result at ms).state ∙ (tick_leads plan devices at ms).kept

-- ---- a run

module _ {C : Type 0} (m : Module C) (devices : List DeviceLine) where
  abbrev started : Stepped (List (Member C))
  started = starts_all first_tick condition.NormalStart m.members

  started_quiet : Quiet 0 (length m.members) started
  started_quiet = starts_quiet first_tick condition.NormalStart m.members

  pub run_order : (n : ℕ) → AreInOrder 0 (trace m devices n)
  run_order zero = tt
  run_order (suc n) = order_both 0 0 0 started.lines (trace_from m.plan devices (suc n) (Some first_tick) started.state) (omega arith) (omega arith) started_quiet.of (trace_order m.plan devices (suc n) 0 (Some first_tick) started.state refl)

  pub run_up_to : (n t : ℕ) → t < n → up_to t (trace m devices n) ≡ trace m devices (suc t)
  run_up_to zero t l = absurd (omega (arith, l))
  run_up_to (suc n) t l =
      let is : t ≡ 0 + t = omega arith in
      let rest = trace_from m.plan devices (suc n) (Some first_tick) started.state in
      up_to_front t started.lines rest (of_up_to 0 t started.lines (omega arith) started_quiet.of)
      ∙ ap (λ (es : List Event). started.lines ++ es) (ap (λ (i : ℕ). up_to i rest) is ∙ trace_up_to m.plan devices t (suc n) 0 (Some first_tick) started.state l refl)

  pub run_frames : (n : ℕ) → HasFrames (before_owner_in m devices n).at (frames_after at_first (trace m devices (suc n)))
  run_frames n =
      let rest = trace_from m.plan devices (suc n) (Some first_tick) started.state in
      let is : frames_after at_first (started.lines ++ rest) ≡ frames_after at_first rest = frames_both at_first started.lines rest ∙ ap (λ (f : Frames). frames_after f rest) (named_frames at_first started.lines started_quiet.named) in
      subst (HasFrames (before_owner_in m devices n).at) (sym is) (from_frames m.plan devices n 0 (Some first_tick) started.state at_first refl (refl, refl))

  pub run_now : (n : ℕ) → IsNow n (before_owner_in m devices n).at
  run_now n = let is : 0 + n ≡ n = omega arith in subst (λ (t : ℕ). IsNow t (before_owner_in m devices n).at) is (from_now m.plan devices n 0 (Some first_tick) started.state refl)

  pub run_count : (n : ℕ) → length (before_owner_in m devices n).state ≡ length m.members
  run_count n = from_count m.plan devices n (Some first_tick) started.state ∙ started_quiet.kept

  -- as many partitions after n ticks
  members_count : (n : ℕ) (o : Option At) (ms : List (Member C)) → length (members_from m.plan devices n o ms) ≡ length ms
  members_count zero o ms = refl
  members_count (suc n) None ms = refl
  members_count (suc n) (Some at) ms =
      let r = module_tick m.plan at devices ms in
      members_count n (option_map next_tick r.at) r.state ∙ (tick_leads m.plan devices at ms).kept

  pub run_members : (n : ℕ) → length (members_after m devices n) ≡ length m.members
  run_members zero = refl
  run_members (suc n) = members_count (suc n) (Some first_tick) started.state ∙ started_quiet.kept

-- Every run of a module is a history.
use Rattle.kernel_laws.proofs.Prelude.{◌≡◌, ℕ, zero, suc, ◌+◌, ℤ, List, ◌∷◌, ◌++◌, map, length, Option, Some, None, refl, sym, ◌∙◌, append_assoc, slice_get, slice_set, option_map, ArrayVec, StartCondition, DeviceLine, Event, At, PartitionId, PortId, Channel, at_number, Plan, Module, Stepped, Course, still, then_goes, then_runs, steps, steps_member, inputs_all, of_tick, of_member, moves_so_many, ports_from, moves_port, moves_ports, moves_ended, ticks_owner, moves_and_ticks, module_tick, next_tick, trace_from, Member, messages_to_move, owner, ended, Move, Starts, BreaksDown, Arrives, Leaves, Admits, GoesOut, Advances, makes, Happening, Moves, Tells, happens, all_happen, members_after}
use Rattle.std.proofs.Common.{[], ap, append-nil}
use Rattle.std.specs.Prelude.{flat_map}
use Rattle.apex_types.specs.declared.codes.ModuleAction.{ModuleAction}
use Rattle.apex_types.specs.declared.codes.ModuleAction.TheVariants as reaction
use Rattle.apex_types.specs.declared.codes.StartCondition.TheVariants as condition
use Rattle.apex_types.specs.declared.device.DeviceInput.{DeviceInput}
use Rattle.apex_types.specs.declared.device.DeviceInput.TheVariants as device
use Rattle.apex_types.specs.declared.row.ChannelEnd.{ChannelEnd}
use Rattle.apex_types.specs.declared.row.ChannelEnd.TheVariants as ends
use Rattle.module_meaning.specs.Module.{unless_down, started_member, start_lines, starts_all, delivers, delivers_all, goes_by, tells_fault, as_origin, breaks_module, inputs, channel_from, moves_found, moves_message, moves_messages, first_tick, trace}
use Rattle.kernel_meaning.specs.Partition.{leaving}
use Rattle.kernel_laws.specs.History.{members_from}

-- ---- lists

get_behind : {A : Type 0} (xs : List A) (y : A) (zs : List A) → slice_get (xs ++ y ∷ zs) (length xs) ≡ Some y
get_behind [] y zs = refl
get_behind (x ∷ xs) y zs = get_behind xs y zs

set_behind : {A : Type 0} (xs : List A) (y z : A) (zs : List A) → slice_set (xs ++ y ∷ zs) (length xs) z ≡ xs ++ z ∷ zs
set_behind [] y z zs = refl
set_behind (x ∷ xs) y z zs = ap (λ rest. x ∷ rest) (set_behind xs y z zs)

length_last : {A : Type 0} (xs : List A) (y : A) → length (xs ++ y ∷ []) ≡ suc (length xs)
length_last [] y = refl
length_last (x ∷ xs) y = ap suc (length_last xs y)

-- the starts of n partitions, from index `place` on
abbrev starts_at : At → StartCondition → ℕ → ℕ → List Happening
starts_at at c zero place = []
starts_at at c (suc n) place = Moves (suc place) (Starts at c) ∷ starts_at at c n (suc place)

module _ {C : Type 0} where
  -- a step of the module is a history
  pub record IsHistory (ms : List (Member C)) (a : Stepped (List (Member C))) : Type 0 where
    pub history : List Happening
    pub same : a ≡ all_happen history ms

  -- the members and the lines of a step that may shut the module down
  abbrev pub stepped : Course (List (Member C)) → Stepped (List (Member C))
  stepped c = record { state = c.state; lines = c.lines }

  -- ---- one after another

  -- to these members, with these lines
  abbrev leads : List (Member C) → List Event → Stepped (List (Member C))
  leads ms lines = record { state = ms; lines = lines }

  -- with lines before its own
  abbrev before : List Event → Stepped (List (Member C)) → Stepped (List (Member C))
  before ls a = leads a.state (ls ++ a.lines)

  happen_after : (hs ks : List Happening) (ms : List (Member C)) → all_happen (hs ++ ks) ms ≡ then_goes (all_happen hs ms) (all_happen ks)
  happen_after [] ks ms = refl
  happen_after (h ∷ hs) ks ms =
      let a = happens h ms in
      let rest = all_happen hs a.state in
      ap (before a.lines) (happen_after hs ks a.state) ∙ ap (leads (all_happen ks rest.state).state) (sym (append_assoc a.lines rest.lines (all_happen ks rest.state).lines))

  pub still_is : (ms : List (Member C)) → IsHistory ms (still ms)
  still_is ms = record { history = []; same = refl }

  pub then_is : (ms : List (Member C)) (a : Stepped (List (Member C))) (p : List (Member C) → Stepped (List (Member C))) → IsHistory ms a → ((ns : List (Member C)) → IsHistory ns (p ns)) → IsHistory ms (then_goes a p)
  then_is ms a p h rest =
      let more = rest a.state in
      record {
        history = h.history ++ more.history;
        same = ap (before a.lines) more.same ∙ ap (λ (b : Stepped (List (Member C))). then_goes b (all_happen more.history)) h.same ∙ sym (happen_after h.history more.history ms);
      }

  -- a move of one partition
  move_is : (move : Move) (p : ℕ) (ms : List (Member C)) → IsHistory ms (steps (makes move) ms p)
  move_is move p ms =
      let a : Stepped (List (Member C)) = steps (makes move) ms p in
      record { history = Moves p move ∷ []; same = ap (leads a.state) (sym (append-nil a.lines)) }

  line_is : (at : At) (action : ModuleAction) (ms : List (Member C)) → IsHistory ms (tells_fault at action ms)
  line_is at action ms = record { history = Tells at action ∷ []; same = refl }

  unless_is : (ms : List (Member C)) (c : Course (List (Member C))) (p : At → List (Member C) → Course (List (Member C))) (o : Option At) → IsHistory ms (stepped c)
      → ((at : At) (ns : List (Member C)) → IsHistory ns (stepped (p at ns))) → IsHistory ms (stepped (unless_down c p o))
  unless_is ms c p None h rest = h
  unless_is ms c p (Some at) h rest = then_is ms (stepped c) (λ ns. stepped (p at ns)) h (rest at)

  runs_is : (ms : List (Member C)) (c : Course (List (Member C))) (p : At → List (Member C) → Course (List (Member C))) → IsHistory ms (stepped c) → ((at : At) (ns : List (Member C)) → IsHistory ns (stepped (p at ns)))
      → IsHistory ms (stepped (then_runs c p))
  runs_is ms c p h rest = unless_is ms c p c.at h rest

  -- ---- the start of all

  -- the start of the first that has not started yet
  one_starts : (at : At) (c : StartCondition) (done : List (Member C)) (x : Member C) (ms : List (Member C))
      → happens (Moves (suc (length done)) (Starts at c)) (done ++ x ∷ ms) ≡ leads (done ++ started_member at c x ∷ ms) (start_lines at c x)
  one_starts at c done x ms =
      ap (steps_member (makes (Starts at c)) (done ++ x ∷ ms) (length done)) (get_behind done x ms)
      ∙ ap (λ (ns : List (Member C)). leads ns (start_lines at c x)) (set_behind done x (started_member at c x) ms)

  -- if those before have started
  starts_behind : (at : At) (c : StartCondition) (done ms : List (Member C))
      → all_happen (starts_at at c (length ms) (length done)) (done ++ ms) ≡ leads (done ++ map (started_member at c) ms) (flat_map (start_lines at c) ms)
  starts_behind at c done [] = refl
  starts_behind at c done (x ∷ ms) =
      let y : Member C = started_member at c x in
      let ls : List Event = flat_map (start_lines at c) ms in
      ap (λ (a : Stepped (List (Member C))). then_goes a (all_happen (starts_at at c (length ms) (suc (length done))))) (one_starts at c done x ms)
      ∙ ap (before (start_lines at c x))
      (ap (λ (n : ℕ). all_happen (starts_at at c (length ms) n) (done ++ y ∷ ms)) (sym (length_last done y))
      ∙ ap (all_happen (starts_at at c (length ms) (length (done ++ y ∷ [])))) (sym (append_assoc done (y ∷ []) ms))
      ∙ starts_behind at c (done ++ y ∷ []) ms
      ∙ ap (λ (ns : List (Member C)). leads ns ls) (append_assoc done (y ∷ []) (map (started_member at c) ms)))

  starts_is : (at : At) (c : StartCondition) (ms : List (Member C)) → IsHistory ms (starts_all at c ms)
  starts_is at c ms = record { history = starts_at at c (length ms) 0; same = sym (starts_behind at c [] ms) }

  -- ---- messages

  delivers_is : (at : At) (c : Channel) (m : ArrayVec ℤ) (source e : ChannelEnd) (ms : List (Member C)) → IsHistory ms (delivers at c m source e ms)
  delivers_is at c m source (ends.Port q port) ms = move_is (Arrives at port m) q.0 ms
  delivers_is at c m (ends.Port p port) ends.Device ms = move_is (GoesOut at c.name m) p.0 ms
  delivers_is at c m ends.Device ends.Device ms = still_is ms

  delivers_all_is : (at : At) (c : Channel) (m : ArrayVec ℤ) (es : List ChannelEnd) (ms : List (Member C)) → IsHistory ms (delivers_all at c m es ms)
  delivers_all_is at c m [] ms = still_is ms
  delivers_all_is at c m (e ∷ es) ms = then_is ms (delivers at c m c.source e ms) (delivers_all at c m es) (delivers_is at c m c.source e ms) (delivers_all_is at c m es)

  goes_by_is : (at : At) (m : ArrayVec ℤ) (o : Option Channel) (ms : List (Member C)) → IsHistory ms (goes_by at m o ms)
  goes_by_is at m None ms = still_is ms
  goes_by_is at m (Some c) ms = delivers_all_is at c m c.destinations ms

  -- ---- the devices

  breaks_is : (at : At) (fault : ModuleAction) (ms : List (Member C)) → IsHistory ms (stepped (breaks_module at fault ms))
  breaks_is at reaction.Ignore ms = line_is at reaction.Ignore ms
  breaks_is at reaction.Shutdown ms = line_is at reaction.Shutdown ms
  breaks_is at reaction.Reset ms =
      then_is ms (tells_fault at reaction.Reset ms) (starts_all (as_origin at) condition.HmModuleRestart) (line_is at reaction.Reset ms) (starts_is (as_origin at) condition.HmModuleRestart)

  input_is : (plan : Plan) (at : At) (i : DeviceInput) (ms : List (Member C)) → IsHistory ms (stepped (inputs plan at i ms))
  input_is plan at (device.Message channel m) ms = goes_by_is at m (slice_get plan.channels channel.0) ms
  input_is plan at (device.PartitionFault p) ms = move_is (BreaksDown at) p.0 ms
  input_is plan at device.ModuleFault ms = breaks_is at plan.fault ms

  inputs_is : (plan : Plan) (ls : List DeviceLine) (at : At) (ms : List (Member C)) → IsHistory ms (stepped (inputs_all plan at ls ms))
  inputs_is plan [] at ms = still_is ms
  inputs_is plan (l ∷ ls) at ms = runs_is ms (inputs plan at l.input ms) (λ a ns. inputs_all plan a ls ns) (input_is plan at l.input ms) (inputs_is plan ls)

  -- ---- moves

  found_is : (channels : List Channel) (at : At) (p : PartitionId) (port : PortId) (ms : List (Member C)) (o : Option (ArrayVec ℤ)) → IsHistory ms (moves_found channels at p port ms o)
  found_is channels at p port ms None = still_is ms
  found_is channels at p port ms (Some m) =
      then_is ms (steps (makes (Leaves at port)) ms p.0) (goes_by at m (channel_from channels p port)) (move_is (Leaves at port) p.0 ms) (goes_by_is at m (channel_from channels p port))

  message_is : (channels : List Channel) (at : At) (p : PartitionId) (port : PortId) (ms : List (Member C)) → IsHistory ms (moves_message channels at p port ms)
  message_is channels at p port ms = found_is channels at p port ms (of_member None (leaving port) (at_number ms p.0))

  messages_is : (n : ℕ) (channels : List Channel) (at : At) (p : PartitionId) (port : PortId) (ms : List (Member C)) → IsHistory ms (moves_messages n channels at p port ms)
  messages_is zero channels at p port ms = still_is ms
  messages_is (suc n) channels at p port ms =
      then_is ms (moves_message channels at p port ms) (moves_messages n channels at p port) (message_is channels at p port ms) (messages_is n channels at p port)

  so_many_is : (channels : List Channel) (at : At) (p : PartitionId) (port : PortId) (ms : List (Member C)) (o : Option ℕ) → IsHistory ms (moves_so_many channels at p port ms o)
  so_many_is channels at p port ms None = still_is ms
  so_many_is channels at p port ms (Some n) =
      then_is ms (moves_messages n channels at p port ms) (λ ns. steps (makes (Admits at port)) ns p.0) (messages_is n channels at p port ms) (move_is (Admits at port) p.0)

  ports_is : (n number : ℕ) (channels : List Channel) (at : At) (p : PartitionId) (ms : List (Member C)) → IsHistory ms (moves_ports n number channels at p ms)
  ports_is zero number channels at p ms = still_is ms
  ports_is (suc n) number channels at p ms =
      let port : PortId = record { 0 = number } in
      then_is ms (moves_port channels at p port ms) (moves_ports n (number + 1) channels at p)
      (so_many_is channels at p port ms (messages_to_move (at_number (ports_from ms p.0) number))) (ports_is n (number + 1) channels at p)

  ended_is : (channels : List Channel) (at : At) (ms : List (Member C)) (o : Option ℕ) → IsHistory ms (moves_ended channels at ms o)
  ended_is channels at ms None = still_is ms
  ended_is channels at ms (Some p) = ports_is (length (ports_from ms p)) 1 channels at (record { 0 = p }) ms

  -- ---- one tick

  owner_is : (at : At) (o : Option ℕ) (ms : List (Member C)) → IsHistory ms (ticks_owner at ms o)
  owner_is at None ms = still_is ms
  owner_is at (Some p) ms = move_is (Advances at) p ms

  moves_and_ticks_is : (plan : Plan) (at : At) (ms : List (Member C)) → IsHistory ms (stepped (moves_and_ticks plan at ms))
  moves_and_ticks_is plan at ms =
      then_is ms (moves_ended plan.channels at ms (ended plan.schedule at)) (λ ns. ticks_owner at ns (owner plan.schedule at))
      (ended_is plan.channels at ms (ended plan.schedule at)) (owner_is at (owner plan.schedule at))

  tick_is : (plan : Plan) (devices : List DeviceLine) (at : At) (ms : List (Member C)) → IsHistory ms (stepped (module_tick plan at devices ms))
  tick_is plan devices at ms =
      runs_is ms (inputs_all plan at (of_tick at.now.0 devices) ms) (moves_and_ticks plan) (inputs_is plan (of_tick at.now.0 devices) at ms) (moves_and_ticks_is plan)

  -- ---- a run

  -- the members and the lines of n ticks
  abbrev run_from : Plan → List DeviceLine → ℕ → Option At → List (Member C) → Stepped (List (Member C))
  run_from plan devices n at ms = record { state = members_from plan devices n at ms; lines = trace_from plan devices n at ms }

  run_from_is : (plan : Plan) (devices : List DeviceLine) (n : ℕ) (o : Option At) (ms : List (Member C)) → IsHistory ms (run_from plan devices n o ms)
  run_from_is plan devices zero o ms = still_is ms
  run_from_is plan devices (suc n) None ms = still_is ms
  run_from_is plan devices (suc n) (Some at) ms =
      let r = module_tick plan at devices ms in
      then_is ms (stepped r) (run_from plan devices n (option_map next_tick r.at)) (tick_is plan devices at ms) (run_from_is plan devices n (option_map next_tick r.at))

  abbrev pub run : Module C → List DeviceLine → ℕ → Stepped (List (Member C))
  run m devices n = record { state = members_after m devices n; lines = trace m devices n }

  pub run_is : (m : Module C) (devices : List DeviceLine) (n : ℕ) → IsHistory m.members (run m devices n)
  run_is m devices zero = still_is m.members
  run_is m devices (suc n) =
      then_is m.members (starts_all first_tick condition.NormalStart m.members) (run_from m.plan devices (suc n) (Some first_tick))
      (starts_is first_tick condition.NormalStart m.members) (run_from_is m.plan devices (suc n) (Some first_tick))

-- In every run what the lines tell of a partition agrees with it, and who spends its ticks by the lines is the chosen runner.
use Rattle.std.proofs.Common.{append-nil, append_assoc, ◌≡◌, ◌≢◌, ◌⊎◌, inl, inr, ℕ, zero, suc, Bool, true, false, List, [], ◌∷◌, ◌++◌, length, map, Option, Some, None, refl, sym, ap, ◌∙◌, subst, arith, ◌<◌, ◌≤◌}
use Rattle.std.specs.Prelude.{◌+◌, ◌==◌, if◌then◌else◌, option_map, slice_get}
use Rattle.std.proofs.lemmas.Bool.{eqb-false, eqb-true, ne_eqb}
use Rattle.std.specs.List.{flat_map}
use Rattle.std.proofs.lemmas.Option.{none-some, same_Some}
use Rattle.arrayvec.specs.ArrayVec.{ArrayVec}
use Rattle.apex_types.specs.declared.codes.Discipline.{Discipline}
use Rattle.apex_types.specs.declared.codes.Mode.TheVariants as mode
use Rattle.apex_types.specs.declared.codes.ModuleAction.{ModuleAction}
use Rattle.apex_types.specs.declared.codes.ModuleAction.TheVariants as reaction
use Rattle.apex_types.specs.declared.codes.StartCondition.{StartCondition}
use Rattle.apex_types.specs.declared.codes.StartCondition.TheVariants as condition
use Rattle.apex_types.specs.declared.device.DeviceInput.{DeviceInput}
use Rattle.apex_types.specs.declared.device.DeviceInput.TheVariants as device
use Rattle.apex_types.specs.declared.device.DeviceLine.{DeviceLine}
use Rattle.apex_types.specs.declared.event.Event.{Event}
use Rattle.apex_types.specs.declared.event.Subject.{Subject}
use Rattle.apex_types.specs.declared.identity.At.{At}
use Rattle.apex_types.specs.declared.identity.ListKey.{ListKey}
use Rattle.apex_types.specs.declared.identity.PartitionId.{PartitionId}
use Rattle.apex_types.specs.declared.identity.PortId.{PortId}
use Rattle.apex_types.specs.declared.row.ChannelEnd.{ChannelEnd}
use Rattle.apex_types.specs.declared.row.ChannelEnd.TheVariants as ends
use Rattle.engine_meaning.specs.Digits.{same}
use Rattle.isolation.proofs.Kept.{move_keeps}
use Rattle.isolation.proofs.Prelude.{slice_get-map}
use Rattle.isolation.proofs.Steps.{IsApart, name_of}
use Rattle.kernel_laws.specs.History.{Move, Starts, BreaksDown, Arrives, Leaves, Admits, GoesOut, Advances, makes, members_after, members_from}
use Rattle.kernel_meaning.specs.Kernel.{Fixed}
use Rattle.kernel_meaning.specs.Partition.{Member, cold_start, leaving, messages_to_move, place_of_port}
use Rattle.kernel_meaning.specs.Windows.{ended, owner}
use Rattle.module_meaning.specs.Module.{Course, Module, Plan, as_origin, breaks_module, channel_from, delivers, delivers_all, first_tick, goes_by, goes_on, inputs, inputs_all, module_tick, moves_and_ticks, moves_ended, moves_found, moves_message, moves_messages, moves_port, moves_ports, moves_so_many, next_tick, of_member, of_tick, ports_from, start_lines, started_member, starts_all, Stepped, steps, steps_member, still, then_goes, ticks_owner, trace, trace_from, unless_down}
use Rattle.module_meaning.specs.Standing.{IsNow}
use Rattle.module_meaning.specs.Table.{Channel, at_number}
use Rattle.state_laws.specs.Spending.{before_owner, before_owner_from, chosen_by, owner_in, owner_of, worker, worker_at, worker_of}
use Rattle.state_laws.specs.Starts.{starts_advancing, starts_broken, starts_by, starts_by_all, starts_by_fault, starts_cold, starts_from, starts_in, starts_in_tick, starts_of_owner, starts_own, unless_shut}
use Rattle.state_laws.specs.Told.{Start, Told, cleared, first_told, told, told_from, worked_in, worker_by_lines}
use Rattle.state_laws.proofs.Agreement.{KernelAgrees, has_worked_last, reads_all}
use Rattle.state_laws.proofs.Members.{AreSaidBy, IsWell, Stands, StepsTo, TellsMove, IsOwn, last_by_all, said_by_both, said_other, said_own, steps_to, well_after, told_both, told_own, told_other, AllOf, all_own}
use Rattle.state_laws.proofs.Starting.{AllSaid}
use Rattle.state_laws.proofs.Moves.{IsBefore, MakesTo, MovesTo, TickTells, tick_tells, cleared_goes, breaks_goes, arrives_tells, admits_tells, leaves_tells}

abbrev starts_told : Told → List Start
starts_told t = t.starts

-- as after the first start
abbrev pub restarts : Told → Told
restarts t = record t { next = condition.PartitionRestart }

later : (n : ℕ) (o : Option (ℕ × Subject)) → IsBefore n o → IsBefore (suc n) o
later n None h = h
later n (Some w) h = omega (arith, h)

none_in : (n : ℕ) (o : Option (ℕ × Subject)) → IsBefore n o → worked_in n o ≡ None
none_in n None h = refl
none_in n (Some w) h = ap (λ (b : Bool). if b then Some w.1 else None) (ne_eqb w.0 n (λ e. omega (arith, e, h)))

-- no partition has the number 0
not_zero : (place : ℕ) (own ss : List Start) → ss ≡ (if 0 == suc place then own else []) ++ ss
not_zero place own ss = sym (ap (λ (b : Bool). (if b then own else []) ++ ss) (ne_eqb 0 (suc place) (λ e. absurd (omega (arith, e)))))

next : (n : ℕ) → n < suc n
next n = omega arith

next_now : (n : ℕ) (o : Option At) → IsNow n o → IsNow (suc n) (option_map next_tick o)
next_now n None e = tt
next_now n (Some at) e = omega (arith, e)

module _ {C : Type 0} (d : ListKey → Discipline) (called : List (List ℕ)) (name : List ℕ) (place : ℕ) (names : List (List ℕ)) (apart : IsApart name place names) where
  abbrev Stay : Told → List (Member C) → Type 0
  Stay t ms = Stands d called name place names apart t ms

  -- The partition stands, and the same has worked last. These starts are told, each after a line that gives its condition, if it is so of the line before.
  pub record LeadsTo (Before : Option StartCondition → Type 0) (began : List Start) (t : Told) (a : Stepped (List (Member C))) : Type 0 where
    pub stands : Stay (told_from name t a.lines) a.state
    pub same : (told_from name t a.lines).worked ≡ t.worked
    pub starts : (told_from name t a.lines).starts ≡ began ++ t.starts
    pub said : (last : Option StartCondition) → Before last → AreSaidBy name last t a.lines

  -- after any line
  abbrev pub BeginsTo : List Start → Told → Stepped (List (Member C)) → Type 0
  BeginsTo began t a = LeadsTo (λ last. Unit {0}) began t a

  -- without a start
  abbrev pub QuietTo : Told → Stepped (List (Member C)) → Type 0
  QuietTo t a = BeginsTo [] t a

  abbrev advanced : Course (List (Member C)) → Stepped (List (Member C))
  advanced c = record { state = c.state; lines = c.lines }

  still_to : (t : Told) (ms : List (Member C)) → Stay t ms → QuietTo t (still ms)
  still_to t ms h = record { stands = h; same = refl; starts = refl; said = λ last b. tt }

  then_begins : (first second : List Start) (t : Told) (a : Stepped (List (Member C))) (rest : List (Member C) → Stepped (List (Member C))) → BeginsTo first t a → ((u : Told) → Stay u a.state → BeginsTo second u (rest a.state))
      → BeginsTo (second ++ first) t (then_goes a rest)
  then_begins first second t a rest h k =
      let is = told_both name t a.lines (rest a.state).lines in
      let b = k (told_from name t a.lines) h.stands in
      record {
        stands = subst (λ (u : Told). Stay u (rest a.state).state) (sym is) b.stands;
        same = ap has_worked_last is ∙ b.same ∙ h.same;
        starts = ap starts_told is ∙ b.starts ∙ ap (λ (ss : List Start). second ++ ss) h.starts ∙ sym (append_assoc second first t.starts);
        said = λ last x. said_by_both name last t a.lines (rest a.state).lines (h.said last tt) (b.said (last_by_all name last a.lines) tt);
      }

  then_to : (t : Told) (a : Stepped (List (Member C))) (rest : List (Member C) → Stepped (List (Member C))) → QuietTo t a → ((u : Told) → Stay u a.state → QuietTo u (rest a.state)) → QuietTo t (then_goes a rest)
  then_to t a rest h k = then_begins [] [] t a rest h k

  -- the partition itself
  mine : (ms : List (Member C)) → map name_of ms ≡ names → (x : Member C) × ((slice_get ms place ≡ Some x) × (name_of x ≡ name))
  mine ms named = by_member (slice_get ms place) refl (sym (slice_get-map name_of ms place) ∙ ap (λ (ns : List (List ℕ)). slice_get ns place) named ∙ apart.here)
    where
      by_member : (o : Option (Member C)) → slice_get ms place ≡ o → option_map name_of o ≡ Some name → (x : Member C) × ((slice_get ms place ≡ Some x) × (name_of x ≡ name))
      by_member None e f = absurd (none-some name f)
      by_member (Some x) e f = (x, (e, same_Some (name_of x) name f))

  -- a move of a partition, with the starts that it makes if it is this one's
  moves_to : (tick : ℕ) (move : Move) (began : Member C → List Start) → ((t : Told) (x : Member C) → IsWell d called t x → MakesTo (began x) has_worked_last tick t (makes move x)) → (q : ℕ) (t : Told) (ms : List (Member C)) → Stay t ms
      → BeginsTo (starts_own (suc place) ms began q) t (steps (makes move) ms q)
  moves_to tick move began tells zero t ms h = record { stands = h; same = refl; starts = not_zero place (of_member [] began (at_number ms (suc place))) t.starts; said = λ last b. tt }
  moves_to tick move began tells (suc q) t ms h =
      let s = steps_to d called name place names apart t move ms q (slice_get ms q) refl h (λ x is here well. let m = tells t x well in record { agrees = m.agrees; said = λ last. m.said last tt }) in
      record { stands = s.stands; same = by_lines s.lines; starts = by_place (suc q == suc place) refl s; said = λ last b. s.said last }
    where
      u : Told
      u = told_from name t (steps_member (makes move) ms q (slice_get ms q)).lines

      by_lines : (u ≡ t) ⊎ IsOwn d called name place names apart t move ms q u → u.worked ≡ t.worked
      by_lines (inl e) = ap has_worked_last e
      by_lines (inr own) =
          let x = own.1.0 in
          let f = own.1.1 in
          let m = tells t x (h.own x f.0) in
          ap has_worked_last f.1 ∙ m.same

      by_place : (b : Bool) → (suc q == suc place) ≡ b → StepsTo d called name place names apart t move ms q (slice_get ms q) → u.starts ≡ (if b then of_member [] began (slice_get ms place) else []) ++ t.starts
      by_place true e s =
          let is : q ≡ place = let f = eqb-true (suc q) (suc place) e in omega (arith, f) in
          let own = mine ms h.named in
          let x = own.0 in
          let here = own.1 in
          let m = tells t x (h.own x here.0) in
          ap starts_told (s.read x is here.0) ∙ m.starts ∙ ap (λ (o : Option (Member C)). of_member [] began o ++ t.starts) (sym here.0)
      by_place false e s = other s.lines
        where
          other : (u ≡ t) ⊎ IsOwn d called name place names apart t move ms q u → u.starts ≡ t.starts
          other (inl f) = ap starts_told f
          other (inr own) = absurd (eqb-false (suc q) (suc place) e (ap suc own.0))

  quiet : (tick : ℕ) (move : Move) → ((t : Told) (x : Member C) → IsWell d called t x → MovesTo has_worked_last tick t (makes move x)) → (q : ℕ) (t : Told) (ms : List (Member C)) → Stay t ms → QuietTo t (steps (makes move) ms q)
  quiet tick move tells q t ms h =
      let k = moves_to tick move without tells q t ms h in
      record { stands = k.stands; same = k.same; starts = k.starts ∙ ap (λ (ss : List Start). ss ++ t.starts) (none (q == suc place) (at_number ms (suc place))); said = k.said }
    where
      without : Member C → List Start
      without x = []

      none : (b : Bool) (o : Option (Member C)) → (if b then of_member [] without o else []) ≡ []
      none true None = refl
      none true (Some x) = refl
      none false o = refl

  -- ---- messages

  arrives_to : (at : At) (port : PortId) (m : ArrayVec _) (q : ℕ) (t : Told) (ms : List (Member C)) → Stay t ms → QuietTo t (steps (makes (Arrives at port m)) ms q)
  arrives_to at port m = quiet at.now.0 (Arrives at port m) (λ t x w. arrives_tells x.engine at (place_of_port port) m x.world t w.agrees w.holds)

  leaves_to : (at : At) (port : PortId) (q : ℕ) (t : Told) (ms : List (Member C)) → Stay t ms → QuietTo t (steps (makes (Leaves at port)) ms q)
  leaves_to at port = quiet at.now.0 (Leaves at port) (λ t x w. leaves_tells x.engine at (place_of_port port) x.world t w.agrees)

  admits_to : (at : At) (port : PortId) (q : ℕ) (t : Told) (ms : List (Member C)) → Stay t ms → QuietTo t (steps (makes (Admits at port)) ms q)
  admits_to at port = quiet at.now.0 (Admits at port) (λ t x w. admits_tells x.engine at (place_of_port port) x.world t w.agrees w.holds)

  goes_out_to : (at : At) (channel : List ℕ) (m : ArrayVec _) (q : ℕ) (t : Told) (ms : List (Member C)) → Stay t ms → QuietTo t (steps (makes (GoesOut at channel m)) ms q)
  goes_out_to at channel m = quiet at.now.0 (GoesOut at channel m) (λ t x w. record { agrees = w.agrees; same = refl; before = λ n lt b. b; starts = refl; said = λ last b. (tt, tt) })

  breaks_to : (at : At) (q : ℕ) (t : Told) (ms : List (Member C)) → Stay t ms → BeginsTo (starts_own (suc place) ms (starts_broken at) q) t (steps (makes (BreaksDown at)) ms q)
  breaks_to at = moves_to at.now.0 (BreaksDown at) (starts_broken at) (λ t x w. breaks_goes x.engine at x.world t w.agrees)

  delivers_to : (at : At) (c : Channel) (m : ArrayVec _) (source e : ChannelEnd) (t : Told) (ms : List (Member C)) → Stay t ms → QuietTo t (delivers at c m source e ms)
  delivers_to at c m source (ends.Port q port) t ms h = arrives_to at port m q.0 t ms h
  delivers_to at c m (ends.Port p port) ends.Device t ms h = goes_out_to at c.name m p.0 t ms h
  delivers_to at c m ends.Device ends.Device t ms h = still_to t ms h

  delivers_all_to : (at : At) (c : Channel) (m : ArrayVec _) (es : List ChannelEnd) (t : Told) (ms : List (Member C)) → Stay t ms → QuietTo t (delivers_all at c m es ms)
  delivers_all_to at c m [] t ms h = still_to t ms h
  delivers_all_to at c m (e ∷ es) t ms h =
      then_to t (delivers at c m c.source e ms) (delivers_all at c m es) (delivers_to at c m c.source e t ms h) (λ u k. delivers_all_to at c m es u (delivers at c m c.source e ms).state k)

  goes_by_to : (at : At) (m : ArrayVec _) (o : Option Channel) (t : Told) (ms : List (Member C)) → Stay t ms → QuietTo t (goes_by at m o ms)
  goes_by_to at m None t ms h = still_to t ms h
  goes_by_to at m (Some c) t ms h = delivers_all_to at c m c.destinations t ms h

  -- ---- moves

  found_to : (channels : List Channel) (at : At) (p : PartitionId) (port : PortId) (o : Option (ArrayVec _)) (t : Told) (ms : List (Member C)) → Stay t ms → QuietTo t (moves_found channels at p port ms o)
  found_to channels at p port None t ms h = still_to t ms h
  found_to channels at p port (Some m) t ms h =
      then_to t (steps (makes (Leaves at port)) ms p.0) (goes_by at m (channel_from channels p port)) (leaves_to at port p.0 t ms h)
      (λ u k. goes_by_to at m (channel_from channels p port) u (steps (makes (Leaves at port)) ms p.0).state k)

  message_to : (channels : List Channel) (at : At) (p : PartitionId) (port : PortId) (t : Told) (ms : List (Member C)) → Stay t ms → QuietTo t (moves_message channels at p port ms)
  message_to channels at p port t ms h = found_to channels at p port (of_member None (leaving port) (at_number ms p.0)) t ms h

  messages_to : (n : ℕ) (channels : List Channel) (at : At) (p : PartitionId) (port : PortId) (t : Told) (ms : List (Member C)) → Stay t ms → QuietTo t (moves_messages n channels at p port ms)
  messages_to zero channels at p port t ms h = still_to t ms h
  messages_to (suc n) channels at p port t ms h =
      then_to t (moves_message channels at p port ms) (moves_messages n channels at p port) (message_to channels at p port t ms h) (λ u k. messages_to n channels at p port u (moves_message channels at p port ms).state k)

  so_many_to : (channels : List Channel) (at : At) (p : PartitionId) (port : PortId) (o : Option ℕ) (t : Told) (ms : List (Member C)) → Stay t ms → QuietTo t (moves_so_many channels at p port ms o)
  so_many_to channels at p port None t ms h = still_to t ms h
  so_many_to channels at p port (Some n) t ms h =
      then_to t (moves_messages n channels at p port ms) (λ ns. steps (makes (Admits at port)) ns p.0) (messages_to n channels at p port t ms h) (λ u k. admits_to at port p.0 u (moves_messages n channels at p port ms).state k)

  ports_to : (n number : ℕ) (channels : List Channel) (at : At) (p : PartitionId) (t : Told) (ms : List (Member C)) → Stay t ms → QuietTo t (moves_ports n number channels at p ms)
  ports_to zero number channels at p t ms h = still_to t ms h
  ports_to (suc n) number channels at p t ms h =
      let port : PortId = record { 0 = number } in
      then_to t (moves_port channels at p port ms) (moves_ports n (number + 1) channels at p)
      (so_many_to channels at p port (messages_to_move (at_number (ports_from ms p.0) number)) t ms h) (λ u k. ports_to n (number + 1) channels at p u (moves_port channels at p port ms).state k)

  ended_to : (channels : List Channel) (at : At) (o : Option ℕ) (t : Told) (ms : List (Member C)) → Stay t ms → QuietTo t (moves_ended channels at ms o)
  ended_to channels at None t ms h = still_to t ms h
  ended_to channels at (Some p) t ms h = ports_to (length (ports_from ms p)) 1 channels at (record { 0 = p }) t ms h

  -- ---- all partitions start

  module _ (at : At) (c : StartCondition) where
    others_start : (ms : List (Member C)) → ((q : ℕ) (y : Member C) → slice_get ms q ≡ Some y → same name (name_of y) ≡ false) → (u : Told) → told_from name u (flat_map (start_lines at c) ms) ≡ u
    others_start [] others u = refl
    others_start (y ∷ ys) others u =
        told_both name u (start_lines at c y) (flat_map (start_lines at c) ys)
        ∙ ap (λ (v : Told). told_from name v (flat_map (start_lines at c) ys)) (told_other name (name_of y) (others 0 y refl) u (start_lines at c y) (all_own (Starts at c) y))
        ∙ others_start ys (λ q z e. others (suc q) z e) u

    own_start : (ms : List (Member C)) (i : ℕ) (x : Member C) → slice_get ms i ≡ Some x → name_of x ≡ name → ((q : ℕ) (y : Member C) → q ≢ i → slice_get ms q ≡ Some y → same name (name_of y) ≡ false) → (u : Told)
        → told_from name u (flat_map (start_lines at c) ms) ≡ reads_all u (start_lines at c x)
    own_start [] i x e is others u = absurd (none-some x e)
    own_start (y ∷ ys) zero x e is others u =
        let own : y ≡ x = same_Some y x e in
        told_both name u (start_lines at c y) (flat_map (start_lines at c) ys)
        ∙ others_start ys (λ q z f. others (suc q) z (λ k. absurd (omega (arith, k))) f) (told_from name u (start_lines at c y))
        ∙ ap (λ (z : Member C). told_from name u (start_lines at c z)) own
        ∙ told_own name u (start_lines at c x) (subst (λ (n : List ℕ). AllOf n (start_lines at c x)) is (all_own (Starts at c) x))
    own_start (y ∷ ys) (suc i) x e is others u =
        told_both name u (start_lines at c y) (flat_map (start_lines at c) ys)
        ∙ ap (λ (v : Told). told_from name v (flat_map (start_lines at c) ys)) (told_other name (name_of y) (others 0 y (λ k. absurd (omega (arith, k))) refl) u (start_lines at c y) (all_own (Starts at c) y))
        ∙ own_start ys i x e is (λ q z n f. others (suc q) z (λ k. n (omega (arith, k))) f) u

    start_names : (ms : List (Member C)) → map name_of (map (started_member at c) ms) ≡ map name_of ms
    start_names [] = refl
    start_names (y ∷ ys) =
        let k = move_keeps (Starts at c) y in
        ap (λ (n : List ℕ). n ∷ map name_of (map (started_member at c) ys)) (ap (λ (f : Fixed). f.name) k.fixed) ∙ ap (λ (ns : List (List ℕ)). name_of y ∷ ns) (start_names ys)

    -- the lines of others leave it open what the next start is
    others_said : (ms : List (Member C)) → ((q : ℕ) (y : Member C) → slice_get ms q ≡ Some y → same name (name_of y) ≡ false) → (last : Option StartCondition) (u : Told) → AreSaidBy name last u (flat_map (start_lines at c) ms)
    others_said [] others last u = tt
    others_said (y ∷ ys) others last u =
        said_by_both name last u (start_lines at c y) (flat_map (start_lines at c) ys) (said_other name (name_of y) (others 0 y refl) last u (start_lines at c y) (all_own (Starts at c) y))
        (others_said ys (λ q z e. others (suc q) z e) _ _)

    other_last : (y : Member C) → same name (name_of y) ≡ false → (last : Option StartCondition) → last_by_all name last (start_lines at c y) ≡ last
    other_last y n last =
        ap (λ (b : Bool). if b then None else (if b then None else last)) n

    own_said : (ms : List (Member C)) (i : ℕ) (x : Member C) → slice_get ms i ≡ Some x → name_of x ≡ name → ((q : ℕ) (y : Member C) → q ≢ i → slice_get ms q ≡ Some y → same name (name_of y) ≡ false) → (last : Option StartCondition) (u : Told)
        → AllSaid last u (start_lines at c x) → AreSaidBy name last u (flat_map (start_lines at c) ms)
    own_said [] i x e is others last u h = absurd (none-some x e)
    own_said (y ∷ ys) zero x e is others last u h =
        let own : x ≡ y = sym (same_Some y x e) in
        said_by_both name last u (start_lines at c y) (flat_map (start_lines at c) ys)
        (subst (λ (z : Member C). AreSaidBy name last u (start_lines at c z)) own (said_own name last u (start_lines at c x) (subst (λ (n : List ℕ). AllOf n (start_lines at c x)) is (all_own (Starts at c) x)) h))
        (others_said ys (λ q z f. others (suc q) z (λ k. absurd (omega (arith, k))) f) _ _)
    own_said (y ∷ ys) (suc i) x e is others last u h =
        let n = others 0 y (λ k. absurd (omega (arith, k))) refl in
        said_by_both name last u (start_lines at c y) (flat_map (start_lines at c) ys) (said_other name (name_of y) n last u (start_lines at c y) (all_own (Starts at c) y))
        (subst (λ (o : Option StartCondition). AreSaidBy name o (told_from name u (start_lines at c y)) (flat_map (start_lines at c) ys)) (sym (other_last y n last))
        (subst (λ (v : Told). AreSaidBy name last v (flat_map (start_lines at c) ys)) (sym (told_other name (name_of y) n u (start_lines at c y) (all_own (Starts at c) y)))
        (own_said ys i x e is (λ q z m f. others (suc q) z (λ k. m (omega (arith, k))) f) last u h)))

    -- while nobody is told to run, and the condition is expected
    starts_to : (t u : Told) (ms : List (Member C)) → Stay t ms → u.running ≡ None → u.orderly ≡ t.orderly → u.next ≡ c
        → LeadsTo (λ last. last ≡ Some u.next) (of_member [] (starts_cold at c) (at_number ms (suc place))) u (starts_all at c ms)
    starts_to t u ms h none order next =
        let own = mine ms h.named in
        let x = own.0 in
        let here = own.1 in
        let well = h.own x here.0 in
        let m = cleared_goes x.engine at x.world u mode.ColdStart c well.agrees.processes.named refl none (order ∙ well.agrees.orderly) next in
        let others : (q : ℕ) (y : Member C) → q ≢ place → slice_get ms q ≡ Some y → same name (name_of y) ≡ false =
        λ q y n e. apart.others q (name_of y) n (subst (λ (ns : List (List ℕ)). slice_get ns q ≡ Some (name_of y)) h.named (slice_get-map name_of ms q ∙ ap (option_map name_of) e)) in
        let read = own_start ms place x here.0 here.1 others u in
        let agrees = subst (λ (v : Told). KernelAgrees v (cold_start at c x).world.kernel) (sym read) m.agrees in
        let after = well_after d called t (told_from name u (flat_map (start_lines at c) ms)) (Starts at c) x well agrees in
        let there : slice_get (map (started_member at c) ms) place ≡ Some (started_member at c x) = slice_get-map (started_member at c) ms place ∙ ap (option_map (started_member at c)) here.0 in
        record {
          stands = record {
            own = λ z f. subst (IsWell d called (told_from name u (flat_map (start_lines at c) ms))) (same_Some (started_member at c x) z (sym there ∙ f)) after;
            named = start_names ms ∙ h.named;
          };
          same = ap has_worked_last read ∙ m.same;
          starts = ap starts_told read ∙ m.starts ∙ ap (λ (o : Option (Member C)). of_member [] (starts_cold at c) o ++ u.starts) (sym here.0);
          said = λ last b. own_said ms place x here.0 here.1 others last u (m.said last b);
        }

  -- ---- the devices

  faults_to : (at : At) (a : ModuleAction) (t : Told) (ms : List (Member C)) → Stay t ms → BeginsTo (starts_by_fault at a (suc place) ms) t (advanced (breaks_module at a ms))
  faults_to at reaction.Ignore t ms h = record { stands = h; same = refl; starts = refl; said = λ last b. (tt, tt) }
  faults_to at reaction.Shutdown t ms h = record { stands = h; same = refl; starts = refl; said = λ last b. (tt, tt) }
  faults_to at reaction.Reset t ms h =
      let k = starts_to (as_origin at) condition.HmModuleRestart t (record (cleared t) { next = condition.HmModuleRestart }) ms h refl refl refl in
      record { stands = k.stands; same = k.same; starts = k.starts; said = λ last b. (tt, k.said (Some condition.HmModuleRestart) refl) }

  input_to : (plan : Plan) (at : At) (i : DeviceInput) (t : Told) (ms : List (Member C)) → Stay t ms → BeginsTo (starts_by plan at i (suc place) ms) t (advanced (inputs plan at i ms))
  input_to plan at (device.Message channel m) t ms h = goes_by_to at m (slice_get plan.channels channel.0) t ms h
  input_to plan at (device.PartitionFault p) t ms h = breaks_to at p.0 t ms h
  input_to plan at device.ModuleFault t ms h = faults_to at plan.fault t ms h

  inputs_to : (plan : Plan) (ls : List DeviceLine) (at : At) (t : Told) (ms : List (Member C)) → Stay t ms → BeginsTo (starts_by_all plan ls (suc place) at ms) t (advanced (inputs_all plan at ls ms))
  inputs_to plan [] at t ms h = still_to t ms h
  inputs_to plan (l ∷ ls) at t ms h = by_at (inputs plan at l.input ms).at (input_to plan at l.input t ms h) (λ a u g. inputs_to plan ls a u (inputs plan at l.input ms).state g)
    where
      i : Course (List (Member C))
      i = inputs plan at l.input ms

      first : List Start
      first = starts_by plan at l.input (suc place) ms

      later : At → List Start
      later a = starts_by_all plan ls (suc place) a i.state

      by_at : (o : Option At) → BeginsTo first t (advanced i) → ((a : At) (u : Told) → Stay u i.state → BeginsTo (later a) u (advanced (inputs_all plan a ls i.state)))
          → BeginsTo (unless_shut later o ++ first) t (advanced (unless_down i (λ a ns. inputs_all plan a ls ns) o))
      by_at None k rest = k
      by_at (Some a) k rest = then_begins first (later a) t (advanced i) (λ ns. advanced (inputs_all plan a ls ns)) k (rest a)

  -- the tick stays
  fault_now : (n : ℕ) (at : At) (a : ModuleAction) (ms : List (Member C)) → at.now.0 ≡ n → IsNow n (breaks_module at a ms).at
  fault_now n at reaction.Ignore ms e = e
  fault_now n at reaction.Shutdown ms e = tt
  fault_now n at reaction.Reset ms e = e

  input_now : (n : ℕ) (plan : Plan) (at : At) (i : DeviceInput) (ms : List (Member C)) → at.now.0 ≡ n → IsNow n (inputs plan at i ms).at
  input_now n plan at (device.Message channel m) ms e = e
  input_now n plan at (device.PartitionFault p) ms e = e
  input_now n plan at device.ModuleFault ms e = fault_now n at plan.fault ms e

  inputs_now : (n : ℕ) (plan : Plan) (ls : List DeviceLine) (at : At) (ms : List (Member C)) → at.now.0 ≡ n → IsNow n (inputs_all plan at ls ms).at
  inputs_now n plan [] at ms e = e
  inputs_now n plan (l ∷ ls) at ms e = by_at (inputs plan at l.input ms).at (input_now n plan at l.input ms e) (input_now n plan at l.input ms e) (λ a k. inputs_now n plan ls a (inputs plan at l.input ms).state k)
    where
      i : Course (List (Member C))
      i = inputs plan at l.input ms

      by_at : (o : Option At) → IsNow n o → IsNow n i.at → ((a : At) → a.now.0 ≡ n → IsNow n (inputs_all plan a ls i.state).at) → IsNow n (unless_down i (λ a ns. inputs_all plan a ls ns) o).at
      by_at None k down rest = down
      by_at (Some a) k down rest = rest a k

  -- ---- the owner's tick

  -- the partition stands, and nobody has worked later than in this tick
  pub record TicksTo (n : ℕ) (began : List Start) (t : Told) (a : Stepped (List (Member C))) : Type 0 where
    pub stands : Stay (told_from name t a.lines) a.state
    pub before : IsBefore (suc n) (told_from name t a.lines).worked
    pub starts : (told_from name t a.lines).starts ≡ began ++ t.starts
    pub said : (last : Option StartCondition) → AreSaidBy name last t a.lines

  tick_of_own : (at : At) (t : Told) (x : Member C) → IsWell d called t x → IsBefore at.now.0 t.worked → TickTells x.engine at x.world t
  tick_of_own at t x well b = tick_tells x.engine at d called well.numbers x.world t well.ordered well.holds well.agrees b

  told_tick : (at : At) (t : Told) (x : Member C) → IsWell d called t x → IsBefore at.now.0 t.worked → TellsMove d called name place names apart t (Advances at) x
  told_tick at t x well b = let k = tick_of_own at t x well b in record { agrees = k.agrees; said = k.said }

  owner_to : (at : At) (o : Option ℕ) (t : Told) (ms : List (Member C)) → Stay t ms → IsBefore at.now.0 t.worked → TicksTo at.now.0 (starts_of_owner at (suc place) ms o) t (ticks_owner at ms o)
  owner_to at None t ms h b = record { stands = h; before = later at.now.0 t.worked b; starts = refl; said = λ last. tt }
  owner_to at (Some zero) t ms h b = record { stands = h; before = later at.now.0 t.worked b; starts = not_zero place (of_member [] (starts_advancing at) (at_number ms (suc place))) t.starts; said = λ last. tt }
  owner_to at (Some (suc q)) t ms h b =
      let s = steps_to d called name place names apart t (Advances at) ms q (slice_get ms q) refl h (λ x is here well. told_tick at t x well b) in
      record { stands = s.stands; before = by_lines s.lines; starts = by_place (suc q == suc place) refl s; said = s.said }
    where
      u : Told
      u = told_from name t (steps_member (makes (Advances at)) ms q (slice_get ms q)).lines

      by_lines : (u ≡ t) ⊎ IsOwn d called name place names apart t (Advances at) ms q u → IsBefore (suc at.now.0) u.worked
      by_lines (inl e) = subst (λ (v : Told). IsBefore (suc at.now.0) v.worked) (sym e) (later at.now.0 t.worked b)
      by_lines (inr own) =
          let x = own.1.0 in
          let f = own.1.1 in
          let well = h.own x f.0 in
          let k = tick_of_own at t x well b in
          subst (λ (v : Told). IsBefore (suc at.now.0) v.worked) (sym f.1) (k.before (suc at.now.0) (next at.now.0) (later at.now.0 t.worked b))

      by_place : (c : Bool) → (suc q == suc place) ≡ c → StepsTo d called name place names apart t (Advances at) ms q (slice_get ms q)
          → u.starts ≡ (if c then of_member [] (starts_advancing at) (slice_get ms place) else []) ++ t.starts
      by_place true e s =
          let is : q ≡ place = let f = eqb-true (suc q) (suc place) e in omega (arith, f) in
          let own = mine ms h.named in
          let x = own.0 in
          let here = own.1 in
          let k = tick_of_own at t x (h.own x here.0) b in
          ap starts_told (s.read x is here.0) ∙ k.starts ∙ ap (λ (o : Option (Member C)). of_member [] (starts_advancing at) o ++ t.starts) (sym here.0)
      by_place false e s = other s.lines
        where
          other : (u ≡ t) ⊎ IsOwn d called name place names apart t (Advances at) ms q u → u.starts ≡ t.starts
          other (inl f) = ap starts_told f
          other (inr own) = absurd (eqb-false (suc q) (suc place) e (ap suc own.0))

  -- the owner's runner spends it
  owner_worker : (at : At) (t : Told) (ms : List (Member C)) → Stay t ms → IsBefore at.now.0 t.worked → worker_by_lines at.now.0 (told_from name t (ticks_owner at ms (Some (suc place))).lines) ≡ worker_at at ms (Some (suc place))
  owner_worker at t ms h b =
      let own = mine ms h.named in
      let x = own.0 in
      let here = own.1 in
      let s = steps_to d called name place names apart t (Advances at) ms place (slice_get ms place) refl h (λ y is there well. told_tick at t y well b) in
      let k = tick_of_own at t x (h.own x here.0) b in
      ap (worker_by_lines at.now.0) (s.read x refl here.0) ∙ k.worker ∙ sym (ap (chosen_by at) here.0)

  moves_and_ticks_to : (plan : Plan) (at : At) (t : Told) (ms : List (Member C)) → Stay t ms → IsBefore at.now.0 t.worked
      → TicksTo at.now.0 (starts_of_owner at (suc place) (moves_ended plan.channels at ms (ended plan.schedule at)).state (owner plan.schedule at)) t (advanced (moves_and_ticks plan at ms))
  moves_and_ticks_to plan at t ms h b =
      let a = moves_ended plan.channels at ms (ended plan.schedule at) in
      let k = ended_to plan.channels at (ended plan.schedule at) t ms h in
      let last = ticks_owner at a.state (owner plan.schedule at) in
      let o = owner_to at (owner plan.schedule at) (told_from name t a.lines) a.state k.stands (subst (IsBefore at.now.0) (sym k.same) b) in
      let is = told_both name t a.lines last.lines in
      record {
        stands = subst (λ (v : Told). Stay v last.state) (sym is) o.stands;
        before = subst (λ (v : Told). IsBefore (suc at.now.0) v.worked) (sym is) o.before;
        starts = ap starts_told is ∙ o.starts ∙ ap (λ (ss : List Start). starts_of_owner at (suc place) a.state (owner plan.schedule at) ++ ss) k.starts;
        said = λ x. said_by_both name x t a.lines last.lines (k.said x tt) (o.said (last_by_all name x a.lines));
      }

  -- ---- a tick of the module

  module _ (plan : Plan) (devices : List DeviceLine) (at : At) (t : Told) (ms : List (Member C)) (h : Stay t ms) (b : IsBefore at.now.0 t.worked) where
    abbrev brought : Course (List (Member C))
    brought = inputs_all plan at (of_tick at.now.0 devices) ms

    brought_to : BeginsTo (starts_by_all plan (of_tick at.now.0 devices) (suc place) at ms) t (advanced brought)
    brought_to = inputs_to plan (of_tick at.now.0 devices) at t ms h

    still_before : IsBefore at.now.0 (told_from name t brought.lines).worked
    still_before = subst (IsBefore at.now.0) (sym brought_to.same) b

    -- the owner's tick, if there is one
    abbrev moves_before : At → List (Member C) → Course (List (Member C))
    moves_before a ns = goes_on a (moves_ended plan.channels a ns (ended plan.schedule a))

    abbrev starts_there : Option At → List Start
    starts_there o = let c = unless_down brought moves_before o in unless_shut (λ a. starts_of_owner a (suc place) c.state (owner plan.schedule a)) c.at

    after_devices : (o : Option At) → brought.at ≡ o → IsNow at.now.0 o → TicksTo at.now.0 (starts_there o ++ starts_by_all plan (of_tick at.now.0 devices) (suc place) at ms) t (advanced (unless_down brought (moves_and_ticks plan) o))
    after_devices None is e = record {
      stands = brought_to.stands;
      before = later at.now.0 _ still_before;
      starts = brought_to.starts ∙ ap (λ (o : Option At). (unless_shut (λ a. starts_of_owner a (suc place) brought.state (owner plan.schedule a)) o ++ starts_by_all plan (of_tick at.now.0 devices) (suc place) at ms) ++ t.starts) (sym is);
      said = λ last. brought_to.said last tt;
    }
    after_devices (Some a) is e =
        let u = told_from name t brought.lines in
        let k = moves_and_ticks_to plan a u brought.state brought_to.stands (subst (λ (n : ℕ). IsBefore n u.worked) (sym e) still_before) in
        let both = told_both name t brought.lines (moves_and_ticks plan a brought.state).lines in
        let began = starts_of_owner a (suc place) (moves_before a brought.state).state (owner plan.schedule a) in
        record {
          stands = subst (λ (v : Told). Stay v (moves_and_ticks plan a brought.state).state) (sym both) k.stands;
          before = subst (λ (v : Told). IsBefore (suc at.now.0) v.worked) (sym both) (subst (λ (n : ℕ). IsBefore (suc n) (told_from name u (moves_and_ticks plan a brought.state).lines).worked) e k.before);
          starts = ap starts_told both ∙ k.starts ∙ ap (λ (ss : List Start). began ++ ss) brought_to.starts ∙ sym (append_assoc began (starts_by_all plan (of_tick at.now.0 devices) (suc place) at ms) t.starts);
          said = λ last. said_by_both name last t brought.lines (moves_and_ticks plan a brought.state).lines (brought_to.said last tt) (k.said (last_by_all name last brought.lines));
        }

    tick_to : TicksTo at.now.0 (starts_in_tick plan devices (suc place) at ms) t (advanced (module_tick plan at devices ms))
    tick_to = after_devices brought.at refl (inputs_now at.now.0 plan (of_tick at.now.0 devices) at ms refl)

    now_after : (o : Option At) → IsNow at.now.0 o → IsNow at.now.0 brought.at → IsNow at.now.0 (unless_down brought (moves_and_ticks plan) o).at
    now_after None e k = k
    now_after (Some a) e k = e

    tick_now : IsNow at.now.0 (module_tick plan at devices ms).at
    tick_now = let e = inputs_now at.now.0 plan (of_tick at.now.0 devices) at ms refl in now_after brought.at e e

    worker_after : (o : Option At) → brought.at ≡ o → IsNow at.now.0 o → owner_of plan (unless_down brought (λ a ns. goes_on a (moves_ended plan.channels a ns (ended plan.schedule a))) o).at ≡ Some (suc place)
        → worker_by_lines at.now.0 (told_from name t (unless_down brought (moves_and_ticks plan) o).lines)
        ≡ worker_of plan (unless_down brought (λ a ns. goes_on a (moves_ended plan.channels a ns (ended plan.schedule a))) o).at (unless_down brought (λ a ns. goes_on a (moves_ended plan.channels a ns (ended plan.schedule a))) o).state
    worker_after None is e owns = absurd (none-some (suc place) (sym (ap (owner_of plan) is) ∙ owns))
    worker_after (Some a) is e owns =
        let u = told_from name t brought.lines in
        let m = moves_ended plan.channels a brought.state (ended plan.schedule a) in
        let k = ended_to plan.channels a (ended plan.schedule a) u brought.state brought_to.stands in
        let v = told_from name u m.lines in
        let c : IsBefore a.now.0 v.worked = subst (IsBefore a.now.0) (sym k.same) (subst (λ (n : ℕ). IsBefore n u.worked) (sym e) still_before) in
        let w : worker_by_lines a.now.0 (told_from name v (ticks_owner a m.state (owner plan.schedule a)).lines) ≡ worker_at a m.state (owner plan.schedule a) =
        subst (λ (o : Option ℕ). worker_by_lines a.now.0 (told_from name v (ticks_owner a m.state o).lines) ≡ worker_at a m.state o) (sym owns) (owner_worker a v m.state k.stands c) in
        let last = (ticks_owner a m.state (owner plan.schedule a)).lines in
        ap (worker_by_lines at.now.0) (told_both name t brought.lines (m.lines ++ last) ∙ told_both name u m.lines last)
        ∙ ap (λ (n : ℕ). worker_by_lines n (told_from name v last)) (sym e)
        ∙ w

    tick_worker : owner_of plan (before_owner plan at devices ms).at ≡ Some (suc place)
        → worker_by_lines at.now.0 (told_from name t (module_tick plan at devices ms).lines) ≡ worker_of plan (before_owner plan at devices ms).at (before_owner plan at devices ms).state
    tick_worker owns = worker_after brought.at refl (inputs_now at.now.0 plan (of_tick at.now.0 devices) at ms refl) owns

  -- ---- a run

  -- the partition stands, and its starts are told
  pub record RunsTo (began : List Start) (t : Told) (lines : List Event) (ms : List (Member C)) : Type 0 where
    pub stands : Stay (told_from name t lines) ms
    pub starts : (told_from name t lines).starts ≡ began ++ t.starts
    pub said : (last : Option StartCondition) → AreSaidBy name last t lines

  run_to : (plan : Plan) (devices : List DeviceLine) (n now : ℕ) (o : Option At) → IsNow now o → (t : Told) (ms : List (Member C)) → Stay t ms → IsBefore now t.worked
      → RunsTo (starts_from plan devices (suc place) n o ms) t (trace_from plan devices n o ms) (members_from plan devices n o ms)
  run_to plan devices zero now o e t ms h b = record { stands = h; starts = refl; said = λ last. tt }
  run_to plan devices (suc n) now None e t ms h b = record { stands = h; starts = refl; said = λ last. tt }
  run_to plan devices (suc n) now (Some at) e t ms h b =
      let c = subst (λ (i : ℕ). IsBefore i t.worked) (sym e) b in
      let r = module_tick plan at devices ms in
      let k = tick_to plan devices at t ms h c in
      let rest = run_to plan devices n (suc at.now.0) (option_map next_tick r.at) (next_now at.now.0 r.at (tick_now plan devices at t ms h c)) (told_from name t r.lines) r.state k.stands k.before in
      let more = trace_from plan devices n (option_map next_tick r.at) r.state in
      let is = told_both name t r.lines more in
      let began = starts_from plan devices (suc place) n (option_map next_tick r.at) r.state in
      record {
        stands = subst (λ (v : Told). Stay v (members_from plan devices n (option_map next_tick r.at) r.state)) (sym is) rest.stands;
        starts = ap starts_told is ∙ rest.starts ∙ ap (λ (ss : List Start). began ++ ss) k.starts ∙ sym (append_assoc began (starts_in_tick plan devices (suc place) at ms) t.starts);
        said = λ last. said_by_both name last t r.lines more (k.said last) (rest.said (last_by_all name last r.lines));
      }

  -- with the first start behind it, the partition restarts by itself
  stays_so : (t : Told) (ms : List (Member C)) → Stay t ms → Stay (restarts t) ms
  stays_so t ms h = record {
    own = λ x e.
        let w = h.own x e in
        let k = w.agrees in
        record {
          numbers = w.numbers;
          ordered = w.ordered;
          holds = w.holds;
          agrees = record { mode = k.mode; condition = k.condition; next = refl; orderly = k.orderly; processes = record { named = k.processes.named; states = k.processes.states; running = k.processes.running; runs = k.processes.runs } };
        };
    named = h.named;
  }

  -- from the first start on
  module _ (m : Module C) (devices : List DeviceLine) (n : ℕ) (h : Stay (restarts first_told) m.members) where
    first_to : LeadsTo (λ last. last ≡ Some condition.NormalStart) (of_member [] (starts_cold first_tick condition.NormalStart) (at_number m.members (suc place))) first_told (starts_all first_tick condition.NormalStart m.members)
    first_to = starts_to first_tick condition.NormalStart (restarts first_told) first_told m.members h refl refl refl

    ran_to : RunsTo (starts_from m.plan devices (suc place) (suc n) (Some first_tick) (starts_all first_tick condition.NormalStart m.members).state) (told_from name first_told (starts_all first_tick condition.NormalStart m.members).lines)
        (trace_from m.plan devices (suc n) (Some first_tick) (starts_all first_tick condition.NormalStart m.members).state) (members_after m devices (suc n))
    ran_to = run_to m.plan devices (suc n) 0 (Some first_tick) refl _ _ first_to.stands (subst (IsBefore 0) (sym first_to.same) tt)

  pub run_stands : (m : Module C) (devices : List DeviceLine) (n : ℕ) → Stay (restarts first_told) m.members → Stay (restarts (told name (trace m devices n))) (members_after m devices n)
  run_stands m devices zero h = h
  run_stands m devices (suc n) h =
      let s = starts_all first_tick condition.NormalStart m.members in
      let rest = ran_to m devices n h in
      stays_so _ (members_after m devices (suc n))
      (subst (λ (v : Told). Stay v (members_after m devices (suc n))) (sym (told_both name first_told s.lines (trace_from m.plan devices (suc n) (Some first_tick) s.state))) rest.stands)

  -- its starts are told
  pub run_starts : (m : Module C) (devices : List DeviceLine) (n : ℕ) → Stay (restarts first_told) m.members → (told name (trace m devices n)).starts ≡ starts_in m devices (suc place) n
  run_starts m devices zero h = refl
  run_starts m devices (suc n) h =
      let s = starts_all first_tick condition.NormalStart m.members in
      let first = first_to m devices n h in
      let rest = ran_to m devices n h in
      ap starts_told (told_both name first_told s.lines (trace_from m.plan devices (suc n) (Some first_tick) s.state))
      ∙ rest.starts
      ∙ ap (λ (ss : List Start). starts_from m.plan devices (suc place) (suc n) (Some first_tick) s.state ++ ss) (first.starts ∙ append-nil _)

  -- each after a line that gives its condition
  pub run_said : (m : Module C) (devices : List DeviceLine) (n : ℕ) → Stay (restarts first_told) m.members → AreSaidBy name (Some condition.NormalStart) first_told (trace m devices n)
  run_said m devices zero h = tt
  run_said m devices (suc n) h =
      let s = starts_all first_tick condition.NormalStart m.members in
      let first = first_to m devices n h in
      let rest = ran_to m devices n h in
      said_by_both name (Some condition.NormalStart) first_told s.lines (trace_from m.plan devices (suc n) (Some first_tick) s.state) (first.said (Some condition.NormalStart) refl)
      (rest.said (last_by_all name (Some condition.NormalStart) s.lines))

  worker_from : (plan : Plan) (devices : List DeviceLine) (n now : ℕ) (o : Option At) → IsNow now o → (t : Told) (ms : List (Member C)) → Stay t ms → IsBefore now t.worked
      → owner_of plan (before_owner_from plan devices n o ms).at ≡ Some (suc place)
      → worker_by_lines (now + n) (told_from name t (trace_from plan devices (suc n) o ms)) ≡ worker_of plan (before_owner_from plan devices n o ms).at (before_owner_from plan devices n o ms).state
  worker_from plan devices zero now None e t ms h b owns = absurd (none-some (suc place) owns)
  worker_from plan devices zero now (Some at) e t ms h b owns =
      let c = subst (λ (i : ℕ). IsBefore i t.worked) (sym e) b in
      let r = module_tick plan at devices ms in
      let is : now + 0 ≡ at.now.0 = omega (arith, e) in
      ap (λ (i : ℕ). worker_by_lines i (told_from name t (r.lines ++ []))) is
      ∙ ap (worker_by_lines at.now.0) (told_both name t r.lines [])
      ∙ tick_worker plan devices at t ms h c owns
  worker_from plan devices (suc n) now None e t ms h b owns = absurd (none-some (suc place) owns)
  worker_from plan devices (suc n) now (Some at) e t ms h b owns =
      let c = subst (λ (i : ℕ). IsBefore i t.worked) (sym e) b in
      let r = module_tick plan at devices ms in
      let k = tick_to plan devices at t ms h c in
      let later = trace_from plan devices (suc n) (option_map next_tick r.at) r.state in
      let is : now + suc n ≡ suc at.now.0 + n = omega (arith, e) in
      let rest = worker_from plan devices n (suc at.now.0) (option_map next_tick r.at) (next_now at.now.0 r.at (tick_now plan devices at t ms h c)) (told_from name t r.lines) r.state k.stands k.before owns in
      ap (λ (i : ℕ). worker_by_lines i (told_from name t (r.lines ++ later))) is
      ∙ ap (worker_by_lines (suc at.now.0 + n)) (told_both name t r.lines later)
      ∙ rest

  pub run_worker : (m : Module C) (devices : List DeviceLine) (n : ℕ) → Stay (restarts first_told) m.members → owner_in m devices n ≡ Some (suc place) → worker_by_lines n (told name (trace m devices (suc n))) ≡ worker m devices n
  run_worker m devices n h owns =
      let s = starts_all first_tick condition.NormalStart m.members in
      let k = starts_to first_tick condition.NormalStart (restarts first_told) first_told m.members h refl refl refl in
      let u = told_from name first_told s.lines in
      let later = trace_from m.plan devices (suc n) (Some first_tick) s.state in
      let is : n ≡ 0 + n = omega arith in
      ap (λ (i : ℕ). worker_by_lines i (told_from name first_told (s.lines ++ later))) is
      ∙ ap (worker_by_lines (0 + n)) (told_both name first_told s.lines later)
      ∙ worker_from m.plan devices n 0 (Some first_tick) refl u s.state k.stands (subst (IsBefore 0) (sym k.same) tt) owns

  -- each runner becomes RUNNING in its turn
  pub run_orderly : (m : Module C) (devices : List DeviceLine) (n : ℕ) → Stay (restarts first_told) m.members → (told name (trace m devices n)).orderly ≡ true
  run_orderly m devices n h =
      let s = run_stands m devices n h in
      let own = mine (members_after m devices n) s.named in
      let here = own.1 in
      let well = s.own own.0 here.0 in
      well.agrees.orderly

  -- ---- a tick of another owner

  -- nobody of the partition has worked in it
  owner_idle : (at : At) (o : Option ℕ) (t : Told) (ms : List (Member C)) → Stay t ms → IsBefore at.now.0 t.worked → o ≢ Some (suc place) → IsBefore at.now.0 (told_from name t (ticks_owner at ms o).lines).worked
  owner_idle at None t ms h b n = b
  owner_idle at (Some zero) t ms h b n = b
  owner_idle at (Some (suc q)) t ms h b n =
      let s = steps_to d called name place names apart t (Advances at) ms q (slice_get ms q) refl h (λ x is here well. told_tick at t x well b) in
      by_lines s.lines
    where
      u : Told
      u = told_from name t (steps_member (makes (Advances at)) ms q (slice_get ms q)).lines

      by_lines : (u ≡ t) ⊎ IsOwn d called name place names apart t (Advances at) ms q u → IsBefore at.now.0 u.worked
      by_lines (inl e) = subst (λ (v : Told). IsBefore at.now.0 v.worked) (sym e) b
      by_lines (inr own) = absurd (n (ap (λ (i : ℕ). Some (suc i)) own.0))

  module _ (plan : Plan) (devices : List DeviceLine) (at : At) (t : Told) (ms : List (Member C)) (h : Stay t ms) (b : IsBefore at.now.0 t.worked) where
    idle_after : (o : Option At) → (brought plan devices at t ms h b).at ≡ o → IsNow at.now.0 o
        → owner_of plan (unless_down (brought plan devices at t ms h b) (λ a ns. goes_on a (moves_ended plan.channels a ns (ended plan.schedule a))) o).at ≢ Some (suc place)
        → IsBefore at.now.0 (told_from name t (unless_down (brought plan devices at t ms h b) (moves_and_ticks plan) o).lines).worked
    idle_after None is e owns = still_before plan devices at t ms h b
    idle_after (Some a) is e owns =
        let c = brought plan devices at t ms h b in
        let k0 = brought_to plan devices at t ms h b in
        let u = told_from name t c.lines in
        let m = moves_ended plan.channels a c.state (ended plan.schedule a) in
        let k = ended_to plan.channels a (ended plan.schedule a) u c.state k0.stands in
        let v = told_from name u m.lines in
        let early : IsBefore a.now.0 v.worked = subst (IsBefore a.now.0) (sym k.same) (subst (λ (n : ℕ). IsBefore n u.worked) (sym e) (still_before plan devices at t ms h b)) in
        let last = (ticks_owner a m.state (owner plan.schedule a)).lines in
        let w = owner_idle a (owner plan.schedule a) v m.state k.stands early owns in
        subst (λ (x : Told). IsBefore at.now.0 x.worked) (sym (told_both name t c.lines (m.lines ++ last) ∙ told_both name u m.lines last))
        (subst (λ (n : ℕ). IsBefore n (told_from name v last).worked) e w)

    tick_idle : owner_of plan (before_owner plan at devices ms).at ≢ Some (suc place) → IsBefore at.now.0 (told_from name t (module_tick plan at devices ms).lines).worked
    tick_idle owns = idle_after (brought plan devices at t ms h b).at refl (inputs_now at.now.0 plan (of_tick at.now.0 devices) at ms refl) owns

  idle_from : (plan : Plan) (devices : List DeviceLine) (n now : ℕ) (o : Option At) → IsNow now o → (t : Told) (ms : List (Member C)) → Stay t ms → IsBefore now t.worked
      → owner_of plan (before_owner_from plan devices n o ms).at ≢ Some (suc place) → IsBefore (now + n) (told_from name t (trace_from plan devices (suc n) o ms)).worked
  idle_from plan devices zero now None e t ms h b owns = let is : now ≡ now + 0 = omega arith in subst (λ (i : ℕ). IsBefore i t.worked) is b
  idle_from plan devices zero now (Some at) e t ms h b owns =
      let c = subst (λ (i : ℕ). IsBefore i t.worked) (sym e) b in
      let r = module_tick plan at devices ms in
      let is : at.now.0 ≡ now + 0 = omega (arith, e) in
      subst (λ (v : Told). IsBefore (now + 0) v.worked) (sym (told_both name t r.lines [])) (subst (λ (i : ℕ). IsBefore i (told_from name t r.lines).worked) is (tick_idle plan devices at t ms h c owns))
  idle_from plan devices (suc n) now None e t ms h b owns = no_later now (now + suc n) t.worked (omega arith) b
    where
      no_later : (a c : ℕ) (w : Option (ℕ × Subject)) → a ≤ c → IsBefore a w → IsBefore c w
      no_later a c None l f = tt
      no_later a c (Some w) l f = omega (arith, l, f)
  idle_from plan devices (suc n) now (Some at) e t ms h b owns =
      let c = subst (λ (i : ℕ). IsBefore i t.worked) (sym e) b in
      let r = module_tick plan at devices ms in
      let k = tick_to plan devices at t ms h c in
      let later = trace_from plan devices (suc n) (option_map next_tick r.at) r.state in
      let is : suc at.now.0 + n ≡ now + suc n = omega (arith, e) in
      let rest = idle_from plan devices n (suc at.now.0) (option_map next_tick r.at) (next_now at.now.0 r.at (tick_now plan devices at t ms h c)) (told_from name t r.lines) r.state k.stands k.before owns in
      subst (λ (v : Told). IsBefore (now + suc n) v.worked) (sym (told_both name t r.lines later)) (subst (λ (i : ℕ). IsBefore i (told_from name (told_from name t r.lines) later).worked) is rest)

  pub run_idle : (m : Module C) (devices : List DeviceLine) (n : ℕ) → Stay (restarts first_told) m.members → owner_in m devices n ≢ Some (suc place) → worked_in n (told name (trace m devices (suc n))).worked ≡ None
  run_idle m devices n h owns =
      let s = starts_all first_tick condition.NormalStart m.members in
      let k = starts_to first_tick condition.NormalStart (restarts first_told) first_told m.members h refl refl refl in
      let u = told_from name first_told s.lines in
      let later = trace_from m.plan devices (suc n) (Some first_tick) s.state in
      let is : 0 + n ≡ n = omega arith in
      let rest = idle_from m.plan devices n 0 (Some first_tick) refl u s.state k.stands (subst (IsBefore 0) (sym k.same) tt) owns in
      none_in n (told name (trace m devices (suc n))).worked (subst (λ (v : Told). IsBefore n v.worked) (sym (told_both name first_told s.lines later)) (subst (λ (i : ℕ). IsBefore i (told_from name u later).worked) is rest))

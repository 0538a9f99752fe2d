-- The inputs of a run are allowed but for their words, if an invariant says what the source ports hold.
use Rattle.isolation.proofs.Prelude.{◌≡◌, ℕ, zero, suc, ◌+◌, ◌≤◌, ℤ, Bool, true, false, List, ◌∷◌, ◌++◌, length, map, Option, Some, None, sym, ◌∙◌, arith, le_refl, slice_get, option_map, if◌then◌else◌, AllByRecursion, slice_get-map, ArrayVec, MOST_TICKS, ModuleAction, DeviceLine, At, PortId, Channel, Partition, at_number, Plan, as_origin, first_tick, next_tick, ports_of, of_member, inputs_all, of_tick, is_of_tick, module_tick, starts, started_member, Member, leaving, messages_to_move, has_wrong_ends, has_unknown_port, Schedule, ended, HasOneOwner, HasOneEnd, Input, InputLine, Arrive, ModuleFault, PartitionFault, Course, Surroundings, goes_by_way, takes, meets_fault, takes_all, unless_down, sends_found, sends_message, sends_messages, sends_so_many, sends_port, sends_ports, sends_ended, ticks_own, sends_and_ticks, tick_alone, way_out, brought_in, brought_in_all, shuts_down, held_ports, held_ended, brought_moved, brought_tick, line_in, inputs_from, inputs_of, surroundings_of}
use Rattle.std.proofs.Common.{[], refl, ap, subst}
use Rattle.std.specs.Prelude.{cond}
use Rattle.apex_types.specs.declared.codes.ModuleAction.TheVariants as reaction
use Rattle.apex_types.specs.declared.codes.StartCondition.TheVariants as condition
use Rattle.isolation.proofs.Arrivals.{all_brought}
use Rattle.isolation.proofs.Holding.{IsDelivered, AreDelivered, IsKept, all_append}
use Rattle.isolation.proofs.Now.{next_in, tick_in}
use Rattle.isolation.proofs.Lines.{AreFromDevice, of_tick_from, lines_same}
use Rattle.isolation.proofs.Steps.{AreApart, SamePath, name_of, same_some}
use Rattle.isolation.proofs.Tick.{tick_same}
use Rattle.isolation.proofs.Ways.{isolates}

-- ---- a partition on its own keeps the invariant
module _ {C : Type 0} (row : Partition) (Sound : Member C → Type 0) (kept : IsKept row Sound) where
  meets_sound : (at : At) (fault : ModuleAction) (x : Member C) → Sound x → Sound (meets_fault at fault x).state
  meets_sound at reaction.Ignore x h = h
  meets_sound at reaction.Shutdown x h = h
  meets_sound at reaction.Reset x h = kept.starts (as_origin at) condition.HmModuleRestart x h

  takes_sound : (fault : ModuleAction) (at : At) (i : Input) → IsDelivered row i → (x : Member C) → Sound x → Sound (takes fault at i x).state
  takes_sound fault at (Arrive port m) good x h = kept.arrives at port m good x h
  takes_sound fault at ModuleFault good x h = meets_sound at fault x h
  takes_sound fault at PartitionFault good x h = kept.breaks at x h

  -- a path that continues, or is over
  over_sound : (c : Course (Member C)) (rest : At → Member C → Course (Member C)) (o : Option At) → Sound c.state → ((a : At) (y : Member C) → Sound y → Sound (rest a y).state) → Sound (unless_down c rest o).state
  over_sound c rest None h k = h
  over_sound c rest (Some a) h k = k a c.state h

  -- all inputs of a tick
  all_sound : (fault : ModuleAction) (at : At) (is : List Input) → AllByRecursion (IsDelivered row) is → (x : Member C) → Sound x → Sound (takes_all fault at is x).state
  all_sound fault at [] good x h = h
  all_sound fault at (i ∷ is) good x h =
      let c = takes fault at i x in
      over_sound c (λ a y. takes_all fault a is y) c.at (takes_sound fault at i good.0 x h) (λ a y k. all_sound fault a is good.1 y k)

  way_sound : (at : At) (m : ArrayVec ℤ) (o : Option (List ℕ)) (x : Member C) → Sound x → Sound (goes_by_way at m o x).state
  way_sound at m None x h = h
  way_sound at m (Some channel) x h = h

  module _ (s : Surroundings) where
    found_sound : (at : At) (port : PortId) (o : Option (ArrayVec ℤ)) (x : Member C) → Sound x → Sound (sends_found s at port x o).state
    found_sound at port None x h = h
    found_sound at port (Some m) x h = way_sound at m (way_out s port) _ (kept.leaves at port x h)

    messages_sound : (n : ℕ) (at : At) (port : PortId) (x : Member C) → Sound x → Sound (sends_messages n s at port x).state
    messages_sound zero at port x h = h
    messages_sound (suc n) at port x h = messages_sound n at port (sends_message s at port x).state (found_sound at port (leaving port x) x h)

    many_sound : (at : At) (port : PortId) (o : Option ℕ) (x : Member C) → Sound x → Sound (sends_so_many s at port x o).state
    many_sound at port None x h = h
    many_sound at port (Some n) x h = kept.admits at port (sends_messages n s at port x).state (messages_sound n at port x h)

    -- its source ports send
    ports_sound : (n number : ℕ) (at : At) (x : Member C) → Sound x → Sound (sends_ports n number s at x).state
    ports_sound zero number at x h = h
    ports_sound (suc n) number at x h =
        ports_sound n (number + 1) at (sends_port s at (record { 0 = number }) x).state (many_sound at (record { 0 = number }) (messages_to_move (at_number (ports_of x) number)) x h)

    ended_sound : (at : At) (b : Bool) (x : Member C) → Sound x → Sound (sends_ended s at x b).state
    ended_sound at true x h = ports_sound (length (ports_of x)) 1 at x h
    ended_sound at false x h = h

    owns_sound : (at : At) (b : Bool) (x : Member C) → Sound x → Sound (ticks_own at x b).state
    owns_sound at true x h = kept.ticks at x h
    owns_sound at false x h = h

    -- a tick
    tick_sound : (at : At) (is : List Input) → AllByRecursion (IsDelivered row) is → (x : Member C) → Sound x → Sound (tick_alone s at is x).state
    tick_sound at is good x h =
        let c = takes_all s.fault at is x in
        over_sound c (sends_and_ticks s) c.at (all_sound s.fault at is good x h) (λ a y k. owns_sound a _ _ (ended_sound a _ y k))

-- ---- lines in order
-- none of a tick before an earlier one
earlier : (row : Partition) (a b : ℕ) (ls : List InputLine) → a ≤ b → AreDelivered row b ls → AreDelivered row a ls
earlier row a b [] l h = tt
earlier row a b (x ∷ xs) l h = (before a b x.tick.0 l h.0, h.1, h.2, h.3)
  where
    before : (a b t : ℕ) → a ≤ b → b ≤ t → a ≤ t
    before a b t l k = omega arith

-- the inputs of a tick, then the later ones
tick_lines : (row : Partition) (before t : ℕ) (is : List Input) (rest : List InputLine) → before ≤ t → t ≤ MOST_TICKS → AllByRecursion (IsDelivered row) is → AreDelivered row t rest → AreDelivered row before (map (line_in t) is ++ rest)
tick_lines row before t [] rest l low h k = earlier row before t rest l k
tick_lines row before t (i ∷ is) rest l low h k = (l, low, h.0, tick_lines row t t is rest (le_refl t) low h.1 k)

-- ---- the devices
-- what each line brings is allowed
abbrev pub AreAllowed : Plan → ℕ → Partition → List DeviceLine → Type 0
AreAllowed plan p row ls = AllByRecursion (λ l. AllByRecursion (IsDelivered row) (brought_in plan p l.input)) ls

of_tick_allowed : (plan : Plan) (p : ℕ) (row : Partition) (t : ℕ) (ls : List DeviceLine) → AreAllowed plan p row ls → AreAllowed plan p row (of_tick t ls)
of_tick_allowed plan p row t [] h = tt
of_tick_allowed plan p row t (l ∷ ls) h = either (is_of_tick t l) (of_tick_allowed plan p row t ls h.1)
  where
    either : (b : Bool) → AreAllowed plan p row (of_tick t ls) → AreAllowed plan p row (cond b (l ∷ of_tick t ls) (of_tick t ls))
    either true k = (h.0, k)
    either false k = k

in_allowed : (plan : Plan) (p : ℕ) (row : Partition) (ls : List DeviceLine) → AreAllowed plan p row ls → AllByRecursion (IsDelivered row) (brought_in_all plan p ls)
in_allowed plan p row [] h = tt
in_allowed plan p row (l ∷ ls) h = all_append (IsDelivered row) (brought_in plan p l.input) _ h.0 (either (shuts_down plan.fault l.input) (in_allowed plan p row ls h.1))
  where
    either : (b : Bool) → AllByRecursion (IsDelivered row) (brought_in_all plan p ls) → AllByRecursion (IsDelivered row) (if b then [] else brought_in_all plan p ls)
    either true k = tt
    either false k = k

-- ---- the module
module _ {C : Type 0} (names : List (List ℕ)) (all : AreApart names) (ps : List Partition) (known_rows : (place : ℕ) (name : List ℕ) → slice_get names place ≡ Some name → (row : Partition) × (slice_get ps place ≡ Some row))
    (schedule : Schedule) (channels : List Channel) (fault : ModuleAction)
    (owner : (at : At) → HasOneOwner schedule at) (end : (at : At) → HasOneEnd schedule at) (known : has_unknown_port ps channels ≡ false) (right : has_wrong_ends ps channels ≡ false)
    (devices : List DeviceLine) (from : AreFromDevice channels devices)
    (allowed : (place : ℕ) (row : Partition) → slice_get ps place ≡ Some row → AreAllowed (record { schedule = schedule; channels = channels; fault = fault }) (suc place) row devices)
    (Sound : ℕ → Member C → Type 0) (kept : (place : ℕ) (row : Partition) → slice_get ps place ≡ Some row → IsKept row (Sound place)) where
  abbrev plan : Plan
  plan = record { schedule = schedule; channels = channels; fault = fault }

  -- all have their names, and the invariant
  record Stand (ms : List (Member C)) : Type 0 where
    named : map name_of ms ≡ names
    sound : (place : ℕ) (x : Member C) → slice_get ms place ≡ Some x → Sound place x

  -- the name at a place
  name_here : (ms : List (Member C)) → map name_of ms ≡ names → (place : ℕ) (x : Member C) → slice_get ms place ≡ Some x → slice_get names place ≡ Some (name_of x)
  name_here ms named place x e = ap (λ (ns : List (List ℕ)). slice_get ns place) (sym named) ∙ slice_get-map name_of ms place ∙ ap (option_map name_of) e

  -- a property of each partition at its place, if all keep their names
  each_place : (ms ns : List (Member C)) → map name_of ms ≡ names → map name_of ns ≡ names → ((place : ℕ) (x : Member C) → slice_get ms place ≡ Some x → (y : Member C) × (slice_get ns place ≡ Some y) × Sound place y)
      → (place : ℕ) (y : Member C) → slice_get ns place ≡ Some y → Sound place y
  each_place ms ns named renamed f place y e = there (slice_get ms place) refl
    where
      there : (o : Option (Member C)) → slice_get ms place ≡ o → Sound place y
      there None k =
          absurd (clash (sym (name_here ns renamed place y e) ∙ ap (λ (qs : List (List ℕ)). slice_get qs place) (sym named) ∙ slice_get-map name_of ms place ∙ ap (option_map name_of) k))
        where
          clash : Some (name_of y) ≡ None → ⊥
          clash h = cc
      there (Some x) k = let r = f place x k in subst (λ (z : Member C). Sound place z) (same_some r.0 y (sym r.1 ∙ e)) r.2

  -- the messages in the source ports of the partition whose window has ended
  held_allowed : (place : ℕ) (row : Partition) → slice_get ps place ≡ Some row → (ms : List (Member C)) → Stand ms → (o : Option ℕ) → AllByRecursion (IsDelivered row) (held_ended channels (suc place) ms o)
  held_allowed place row e ms s None = tt
  held_allowed place row e ms s (Some zero) = tt
  held_allowed place row e ms s (Some (suc q)) = there (slice_get ms q) refl
    where
      there : (o : Option (Member C)) → slice_get ms q ≡ o → AllByRecursion (IsDelivered row) (held_ended channels (suc place) ms (Some (suc q)))
      there None k = subst (λ (o : Option (Member C)). AllByRecursion (IsDelivered row) (held_ports channels (suc place) (record { 0 = suc q }) 1 (of_member [] ports_of o))) (sym k) tt
      there (Some x) k =
          let other = known_rows q (name_of x) (name_here ms s.named q x k) in
          subst (λ (o : Option (Member C)). AllByRecursion (IsDelivered row) (held_ports channels (suc place) (record { 0 = suc q }) 1 (of_member [] ports_of o))) (sym k)
          (all_brought ps channels known right place row e q other.0 other.1 (ports_of x) ((kept q other.0 other.1).holds x (s.sound q x k)))

  moved_allowed : (place : ℕ) (row : Partition) → slice_get ps place ≡ Some row → (ms : List (Member C)) → Stand ms → (o : Option At) → AllByRecursion (IsDelivered row) (brought_moved plan (suc place) ms o)
  moved_allowed place row e ms s None = tt
  moved_allowed place row e ms s (Some at) = held_allowed place row e ms s (ended schedule at)

  -- after the devices' lines of a tick; some member is there
  inputs_stand : (p : ℕ) (w : Member C) (at : At) (ms : List (Member C)) → slice_get ms p ≡ Some w → Stand ms → Stand (inputs_all plan at (of_tick at.now.0 devices) ms).state
  inputs_stand p w at ms here s =
      let lines = of_tick at.now.0 devices in
      let ns = (inputs_all plan at lines ms).state in
      let renamed : map name_of ns ≡ names = (one p w here).state.named in
      record {
        named = renamed;
        sound = each_place ms ns s.named renamed (λ place x e.
            let row = known_rows place (name_of x) (name_here ms s.named place x e) in
            (_, (one place x e).state.own, all_sound row.0 (Sound place) (kept place row.0 row.1) fault at (brought_in_all plan (suc place) lines) (in_allowed plan (suc place) row.0 lines (of_tick_allowed plan (suc place) row.0 at.now.0 devices (allowed place row.0 row.1))) x (s.sound place x e)));
      }
    where
      one : (place : ℕ) (x : Member C) (e : slice_get ms place ≡ Some x) → SamePath (name_of x) place names (all place (name_of x) (name_here ms s.named place x e)) (inputs_all plan at (of_tick at.now.0 devices) ms) (takes_all fault at (brought_in_all plan (suc place) (of_tick at.now.0 devices)) x)
      one place x e = lines_same (name_of x) place names (all place (name_of x) (name_here ms s.named place x e)) plan (of_tick at.now.0 devices) (of_tick_from channels at.now.0 devices from) at ms x (record { own = e; named = s.named })

  -- the inputs of a tick
  tick_allowed : (place : ℕ) (row : Partition) → slice_get ps place ≡ Some row → (at : At) (ms : List (Member C)) (p : ℕ) (w : Member C) → slice_get ms p ≡ Some w → Stand ms → AllByRecursion (IsDelivered row) (brought_tick plan (suc place) at devices ms)
  tick_allowed place row e at ms p w here s =
      let lines = of_tick at.now.0 devices in
      let c = inputs_all plan at lines ms in
      all_append (IsDelivered row) (brought_in_all plan (suc place) lines) (brought_moved plan (suc place) c.state c.at)
      (in_allowed plan (suc place) row lines (of_tick_allowed plan (suc place) row at.now.0 devices (allowed place row e)))
      (moved_allowed place row e c.state (inputs_stand p w at ms here s) c.at)

  -- after a tick, with the member that is there
  tick_stand : (p : ℕ) (w : Member C) (at : At) (ms : List (Member C)) → slice_get ms p ≡ Some w → Stand ms → Stand (module_tick plan at devices ms).state × ((y : Member C) × (slice_get (module_tick plan at devices ms).state p ≡ Some y))
  tick_stand p w at ms here s =
      let ns = (module_tick plan at devices ms).state in
      let renamed : map name_of ns ≡ names = (one p w here).state.named in (
        record {
          named = renamed;
          sound = each_place ms ns s.named renamed (λ place x e.
              let row = known_rows place (name_of x) (name_here ms s.named place x e) in
              (_, (one place x e).state.own, tick_sound row.0 (Sound place) (kept place row.0 row.1) (surroundings_of plan (suc place) row.0.ports) at (brought_tick plan (suc place) at devices ms) (tick_allowed place row.0 row.1 at ms p w here s) x (s.sound place x e)));
        },
        (_, (one p w here).state.own),
      )
    where
      one : (place : ℕ) (x : Member C) (e : slice_get ms place ≡ Some x) → SamePath (name_of x) place names (all place (name_of x) (name_here ms s.named place x e)) (module_tick plan at devices ms) (tick_alone (surroundings_of plan (suc place) (known_rows place (name_of x) (name_here ms s.named place x e)).0.ports) at (brought_tick plan (suc place) at devices ms) x)
      one place x e =
          tick_same (name_of x) place names (all place (name_of x) (name_here ms s.named place x e)) all plan (known_rows place (name_of x) (name_here ms s.named place x e)).0.ports
          (isolates ps schedule channels fault owner end known right (suc place) (known_rows place (name_of x) (name_here ms s.named place x e)).0 (known_rows place (name_of x) (name_here ms s.named place x e)).1) devices from at ms x (record { own = e; named = s.named })

  -- from a tick on
  inputs_good : (place : ℕ) (row : Partition) → slice_get ps place ≡ Some row → (n before : ℕ) (o : Option At) (ms : List (Member C)) (w : Member C) → slice_get ms place ≡ Some w → Stand ms
      → ((a : At) → o ≡ Some a → (before ≤ a.now.0) × (a.now.0 + n ≤ MOST_TICKS + 1)) → AreDelivered row before (inputs_from plan (suc place) devices n o ms)
  inputs_good place row e zero before o ms w here s h = tt
  inputs_good place row e (suc n) before None ms w here s h = tt
  inputs_good place row e (suc n) before (Some at) ms w here s h =
      let r = module_tick plan at devices ms in
      let t = tick_stand place w at ms here s in
      let now = h at refl in
      tick_lines row before at.now.0 (brought_tick plan (suc place) at devices ms) (inputs_from plan (suc place) devices n (option_map next_tick r.at) r.state) now.0 (low now.1)
      (tick_allowed place row e at ms place w here s)
      (inputs_good place row e n at.now.0 (option_map next_tick r.at) r.state t.1.0 t.1.1 t.0 (λ a k. later now.1 a (next_in at.now.0 r.at a (tick_in plan devices at ms) k)))
    where
      low : at.now.0 + suc n ≤ MOST_TICKS + 1 → at.now.0 ≤ MOST_TICKS
      low l = omega arith

      later : at.now.0 + suc n ≤ MOST_TICKS + 1 → (a : At) → a.now.0 ≡ at.now.0 + 1 → (at.now.0 ≤ a.now.0) × (a.now.0 + n ≤ MOST_TICKS + 1)
      later l a k = (omega (arith, k), omega (arith, k))

  -- The inputs of n ticks are in order, and each is allowed by its port.
  pub inputs_allowed : (place : ℕ) (row : Partition) → slice_get ps place ≡ Some row → (n : ℕ) → n ≤ MOST_TICKS + 1 → (ms : List (Member C)) (w : Member C) → slice_get ms place ≡ Some w
      → map name_of (starts ms).state ≡ names → ((q : ℕ) (x : Member C) → slice_get ms q ≡ Some x → Sound q x) → AreDelivered row 0 (inputs_of (record { plan = plan; members = ms }) (suc place) devices n)
  inputs_allowed place row e zero few ms w here named sound = tt
  inputs_allowed place row e (suc n) few ms w here named sound =
      inputs_good place row e (suc n) 0 (Some first_tick) (starts ms).state (started_member first_tick condition.NormalStart w) (begun place w here)
      (record { named = named; sound = λ q y k. there q y k (slice_get ms q) refl })
      (λ a k. first (ap (λ (o : Option At). now_of o) k))
    where
      now_of : Option At → ℕ
      now_of None = 0
      now_of (Some at) = at.now.0

      first : {t : ℕ} → 0 ≡ t → (0 ≤ t) × (t + suc n ≤ MOST_TICKS + 1)
      first k = (omega arith, omega (arith, few, k))

      begun : (q : ℕ) (x : Member C) → slice_get ms q ≡ Some x → slice_get (starts ms).state q ≡ Some (started_member first_tick condition.NormalStart x)
      begun q x k = slice_get-map (started_member first_tick condition.NormalStart) ms q ∙ ap (option_map (started_member first_tick condition.NormalStart)) k

      there : (q : ℕ) (y : Member C) → slice_get (starts ms).state q ≡ Some y → (o : Option (Member C)) → slice_get ms q ≡ o → Sound q y
      there q y k None f = absurd (clash (sym k ∙ slice_get-map (started_member first_tick condition.NormalStart) ms q ∙ ap (option_map (started_member first_tick condition.NormalStart)) f))
        where
          clash : Some y ≡ None → ⊥
          clash h = cc
      there q y k (Some x) f =
          let other = known_rows q (name_of y) (name_here (starts ms).state named q y k) in
          subst (λ (z : Member C). Sound q z) (same_some (started_member first_tick condition.NormalStart x) y (sym (begun q x f) ∙ k)) ((kept q other.0 other.1).starts first_tick condition.NormalStart x (sound q x f))

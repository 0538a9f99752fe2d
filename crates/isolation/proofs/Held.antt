-- The messages of an ended window bring what its source ports held before.
use Rattle.isolation.proofs.Prelude.{◌≡◌, ◌≢◌, ℕ, zero, suc, ◌+◌, ◌-◌, ℤ, Bool, true, false, List, ◌∷◌, ◌++◌, length, Option, Some, None, sym, ◌∙◌, arith, option_map, slice_get, slice_set, flat_map, if◌then◌else◌, ArrayVec, slice_get-map, At, PartitionId, PortId, Runner, Action, Entry, ProcessStatus, Engine, Channel, at_number, of_ports, of_ports_alone, with_ports, of_member, ports_of, ports_from, channel_from, moves_message, moves_port, World, Member, act, act_all, leaves, leaving, admits, place_of_port, messages_to_move, Port, Ports, port_at, is_source, is_full, list, numbered, row_of, waiting, Sharing, Input, Surroundings, goes, goes_by_way, sends_found, sends_message, sends_messages, sends_so_many, sends_port, way_out, brought_by, held_port, held_ports, held_ended}
use Rattle.std.proofs.Common.{[], refl, ap, subst}
use Rattle.std.specs.Prelude.{map}
use Rattle.apex_types.specs.declared.identity.Runner.TheVariants as runner
use Rattle.apex_types.specs.Runners as action
use Rattle.kernel_meaning.specs.PortServices as arrival
use Rattle.isolation.proofs.Twins.{brought_ended, brought_found, brought_message, brought_messages, brought_so_many, brought_port, brought_ports}
use Rattle.isolation.proofs.OwnMessages.{AreLawful, AreWays, with_number, own_message, own_port_moves}
use Rattle.isolation.proofs.Steps.{IsApart, AreApart, Holds, name_of, get_set_same, get_set_other}

-- ---- a list that differs at only one place
pub record Others {A : Type 0} (i : ℕ) (xs ys : List A) : Type 0 where
  pub long : length ys ≡ length xs
  pub same : (j : ℕ) → i ≢ j → slice_get ys j ≡ slice_get xs j

unchanged : {A : Type 0} (i : ℕ) (xs : List A) → Others i xs xs
unchanged i xs = record { long = refl; same = λ j n. refl }

set_long : {A : Type 0} (xs : List A) (i : ℕ) (y : A) → length (slice_set xs i y) ≡ length xs
set_long [] i y = refl
set_long (x ∷ xs) zero y = refl
set_long (x ∷ xs) (suc i) y = ap suc (set_long xs i y)

set_at : {A : Type 0} (i : ℕ) (xs : List A) (y : A) → Others i xs (slice_set xs i y)
set_at i xs y = record { long = set_long xs i y; same = λ j n. get_set_other xs i j y n }

then_others : {A : Type 0} (i : ℕ) (xs ys zs : List A) → Others i xs ys → Others i ys zs → Others i xs zs
then_others i xs ys zs h k = record { long = k.long ∙ h.long; same = λ j n. k.same j n ∙ h.same j n }

-- ---- the ports in a step
leaves_others : (o : Ports) (i : ℕ) → Others i o.ports (arrival.leaves o i).part.ports
leaves_others o i = found (port_at o i)
  where
    messages : (x : Port) (ms : List (ArrayVec ℤ)) → Others i o.ports (arrival.leaves_first o i x ms).part.ports
    messages x [] = unchanged i o.ports
    messages x (m ∷ rest) = set_at i o.ports (record x { messages = rest })

    found : (p : Option Port) → Others i o.ports (arrival.leaves_of o i p).part.ports
    found None = unchanged i o.ports
    found (Some x) = messages x x.messages

enters_others : (b : Sharing Ports) (i : ℕ) (e : Entry) (p : Option Port) → Others i b.shared.ports (arrival.enters_port b i e p).part.shared.ports
enters_others b i e None = unchanged i b.shared.ports
enters_others b i e (Some x) = either (is_full x)
  where
    found : (f : Option (Runner × ProcessStatus)) → Others i b.shared.ports (arrival.enters_found b i x f).part.shared.ports
    found None = unchanged i b.shared.ports
    found (Some f) = set_at i b.shared.ports _

    either : (c : Bool) → Others i b.shared.ports (if c then record { part = b; lines = []; actions = [] } else arrival.enters_found b i x (numbered e.process (row_of b.processes (runner.Process e.process)))).part.shared.ports
    either true = unchanged i b.shared.ports
    either false = found (numbered e.process (row_of b.processes (runner.Process e.process)))

all_others : (es : List Entry) (i : ℕ) (b : Sharing Ports) → Others i b.shared.ports (arrival.all_enter es i b).part.shared.ports
all_others [] i b = unchanged i b.shared.ports
all_others (e ∷ es) i b =
    let s = arrival.enters_port b i e (port_at b.shared i) in
    then_others i b.shared.ports s.part.shared.ports (arrival.all_enter es i s.part).part.shared.ports (enters_others b i e (port_at b.shared i)) (all_others es i s.part)

module _ {C : Type 0} where
  act_ports : (e : Engine C) (a : Action) (w : World C) → (act e a w).kernel.ports ≡ w.kernel.ports
  act_ports e (action.Begin p) w = refl
  act_ports e (action.Stop p) w = refl
  act_ports e action.StopAll w = refl
  act_ports e (action.Reply p answer) w = refl
  act_ports e action.Restore w = refl
  act_ports e (action.Write place array) w = refl
  act_ports e (action.Queue error) w = refl

  all_ports : (e : Engine C) (actions : List Action) (w : World C) → (act_all e actions w).kernel.ports ≡ w.kernel.ports
  all_ports e [] w = refl
  all_ports e (a ∷ rest) w = all_ports e rest (act e a w) ∙ act_ports e a w

  -- the message that has left goes out or not: the record is the same
  way_member : (at : At) (m : ArrayVec ℤ) (o : Option (List ℕ)) (x : Member C) → (goes_by_way at m o x).state ≡ x
  way_member at m None x = refl
  way_member at m (Some channel) x = refl

  left_ports : (at : At) (port : PortId) (x : Member C) → ports_of (goes (leaves at port) x).state ≡ (arrival.leaves x.world.kernel.ports (place_of_port port)).part.ports
  left_ports at port x = ap (λ (o : Ports). o.ports) (all_ports x.engine (of_ports_alone x.world.kernel (arrival.leaves x.world.kernel.ports (place_of_port port))).actions (record x.world { kernel = (of_ports_alone x.world.kernel (arrival.leaves x.world.kernel.ports (place_of_port port))).part }))

  admitted_ports : (at : At) (port : PortId) (x : Member C) → ports_of (goes (admits at port) x).state ≡ (arrival.admits (with_ports x.world.kernel) (place_of_port port)).part.shared.ports
  admitted_ports at port x = ap (λ (o : Ports). o.ports) (all_ports x.engine (of_ports x.world.kernel (arrival.admits (with_ports x.world.kernel) (place_of_port port))).actions (record x.world { kernel = (of_ports x.world.kernel (arrival.admits (with_ports x.world.kernel) (place_of_port port))).part }))

  -- ---- the partition on its own: one port sends, the others stay
  module _ (s : Surroundings) (at : At) (port : PortId) where
    abbrev Stay : Member C → Member C → Type 0
    Stay x y = Others (place_of_port port) (ports_of x) (ports_of y)

    found_stay : (x : Member C) (o : Option (ArrayVec ℤ)) → Stay x (sends_found s at port x o).state
    found_stay x None = unchanged (place_of_port port) (ports_of x)
    found_stay x (Some m) =
        subst (λ (y : Member C). Stay x y) (sym (way_member at m (way_out s port) (goes (leaves at port) x).state))
        (subst (λ (ps : List Port). Others (place_of_port port) (ports_of x) ps) (sym (left_ports at port x)) (leaves_others x.world.kernel.ports (place_of_port port)))

    messages_stay : (n : ℕ) (x : Member C) → Stay x (sends_messages n s at port x).state
    messages_stay zero x = unchanged (place_of_port port) (ports_of x)
    messages_stay (suc n) x =
        let y = (sends_message s at port x).state in
        then_others (place_of_port port) (ports_of x) (ports_of y) (ports_of (sends_messages n s at port y).state) (found_stay x (leaving port x)) (messages_stay n y)

    admits_stay : (x : Member C) → Stay x (goes (admits at port) x).state
    admits_stay x = subst (λ (ps : List Port). Others (place_of_port port) (ports_of x) ps) (sym (admitted_ports at port x)) (all_others (waiting x.world.kernel.processes (list (place_of_port port))) (place_of_port port) (with_ports x.world.kernel))

    so_many_stay : (x : Member C) (o : Option ℕ) → Stay x (sends_so_many s at port x o).state
    so_many_stay x None = unchanged (place_of_port port) (ports_of x)
    so_many_stay x (Some n) =
        let y = (sends_messages n s at port x).state in
        then_others (place_of_port port) (ports_of x) (ports_of y) (ports_of (goes (admits at port) y).state) (messages_stay n x) (admits_stay y)

    port_stay : (x : Member C) → Stay x (sends_port s at port x).state
    port_stay x = so_many_stay x (messages_to_move (at_number (ports_of x) port.0))

    -- the first message is removed, the others remain
    first_gone : (x : Member C) (z : Port) (m : ArrayVec ℤ) (rest : List (ArrayVec ℤ)) → slice_get (ports_of x) (place_of_port port) ≡ Some z → z.messages ≡ m ∷ rest
        → slice_get (ports_of (sends_found s at port x (Some m)).state) (place_of_port port) ≡ Some (record z { messages = rest })
    first_gone x z m rest e k =
        ap (λ (y : Member C). slice_get (ports_of y) (place_of_port port)) (way_member at m (way_out s port) (goes (leaves at port) x).state)
        ∙ ap (λ (ps : List Port). slice_get ps (place_of_port port)) (left_ports at port x)
        ∙ ap (λ (o : Option Port). slice_get (arrival.leaves_of x.world.kernel.ports (place_of_port port) o).part.ports (place_of_port port)) e
        ∙ ap (λ (ms : List (ArrayVec ℤ)). slice_get (arrival.leaves_first x.world.kernel.ports (place_of_port port) z ms).part.ports (place_of_port port)) k
        ∙ get_set_same (ports_of x) (place_of_port port) z (record z { messages = rest }) e

-- ---- what is brought, message by message
abbrev brings : List Channel → ℕ → PartitionId → PortId → ArrayVec ℤ → List Input
brings channels p q port m = brought_by p m (channel_from channels q port)

-- from a place on, the ports are these
abbrev AreFrom : ℕ → List Port → List Port → Type 0
AreFrom k ps xs = (i : ℕ) → slice_get ps (k + i) ≡ slice_get xs i

module _ {C : Type 0} (name : List ℕ) (place : ℕ) (names : List (List ℕ)) (apart : IsApart name place names) (channels : List Channel) (at : At) (lawful : AreLawful (suc place) channels)
    (s : Surroundings) (ways : AreWays channels (suc place) s) (p : ℕ) where
  abbrev Is : List (Member C) → Member C → Type 0
  Is ms x = Holds {C = C} name place names apart ms x

  messages_held : (n : ℕ) (port : PortId) (ms : List (Member C)) (x : Member C) → Is ms x → (z : Port) → slice_get (ports_of x) (place_of_port port) ≡ Some z → (held : List (ArrayVec ℤ)) → z.messages ≡ held → length held ≡ n
      → brought_messages n channels p at (with_number (suc place)) port ms ≡ flat_map (brings channels p (with_number (suc place)) port) held
  messages_held zero port ms x h z e [] k l = refl
  messages_held zero port ms x h z e (m ∷ rest) k l = absurd (omega arith)
  messages_held (suc n) port ms x h z e [] k l = absurd (omega arith)
  messages_held (suc n) port ms x h z e (m ∷ rest) k l =
      let q = with_number (suc place) in
      let leaves_now : leaving port x ≡ Some m = ap arrival.first_message e ∙ ap arrival.first_of k in
      let first : brought_message channels p q port ms ≡ brings channels p (with_number (suc place)) port m = ap (λ (o : Option (Member C)). brought_found channels p q port (of_member None (leaving port) o)) h.own ∙ ap (λ (o : Option (ArrayVec ℤ)). brought_found channels p q port o) leaves_now in
      let ns = (moves_message channels at q port ms).state in
      let y = (sends_message s at port x).state in
      let there : slice_get (ports_of y) (place_of_port port) ≡ Some (record z { messages = rest }) =
      ap (λ (o : Option (ArrayVec ℤ)). slice_get (ports_of (sends_found s at port x o).state) (place_of_port port)) leaves_now ∙ first_gone s at port x z m rest e k in
      ap (λ (is : List Input). is ++ brought_messages n channels p at q port ns) first
      ∙ ap (λ (is : List Input). brings channels p (with_number (suc place)) port m ++ is) (messages_held n port ns y (own_message name place names apart channels at lawful s ways port ms x h).state (record z { messages = rest }) there rest refl (omega arith))

  -- ---- port by port
  so_many_held : (port : PortId) (ms : List (Member C)) (x : Member C) → Is ms x → (z : Port) → slice_get (ports_of x) (place_of_port port) ≡ Some z → (b : Bool)
      → brought_so_many channels p at (with_number (suc place)) port ms (if b then Some (length z.messages) else None) ≡ (if b then flat_map (brings channels p (with_number (suc place)) port) z.messages else [])
  so_many_held port ms x h z e true = messages_held (length z.messages) port ms x h z e z.messages refl refl
  so_many_held port ms x h z e false = refl

  one_held : (k : ℕ) (ms : List (Member C)) (x : Member C) → Is ms x → (z : Port) → slice_get (ports_of x) k ≡ Some z
      → brought_port channels p at (with_number (suc place)) (record { 0 = suc k }) ms ≡ held_port channels p (with_number (suc place)) (suc k) z
  one_held k ms x h z e =
      ap (λ (o : Option (Member C)). brought_so_many channels p at (with_number (suc place)) (record { 0 = suc k }) ms (messages_to_move (slice_get (of_member [] ports_of o) k))) h.own
      ∙ ap (λ (o : Option Port). brought_so_many channels p at (with_number (suc place)) (record { 0 = suc k }) ms (messages_to_move o)) e
      ∙ so_many_held (record { 0 = suc k }) ms x h z (at_place k (ports_of x) z e) (is_source z)
    where
      at_place : (k : ℕ) (ps : List Port) (z : Port) → slice_get ps k ≡ Some z → slice_get ps (suc k - 1) ≡ Some z
      at_place k ps z e = subst (λ (n : ℕ). slice_get ps n ≡ Some z) (plain k) e
        where
          plain : (k : ℕ) → k ≡ suc k - 1
          plain k = omega arith

  ports_held : (k : ℕ) (xs : List Port) (ms : List (Member C)) (x : Member C) → Is ms x → AreFrom k (ports_of x) xs
      → brought_ports (length xs) (suc k) channels p at (with_number (suc place)) ms ≡ held_ports channels p (with_number (suc place)) (suc k) xs
  ports_held k [] ms x h are = refl
  ports_held k (z ∷ zs) ms x h are =
      let q = with_number (suc place) in
      let here = place_at k (ports_of x) z (are 0) in
      let r = own_port_moves name place names apart channels at lawful s ways (record { 0 = suc k }) ms x h in
      let y = (sends_port s at (record { 0 = suc k }) x).state in
      let ns = (moves_port channels at q (record { 0 = suc k }) ms).state in
      ap (λ (is : List Input). is ++ brought_ports (length zs) (suc k + 1) channels p at q ns) (one_held k ms x h z here)
      ∙ ap (λ (is : List Input). held_port channels p q (suc k) z ++ is)
      (subst (λ (n : ℕ). brought_ports (length zs) n channels p at q ns ≡ held_ports channels p q n zs) (next k) (ports_held (suc k) zs ns y r.state (λ i. later k i (ports_of x) (ports_of y) (port_stay s at (record { 0 = suc k }) x) ∙ moved k i (ports_of x) (are (suc i)))))
    where
      place_at : (k : ℕ) (ps : List Port) (z : Port) → slice_get ps (k + 0) ≡ Some z → slice_get ps k ≡ Some z
      place_at k ps z e = subst (λ (n : ℕ). slice_get ps n ≡ Some z) (plain k) e
        where
          plain : (k : ℕ) → k + 0 ≡ k
          plain k = omega arith

      next : (k : ℕ) → suc (suc k) ≡ suc k + 1
      next k = omega arith

      later : (k i : ℕ) (ps qs : List Port) → Others (suc k - 1) ps qs → slice_get qs (suc k + i) ≡ slice_get ps (suc k + i)
      later k i ps qs o = o.same (suc k + i) (λ e. absurd (omega arith))

      moved : (k i : ℕ) (ps : List Port) → slice_get ps (k + suc i) ≡ slice_get zs i → slice_get ps (suc k + i) ≡ slice_get zs i
      moved k i ps e = subst (λ (n : ℕ). slice_get ps n ≡ slice_get zs i) (turned k i) e
        where
          turned : (k i : ℕ) → k + suc i ≡ suc k + i
          turned k i = omega arith

  -- the messages that the ports of the partition held before bring as much as their moves do
  pub all_held : (ms : List (Member C)) (x : Member C) → Is ms x
      → brought_ports (length (ports_from ms (suc place))) 1 channels p at (with_number (suc place)) ms ≡ held_ports channels p (with_number (suc place)) 1 (ports_from ms (suc place))
  all_held ms x h =
      subst (λ (o : Option (Member C)). brought_ports (length (of_member [] ports_of o)) 1 channels p at (with_number (suc place)) ms ≡ held_ports channels p (with_number (suc place)) 1 (of_member [] ports_of o)) (sym h.own)
      (ports_held 0 (ports_of x) ms x h (λ i. ap (λ (n : ℕ). slice_get (ports_of x) n) (plain i)))
    where
      plain : (i : ℕ) → 0 + i ≡ i
      plain i = omega arith

-- ---- whatever window ends
pub ended_held : {C : Type 0} (names : List (List ℕ)) → AreApart names
    → (channels : List Channel) → ((q : ℕ) → AreLawful q channels) → ((q : ℕ) → (s : Surroundings) × AreWays channels q s) → (at : At) (p : ℕ) (ms : List (Member C)) → map name_of ms ≡ names → (o : Option ℕ)
    → brought_ended channels p at ms o ≡ held_ended channels p ms o
ended_held names apart channels lawful ways at p ms named None = refl
ended_held names apart channels lawful ways at p ms named (Some zero) = refl
ended_held {C = C} names apart channels lawful ways at p ms named (Some (suc place)) = there (slice_get ms place) refl
  where
    there : (o : Option (Member C)) → slice_get ms place ≡ o → brought_ended channels p at ms (Some (suc place)) ≡ held_ended channels p ms (Some (suc place))
    there None e = subst (λ (o : Option (Member C)). brought_ports (length (of_member [] ports_of o)) 1 channels p at (with_number (suc place)) ms ≡ held_ports channels p (with_number (suc place)) 1 (of_member [] ports_of o)) (sym e) refl
    there (Some x) e =
        let known = ap (λ (ns : List (List ℕ)). slice_get ns place) (sym named) ∙ slice_get-map name_of ms place ∙ ap (option_map name_of) e in
        all_held (name_of x) place names (apart place (name_of x) known) channels at (lawful (suc place)) (ways (suc place)).0 (ways (suc place)).1 p ms x (record { own = e; named = named })

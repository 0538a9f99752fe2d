-- A message that the port at one end of a channel allows is allowed at each destination port of the
-- channel.
use Rattle.isolation.proofs.Prelude.{◌≡◌, ◌≢◌, ℕ, zero, suc, ◌+◌, ◌-◌, ℤ, Bool, true, false, List, ◌∷◌, Option, Some, None, sym, ◌∙◌, arith, ◌==◌, ◌||◌, slice_get, is_none, if◌then◌else◌, flat_map, list_any, AllByRecursion, and_parts, eqb-true, eqb-false, not-false, ArrayVec, PartitionId, PortId, ChannelEnd, PortDirection, PortRow, Channel, Partition, at_number, is_port, channel_from, Port, is_source_port, differ, has_mixed_ports, has_wrong_direction, sends_to_itself, is_split_queue, has_twice, is_same_port, ends_of, has_wrong_ends, is_unknown_port, has_unknown_port, ◌>>=◌, Arrive, brought_to, brought_by, held_port, held_ports}
use Rattle.std.proofs.Common.{not, [], refl, ap, subst}
use Rattle.std.proofs.lemmas.Bool.{or_parts}
use Rattle.apex_types.specs.declared.row.ChannelEnd.TheVariants as ends
use Rattle.apex_types.specs.declared.row.PortDirection.TheVariants as direction
use Rattle.kernel_meaning.specs.Objects.{is_source as is_source_port_of}
use Rattle.module_meaning.specs.Table.{port_at, is_source, is_same_kind, port_is, is_destination_port, has_two_devices, is_wrong}
use Rattle.isolation.proofs.Holding.{HasLength, IsDelivery, IsDelivered, IsHolding, AreHolding, all_append}
use Rattle.isolation.proofs.Messages.{found_passes}
use Rattle.isolation.proofs.OfImage.{found_is}
use Rattle.isolation.proofs.OwnMessages.{with_number}

-- a port is a source or a destination
is_destination : (d : PortDirection) → is_source d ≡ false → d ≡ direction.Destination
is_destination direction.Source h = absurd (cc)
is_destination direction.Destination h = refl

-- the element at a place, by its number
number_there : {A : Type 0} (xs : List A) (n : ℕ) (x : A) → n ≢ 0 → slice_get xs (n - 1) ≡ Some x → at_number xs n ≡ Some x
number_there xs zero x z e = absurd (z refl)
number_there xs (suc k) x z e = subst (λ (i : ℕ). slice_get xs i ≡ Some x) (plain k) e
  where
    plain : (k : ℕ) → suc k - 1 ≡ k
    plain k = omega arith

-- the rules for a channel
pub record IsRight (ps : List Partition) (c : Channel) : Type 0 where
  pub known : list_any (is_unknown_port ps) (ends_of c) ≡ false
  pub goes : list_any (is_source_port ps) c.destinations ≡ false
  pub same : list_any (λ d. list_any (differ ps d) (ends_of c)) (ends_of c) ≡ false

module _ (ps : List Partition) (place : ℕ) (row : Partition) (here : slice_get ps place ≡ Some row) (m : ArrayVec ℤ) where
  -- a message that the end d allows is one for a port, which is a destination of the same channel
  end_arrives : (d : ChannelEnd) (x : PortRow) → port_at ps d ≡ Some x → HasLength x.words m.items → (q : PartitionId) (port : PortId) → q.0 ≡ suc place
      → is_unknown_port ps (ends.Port q port) ≡ false → is_source_port ps (ends.Port q port) ≡ false → differ ps d (ends.Port q port) ≡ false → IsDelivery row port.0 m
  end_arrives d x there message q port is known goes same =
      let some = or_parts ((q.0 == 0) || (port.0 == 0)) (is_none (port_at ps (ends.Port q port))) known in
      let at : port_at ps (ends.Port q port) ≡ slice_get row.ports (port.0 - 1) =
      ap (λ (n : ℕ). slice_get ps n >>= λ r. slice_get r.ports (port.0 - 1)) (back q.0 is) ∙ ap (λ (o : Option Partition). o >>= λ r. slice_get r.ports (port.0 - 1)) here in
      found (slice_get row.ports (port.0 - 1)) at refl some.1 (eqb-false port.0 0 (or_parts (q.0 == 0) (port.0 == 0) some.0).1)
    where
      back : (n : ℕ) → n ≡ suc place → n - 1 ≡ place
      back n e = omega arith

      found : (o : Option PortRow) → port_at ps (ends.Port q port) ≡ o → slice_get row.ports (port.0 - 1) ≡ o → is_none (port_at ps (ends.Port q port)) ≡ false → port.0 ≢ 0 → IsDelivery row port.0 m
      found None e f k z = absurd (clash (sym (ap is_none e) ∙ k))
        where
          clash : true ≡ false → ⊥
          clash h = cc
      found (Some y) e f k z =
          let words : (not (is_same_kind x.kind y.kind) || not (x.words == y.words)) ≡ false =
          sym (ap (λ (o : Option PortRow). elim o [ None ↦ false | Some a ↦ port_is ps (λ b. not (is_same_kind a.kind b.kind) || not (a.words == b.words)) (ends.Port q port) ]) there
          ∙ ap (λ (o : Option PortRow). elim o [ None ↦ false | Some b ↦ not (is_same_kind x.kind b.kind) || not (x.words == b.words) ]) e) ∙ same in
          let equal : x.words ≡ y.words = eqb-true x.words y.words (not-false (x.words == y.words) (or_parts (not (is_same_kind x.kind y.kind)) (not (x.words == y.words)) words).1) in
          record {
            at = y;
            there = number_there row.ports port.0 y z f;
            taken = is_destination y.direction (sym (ap (λ (o : Option PortRow). elim o [ None ↦ false | Some b ↦ is_source b.direction ]) e) ∙ goes);
            message = subst (λ (n : ℕ). HasLength n m.items) equal message;
          }

  -- the same for all these destinations
  pub ends_arrive : (d : ChannelEnd) (x : PortRow) → port_at ps d ≡ Some x → HasLength x.words m.items → (es : List ChannelEnd)
      → list_any (is_unknown_port ps) es ≡ false → list_any (is_source_port ps) es ≡ false → list_any (differ ps d) es ≡ false → AllByRecursion (IsDelivered row) (brought_to (suc place) m es)
  ends_arrive d x there message [] known goes same = tt
  ends_arrive d x there message (ends.Device ∷ es) known goes same =
      ends_arrive d x there message es (or_parts (is_unknown_port ps ends.Device) (list_any (is_unknown_port ps) es) known).1 (or_parts (is_source_port ps ends.Device) (list_any (is_source_port ps) es) goes).1 (or_parts (differ ps d ends.Device) (list_any (differ ps d) es) same).1
  ends_arrive d x there message (ends.Port q port ∷ es) known goes same =
      let a = or_parts (is_unknown_port ps (ends.Port q port)) (list_any (is_unknown_port ps) es) known in
      let b = or_parts (is_source_port ps (ends.Port q port)) (list_any (is_source_port ps) es) goes in
      let c = or_parts (differ ps d (ends.Port q port)) (list_any (differ ps d) es) same in
      either (q.0 == suc place) (λ e. end_arrives d x there message q port (eqb-true q.0 (suc place) e) a.0 b.0 c.0) (ends_arrive d x there message es a.1 b.1 c.1) refl
    where
      either : (t : Bool) → ((q.0 == suc place) ≡ true → IsDelivery row port.0 m) → AllByRecursion (IsDelivered row) (brought_to (suc place) m es) → (q.0 == suc place) ≡ t → AllByRecursion (IsDelivered row) (if t then Arrive port m ∷ brought_to (suc place) m es else brought_to (suc place) m es)
      either true one rest e = (one e, rest)
      either false one rest e = rest

  -- from a port that allows it
  pub from_port : (c : Channel) → IsRight ps c → (x : PortRow) → port_at ps c.source ≡ Some x → HasLength x.words m.items → AllByRecursion (IsDelivered row) (brought_to (suc place) m c.destinations)
  from_port c h x there message =
      ends_arrive c.source x there message c.destinations (or_parts (is_unknown_port ps c.source) (list_any (is_unknown_port ps) c.destinations) h.known).1 h.goes
      (or_parts (differ ps c.source c.source) (list_any (differ ps c.source) c.destinations) (or_parts (list_any (differ ps c.source) (ends_of c)) (list_any (λ d. list_any (differ ps d) (ends_of c)) c.destinations) h.same).0).1

-- a channel that is not wrong
pub right_of : (ps : List Partition) (c : Channel) → list_any (is_unknown_port ps) (ends_of c) ≡ false → is_wrong ps c ≡ false → IsRight ps c
unfolding is_wrong
right_of ps c k w =
    let four = or_parts (has_wrong_direction ps c || has_mixed_ports ps (ends_of c) || sends_to_itself c || has_two_devices (ends_of c)) (is_split_queue ps c) w in
    let three = or_parts (has_wrong_direction ps c || has_mixed_ports ps (ends_of c) || sends_to_itself c) (has_two_devices (ends_of c)) four.0 in
    let two = or_parts (has_wrong_direction ps c || has_mixed_ports ps (ends_of c)) (sends_to_itself c) three.0 in
    let one = or_parts (has_wrong_direction ps c) (has_mixed_ports ps (ends_of c)) two.0 in
    record { known = k; goes = (or_parts (is_destination_port ps c.source) (list_any (is_source_port ps) c.destinations) one.0).1; same = one.1 }

-- the port that a channel is from
source_is : (ps : List Partition) (q : ℕ) (port : PortId) (x : PortRow) (e : ChannelEnd) → is_port (with_number q) port e ≡ true → (slice_get ps (q - 1) >>= λ r. slice_get r.ports (port.0 - 1)) ≡ Some x → port_at ps e ≡ Some x
source_is ps q port x ends.Device h k = absurd (cc)
source_is ps q port x (ends.Port r other) h k =
    let is = and_parts (r.0 == q) (other.0 == port.0) h in
    ap (λ (n : ℕ). slice_get ps (n - 1) >>= λ p. slice_get p.ports (other.0 - 1)) (eqb-true r.0 q is.0)
    ∙ ap (λ (n : ℕ). slice_get ps (q - 1) >>= λ p. slice_get p.ports (n - 1)) (eqb-true other.0 port.0 is.1) ∙ k

-- ---- what source ports hold
module _ (ps : List Partition) (channels : List Channel) (known : has_unknown_port ps channels ≡ false) (right : has_wrong_ends ps channels ≡ false)
    (place : ℕ) (row : Partition) (here : slice_get ps place ≡ Some row) (from : ℕ) (other : Partition) (there : slice_get ps from ≡ Some other) where
  -- a message of one port, all messages of it, then all ports
  one_brought : (port : PortId) (x : PortRow) → slice_get other.ports (port.0 - 1) ≡ Some x → (m : ArrayVec ℤ) → HasLength x.words m.items → (o : Option Channel) → channel_from channels (with_number (suc from)) port ≡ o → AllByRecursion (IsDelivered row) (brought_by (suc place) m o)
  one_brought port x e m message None f = tt
  one_brought port x e m message (Some c) f =
      let wrong = or_parts (has_twice is_same_port (flat_map ends_of channels)) (list_any (is_wrong ps) channels) right in
      let passes = found_passes (λ d. is_port (with_number (suc from)) port d.source) channels c f in
      from_port ps place row here m c
      (right_of ps c (found_is (λ d. list_any (is_unknown_port ps) (ends_of d)) (λ d. is_port (with_number (suc from)) port d.source) channels c known f) (found_is (is_wrong ps) (λ d. is_port (with_number (suc from)) port d.source) channels c wrong.1 f))
      x (source_is ps (suc from) port x c.source passes (ap (λ (n : ℕ). slice_get ps n >>= λ r. slice_get r.ports (port.0 - 1)) (back from) ∙ ap (λ (o : Option Partition). o >>= λ r. slice_get r.ports (port.0 - 1)) there ∙ e)) message
    where
      back : (k : ℕ) → suc k - 1 ≡ k
      back k = omega arith

  messages_brought : (port : PortId) (x : PortRow) → slice_get other.ports (port.0 - 1) ≡ Some x → (ms : List (ArrayVec ℤ)) → AllByRecursion (λ m. HasLength x.words m.items) ms
      → AllByRecursion (IsDelivered row) (flat_map (λ m. brought_by (suc place) m (channel_from channels (with_number (suc from)) port)) ms)
  messages_brought port x e [] h = tt
  messages_brought port x e (m ∷ ms) h =
      all_append (IsDelivered row) (brought_by (suc place) m (channel_from channels (with_number (suc from)) port)) _ (one_brought port x e m h.0 (channel_from channels (with_number (suc from)) port) refl) (messages_brought port x e ms h.1)

  port_brought : (k : ℕ) (z : Port) → slice_get other.ports k ≡ Some z.row → IsHolding z → AllByRecursion (IsDelivered row) (held_port channels (suc place) (with_number (suc from)) (suc k) z)
  port_brought k z e holds = either (is_source_port_of z) refl
    where
      back : (k : ℕ) → k ≡ suc k - 1
      back k = omega arith

      either : (b : Bool) → is_source_port_of z ≡ b → AllByRecursion (IsDelivered row) (if b then flat_map (λ m. brought_by (suc place) m (channel_from channels (with_number (suc from)) (record { 0 = suc k }))) z.messages else [])
      either true h = messages_brought (record { 0 = suc k }) z.row (subst (λ (n : ℕ). slice_get other.ports n ≡ Some z.row) (back k) e) z.messages (holds h)
      either false h = tt

  -- What the source ports of a partition hold arrives at the others as inputs that their ports
  -- allow.
  ports_brought : (k : ℕ) (xs : List PortRow) (zs : List Port) → ((i : ℕ) (x : PortRow) → slice_get xs i ≡ Some x → slice_get other.ports (k + i) ≡ Some x) → AreHolding xs zs
      → AllByRecursion (IsDelivered row) (held_ports channels (suc place) (with_number (suc from)) (suc k) zs)
  ports_brought k [] [] are h = tt
  ports_brought k [] (z ∷ zs) are h = absurd h
  ports_brought k (x ∷ xs) [] are h = absurd h
  ports_brought k (x ∷ xs) (z ∷ zs) are h =
      all_append (IsDelivered row) (held_port channels (suc place) (with_number (suc from)) (suc k) z) _
      (port_brought k z (subst (λ (y : PortRow). slice_get other.ports k ≡ Some y) (sym h.0) (subst (λ (n : ℕ). slice_get other.ports n ≡ Some x) (plain k) (are 0 x refl))) h.1)
      (subst (λ (n : ℕ). AllByRecursion (IsDelivered row) (held_ports channels (suc place) (with_number (suc from)) n zs)) (next k) (ports_brought (suc k) xs zs (λ i y e. subst (λ (n : ℕ). slice_get other.ports n ≡ Some y) (turned k i) (are (suc i) y e)) h.2))
    where
      plain : (k : ℕ) → k + 0 ≡ k
      plain k = omega arith

      next : (k : ℕ) → suc (suc k) ≡ suc k + 1
      next k = omega arith

      turned : (k i : ℕ) → k + suc i ≡ suc k + i
      turned k i = omega arith

  pub all_brought : (zs : List Port) → AreHolding other.ports zs → AllByRecursion (IsDelivered row) (held_ports channels (suc place) (with_number (suc from)) 1 zs)
  all_brought zs h = ports_brought 0 other.ports zs (λ i x e. subst (λ (n : ℕ). slice_get other.ports n ≡ Some x) (plain i) e) h
    where
      plain : (i : ℕ) → i ≡ 0 + i
      plain i = omega arith

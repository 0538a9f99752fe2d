-- The messages of a partition whose own window has ended: their destinations make no difference to
-- it.
use Rattle.isolation.proofs.Prelude.{◌≡◌, ◌≢◌, ℕ, zero, suc, ◌+◌, ℤ, Bool, false, List, ◌∷◌, ◌++◌, length, Option, Some, None, sym, ◌∙◌, if◌then◌else◌, list_any, ne_eqb, ArrayVec, At, PartitionId, PortId, ChannelEnd, Channel, at_number, Stepped, steps, of_member, ports_of, ports_from, delivers, delivers_all, goes_by, channel_from, moves_found, moves_message, moves_messages, moves_so_many, moves_port, moves_ports, Member, arrives, leaves, leaving, admits, goes_out, messages_to_move, Input, Arrive, Surroundings, still, goes, goes_by_way, sends_found, sends_message, sends_messages, sends_so_many, sends_port, sends_ports, way_out, brought_to, brought_by, name_to_device}
use Rattle.std.proofs.Common.{[], refl, ap, subst}
use Rattle.apex_types.specs.declared.row.ChannelEnd.TheVariants as ends
use Rattle.module_meaning.specs.Table.{is_device, has_two_devices}
use Rattle.isolation.proofs.Twins.{brought_found, brought_messages, brought_so_many, brought_ports}
use Rattle.isolation.proofs.Kept.{arrives_keeps, leaves_keeps, admits_keeps, goes_out_keeps}
use Rattle.isolation.proofs.Messages.{NotOf}
use Rattle.isolation.proofs.Steps.{IsApart, Holds, Same, still_same, steps_own, steps_other, then_same, nothing_then_same, then_nothing_same}

abbrev pub IsOf : ℕ → ChannelEnd → Type 0
IsOf p ends.Device = ⊥
IsOf p (ends.Port q port) = q.0 ≡ p

abbrev pub with_number : ℕ → PartitionId
with_number p = record { 0 = p }

-- no end is a port of the partition
abbrev pub NoneOf : ℕ → List ChannelEnd → Type 0
NoneOf p [] = Unit {0}
NoneOf p (e ∷ es) = NotOf p e × NoneOf p es

-- a channel from the partition, to others, and at most once to the device
pub record IsFromOne (p : ℕ) (c : Channel) : Type 0 where
  pub source : IsOf p c.source
  pub others : NoneOf p c.destinations
  pub device : has_two_devices c.destinations ≡ false

pub none_brought : (p : ℕ) (m : ArrayVec ℤ) (es : List ChannelEnd) → NoneOf p es → brought_to p m es ≡ []
none_brought p m [] h = refl
none_brought p m (ends.Device ∷ es) h = none_brought p m es h.1
none_brought p m (ends.Port q port ∷ es) h =
    ap (λ (b : Bool). if b then Arrive port m ∷ brought_to p m es else brought_to p m es) (ne_eqb q.0 p h.0) ∙ none_brought p m es h.1

-- the ways out of a partition's surroundings are those by its channels
abbrev pub AreWays : List Channel → ℕ → Surroundings → Type 0
AreWays channels p s = (port : PortId) → way_out s port ≡ name_to_device (channel_from channels (with_number p) port)

-- ---- its own messages bring it nothing
abbrev pub AreLawful : ℕ → List Channel → Type 0
AreLawful p channels = (port : PortId) (c : Channel) → channel_from channels (with_number p) port ≡ Some c → IsFromOne p c

module _ (p : ℕ) (channels : List Channel) (lawful : AreLawful p channels) where
  nothing_found : (port : PortId) (m : ArrayVec ℤ) (o : Option Channel) → channel_from channels (with_number p) port ≡ o → brought_by p m o ≡ []
  nothing_found port m None e = refl
  nothing_found port m (Some c) e = none_brought p m c.destinations (lawful port c e).others

  nothing_brought : (port : PortId) (o : Option (ArrayVec ℤ)) → brought_found channels p (with_number p) port o ≡ []
  nothing_brought port None = refl
  nothing_brought port (Some m) = nothing_found port m (channel_from channels (with_number p) port) refl

  module _ {C : Type 0} (at : At) where
    nothing_messages : (n : ℕ) (port : PortId) (ms : List (Member C)) → brought_messages n channels p at (with_number p) port ms ≡ []
    nothing_messages zero port ms = refl
    nothing_messages (suc n) port ms =
        ap (λ (is : List Input). is ++ brought_messages n channels p at (with_number p) port (moves_message channels at (with_number p) port ms).state) (nothing_brought port (of_member None (leaving port) (at_number ms p)))
        ∙ nothing_messages n port (moves_message channels at (with_number p) port ms).state

    nothing_so_many : (port : PortId) (o : Option ℕ) (ms : List (Member C)) → brought_so_many channels p at (with_number p) port ms o ≡ []
    nothing_so_many port None ms = refl
    nothing_so_many port (Some n) ms = nothing_messages n port ms

    pub nothing_ports : (n number : ℕ) (ms : List (Member C)) → brought_ports n number channels p at (with_number p) ms ≡ []
    nothing_ports zero number ms = refl
    nothing_ports (suc n) number ms =
        ap (λ (is : List Input). is ++ brought_ports n (number + 1) channels p at (with_number p) (moves_port channels at (with_number p) (record { 0 = number }) ms).state) (nothing_so_many (record { 0 = number }) (messages_to_move (at_number (ports_from ms p) number)) ms)
        ∙ nothing_ports n (number + 1) (moves_port channels at (with_number p) (record { 0 = number }) ms).state

module _ {C : Type 0} (name : List ℕ) (place : ℕ) (names : List (List ℕ)) (apart : IsApart name place names) where
  abbrev Is : List (Member C) → Member C → Type 0
  Is ms x = Holds {C = C} name place names apart ms x

  abbrev Both : Stepped (List (Member C)) → Stepped (Member C) → Type 0
  Both a g = Same {C = C} name place names apart a g

  own_device : (at : At) (c : Channel) (m : ArrayVec ℤ) (source : ChannelEnd) → IsOf (suc place) source → (ms : List (Member C)) (x : Member C) → Is ms x → Both (delivers at c m source ends.Device ms) (goes (goes_out at c.name m) x)
  own_device at c m ends.Device n ms x h = absurd n
  own_device at c m (ends.Port p other) n ms x h =
      subst (λ (q : ℕ). Both (steps (goes_out at c.name m) ms q) (goes (goes_out at c.name m) x)) (sym n) (steps_own name place names apart (goes_out at c.name m) (goes_out_keeps at c.name m) ms x h)

  own_port : (at : At) (c : Channel) (m : ArrayVec ℤ) (source : ChannelEnd) (q : PartitionId) (port : PortId) → q.0 ≢ suc place → (ms : List (Member C)) (x : Member C) → Is ms x → Both (delivers at c m source (ends.Port q port) ms) (still x)
  own_port at c m ends.Device q port n ms x h = steps_other name place names apart (arrives at port m) (arrives_keeps at port m) q.0 n ms x h
  own_port at c m (ends.Port p other) q port n ms x h = steps_other name place names apart (arrives at port m) (arrives_keeps at port m) q.0 n ms x h

  no_device : (at : At) (c : Channel) (m : ArrayVec ℤ) (es : List ChannelEnd) → NoneOf (suc place) es → list_any is_device es ≡ false → (ms : List (Member C)) (x : Member C) → Is ms x → Both (delivers_all at c m es ms) (still x)
  no_device at c m [] n d ms x h = still_same name place names apart ms x h
  no_device at c m (ends.Device ∷ es) n d ms x h = absurd (cc)
  no_device at c m (ends.Port q port ∷ es) n d ms x h =
      nothing_then_same name place names apart (delivers at c m c.source (ends.Port q port) ms) x (delivers_all at c m es) (still x)
      (own_port at c m c.source q port n.0 ms x h)
      (λ ns k. no_device at c m es n.1 d ns x k)

  one_device : (at : At) (c : Channel) (m : ArrayVec ℤ) (es : List ChannelEnd) → IsOf (suc place) c.source → NoneOf (suc place) es → has_two_devices es ≡ false → (ms : List (Member C)) (x : Member C) → Is ms x
      → Both (delivers_all at c m es ms) (goes_by_way at m (if list_any is_device es then Some c.name else None) x)
  unfolding has_two_devices
  one_device at c m [] s n d ms x h = still_same name place names apart ms x h
  one_device at c m (ends.Device ∷ es) s n d ms x h =
      then_nothing_same name place names apart (delivers at c m c.source ends.Device ms) (goes (goes_out at c.name m) x) (delivers_all at c m es)
      (own_device at c m c.source s ms x h)
      (λ ns y k. no_device at c m es n.1 d ns y k)
  one_device at c m (ends.Port q port ∷ es) s n d ms x h =
      nothing_then_same name place names apart (delivers at c m c.source (ends.Port q port) ms) x (delivers_all at c m es) (goes_by_way at m (if list_any is_device es then Some c.name else None) x)
      (own_port at c m c.source q port n.0 ms x h)
      (λ ns k. one_device at c m es s n.1 d ns x k)

  own_gone_by : (at : At) (m : ArrayVec ℤ) (o : Option Channel) → ((c : Channel) → o ≡ Some c → IsFromOne (suc place) c) → (ms : List (Member C)) (x : Member C) → Is ms x
      → Both (goes_by at m o ms) (goes_by_way at m (name_to_device o) x)
  own_gone_by at m None f ms x h = still_same name place names apart ms x h
  own_gone_by at m (Some c) f ms x h = let g = f c refl in one_device at c m c.destinations g.source g.others g.device ms x h

  module _ (channels : List Channel) (at : At)
      (lawful : AreLawful (suc place) channels)
      (s : Surroundings) (ways : AreWays channels (suc place) s) where
    own_found : (port : PortId) (o : Option (ArrayVec ℤ)) (ms : List (Member C)) (x : Member C) → Is ms x → Both (moves_found channels at (with_number (suc place)) port ms o) (sends_found s at port x o)
    own_found port None ms x h = still_same name place names apart ms x h
    own_found port (Some m) ms x h =
        then_same name place names apart (steps (leaves at port) ms (suc place)) (goes (leaves at port) x) (goes_by at m (channel_from channels (with_number (suc place)) port)) (goes_by_way at m (way_out s port))
        (steps_own name place names apart (leaves at port) (leaves_keeps at port) ms x h)
        (λ ns y k. subst (λ (w : Option (List ℕ)). Both (goes_by at m (channel_from channels (with_number (suc place)) port) ns) (goes_by_way at m w y)) (sym (ways port)) (own_gone_by at m (channel_from channels (with_number (suc place)) port) (lawful port) ns y k))

    pub own_message : (port : PortId) (ms : List (Member C)) (x : Member C) → Is ms x → Both (moves_message channels at (with_number (suc place)) port ms) (sends_message s at port x)
    own_message port ms x h =
        subst (λ (o : Option (Member C)). Both (moves_found channels at (with_number (suc place)) port ms (of_member None (leaving port) o)) (sends_message s at port x)) (sym h.own)
        (own_found port (leaving port x) ms x h)

    pub own_messages : (n : ℕ) (port : PortId) (ms : List (Member C)) (x : Member C) → Is ms x → Both (moves_messages n channels at (with_number (suc place)) port ms) (sends_messages n s at port x)
    own_messages zero port ms x h = still_same name place names apart ms x h
    own_messages (suc n) port ms x h =
        then_same name place names apart (moves_message channels at (with_number (suc place)) port ms) (sends_message s at port x) (moves_messages n channels at (with_number (suc place)) port) (sends_messages n s at port)
        (own_message port ms x h) (own_messages n port)

    own_so_many : (port : PortId) (o : Option ℕ) (ms : List (Member C)) (x : Member C) → Is ms x → Both (moves_so_many channels at (with_number (suc place)) port ms o) (sends_so_many s at port x o)
    own_so_many port None ms x h = still_same name place names apart ms x h
    own_so_many port (Some n) ms x h =
        then_same name place names apart (moves_messages n channels at (with_number (suc place)) port ms) (sends_messages n s at port x) (λ ns. steps (admits at port) ns (suc place)) (goes (admits at port))
        (own_messages n port ms x h)
        (λ ns y k. steps_own name place names apart (admits at port) (admits_keeps at port) ns y k)

    pub own_port_moves : (port : PortId) (ms : List (Member C)) (x : Member C) → Is ms x → Both (moves_port channels at (with_number (suc place)) port ms) (sends_port s at port x)
    own_port_moves port ms x h =
        subst (λ (o : Option (Member C)). Both (moves_so_many channels at (with_number (suc place)) port ms (messages_to_move (at_number (of_member [] ports_of o) port.0))) (sends_port s at port x)) (sym h.own)
        (own_so_many port (messages_to_move (at_number (ports_of x) port.0)) ms x h)

    own_ports : (n number : ℕ) (ms : List (Member C)) (x : Member C) → Is ms x → Both (moves_ports n number channels at (with_number (suc place)) ms) (sends_ports n number s at x)
    own_ports zero number ms x h = still_same name place names apart ms x h
    own_ports (suc n) number ms x h =
        then_same name place names apart (moves_port channels at (with_number (suc place)) (record { 0 = number }) ms) (sends_port s at (record { 0 = number }) x) (moves_ports n (number + 1) channels at (with_number (suc place))) (sends_ports n (number + 1) s at)
        (own_port_moves (record { 0 = number }) ms x h) (own_ports n (number + 1))

    -- all its ports, if its own window has ended
    pub own_all : (ms : List (Member C)) (x : Member C) → Is ms x → Both (moves_ports (length (ports_from ms (suc place))) 1 channels at (with_number (suc place)) ms) (sends_ports (length (ports_of x)) 1 s at x)
    own_all ms x h =
        subst (λ (o : Option (Member C)). Both (moves_ports (length (of_member [] ports_of o)) 1 channels at (with_number (suc place)) ms) (sends_ports (length (ports_of x)) 1 s at x)) (sym h.own)
        (own_ports (length (ports_of x)) 1 ms x h)

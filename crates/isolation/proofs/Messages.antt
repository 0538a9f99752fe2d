-- Messages of other partitions and of the devices, as inputs of one partition.
use Rattle.isolation.proofs.Prelude.{◌≡◌, ◌≢◌, ℕ, zero, suc, ◌+◌, ℤ, Bool, true, false, List, ◌∷◌, ◌++◌, Option, Some, None, sym, ◌∙◌, ◌==◌, ◌&&◌, find, if◌then◌else◌, eqb-true, eqb-false, ArrayVec, ModuleAction, At, PartitionId, PortId, ChannelEnd, Channel, at_number, Stepped, Course, goes_on, still, then_goes, steps, of_member, ports_from, delivers, delivers_all, goes_by, is_port, channel_from, moves_found, moves_message, moves_messages, moves_so_many, moves_port, moves_ports, Member, arrives, leaves, leaving, admits, goes_out, messages_to_move, Input, Arrive, goes, takes_all, brought_to, brought_by}
use Rattle.std.proofs.Common.{[], refl, subst}
use Rattle.std.specs.Prelude.{cond}
use Rattle.apex_types.specs.declared.row.ChannelEnd.TheVariants as ends
use Rattle.isolation.proofs.Twins.{brought_found, brought_message, brought_messages, brought_so_many, brought_port, brought_ports}
use Rattle.isolation.proofs.Kept.{arrives_keeps, leaves_keeps, admits_keeps, goes_out_keeps}
use Rattle.isolation.proofs.Paths.{takes_append}
use Rattle.isolation.proofs.Steps.{IsApart, Holds, Same, SamePath, still_same, steps_own, steps_other, nothing_then, goes_on_same, then_path, then_path_at, then_nothing, same_some}

-- an end of a channel that is no port of a partition
abbrev pub NotOf : ℕ → ChannelEnd → Type 0
NotOf p ends.Device = Unit {0}
NotOf p (ends.Port q port) = q.0 ≢ p

pub found_passes : {A : Type 0} (test : A → Bool) (xs : List A) (x : A) → find test xs ≡ Some x → test x ≡ true
found_passes test [] x h = absurd (cc)
found_passes test (y ∷ ys) x h = compare (test y) refl (λ k. found_passes test ys x k) h
  where
    compare : (b : Bool) → test y ≡ b → (find test ys ≡ Some x → test x ≡ true) → cond b (Some y) (find test ys) ≡ Some x → test x ≡ true
    compare true e rest h = subst (λ z. test z ≡ true) (same_some y x h) e
    compare false e rest h = rest h

first_of_and : (a b : Bool) → (a && b) ≡ true → a ≡ true
first_of_and true b h = refl
first_of_and false b h = h

-- the source of a channel that is a port of another partition
of_source : (p : ℕ) (q : PartitionId) → q.0 ≢ p → (source : ChannelEnd) (port : PortId) → is_port q port source ≡ true → NotOf p source
of_source p q other ends.Device port h = tt
of_source p q other (ends.Port r s) port h = λ e. other (sym (eqb-true r.0 q.0 (first_of_and (r.0 == q.0) (s.0 == port.0) h)) ∙ e)

not_from : (p : ℕ) (channels : List Channel) (q : PartitionId) → q.0 ≢ p → (port : PortId) (c : Channel) → channel_from channels q port ≡ Some c → NotOf p c.source
not_from p channels q other port c h = of_source p q other c.source port (found_passes (λ c. is_port q port c.source) channels c h)

module _ {C : Type 0} (name : List ℕ) (place : ℕ) (names : List (List ℕ)) (apart : IsApart name place names) where
  abbrev Is : List (Member C) → Member C → Type 0
  Is ms x = Holds {C = C} name place names apart ms x

  abbrev Nothing : Stepped (List (Member C)) → Member C → Type 0
  Nothing a x = Same {C = C} name place names apart a (still x)

  abbrev Goes : Course (List (Member C)) → Course (Member C) → Type 0
  Goes c d = SamePath {C = C} name place names apart c d

  -- ---- a message to the ends of a channel that is not from the partition
  to_port : (at : At) (c : Channel) (m : ArrayVec ℤ) (source : ChannelEnd) (q : PartitionId) (port : PortId) (ms : List (Member C)) → delivers at c m source (ends.Port q port) ms ≡ steps (arrives at port m) ms q.0
  to_port at c m ends.Device q port ms = refl
  to_port at c m (ends.Port p other) q port ms = refl

  to_device : (at : At) (c : Channel) (m : ArrayVec ℤ) (source : ChannelEnd) → NotOf (suc place) source → (ms : List (Member C)) (x : Member C) → Is ms x → Nothing (delivers at c m source ends.Device ms) x
  to_device at c m ends.Device n ms x h = still_same name place names apart ms x h
  to_device at c m (ends.Port p other) n ms x h = steps_other name place names apart (goes_out at c.name m) (goes_out_keeps at c.name m) p.0 n ms x h

  at_port : (fault : ModuleAction) (at : At) (c : Channel) (m : ArrayVec ℤ) (q : PartitionId) (port : PortId) (es : List ChannelEnd)
      → ((ms : List (Member C)) (x : Member C) → Is ms x → Goes (goes_on at (delivers_all at c m es ms)) (takes_all fault at (brought_to (suc place) m es) x))
      → (ms : List (Member C)) (x : Member C) → Is ms x → (b : Bool) → (q.0 == suc place) ≡ b
      → Goes (goes_on at (then_goes (steps (arrives at port m) ms q.0) (delivers_all at c m es))) (takes_all fault at (if b then Arrive port m ∷ brought_to (suc place) m es else brought_to (suc place) m es) x)
  at_port fault at c m q port es rest ms x h true e =
      then_path name place names apart at (steps (arrives at port m) ms q.0) (goes_on at (goes (arrives at port m) x)) (delivers_all at c m es) (λ a y. takes_all fault a (brought_to (suc place) m es) y)
      (goes_on_same name place names apart at (steps (arrives at port m) ms q.0) (goes (arrives at port m) x)
      (subst (λ (n : ℕ). Same {C = C} name place names apart (steps (arrives at port m) ms n) (goes (arrives at port m) x)) (sym (eqb-true q.0 (suc place) e)) (steps_own name place names apart (arrives at port m) (arrives_keeps at port m) ms x h)))
      rest
  at_port fault at c m q port es rest ms x h false e =
      nothing_then name place names apart at (steps (arrives at port m) ms q.0) x (delivers_all at c m es) (takes_all fault at (brought_to (suc place) m es) x)
      (steps_other name place names apart (arrives at port m) (arrives_keeps at port m) q.0 (eqb-false q.0 (suc place) e) ms x h)
      (λ ns k. rest ns x k)

  delivered : (fault : ModuleAction) (at : At) (c : Channel) (m : ArrayVec ℤ) → NotOf (suc place) c.source → (es : List ChannelEnd)
      → (ms : List (Member C)) (x : Member C) → Is ms x → Goes (goes_on at (delivers_all at c m es ms)) (takes_all fault at (brought_to (suc place) m es) x)
  delivered fault at c m n [] ms x h = goes_on_same name place names apart at (still ms) (still x) (still_same name place names apart ms x h)
  delivered fault at c m n (ends.Device ∷ es) ms x h =
      nothing_then name place names apart at (delivers at c m c.source ends.Device ms) x (delivers_all at c m es) (takes_all fault at (brought_to (suc place) m es) x)
      (to_device at c m c.source n ms x h)
      (λ ns k. delivered fault at c m n es ns x k)
  delivered fault at c m n (ends.Port q port ∷ es) ms x h =
      subst (λ (a : Stepped (List (Member C))). Goes (goes_on at (then_goes a (delivers_all at c m es))) (takes_all fault at (brought_to (suc place) m (ends.Port q port ∷ es)) x)) (sym (to_port at c m c.source q port ms))
      (at_port fault at c m q port es (delivered fault at c m n es) ms x h (q.0 == suc place) refl)

  -- a message by a channel, if there is a channel, that is not from the partition
  pub gone_by : (fault : ModuleAction) (at : At) (m : ArrayVec ℤ) (o : Option Channel) → ((c : Channel) → o ≡ Some c → NotOf (suc place) c.source)
      → (ms : List (Member C)) (x : Member C) → Is ms x → Goes (goes_on at (goes_by at m o ms)) (takes_all fault at (brought_by (suc place) m o) x)
  gone_by fault at m None n ms x h = goes_on_same name place names apart at (still ms) (still x) (still_same name place names apart ms x h)
  gone_by fault at m (Some c) n ms x h = delivered fault at c m (n c refl) c.destinations ms x h

  -- ---- the messages of another partition, whose window has ended
  module _ (fault : ModuleAction) (channels : List Channel) (at : At) (q : PartitionId) (other : q.0 ≢ suc place) where
    other_found : (port : PortId) (o : Option (ArrayVec ℤ)) (ms : List (Member C)) (x : Member C) → Is ms x
        → Goes (goes_on at (moves_found channels at q port ms o)) (takes_all fault at (brought_found channels (suc place) q port o) x)
    other_found port None ms x h = goes_on_same name place names apart at (still ms) (still x) (still_same name place names apart ms x h)
    other_found port (Some m) ms x h =
        nothing_then name place names apart at (steps (leaves at port) ms q.0) x (goes_by at m (channel_from channels q port)) (takes_all fault at (brought_by (suc place) m (channel_from channels q port)) x)
        (steps_other name place names apart (leaves at port) (leaves_keeps at port) q.0 other ms x h)
        (λ ns k. gone_by fault at m (channel_from channels q port) (λ c e. not_from (suc place) channels q other port c e) ns x k)

    other_message : (port : PortId) (ms : List (Member C)) (x : Member C) → Is ms x
        → Goes (goes_on at (moves_message channels at q port ms)) (takes_all fault at (brought_message channels (suc place) q port ms) x)
    other_message port ms x h = other_found port (of_member None (leaving port) (at_number ms q.0)) ms x h

    -- one step brings some, and the next one brings more
    and_more : (a : Stepped (List (Member C))) (is js : List Input) (p : List (Member C) → Stepped (List (Member C))) (x : Member C)
        → Goes (goes_on at a) (takes_all fault at is x) → ((y : Member C) → Is a.state y → Goes (goes_on at (p a.state)) (takes_all fault at js y))
        → Goes (goes_on at (then_goes a p)) (takes_all fault at (is ++ js) x)
    and_more a is js p x h rest =
        subst (λ (d : Course (Member C)). Goes (goes_on at (then_goes a p)) d) (sym (takes_append fault is js at x))
        (then_path_at name place names apart at a (takes_all fault at is x) p (λ b y. takes_all fault b js y) h rest)

    other_messages : (n : ℕ) (port : PortId) (ms : List (Member C)) (x : Member C) → Is ms x
        → Goes (goes_on at (moves_messages n channels at q port ms)) (takes_all fault at (brought_messages n channels (suc place) at q port ms) x)
    other_messages zero port ms x h = goes_on_same name place names apart at (still ms) (still x) (still_same name place names apart ms x h)
    other_messages (suc n) port ms x h =
        and_more (moves_message channels at q port ms) (brought_message channels (suc place) q port ms) (brought_messages n channels (suc place) at q port (moves_message channels at q port ms).state) (moves_messages n channels at q port) x
        (other_message port ms x h)
        (λ y k. other_messages n port (moves_message channels at q port ms).state y k)

    other_so_many : (port : PortId) (o : Option ℕ) (ms : List (Member C)) (x : Member C) → Is ms x
        → Goes (goes_on at (moves_so_many channels at q port ms o)) (takes_all fault at (brought_so_many channels (suc place) at q port ms o) x)
    other_so_many port None ms x h = goes_on_same name place names apart at (still ms) (still x) (still_same name place names apart ms x h)
    other_so_many port (Some n) ms x h =
        then_nothing name place names apart at (moves_messages n channels at q port ms) (takes_all fault at (brought_messages n channels (suc place) at q port ms) x) (λ ns. steps (admits at port) ns q.0)
        (other_messages n port ms x h)
        (λ ns y k. steps_other name place names apart (admits at port) (admits_keeps at port) q.0 other ns y k)

    other_port : (port : PortId) (ms : List (Member C)) (x : Member C) → Is ms x
        → Goes (goes_on at (moves_port channels at q port ms)) (takes_all fault at (brought_port channels (suc place) at q port ms) x)
    other_port port ms x h = other_so_many port (messages_to_move (at_number (ports_from ms q.0) port.0)) ms x h

    pub other_ports : (n number : ℕ) (ms : List (Member C)) (x : Member C) → Is ms x
        → Goes (goes_on at (moves_ports n number channels at q ms)) (takes_all fault at (brought_ports n number channels (suc place) at q ms) x)
    other_ports zero number ms x h = goes_on_same name place names apart at (still ms) (still x) (still_same name place names apart ms x h)
    other_ports (suc n) number ms x h =
        and_more (moves_port channels at q (record { 0 = number }) ms) (brought_port channels (suc place) at q (record { 0 = number }) ms) (brought_ports n (number + 1) channels (suc place) at q (moves_port channels at q (record { 0 = number }) ms).state) (moves_ports n (number + 1) channels at q) x
        (other_port (record { 0 = number }) ms x h)
        (λ y k. other_ports n (number + 1) (moves_port channels at q (record { 0 = number }) ms).state y k)

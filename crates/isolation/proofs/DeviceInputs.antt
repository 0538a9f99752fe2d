-- The inputs that an accepted device text brings a partition are allowed by its ports.
use Rattle.isolation.proofs.Prelude.{◌≡◌, ◌≢◌, ℕ, zero, suc, ◌-◌, ◌≤◌, ℤ, Bool, true, false, List, ◌∷◌, length, Option, Some, None, Ok, sym, arith, ◌==◌, ◌||◌, slice_get, is_none, if◌then◌else◌, flat_map, list_any, AllByRecursion, or_from, eqb-false, ModuleAction, DeviceInput, DeviceLine, ChannelEnd, PortRow, words_of_ends, same, Partition, Channel, at_number, Plan, message, differ, is_source_port, has_twice, is_same_port, ends_of, has_wrong_ends, is_unknown_port, has_unknown_port, ◌>>=◌, Schedule, brought_to, brought_by, brought_in}
use Rattle.std.proofs.Common.{[], refl, subst}
use Rattle.std.proofs.lemmas.Bool.{or_parts}
use Rattle.apex_types.specs.declared.device.DeviceInput.TheVariants as device
use Rattle.apex_types.specs.declared.row.ChannelEnd.TheVariants as ends
use Rattle.module_meaning.specs.DeviceText.{words_of_port, words_of_partition, verdict}
use Rattle.module_meaning.specs.Table.{port_at, is_wrong}
use Rattle.isolation.specs.Alone as alone
use Rattle.isolation.proofs.Arrivals.{ends_arrive, right_of}
use Rattle.isolation.proofs.Holding.{HasLength, IsDelivered}
use Rattle.isolation.proofs.InputsOf.{AreAllowed}
use Rattle.isolation.proofs.OfImage.{any_at}
use Rattle.isolation.proofs.TakenLines.{IsTaken, AreTaken, accepted}

-- the first destination is a port that allows the message
first_port : (ps : List Partition) (n k : ℕ) → n ≢ 0 → k ≢ 0 → is_none (slice_get ps (n - 1) >>= λ r. slice_get r.ports (k - 1)) ≡ false
    → (x : PortRow) × ((slice_get ps (n - 1) >>= λ r. slice_get r.ports (k - 1)) ≡ Some x) × (words_of_partition (at_number ps n) k ≡ x.words)
first_port ps zero k z y h = absurd (z refl)
first_port ps (suc a) zero z y h = absurd (y refl)
first_port ps (suc a) (suc b) z y h = subst (λ (i : ℕ). is_none (slice_get ps i >>= λ r. slice_get r.ports (suc b - 1)) ≡ false → (x : PortRow) × ((slice_get ps i >>= λ r. slice_get r.ports (suc b - 1)) ≡ Some x) × (words_of_partition (slice_get ps a) (suc b) ≡ x.words)) (back a) (there (slice_get ps a)) h
  where
    back : (a : ℕ) → a ≡ suc a - 1
    back a = omega arith

    port : (row : Partition) (o : Option PortRow) → is_none o ≡ false → (x : PortRow) × (o ≡ Some x) × (words_of_port o ≡ x.words)
    port row None h = absurd (cc)
    port row (Some x) h = (x, refl, refl)

    there : (o : Option Partition) → is_none (o >>= λ r. slice_get r.ports (suc b - 1)) ≡ false → (x : PortRow) × ((o >>= λ r. slice_get r.ports (suc b - 1)) ≡ Some x) × (words_of_partition o (suc b) ≡ x.words)
    there None h = absurd (cc)
    there (Some row) h = subst (λ (i : ℕ). is_none (slice_get row.ports i) ≡ false → (x : PortRow) × (slice_get row.ports i ≡ Some x) × (words_of_port (slice_get row.ports b) ≡ x.words)) (back b) (port row (slice_get row.ports b)) h

-- a message that the first destination allows arrives at allowed ports
ends_allowed : (ps : List Partition) (place : ℕ) (row : Partition) → slice_get ps place ≡ Some row → (m : List ℤ) (es : List ChannelEnd) → HasLength (words_of_ends ps es) (message m).items
    → list_any (is_unknown_port ps) es ≡ false → list_any (is_source_port ps) es ≡ false → list_any (λ d. list_any (differ ps d) es) es ≡ false → AllByRecursion (IsDelivered row) (brought_to (suc place) (message m) es)
ends_allowed ps place row here m [] good known goes same = tt
ends_allowed ps place row here m (ends.Device ∷ es) good known goes same = absurd (clash good.some good.few)
  where
    clash : 1 ≤ length m → length m ≤ 0 → ⊥
    clash a b = absurd (omega arith)
ends_allowed ps place row here m (ends.Port q port ∷ es) good known goes same =
    let k = or_parts (is_unknown_port ps (ends.Port q port)) (list_any (is_unknown_port ps) es) known in
    let n = or_parts ((q.0 == 0) || (port.0 == 0)) (is_none (port_at ps (ends.Port q port))) k.0 in
    let z = or_parts (q.0 == 0) (port.0 == 0) n.0 in
    let x = first_port ps q.0 port.0 (eqb-false q.0 0 z.0) (eqb-false port.0 0 z.1) n.1 in
    ends_arrive ps place row here (message m) (ends.Port q port) x.0 x.1 (subst (λ (n : ℕ). HasLength n m) x.2 good) (ends.Port q port ∷ es) known goes
    (or_parts (list_any (differ ps (ends.Port q port)) (ends.Port q port ∷ es)) (list_any (λ d. list_any (differ ps d) (ends.Port q port ∷ es)) es) same).0

-- among the destinations no two differ
without_first : (ps : List Partition) (s : ChannelEnd) (ds es : List ChannelEnd) → list_any (λ d. list_any (differ ps d) (s ∷ es)) ds ≡ false → list_any (λ d. list_any (differ ps d) es) ds ≡ false
without_first ps s [] es h = refl
without_first ps s (d ∷ ds) es h =
    let a = or_parts (list_any (differ ps d) (s ∷ es)) (list_any (λ d. list_any (differ ps d) (s ∷ es)) ds) h in
    or_from (list_any (differ ps d) es) (list_any (λ d. list_any (differ ps d) es) ds) (or_parts (differ ps d s) (list_any (differ ps d) es) a.0).1 (without_first ps s ds es a.1)

module _ (ps : List Partition) (schedule : Schedule) (channels : List Channel) (fault : ModuleAction) (known : has_unknown_port ps channels ≡ false) (right : has_wrong_ends ps channels ≡ false)
    (place : ℕ) (row : Partition) (here : slice_get ps place ≡ Some row) where
  abbrev plan : Plan
  plan = record { schedule = schedule; channels = channels; fault = fault }

  -- one line, then all
  one_allowed : (i : DeviceInput) → IsTaken ps channels i → AllByRecursion (IsDelivered row) (brought_in plan (suc place) i)
  one_allowed (device.Message channel m) h =
      let wrong = or_parts (has_twice is_same_port (flat_map ends_of channels)) (list_any (is_wrong ps) channels) right in
      let c = h.0 in
      let r = right_of ps c (any_at (λ d. list_any (is_unknown_port ps) (ends_of d)) channels channel.0 c known h.1) (any_at (is_wrong ps) channels channel.0 c wrong.1 h.1) in
      subst (λ (o : Option Channel). AllByRecursion (IsDelivered row) (brought_by (suc place) m o)) (sym h.1)
      (ends_allowed ps place row here m.items c.destinations h.3
      (or_parts (is_unknown_port ps c.source) (list_any (is_unknown_port ps) c.destinations) r.known).1 r.goes
      (without_first ps c.source c.destinations c.destinations (or_parts (list_any (differ ps c.source) (ends_of c)) (list_any (λ d. list_any (differ ps d) (ends_of c)) c.destinations) r.same).1))
  one_allowed (device.PartitionFault q) h = either (q.0 == suc place)
    where
      either : (b : Bool) → AllByRecursion (IsDelivered row) (if b then alone.PartitionFault ∷ [] else [])
      either true = (tt, tt)
      either false = tt
  one_allowed device.ModuleFault h = (tt, tt)

  each_allowed : (ls : List DeviceLine) → AreTaken ps channels ls → AreAllowed plan (suc place) row ls
  each_allowed [] h = tt
  each_allowed (l ∷ ls) h = (one_allowed l.input h.0, each_allowed ls h.1)

  -- The inputs that an accepted text brings are allowed.
  pub text_allowed : (text : List ℕ) (ls : List DeviceLine) → verdict ps channels text ≡ Ok ls → AreAllowed plan (suc place) row ls
  text_allowed text ls e = each_allowed ls (accepted ps channels text ls e)

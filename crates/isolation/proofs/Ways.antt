-- The ways out of a slice are the ways by the channels, if each channel's source is an existing
-- port.
use Rattle.isolation.proofs.Prelude.{◌≡◌, ◌≢◌, ℕ, zero, suc, ◌+◌, ◌-◌, ◌<◌, ◌≤◌, true, false, List, ◌∷◌, length, Option, Some, None, ◌∙◌, arith, inl, inr, ◌==◌, ◌||◌, slice_get, is_none, list_any, and_parts, eqb-true, eqb-false, cases_lt, ModuleAction, At, PortId, ChannelEnd, PortRow, Channel, Partition, at_number, Plan, is_port, channel_from, ends_of, has_wrong_ends, is_unknown_port, has_unknown_port, ◌>>=◌, Schedule, HasOneOwner, HasOneEnd, name_to_device, surroundings_of}
use Rattle.std.proofs.Common.{[], refl, ap, subst}
use Rattle.std.proofs.lemmas.Bool.{or_parts}
use Rattle.apex_types.specs.declared.row.ChannelEnd.TheVariants as ends
use Rattle.isolation.specs.Alone.{way_of}
use Rattle.isolation.specs.Surrounded.{ways_from}
use Rattle.isolation.proofs.Messages.{found_passes}
use Rattle.isolation.proofs.OfImage.{found_is, channels_lawful}
use Rattle.isolation.proofs.OwnMessages.{AreWays, with_number}
use Rattle.isolation.proofs.OwnWindows.{own_owner, own_ended}
use Rattle.isolation.proofs.Tick.{IsIsolating}

-- ---- the list
abbrev way_at : List Channel → ℕ → ℕ → Option (List ℕ)
way_at channels p n = name_to_device (channel_from channels (with_number p) (record { 0 = n }))

ways_at : (channels : List Channel) (p n : ℕ) (rows : List PortRow) (k : ℕ) → k < length rows → slice_get (ways_from channels (with_number p) n rows) k ≡ Some (way_at channels p (n + k))
ways_at channels p n [] k l = absurd (omega arith)
ways_at channels p n (row ∷ rows) zero l = ap (λ (m : ℕ). Some (way_at channels p m)) (plain n)
  where
    plain : (n : ℕ) → n ≡ n + 0
    plain n = omega arith
ways_at channels p n (row ∷ rows) (suc k) l = ways_at channels p (n + 1) rows k (omega arith) ∙ ap (λ (m : ℕ). Some (way_at channels p m)) (turned n k)
  where
    turned : (n k : ℕ) → n + 1 + k ≡ n + suc k
    turned n k = omega arith

ways_end : (channels : List Channel) (p n : ℕ) (rows : List PortRow) (k : ℕ) → length rows ≤ k → slice_get (ways_from channels (with_number p) n rows) k ≡ None
ways_end channels p n [] k l = refl
ways_end channels p n (row ∷ rows) zero l = absurd (omega arith)
ways_end channels p n (row ∷ rows) (suc k) l = ways_end channels p (n + 1) rows k (omega arith)

-- the source ports of the channels from the partition are among these ports
abbrev pub AreAmong : List Channel → ℕ → List PortRow → Type 0
AreAmong channels p rows = (port : PortId) (c : Channel) → channel_from channels (with_number p) port ≡ Some c → (1 ≤ port.0) × (port.0 ≤ length rows)

no_way : (o : Option Channel) → ((c : Channel) → o ≡ Some c → ⊥) → None ≡ name_to_device o
no_way None h = refl
no_way (Some c) h = absurd (h c refl)

are_ways : (plan : Plan) (p : ℕ) (rows : List PortRow) → AreAmong plan.channels p rows → AreWays plan.channels p (surroundings_of plan p rows)
are_ways plan p rows among port = there port.0 refl
  where
    far : port.0 ≤ length rows → (k : ℕ) → port.0 ≡ suc k → length rows ≤ k → ⊥
    far a k e g = absurd (omega arith)

    first : (k n : ℕ) → n ≡ suc k → 1 + k ≡ n
    first k n e = omega arith

    nought : 1 ≤ port.0 → port.0 ≡ 0 → ⊥
    nought a e = absurd (omega arith)

    there : (n : ℕ) → port.0 ≡ n → way_of (at_number (ways_from plan.channels (with_number p) 1 rows) n) ≡ name_to_device (channel_from plan.channels (with_number p) port)
    there zero e = no_way (channel_from plan.channels (with_number p) port) (λ c k. nought (among port c k).0 e)
    there (suc k) e = elim (cases_lt k (length rows)) [
      | inl l ↦ ap way_of (ways_at plan.channels p 1 rows k l) ∙ ap (λ (m : ℕ). way_at plan.channels p m) (first k port.0 e)
      | inr g ↦ ap way_of (ways_end plan.channels p 1 rows k g) ∙ no_way (channel_from plan.channels (with_number p) port) (λ c f. far (among port c f).1 k e g)
    ]

-- ---- known ports
abbrev pub ports_in : Option Partition → List PortRow
ports_in None = []
ports_in (Some row) = row.ports

get_there : {A : Type 0} (xs : List A) (k : ℕ) → is_none (slice_get xs k) ≡ false → k < length xs
get_there [] k h = absurd (cc)
get_there (x ∷ xs) zero h = omega arith
get_there (x ∷ xs) (suc k) h = let r = get_there xs k h in omega (arith, r)

known_in : (n : ℕ) (o : Option Partition) → n ≢ 0 → is_none (o >>= λ row. slice_get row.ports (n - 1)) ≡ false → (1 ≤ n) × (n ≤ length (ports_in o))
known_in n None z h = absurd (cc)
known_in n (Some row) z h = let r = get_there row.ports (n - 1) h in (omega (arith, z), omega (arith, r))

source_known : (ps : List Partition) (p : ℕ) (port : PortId) (e : ChannelEnd) → is_port (with_number p) port e ≡ true → is_unknown_port ps e ≡ false → (1 ≤ port.0) × (port.0 ≤ length (ports_in (at_number ps p)))
source_known ps p port ends.Device h k = absurd (cc)
source_known ps p port (ends.Port q other) h k =
    let is = and_parts (q.0 == p) (other.0 == port.0) h in
    let known = or_parts ((q.0 == 0) || (other.0 == 0)) (is_none (slice_get ps (q.0 - 1) >>= λ row. slice_get row.ports (other.0 - 1))) k in
    let some = or_parts (q.0 == 0) (other.0 == 0) known.0 in
    subst (λ (n : ℕ). (1 ≤ n) × (n ≤ length (ports_in (at_number ps p)))) (eqb-true other.0 port.0 is.1)
    (subst (λ (n : ℕ). (1 ≤ other.0) × (other.0 ≤ length (ports_in (at_number ps n)))) (eqb-true q.0 p is.0)
    (there q.0 other.0 (eqb-false q.0 0 some.0) (eqb-false other.0 0 some.1) known.1))
  where
    there : (q n : ℕ) → q ≢ 0 → n ≢ 0 → is_none (slice_get ps (q - 1) >>= λ row. slice_get row.ports (n - 1)) ≡ false → (1 ≤ n) × (n ≤ length (ports_in (at_number ps q)))
    there zero n z y k = absurd (z refl)
    there (suc place) n z y k = known_in n (slice_get ps place) y (subst (λ (i : ℕ). is_none (slice_get ps i >>= λ row. slice_get row.ports (n - 1)) ≡ false) (plain place) k)
      where
        plain : (place : ℕ) → suc place - 1 ≡ place
        plain place = omega arith

all_among : (ps : List Partition) (channels : List Channel) → has_unknown_port ps channels ≡ false → (p : ℕ) → AreAmong channels p (ports_in (at_number ps p))
all_among ps channels known p port c e =
    source_known ps p port c.source (found_passes (λ d. is_port (with_number p) port d.source) channels c e)
    (or_parts (is_unknown_port ps c.source) (list_any (is_unknown_port ps) c.destinations) (found_is (λ d. list_any (is_unknown_port ps) (ends_of d)) (λ d. is_port (with_number p) port d.source) channels c known e)).0

-- The consequences of a table's rules for isolation.
pub isolates : (ps : List Partition) (schedule : Schedule) (channels : List Channel) (fault : ModuleAction)
    → ((at : At) → HasOneOwner schedule at) → ((at : At) → HasOneEnd schedule at) → has_unknown_port ps channels ≡ false → has_wrong_ends ps channels ≡ false
    → (p : ℕ) (row : Partition) → at_number ps p ≡ Some row → IsIsolating (record { schedule = schedule; channels = channels; fault = fault }) p row.ports
isolates ps schedule channels fault owner end known right p row e =
    let plan : Plan = record { schedule = schedule; channels = channels; fault = fault } in
    record {
      channels = channels_lawful ps channels right;
      ways = subst (λ (o : Option Partition). AreWays channels p (surroundings_of plan p (ports_in o))) e (are_ways plan p (ports_in (at_number ps p)) (all_among ps channels known p));
      all_ways = λ q. (surroundings_of plan q (ports_in (at_number ps q)), are_ways plan q (ports_in (at_number ps q)) (all_among ps channels known q));
      owns = λ at. own_owner p schedule at (owner at);
      ends = λ at. own_ended p schedule at (end at);
    }

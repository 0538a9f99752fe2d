-- The inputs of a partition except for the values of their words, and an invariant that gives them:
-- what the source ports of a partition hold.
use Rattle.std.specs.Prelude.{◌≡◌, ℕ, ◌≤◌, ℤ, true, List, [], ◌∷◌, ◌++◌, length, Some}
use Rattle.isolation.proofs.Prelude.{AllByRecursion, ArrayVec, MOST_TICKS, StartCondition, At, PortId, PortRow, Partition, at_number, ports_of, Member, cold_start, breaks_down, advances, arrives, leaves, admits, Port, is_source, Input, InputLine, Arrive, ModuleFault, PartitionFault, goes, AreInputs, AreWritable, IsInput}
use Rattle.apex_types.specs.declared.row.PortDirection.TheVariants as direction
use Rattle.isolation.specs.InputText.{IsWritable}

pub all_append : {A : Type 0} (P : A → Type 0) (xs ys : List A) → AllByRecursion P xs → AllByRecursion P ys → AllByRecursion P (xs ++ ys)
all_append P [] ys h k = k
all_append P (x ∷ xs) ys h k = (h.0, all_append P xs ys h.1 k)

-- ---- the inputs, except for the values of their words

-- 1 to `most` words
pub record HasLength (most : ℕ) (words : List ℤ) : Type 0 where
  pub some : 1 ≤ length words
  pub few : length words ≤ most

-- a message at a destination port of the partition, of a length that the port allows
pub record IsDelivery (row : Partition) (port : ℕ) (m : ArrayVec ℤ) : Type 0 where
  pub at : PortRow
  pub there : at_number row.ports port ≡ Some at
  pub taken : at.direction ≡ direction.Destination
  pub message : HasLength at.words m.items

abbrev pub IsDelivered : Partition → Input → Type 0
IsDelivered row (Arrive port m) = IsDelivery row port.0 m
IsDelivered row ModuleFault = Unit {0}
IsDelivered row PartitionFault = Unit {0}

-- in the order of their ticks, none before the tick `before`
abbrev pub AreDelivered : Partition → ℕ → List InputLine → Type 0
AreDelivered row before [] = Unit {0}
AreDelivered row before (l ∷ ls) = (before ≤ l.tick.0) × (l.tick.0 ≤ MOST_TICKS) × IsDelivered row l.input × AreDelivered row l.tick.0 ls

is_input : (row : Partition) (i : Input) → IsDelivered row i → IsWritable i → IsInput row i
is_input row (Arrive port m) h w = record { at = h.at; there = h.there; taken = h.taken; message = record { some = h.message.some; few = h.message.few; fit = w } }
is_input row ModuleFault h w = tt
is_input row PartitionFault h w = tt

-- Together with words of 64 bits these are allowed inputs.
pub are_inputs : (row : Partition) (before : ℕ) (ls : List InputLine) → AreDelivered row before ls → AreWritable ls → AreInputs row before ls
are_inputs row before [] h w = tt
are_inputs row before (l ∷ ls) h w = (h.0, h.1, is_input row l.input h.2 w.0, are_inputs row l.tick.0 ls h.3 w.1)

-- ---- what the source ports hold

-- each message of a source port has a length that its row allows
abbrev pub IsHolding : Port → Type 0
IsHolding z = is_source z ≡ true → AllByRecursion (λ m. HasLength z.row.words m.items) z.messages

-- the ports have these rows, and hold what they allow
abbrev pub AreHolding : List PortRow → List Port → Type 0
AreHolding [] [] = Unit {0}
AreHolding (x ∷ xs) (z ∷ zs) = (z.row ≡ x) × IsHolding z × AreHolding xs zs
AreHolding _ _ = ⊥

-- For a partition with this row it says what the source ports hold; each step keeps it, if the
-- messages that arrive are allowed.
pub record IsKept {C : Type 0} (row : Partition) (Sound : Member C → Type 0) : Type 0 where
  pub holds : (x : Member C) → Sound x → AreHolding row.ports (ports_of x)
  pub starts : (at : At) (c : StartCondition) (x : Member C) → Sound x → Sound (goes (cold_start at c) x).state
  pub breaks : (at : At) (x : Member C) → Sound x → Sound (goes (breaks_down at) x).state
  pub ticks : (at : At) (x : Member C) → Sound x → Sound (goes (advances at) x).state
  pub leaves : (at : At) (port : PortId) (x : Member C) → Sound x → Sound (goes (leaves at port) x).state
  pub admits : (at : At) (port : PortId) (x : Member C) → Sound x → Sound (goes (admits at port) x).state
  pub arrives : (at : At) (port : PortId) (m : ArrayVec ℤ) → IsDelivery row port.0 m → (x : Member C) → Sound x → Sound (goes (arrives at port m) x).state

-- What a line of one of the forms means, and what is wrong with it.
use Rattle.finding_laws.proofs.Prelude.{◌≡◌, ℕ, suc, ℤ, Bool, cond, ◌∷◌, Option, Some, codes, ◌∙◌, inr, nat_le, slice_get, le-leb, lt-leb, same_Some, is_name, DeviceFault, Message, ModuleFault, PartitionFault, Written, fault_of, is_room, message_of, message_with, put_word, word, written_by, Names, Receiver, mark_of, Part, parts, total, rule_in}
use Rattle.std.proofs.Common.{true, false, List, [], None, length, refl, sym, ap, inl}
use Rattle.std.specs.Prelude.{◌&&◌}
use Rattle.std.proofs.lemmas.Option.{slice_get_cases}
use Rattle.apex_types.specs.declared.device.DeviceFault.TheVariants as fault
use Rattle.engine_meaning.specs.Digits.{same}
use Rattle.module_meaning.specs.DeviceText.{words}
use Rattle.image_findings.specs.Naming as naming
use Rattle.image_findings.specs.What.{UnknownPartition}

-- the rule that a message of this many words to a channel or port breaks
abbrev pub receiver_rule : ℕ → ℕ → Option Receiver → Option DeviceFault
receiver_rule count words None = Some fault.Name
receiver_rule count words (Some r) = cond r.is_open (cond (is_room count && nat_le words r.most) None (Some fault.Size)) (Some fault.Name)

abbrev pub room_rule : ℕ → Option DeviceFault
room_rule count = cond (is_room count) None (Some fault.Size)

-- the rule that a line of one of the forms breaks
abbrev pub written_rule : Names → ℕ → Written → Option DeviceFault
written_rule names count (Message name ws) = receiver_rule count (length ws) (naming.receiver_named name names.receivers)
written_rule names count ModuleFault = room_rule count
written_rule names count (PartitionFault name) = cond (naming.is_among name names.partitions) (room_rule count) (Some fault.Name)

room_found : (count : ℕ) (tick : Part) (t : Bool) → is_room count ≡ t → rule_in (naming.room_wrong count tick) ≡ room_rule count
room_found count tick true h = rw (h) refl
room_found count tick false h = rw (h) refl

-- ---- words

parts_length : (ts : List (List ℕ)) → length (parts ts) ≡ length ts
parts_length [] = refl
parts_length (t ∷ ts) = ap suc (parts_length ts)

put_length : (w : Option ℤ) (rest : Option (List ℤ)) (ws : List ℤ) (n : ℕ) → put_word w rest ≡ Some ws → ((vs : List ℤ) → rest ≡ Some vs → length vs ≡ n) → length ws ≡ suc n
put_length None rest ws n h each = cc
put_length (Some w) None ws n h each = cc
put_length (Some w) (Some vs) ws n h each = ap length (sym (same_Some (w ∷ vs) ws h)) ∙ ap suc (each vs refl)

words_length : (ts : List (List ℕ)) (ws : List ℤ) → words ts ≡ Some ws → length ws ≡ length ts
unfolding words
words_length [] ws h = ap length (sym (same_Some [] ws h))
words_length (t ∷ ts) ws h = put_length (word t) (words ts) ws (length ts) h (λ vs e. words_length ts vs e)

few_found : (ps : List Part) (n most : ℕ) → rule_in (naming.words_wrong n most (slice_get ps most)) ≡ cond (nat_le (length ps) most) None (Some fault.Size)
few_found ps n most = elim (slice_get_cases ps most).1 [
  | inl w ↦ rw (w.2, lt-leb (length ps) most w.1) refl
  | inr past ↦ rw (past.1, le-leb (length ps) most past.0) refl
]

size_found : (t : Bool) (count most : ℕ) (tick : Part) (ps : List Part) → is_room count ≡ t → rule_in (naming.size_wrong count tick most ps) ≡ cond (is_room count && nat_le (length ps) most) None (Some fault.Size)
size_found true count most tick ps h = rw (h) (few_found ps (length ps) most)
size_found false count most tick ps h = rw (h) refl

open_found : (t : Bool) (room : Bool) (r : Receiver) (count : ℕ) (tick name : Part) (ps : List Part) → r.is_open ≡ t → is_room count ≡ room → rule_in (naming.receiver_wrong count tick name ps (Some r)) ≡ receiver_rule count (length ps) (Some r)
open_found true room r count tick name ps h i = rw (h) (size_found room count r.most tick ps i)
open_found false room r count tick name ps h i = rw (h) refl

receiver_found : (o : Option Receiver) (count : ℕ) (tick name : Part) (ps : List Part) → rule_in (naming.receiver_wrong count tick name ps o) ≡ receiver_rule count (length ps) o
receiver_found None count tick name ps = refl
receiver_found (Some r) count tick name ps = open_found r.is_open (is_room count) r count tick name ps refl refl

-- ---- messages

message_is : (t : Bool) (c : List ℕ) (o : Option (List ℤ)) (w : Written) → cond t (message_with c o) None ≡ Some w → (ws : List ℤ) × (o ≡ Some ws) × (Message c ws ≡ w)
message_is true c None w h = cc
message_is true c (Some ws) w h = (ws, refl, same_Some (Message c ws) w h)
message_is false c o w h = cc

message_found : (names : Names) (count : ℕ) (tick : Part) (ps : List (List ℕ)) (w : Written) → message_of ps ≡ Some w → rule_in (naming.message_wrong names count tick (parts ps)) ≡ written_rule names count w
message_found names count tick [] w h = cc
message_found names count tick (c ∷ []) w h = cc
message_found names count tick (c ∷ v ∷ vs) w h =
    let is = message_is (is_name c) c (words (v ∷ vs)) w h in
    let long : length (parts (v ∷ vs)) ≡ length is.0 = parts_length (v ∷ vs) ∙ sym (words_length (v ∷ vs) is.0 is.1) in
    let name : Part = record { text = c; left = total (c ∷ v ∷ vs) } in
    receiver_found (naming.receiver_named c names.receivers) count tick name (parts (v ∷ vs))
    ∙ ap (λ (n : ℕ). receiver_rule count n (naming.receiver_named c names.receivers)) long
    ∙ ap (written_rule names count) is.2

-- ---- faults

partition_is : (t : Bool) (p : List ℕ) (w : Written) → cond t (Some (PartitionFault p)) None ≡ Some w → PartitionFault p ≡ w
partition_is true p w h = same_Some (PartitionFault p) w h
partition_is false p w h = cc

among_found : (t : Bool) (count : ℕ) (tick p : Part) → rule_in (cond t (naming.room_wrong count tick) (Some (naming.at p (UnknownPartition p.text)))) ≡ cond t (room_rule count) (Some fault.Name)
among_found true count tick p = room_found count tick (is_room count) refl
among_found false count tick p = refl

fault_found : (names : Names) (count : ℕ) (tick : Part) (ps : List (List ℕ)) (w : Written) → fault_of ps ≡ Some w → rule_in (naming.fault_wrong names count tick (parts ps)) ≡ written_rule names count w
fault_found names count tick [] w h = room_found count tick (is_room count) refl ∙ ap (written_rule names count) (same_Some ModuleFault w h)
fault_found names count tick (p ∷ []) w h =
    among_found (naming.is_among p names.partitions) count tick (record { text = p; left = total (p ∷ []) })
    ∙ ap (written_rule names count) (partition_is (is_name p) p w h)
fault_found names count tick (p ∷ q ∷ ps) w h = cc

-- ---- both

of_kind : (a b : Bool) (names : Names) (count : ℕ) (tick : Part) (ps : List (List ℕ)) (w : Written) → cond a (message_of ps) (cond b (fault_of ps) None) ≡ Some w
    → rule_in (cond a (naming.message_wrong names count tick (parts ps)) (naming.fault_wrong names count tick (parts ps))) ≡ written_rule names count w
of_kind true b names count tick ps w h = message_found names count tick ps w h
of_kind false true names count tick ps w h = fault_found names count tick ps w h
of_kind false false names count tick ps w h = cc

pub event_found : (names : Names) (count : ℕ) (tick : Part) (ps : List (List ℕ)) (w : Written) → written_by (mark_of names.kind) ps ≡ Some w → rule_in (naming.event_wrong names count tick (parts ps)) ≡ written_rule names count w
event_found names count tick [] w h = cc
event_found names count tick (k ∷ ps) w h = of_kind (same k (mark_of names.kind)) (same k (codes "FAULT")) names count tick ps w h

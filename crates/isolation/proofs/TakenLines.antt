-- The messages of an accepted device text go by channels that are from the device, and have a length that the
-- channels allow.
use Rattle.isolation.proofs.Prelude.{◌≡◌, ℕ, suc, ◌+◌, ◌≤◌, ℤ, Bool, true, false, cond, List, ◌∷◌, Option, Some, None, Result, Ok, Err, sym, ◌∙◌, arith, length, slice_get, ◌&&◌, nat_lt, nat_le, if◌then◌else◌, AllByRecursion, and_parts, leb-true, space, MOST_TICKS, is_name, DeviceFault, DeviceInput, DeviceLine, ChannelEnd, Written, Message, message_with, message_of, line_with, is_room, words_of_ends, pieces, verdict_for, same, Partition, Channel, Image, message}
use Rattle.std.proofs.Common.{codes, [], refl, ap, subst}
use Rattle.std.specs.Prelude.{map}
use Rattle.apex_types.specs.declared.device.DeviceFault.TheVariants as fault
use Rattle.apex_types.specs.declared.device.DeviceInput.TheVariants as device
use Rattle.apex_types.specs.declared.row.ChannelEnd.TheVariants as ends
use Rattle.module_meaning.specs.DeviceText.{WrittenLine, ModuleFault, PartitionFault, plain_number, word, words, put_word, fault_of, written_of, line_of_pieces, first_from, within, taken_message, taken_fault, named, taken, ends_with, put_line, and_then, lines_from, line_of, verdict}
use Rattle.module_meaning.specs.Table.{is_device}
use Rattle.machine_meaning.specs.MachineMeaning.{row_of_item}
use Rattle.isolation.proofs.Holding.{HasLength}
use Rattle.isolation.proofs.Lines.{IsFromDevice, AreFromDevice}
use Rattle.isolation.proofs.Steps.{same_some}

ok_of : {A : Type 0} → A → Result A DeviceFault → A
ok_of a (Ok b) = b
ok_of a (Err e) = a

abbrev pub ok : {A : Type 0} → A → Result A DeviceFault
ok a = Ok a

pub same_ok : {A : Type 0} (a b : A) → ok a ≡ ok b → a ≡ b
unfolding ok_of
same_ok a b h = ap (ok_of a) h

-- an element found from a place on is there
first_is : {A : Type 0} (n k : ℕ) (test : A → Bool) (xs : List A) (f : ℕ × A) → first_from (n + k) test xs ≡ Some f → (j : ℕ) × (f.0 ≡ n + k + j) × (slice_get xs j ≡ Some f.1)
unfolding first_from
first_is n k test [] f e = absurd (cc)
first_is {A = A} n k test (x ∷ xs) f e = either (test x) (λ h. next (first_is n (k + 1) test xs f (subst (λ (m : ℕ). first_from m test xs ≡ Some f) (turned n k) h))) e
  where
    turned : (n k : ℕ) → n + k + 1 ≡ n + (k + 1)
    turned n k = omega arith

    next : ((j : ℕ) × (f.0 ≡ n + (k + 1) + j) × (slice_get xs j ≡ Some f.1)) → (j : ℕ) × (f.0 ≡ n + k + j) × (slice_get (x ∷ xs) j ≡ Some f.1)
    next r = (suc r.0, omega (arith, r.1), r.2)

    either : (b : Bool) → (first_from (n + k + 1) test xs ≡ Some f → (j : ℕ) × (f.0 ≡ n + k + j) × (slice_get (x ∷ xs) j ≡ Some f.1)) → cond b (Some (n + k, x)) (first_from (n + k + 1) test xs) ≡ Some f → (j : ℕ) × (f.0 ≡ n + k + j) × (slice_get (x ∷ xs) j ≡ Some f.1)
    either true rest h = let is : (n + k, x) ≡ f = same_some (n + k, x) f h in (0, omega (arith, ap (λ (g : ℕ × A). g.0) is), ap (λ (g : ℕ × A). Some g.1) is)
    either false rest h = rest h

pub first_there : {A : Type 0} (test : A → Bool) (xs : List A) (f : ℕ × A) → first_from 0 test xs ≡ Some f → slice_get xs f.0 ≡ Some f.1
first_there test xs f e =
    let r = first_is 0 0 test xs f e in
    subst (λ (n : ℕ). slice_get xs n ≡ Some f.1) (sym (plain r.0 f.0 r.1)) r.2
  where
    plain : (j m : ℕ) → m ≡ 0 + 0 + j → m ≡ j
    plain j m e = omega arith

device_is : (e : ChannelEnd) → is_device e ≡ true → e ≡ ends.Device
device_is ends.Device h = refl
device_is (ends.Port p q) h = absurd (cc)

-- ---- what a line says
-- a message of one word at least
abbrev Says : Written → Type 0
Says (Message channel ws) = 1 ≤ length ws
Says ModuleFault = Unit {0}
Says (PartitionFault partition) = Unit {0}

-- a text of words has at least one word
some_words : (t : List ℕ) (ts : List (List ℕ)) (ws : List ℤ) → words (t ∷ ts) ≡ Some ws → 1 ≤ length ws
unfolding words
some_words t ts ws e = put (word t) (words ts) e
  where
    put : (o : Option ℤ) (r : Option (List ℤ)) → put_word o r ≡ Some ws → 1 ≤ length ws
    put None r e = absurd (cc)
    put (Some z) None e = absurd (cc)
    put (Some z) (Some zs) e = subst (λ (xs : List ℤ). 1 ≤ length xs) (same_some (z ∷ zs) ws e) (omega arith)

message_says : (ps : List (List ℕ)) (w : Written) → message_of ps ≡ Some w → Says w
message_says [] w e = absurd (cc)
message_says (channel ∷ []) w e = absurd (cc)
message_says (channel ∷ t ∷ ts) w e = either (is_name channel) e
  where
    with_words : (o : Option (List ℤ)) → words (t ∷ ts) ≡ o → message_with channel o ≡ Some w → Says w
    with_words None k e = absurd (cc)
    with_words (Some ws) k e = subst (λ (v : Written). Says v) (same_some (Message channel ws) w e) (some_words t ts ws k)

    either : (b : Bool) → cond b (message_with channel (words (t ∷ ts))) None ≡ Some w → Says w
    either true f = with_words (words (t ∷ ts)) refl f
    either false f = absurd (cc)

fault_says : (ps : List (List ℕ)) (w : Written) → fault_of ps ≡ Some w → Says w
fault_says [] w e = subst (λ (v : Written). Says v) (same_some ModuleFault w e) tt
fault_says (p ∷ []) w e = either (is_name p) e
  where
    either : (b : Bool) → cond b (Some (PartitionFault p)) None ≡ Some w → Says w
    either true f = subst (λ (v : Written). Says v) (same_some (PartitionFault p) w f) tt
    either false f = absurd (cc)
fault_says (p ∷ q ∷ ps) w e = absurd (cc)

written_says : (ps : List (List ℕ)) (w : Written) → written_of ps ≡ Some w → Says w
written_says [] w e = absurd (cc)
written_says (kind ∷ rest) w e = either (same kind (codes "MSG")) (same kind (codes "FAULT")) e
  where
    either : (a b : Bool) → cond a (message_of rest) (cond b (fault_of rest) None) ≡ Some w → Says w
    either true b f = message_says rest w f
    either false true f = fault_says rest w f
    either false false f = absurd (cc)

pieces_say : (ps : List (List ℕ)) (l : WrittenLine) → line_of_pieces ps ≡ Some l → Says l.written
pieces_say [] l e = absurd (cc)
pieces_say (t ∷ rest) l e = both (plain_number MOST_TICKS t) (written_of rest) refl e
  where
    both : (o : Option ℕ) (r : Option Written) → written_of rest ≡ r → line_with o r ≡ Some l → Says l.written
    both None r k e = absurd (cc)
    both (Some n) None k e = absurd (cc)
    both (Some n) (Some w) k e = subst (λ (m : WrittenLine). Says m.written) (same_some (record { tick = n; written = w }) l e) (written_says rest w k)

-- ---- the result for a line
module _ (rows : List Partition) (channels : List Channel) where
  -- a message by a channel from the device, of a length that its first destination allows
  abbrev pub IsTaken : DeviceInput → Type 0
  IsTaken (device.Message channel m) = (c : Channel) × (slice_get channels channel.0 ≡ Some c) × (c.source ≡ ends.Device) × HasLength (words_of_ends rows c.destinations) m.items
  IsTaken (device.PartitionFault q) = Unit {0}
  IsTaken device.ModuleFault = Unit {0}

  abbrev pub AreTaken : List DeviceLine → Type 0
  AreTaken ls = AllByRecursion (λ l. IsTaken l.input) ls

  -- a line within the limits has the input
  within_is : (b : Bool) (tick : ℕ) (i : DeviceInput) (l : DeviceLine) → (b ≡ true → IsTaken i) → within b tick i ≡ Ok l → IsTaken l.input
  within_is true tick i l h e = subst (λ (x : DeviceLine). IsTaken x.input) (same_ok (record { tick = record { 0 = tick }; input = i }) l e) (h refl)
  within_is false tick i l h e = absurd (cc)

  -- a message by its channel, and a fault
  message_is : (count tick : ℕ) (ws : List ℤ) (o : Option (ℕ × Channel)) (l : DeviceLine) → 1 ≤ length ws → ((f : ℕ × Channel) → o ≡ Some f → slice_get channels f.0 ≡ Some f.1)
      → taken_message rows count tick ws o ≡ Ok l → IsTaken l.input
  message_is count tick ws None l some there e = absurd (cc)
  message_is count tick ws (Some f) l some there e = either (is_device f.1.source) refl e
    where
      either : (b : Bool) → is_device f.1.source ≡ b
          → (if b then within (is_room count && nat_le (length ws) (words_of_ends rows f.1.destinations)) tick (device.Message (record { 0 = f.0 }) (message ws)) else Err fault.Name) ≡ Ok l → IsTaken l.input
      either true k h =
          within_is (is_room count && nat_le (length ws) (words_of_ends rows f.1.destinations)) tick (device.Message (record { 0 = f.0 }) (message ws)) l
          (λ g. (f.1, there f refl, device_is f.1.source k, record { some = some; few = leb-true (length ws) (words_of_ends rows f.1.destinations) (and_parts (is_room count) (nat_le (length ws) (words_of_ends rows f.1.destinations)) g).1 })) h
      either false k h = absurd (cc)

  fault_is : (count tick : ℕ) (o : Option (ℕ × Partition)) (l : DeviceLine) → taken_fault count tick o ≡ Ok l → IsTaken l.input
  fault_is count tick None l e = absurd (cc)
  fault_is count tick (Some f) l e = within_is (is_room count) tick (device.PartitionFault (record { 0 = f.0 })) l (λ k. tt) e

  named_is : (count tick : ℕ) (w : Written) (l : DeviceLine) → Says w → named rows channels count tick w ≡ Ok l → IsTaken l.input
  named_is count tick (Message channel ws) l says e = message_is count tick ws (first_from 0 (λ c. same c.name channel) channels) l says (λ f h. first_there (λ c. same c.name channel) channels f h) e
  named_is count tick ModuleFault l says e = within_is (is_room count) tick device.ModuleFault l (λ k. tt) e
  named_is count tick (PartitionFault name) l says e = fault_is count tick (first_from 1 (λ p. same p.name name) rows) l e

  -- a line, then the lines from one on
  taken_is : (count before : ℕ) (o : Option WrittenLine) (l : DeviceLine) → ((w : WrittenLine) → o ≡ Some w → Says w.written) → taken rows channels count before o ≡ Ok l → IsTaken l.input
  taken_is count before None l says e = absurd (cc)
  taken_is count before (Some w) l says e = either (nat_lt w.tick before) e
    where
      either : (b : Bool) → (if b then Err fault.Order else named rows channels count w.tick w.written) ≡ Ok l → IsTaken l.input
      either true h = absurd (cc)
      either false h = named_is count w.tick w.written l (says w refl) h

  put_is : (l : DeviceLine) (r : Result (List DeviceLine) DeviceFault) (ls : List DeviceLine) → IsTaken l.input → ((ks : List DeviceLine) → r ≡ Ok ks → AreTaken ks) → put_line l r ≡ Ok ls → AreTaken ls
  put_is l (Err f) ls h rest e = absurd (cc)
  put_is l (Ok ks) ls h rest e = subst (λ (xs : List DeviceLine). AreTaken xs) (same_ok (l ∷ ks) ls e) (h, rest ks refl)

  and_is : (r : Result DeviceLine DeviceFault) (rest : DeviceLine → Result (List DeviceLine) DeviceFault) (ls : List DeviceLine)
      → ((l : DeviceLine) → r ≡ Ok l → IsTaken l.input) → ((l : DeviceLine) (ks : List DeviceLine) → rest l ≡ Ok ks → AreTaken ks) → and_then r rest ≡ Ok ls → AreTaken ls
  and_is (Err f) rest ls h k e = absurd (cc)
  and_is (Ok l) rest ls h k e = put_is l (rest l) ls (h l refl) (λ ks q. k l ks q) e

  ends_is : (last : List ℕ) (ls : List DeviceLine) → ends_with last ≡ Ok ls → AreTaken ls
  ends_is [] ls e = subst (λ (xs : List DeviceLine). AreTaken xs) (same_ok [] ls e) tt
  ends_is (b ∷ bs) ls e = absurd (cc)

  lines_are : (count before : ℕ) (ps : List (List ℕ)) (ls : List DeviceLine) → lines_from rows channels count before ps ≡ Ok ls → AreTaken ls
  unfolding lines_from
  lines_are count before [] ls e = subst (λ (xs : List DeviceLine). AreTaken xs) (same_ok [] ls e) tt
  lines_are count before (last ∷ []) ls e = ends_is last ls e
  lines_are count before (line ∷ next ∷ more) ls e =
      and_is (taken rows channels count before (line_of line)) (λ l. lines_from rows channels (count + 1) l.tick.0 (next ∷ more)) ls
      (λ l h. taken_is count before (line_of line) l (λ w k. pieces_say (pieces space line) w k) h)
      (λ l ks h. lines_are (count + 1) l.tick.0 (next ∷ more) ks h) e

  -- Each line of an accepted text is taken.
  pub accepted : (text : List ℕ) (ls : List DeviceLine) → verdict rows channels text ≡ Ok ls → AreTaken ls
  unfolding verdict
  accepted text ls e = lines_are 0 0 (pieces 10 text) ls e

  one_from : (i : DeviceInput) → IsTaken i → IsFromDevice channels i
  one_from (device.Message channel m) h = λ c e. ap (λ (d : Channel). d.source) (same_some c h.0 (sym e ∙ h.1)) ∙ h.2
  one_from (device.PartitionFault q) h = tt
  one_from device.ModuleFault h = tt

  all_from : (ls : List DeviceLine) → AreTaken ls → AreFromDevice channels ls
  all_from [] h = tt
  all_from (l ∷ ls) h = (one_from l.input h.0, all_from ls h.1)

  pub accepted_from : (text : List ℕ) (ls : List DeviceLine) → verdict rows channels text ≡ Ok ls → AreFromDevice channels ls
  accepted_from text ls e = all_from ls (accepted text ls e)

pub accepted_from_device : (image : Image) (text : List ℕ) (ls : List DeviceLine) → verdict_for image text ≡ Ok ls → AreFromDevice image.channels ls
accepted_from_device image text ls e = accepted_from (map row_of_item image.items) image.channels text ls e

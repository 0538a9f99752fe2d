-- The facts of a lawful image for isolation: names that differ, and channels to others.
use Rattle.isolation.proofs.Prelude.{◌≡◌, ◌≢◌, ℕ, zero, suc, ◌<◌, ◌≤◌, Bool, true, false, cond, List, ◌∷◌, ◌++◌, length, map, Some, sym, ◌∙◌, arith, inl, inr, ◌==◌, slice_get, nat_eq, find, flat_map, option_map, list_any, and_parts, cases_lt, eqb-true, eqb-false, ne_eqb, slice_get-map, third_limits, PortId, ChannelEnd, same, Channel, Partition, Item, Image, EachBeside, IsItem, IsLawful, partitions_in, is_port, sends_to_itself, ends_of, has_wrong_ends, has_wrong_direction, has_mixed_ports, is_split_queue, has_twice, is_same_port, has_unknown_port, items_widened}
use Rattle.std.proofs.Common.{not, ◌&&◌, ◌||◌, [], refl, ap, subst}
use Rattle.std.proofs.lemmas.Bool.{or_parts, not-true, cases_Bool}
use Rattle.apex_types.specs.declared.row.ChannelEnd.TheVariants as ends
use Rattle.module_meaning.specs.Table.{is_in_same_partition, has_two_devices, is_wrong, has_odd_period, has_short_period, lacks_release}
use Rattle.module_meaning.specs.ImageRules.{has_wrong_window}
use Rattle.isolation.proofs.Messages.{found_passes}
use Rattle.isolation.proofs.OwnMessages.{IsOf, NoneOf, AreLawful, with_number}
use Rattle.isolation.proofs.Steps.{IsApart, AreApart, same_some}

-- ---- lists
pub any_at : {A : Type 0} (test : A → Bool) (xs : List A) (k : ℕ) (x : A) → list_any test xs ≡ false → slice_get xs k ≡ Some x → test x ≡ false
any_at test [] k x h e = absurd (cc)
any_at test (y ∷ ys) zero x h e = subst (λ z. test z ≡ false) (same_some y x e) (or_parts (test y) (list_any test ys) h).0
any_at test (y ∷ ys) (suc k) x h e = any_at test ys k x (or_parts (test y) (list_any test ys) h).1 e

pub get_front : {A : Type 0} (xs ys : List A) (k : ℕ) (x : A) → slice_get xs k ≡ Some x → slice_get (xs ++ ys) k ≡ Some x
get_front [] ys k x e = absurd (cc)
get_front (y ∷ xs) ys zero x e = e
get_front (y ∷ xs) ys (suc k) x e = get_front xs ys k x e

pub get_last : {A : Type 0} (xs : List A) (x : A) → slice_get (xs ++ x ∷ []) (length xs) ≡ Some x
get_last [] x = refl
get_last (y ∷ xs) x = get_last xs x

pub found_is : {A : Type 0} (bad test : A → Bool) (xs : List A) (x : A) → list_any bad xs ≡ false → find test xs ≡ Some x → bad x ≡ false
found_is bad test [] x h e = absurd (cc)
found_is bad test (y ∷ ys) x h e = let parts = or_parts (bad y) (list_any bad ys) h in either (test y) parts.0 (λ k. found_is bad test ys x parts.1 k) e
  where
    either : (b : Bool) → bad y ≡ false → (find test ys ≡ Some x → bad x ≡ false) → cond b (Some y) (find test ys) ≡ Some x → bad x ≡ false
    either true k rest e = subst (λ z. bad z ≡ false) (same_some y x e) k
    either false k rest e = rest e

eqb_turned : (a b : ℕ) → nat_eq a b ≡ false → nat_eq b a ≡ false
eqb_turned a b h = ne_eqb b a (λ e. eqb-false a b h (sym e))

and_turned : (a b c d : Bool) → (a && b) ≡ false → (a ≡ false → c ≡ false) → (b ≡ false → d ≡ false) → (c && d) ≡ false
and_turned true b c d h f g = elim (cases_Bool c) [ inl e ↦ ap (λ (x : Bool). x && d) e ∙ g h | inr e ↦ ap (λ (x : Bool). x && d) e ]
and_turned false b c d h f g = ap (λ (x : Bool). x && d) (f refl)

same_turned : (a b : List ℕ) → same a b ≡ false → same b a ≡ false
same_turned [] [] h = h
same_turned [] (y ∷ ys) h = refl
same_turned (x ∷ xs) [] h = refl
same_turned (x ∷ xs) (y ∷ ys) h = and_turned (nat_eq x y) (same xs ys) (nat_eq y x) (same ys xs) h (eqb_turned x y) (same_turned xs ys)

-- ---- names
abbrev pub name_in : Item → List ℕ
name_in i = i.partition.name

-- the names of items before them are others
others_before : (frame : ℕ) (before items : List Item) → EachBeside (IsItem third_limits frame) before items → (k : ℕ) (a : Item) → slice_get before k ≡ Some a
    → (j : ℕ) (b : Item) → slice_get items j ≡ Some b → same (name_in a) (name_in b) ≡ false
others_before frame before [] each k a e j b f = absurd (cc)
others_before frame before (i ∷ is) each k a e zero b f =
    subst (λ (z : Item). same (name_in a) (name_in z) ≡ false) (same_some i b f) (any_at (λ it. same (name_in it) (name_in i)) before k a each.0.partition.fresh e)
others_before frame before (i ∷ is) each k a e (suc j) b f = others_before frame (before ++ i ∷ []) is each.1 k a (get_front before (i ∷ []) k a e) j b f

names_differ : (frame : ℕ) (before items : List Item) → EachBeside (IsItem third_limits frame) before items → (i j : ℕ) (a b : Item) → i < j → slice_get items i ≡ Some a → slice_get items j ≡ Some b → same (name_in a) (name_in b) ≡ false
names_differ frame before [] each i j a b l e f = absurd (cc)
names_differ frame before (x ∷ xs) each zero zero a b l e f = absurd (omega arith)
names_differ frame before (x ∷ xs) each zero (suc j) a b l e f =
    others_before frame (before ++ x ∷ []) xs each.1 (length before) a (get_last before x ∙ e) j b f
names_differ frame before (x ∷ xs) each (suc i) zero a b l e f = absurd (omega arith)
names_differ frame before (x ∷ xs) each (suc i) (suc j) a b l e f = names_differ frame (before ++ x ∷ []) xs each.1 i j a b (omega arith) e f

pub item_at : (items : List Item) (q : ℕ) (other : List ℕ) → slice_get (map name_in items) q ≡ Some other → (a : Item) × (slice_get items q ≡ Some a) × (name_in a ≡ other)
item_at [] q other e = absurd (cc)
item_at (i ∷ is) zero other e = (i, refl, same_some (name_in i) other e)
item_at (i ∷ is) (suc q) other e = item_at is q other e

pub image_apart : (image : Image) → IsLawful image → (place : ℕ) (item : Item) → slice_get image.items place ≡ Some item → IsApart (name_in item) place (map name_in image.items)
image_apart image lawful place item e = record {
  here = slice_get-map name_in image.items place ∙ ap (option_map name_in) e;
  others = λ q other n f. let a = item_at image.items q other f in
      subst (λ (m : List ℕ). same (name_in item) m ≡ false) a.2
      (elim (cases_lt q place) [
        | inl l ↦ same_turned (name_in a.0) (name_in item) (names_differ image.schedule.frame [] image.items (items_widened image lawful.limits) q place a.0 item l a.1 e)
        | inr g ↦ names_differ image.schedule.frame [] image.items (items_widened image lawful.limits) place q item a.0 (above q n g) e a.1
      ]);
}
  where
    above : (q : ℕ) → q ≢ place → place ≤ q → place < q
    above q n g = omega (arith, n)

pub image_all_apart : (image : Image) → IsLawful image → AreApart (map name_in image.items)
image_all_apart image lawful place name e =
    let a = item_at image.items place name e in
    subst (λ (n : List ℕ). IsApart n place (map name_in image.items)) a.2 (image_apart image lawful place a.0 a.1)

-- ---- channels
kept_last : (a b c d e f : Bool) → (not a && not b && not c && not d && not e && not f) ≡ true → (e ≡ false) × (f ≡ false)
kept_last a b c d e f h =
    let five = and_parts (not a && not b && not c && not d && not e) (not f) h in
    (not-true e (and_parts (not a && not b && not c && not d) (not e) five.0).1, not-true f five.1)

-- no channel has an unknown port, or wrong ends
pub image_ends : (image : Image) → IsLawful image → (has_unknown_port (partitions_in image) image.channels ≡ false) × (has_wrong_ends (partitions_in image) image.channels ≡ false)
image_ends image h =
    let ps = partitions_in image in
    kept_last (has_wrong_window image.schedule (length ps)) (has_odd_period image.schedule.frame ps) (has_short_period image.schedule ps) (lacks_release image.schedule.windows ps) (has_unknown_port ps image.channels) (has_wrong_ends ps image.channels) h.rules

-- a channel that is not wrong neither sends to its own partition nor twice to the device
not_wrong : (ps : List Partition) (c : Channel) → is_wrong ps c ≡ false → (sends_to_itself c ≡ false) × (has_two_devices (ends_of c) ≡ false)
unfolding is_wrong
not_wrong ps c h =
    let four = or_parts (has_wrong_direction ps c || has_mixed_ports ps (ends_of c) || sends_to_itself c || has_two_devices (ends_of c)) (is_split_queue ps c) h in
    let three = or_parts (has_wrong_direction ps c || has_mixed_ports ps (ends_of c) || sends_to_itself c) (has_two_devices (ends_of c)) four.0 in
    let two = or_parts (has_wrong_direction ps c || has_mixed_ports ps (ends_of c)) (sends_to_itself c) three.0 in
    (two.1, three.1)

source_of : (p : ℕ) (port : PortId) (e : ChannelEnd) → is_port (with_number p) port e ≡ true → IsOf p e
source_of p port ends.Device h = absurd (cc)
source_of p port (ends.Port q other) h = eqb-true q.0 p (and_parts (q.0 == p) (other.0 == port.0) h).0

none_of : (p : ℕ) (source : ChannelEnd) (es : List ChannelEnd) → IsOf p source → list_any (is_in_same_partition source) es ≡ false → NoneOf p es
none_of p ends.Device es s h = absurd s
none_of p (ends.Port q port) [] s h = tt
none_of p (ends.Port q port) (ends.Device ∷ es) s h = (tt, none_of p (ends.Port q port) es s h)
none_of p (ends.Port q port) (ends.Port r other ∷ es) s h =
    let parts = or_parts (q.0 == r.0) (list_any (is_in_same_partition (ends.Port q port)) es) h in
    ((λ e. eqb-false q.0 r.0 parts.0 (s ∙ sym e)), none_of p (ends.Port q port) es s parts.1)

one_device_of : (p : ℕ) (source : ChannelEnd) (es : List ChannelEnd) → IsOf p source → has_two_devices (source ∷ es) ≡ false → has_two_devices es ≡ false
unfolding has_two_devices
one_device_of p ends.Device es s h = absurd s
one_device_of p (ends.Port q port) es s h = h

pub channels_lawful : (ps : List Partition) (channels : List Channel) → has_wrong_ends ps channels ≡ false → (p : ℕ) → AreLawful p channels
channels_lawful ps channels right p port c e =
    let source = source_of p port c.source (found_passes (λ d. is_port (with_number p) port d.source) channels c e) in
    let wrong = or_parts (has_twice is_same_port (flat_map ends_of channels)) (list_any (is_wrong ps) channels) right in
    let fine = not_wrong ps c (found_is (is_wrong ps) (λ d. is_port (with_number p) port d.source) channels c wrong.1 e) in
    record { source = source; others = none_of p c.source c.destinations source fine.0; device = one_device_of p c.source c.destinations source fine.1 }

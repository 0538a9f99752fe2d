-- The partition of a name, its row, and its slice of the image.
use Rattle.module.proofs.Prelude.{◌≡◌, ℕ, zero, suc, ◌+◌, ◌-◌, ◌<◌, ◌≤◌, ◌==◌, Bool, true, false, cond, List, ◌∷◌, ◌++◌, map, Option, Some, None, All, refl, sym, ap, ◌∙◌, arith, All-nil, All-cons, none-some, same_Some, slice_get-map, third_limits, PortRow, same, Item, Image, at_number, item_of, items_of, partition_of, image_of, PartitionItem, numbered, Slice, slice, slice_of}
use Rattle.std.proofs.Common.{[], slice_get, option_map, subst}
use Rattle.std.proofs.lemmas.Bool.{and_parts, eqb-true}
use Rattle.apex_types.specs.declared.limits.TheConstants.{MOST_WORDS}
use Rattle.module_meaning.specs.DeviceText.{first_from}
use Rattle.machine_meaning.specs.ImageLimits.{EachBeside, IsItem, IsPort}
use Rattle.image.specs.declared.value.Image as code
use Rattle.isolation.proofs.Law.{sliced}
use Rattle.module_base.specs.Rows.{HasPorts}
use Rattle.machine_laws.proofs.Widened.{items_widened}

-- ---- what is found by a name

-- an element that is found has its number, and passes the test
found_at : {A : Type 0} (test : A → Bool) (xs : List A) (number : ℕ) (f : ℕ × A) → first_from number test xs ≡ Some f → (place : ℕ) × (f.0 ≡ number + place) × (slice_get xs place ≡ Some f.1) × (test f.1 ≡ true)
unfolding first_from
found_at test [] number f e = absurd (none-some f e)
found_at {A = A} test (x ∷ xs) number f e = by_test (test x) refl (found_at test xs (number + 1) f) e
  where
    IsFound : ℕ × A → Type 0
    IsFound g = (place : ℕ) × (g.0 ≡ number + place) × (slice_get (x ∷ xs) place ≡ Some g.1) × (test g.1 ≡ true)

    first_place : number ≡ number + 0
    first_place = omega arith

    by_test : (b : Bool) → test x ≡ b → (first_from (number + 1) test xs ≡ Some f → (place : ℕ) × (f.0 ≡ number + 1 + place) × (slice_get xs place ≡ Some f.1) × (test f.1 ≡ true)) → cond b (Some (number, x)) (first_from (number + 1) test xs) ≡ Some f → IsFound f
    by_test true passes later h = subst IsFound (same_Some (number, x) f h) (0, first_place, refl, passes)
    by_test false fails later h = let r = later h in (suc r.0, omega (arith, r.1), r.2, r.3)

same_is : (a b : List ℕ) → same a b ≡ true → a ≡ b
same_is [] [] h = refl
same_is [] (y ∷ ys) h = absurd cc
same_is (x ∷ xs) [] h = absurd cc
same_is (x ∷ xs) (y ∷ ys) h =
    let both = and_parts (x == y) (same xs ys) h in
    ap (λ n. n ∷ xs) (eqb-true x y both.0) ∙ ap (λ ns. y ∷ ns) (same_is xs ys both.1)

numbered_at : (image : Image) (name : List ℕ) (f : ℕ × Item) → numbered image name ≡ Some f → (at_number image.items f.0 ≡ Some f.1) × (f.1.partition.name ≡ name)
numbered_at image name f e =
    let r = found_at (λ (i : Item). same i.partition.name name) image.items 1 f e in
    let number : f.0 ≡ suc r.0 = omega (arith, r.1) in
    (ap (at_number image.items) number ∙ r.2, same_is f.1.partition.name name r.3)

pub numbered_slice : (image : Image) (name : List ℕ) (f : ℕ × Item) → numbered image name ≡ Some f → slice image f.0 ≡ Some (slice_of image f.0 f.1)
numbered_slice image name f e = ap (option_map (slice_of image f.0)) (numbered_at image name f e).0

pub numbered_name : (image : Image) (name : List ℕ) (f : ℕ × Item) → numbered image name ≡ Some f → f.1.partition.name ≡ name
numbered_name image name f e = (numbered_at image name f e).1

-- a partition with this number is found, or none
pub by_number : (image : Image) (name : List ℕ) (p : ℕ) → Some p ≡ option_map (λ (f : ℕ × Item). f.0) (numbered image name) → (f : ℕ × Item) × (numbered image name ≡ Some f) × (p ≡ f.0)
by_number image name p e = found (numbered image name) refl e
  where
    found : (o : Option (ℕ × Item)) → numbered image name ≡ o → Some p ≡ option_map (λ (f : ℕ × Item). f.0) o → (f : ℕ × Item) × (numbered image name ≡ Some f) × (p ≡ f.0)
    found None is h = absurd (none-some p (sym h))
    found (Some f) is h = (f, is, same_Some p f.0 h)

pub no_number : (image : Image) (name : List ℕ) → None ≡ option_map (λ (f : ℕ × Item). f.0) (numbered image name) → numbered image name ≡ None
no_number image name e = found (numbered image name) refl e
  where
    found : (o : Option (ℕ × Item)) → numbered image name ≡ o → None ≡ option_map (λ (f : ℕ × Item). f.0) o → numbered image name ≡ None
    found None is h = is
    found (Some f) is h = absurd (none-some f.0 h)

-- ---- the item at a number

at_place : (items : List PartitionItem) (number : ℕ) (item : PartitionItem) → 0 < number → slice_get items (number - 1) ≡ Some item → at_number (items_of items) number ≡ Some (item_of item)
at_place items zero item there e = absurd (omega (arith, there))
at_place items (suc place) item there e =
    let before : suc place - 1 ≡ place = omega arith in
    slice_get-map item_of items place ∙ ap (option_map item_of) (ap (slice_get items) (sym before) ∙ e)

-- the slice of an image at a number is that of the item there
pub slice_there : (image : code.Image) (number : ℕ) (item : PartitionItem) → 0 < number → slice_get image.partitions.items (number - 1) ≡ Some item → slice (image_of image) number ≡ Some (slice_of (image_of image) number (item_of item))
slice_there image number item there e = ap (option_map (slice_of (image_of image) number)) (at_place image.partitions.items number item there e)

-- what holds for that slice holds for the slice at the number
pub for_slice : (P : Slice → Type 0) (image : code.Image) (number : ℕ) (item : PartitionItem) (s : Slice) → 0 < number → slice_get image.partitions.items (number - 1) ≡ Some item
    → slice (image_of image) number ≡ Some s → P (slice_of (image_of image) number (item_of item)) → P s
for_slice P image number item s there e is h =
    let its = slice_of (image_of image) number (item_of item) in
    subst P (same_Some its s (sym (slice_there image number item there e) ∙ is)) h

-- the row of a slice
pub row_at : (image : code.Image) (loaded : Image) (number : ℕ) (item : PartitionItem) (s : Slice) → image_of image ≡ loaded → 0 < number → slice_get image.partitions.items (number - 1) ≡ Some item
    → slice loaded number ≡ Some s → partition_of item.row ≡ s.item.partition
row_at image loaded number item s same there e is =
    for_slice (λ (t : Slice). partition_of item.row ≡ t.item.partition) image number item s there e (ap (λ (i : Image). slice i number) same ∙ is) refl

-- its number
pub slice_number : (image : Image) (number : ℕ) (s : Slice) → slice image number ≡ Some s → number ≡ s.number
slice_number image number s is = ap (λ (t : Slice). t.number) (sliced image number s is).2

-- ---- the ports of a row

few_words : (before rows : List PortRow) → EachBeside (IsPort third_limits) before rows → All (λ (x : PortRow). x.words ≤ MOST_WORDS) rows
few_words before [] h = All-nil (λ (x : PortRow). x.words ≤ MOST_WORDS)
few_words before (x ∷ rows) h = All-cons (λ (y : PortRow). y.words ≤ MOST_WORDS) x rows h.0.words.most (few_words (before ++ x ∷ []) rows h.1)

rows_have_ports : (frame : ℕ) (before : List Item) (items : List PartitionItem) → EachBeside (IsItem third_limits frame) before (items_of items) → (place : ℕ) (item : PartitionItem) → slice_get items place ≡ Some item → HasPorts (partition_of item.row)
rows_have_ports frame before [] h place item e = absurd (none-some item e)
rows_have_ports frame before (i ∷ items) h zero item e =
    subst (λ (j : PartitionItem). HasPorts (partition_of j.row)) (same_Some i item e) (record { count = h.0.partition.port_count.most; words = few_words [] i.row.ports.items h.0.partition.ports })
rows_have_ports frame before (i ∷ items) h (suc place) item e = rows_have_ports frame (before ++ item_of i ∷ []) items h.1 place item e

pub has_ports : (image : code.Image) (place : ℕ) (item : PartitionItem) → slice_get image.partitions.items place ≡ Some item → HasPorts (partition_of item.row)
has_ports image place item e = rows_have_ports image.schedule.frame [] image.partitions.items (items_widened (image_of image) image.lawful.limits) place item e

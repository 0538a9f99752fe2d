-- Isolation, for every lawful image.
use Rattle.isolation.proofs.Prelude.{◌≡◌, ℕ, zero, suc, ◌+◌, Bool, true, false, cond, List, ◌∷◌, map, Option, Some, None, Ok, sym, ◌∙◌, arith, slice_get, filter, option_map, ◌==◌, costs_of, Costs, DeviceLine, WindowRow, verdict_for, Item, Image, at_number, IsLawful, partitions_in, slice_get-map, MachineControl, Member, fixed_of, machine_members, Schedule, schedule_of_partition, lawful_owner, lawful_end, InputLine, part, Slice, slice, machine_inputs}
use Rattle.std.proofs.Common.{[], refl, ap, subst}
use Rattle.machine_meaning.specs.MachineMeaning.{machine_member, machine_module, machine_trace}
use Rattle.isolation.specs.Slices.{slice_of, slice_trace}
use Rattle.isolation.proofs.Isolated.{isolated}
use Rattle.isolation.proofs.OfImage.{name_in, image_apart, image_all_apart, image_ends}
use Rattle.isolation.proofs.Ways.{isolates}
use Rattle.isolation.proofs.Steps.{name_of, same_some}
use Rattle.isolation.proofs.TakenLines.{accepted_from_device}
use Rattle.isolation.proofs.Tick.{IsIsolating}

pub filter_twice : {A : Type 0} (test : A → Bool) (xs : List A) → filter test (filter test xs) ≡ filter test xs
filter_twice test [] = refl
filter_twice {A = A} test (x ∷ xs) = either (test x) refl (filter_twice test xs)
  where
    either : (b : Bool) → test x ≡ b → filter test (filter test xs) ≡ filter test xs → filter test (cond b (x ∷ filter test xs) (filter test xs)) ≡ cond b (x ∷ filter test xs) (filter test xs)
    either true e h = ap (λ (c : Bool). cond c (x ∷ filter test (filter test xs)) (filter test (filter test xs))) e ∙ ap (λ (ys : List A). x ∷ ys) h
    either false e h = h

-- a partition's record in the machine
abbrev pub record_of : Costs → Schedule → ℕ → Item → Member MachineControl
record_of k s n i = machine_member k (fixed_of s n i.partition) i.partition.ports i.section

pub members_at : (k : Costs) (s : Schedule) (n : ℕ) (items : List Item) (place : ℕ) (item : Item) → slice_get items place ≡ Some item → slice_get (machine_members k s n items) place ≡ Some (record_of k s (n + place) item)
members_at k s n [] place item e = absurd (cc)
members_at k s n (i ∷ is) zero item e = ap (λ (o : Option Item). elim o [ None ↦ None | Some j ↦ Some (record_of k s n j) ]) e ∙ ap (λ (m : ℕ). Some (record_of k s m item)) (plain n)
  where
    plain : (n : ℕ) → n ≡ n + 0
    plain n = omega arith
members_at k s n (i ∷ is) (suc place) item e = members_at k s (n + 1) is place item e ∙ ap (λ (m : ℕ). Some (record_of k s m item)) (turned n place)
  where
    turned : (n p : ℕ) → n + 1 + p ≡ n + suc p
    turned n p = omega arith

pub members_named : (k : Costs) (s : Schedule) (n : ℕ) (items : List Item) → map name_of (machine_members k s n items) ≡ map name_in items
members_named k s n [] = refl
members_named k s n (i ∷ is) = ap (λ (ns : List (List ℕ)). name_in i ∷ ns) (members_named k s (n + 1) is)

-- its own windows give the same record
pub same_record : (k : Costs) (s : Schedule) (p : ℕ) (item : Item) → record_of k s p item ≡ record_of k (schedule_of_partition p s) p item
same_record k s p item = ap (λ (ws : List WindowRow). machine_member k (record { name = item.partition.name; number = p; period = item.partition.period; duration = item.partition.duration; schedule = record { frame = s.frame; windows = ws }; health = item.partition.health }) item.partition.ports item.section) (sym (filter_twice (λ w. w.partition.0 == p) s.windows))

image_isolates : (image : Image) → IsLawful image → (p : ℕ) (item : Item) → at_number image.items p ≡ Some item → IsIsolating (machine_module image).plan p item.partition.ports
image_isolates image lawful p item e =
    let right = image_ends image lawful in
    isolates (partitions_in image) image.schedule image.channels image.fault (λ at. lawful_owner image at lawful) (λ at. lawful_end image at lawful) right.0 right.1 p item.partition (row_at image.items p item e)
  where
    row_at : (items : List Item) (p : ℕ) (item : Item) → at_number items p ≡ Some item → at_number (map (λ (i : Item). i.partition) items) p ≡ Some item.partition
    row_at items zero item e = absurd (cc)
    row_at items (suc place) item e = slice_get-map (λ (i : Item). i.partition) items place ∙ ap (option_map (λ (i : Item). i.partition)) e

-- A partition's part of the trace of an image is the trace that it has on its own, from its slice and its inputs.
isolation : (image : Image) (text : List ℕ) (lines : List DeviceLine) (p : ℕ) (item : Item) (n : ℕ)
    → IsLawful image → verdict_for image text ≡ Ok lines → at_number image.items p ≡ Some item
    → part (name_in item) (machine_trace image lines n) ≡ slice_trace (slice_of image p item) (machine_inputs image p lines n) n
isolation image text lines zero item n lawful taken e = absurd (cc)
isolation image text lines (suc place) item n lawful taken e =
    let k = costs_of image.version in
    let members = machine_members k image.schedule 1 image.items in
    isolated {C = MachineControl} (name_in item) place (map name_in image.items) (image_apart image lawful place item e) (image_all_apart image lawful) (machine_module image).plan item.partition.ports (image_isolates image lawful (suc place) item e) lines (accepted_from_device image text lines taken)
    members (record_of k (schedule_of_partition (suc place) image.schedule) (suc place) item)
    (record {
      own = members_at k image.schedule 1 image.items place item e ∙ ap (λ (m : ℕ). Some (record_of k image.schedule m item)) (first place) ∙ ap (λ (x : Member MachineControl). Some x) (same_record k image.schedule (suc place) item);
      named = members_named k image.schedule 1 image.items;
    }) n
  where
    first : (p : ℕ) → 1 + p ≡ suc p
    first p = omega arith

pub sliced : (image : Image) (p : ℕ) (s : Slice) → slice image p ≡ Some s → (item : Item) × (at_number image.items p ≡ Some item) × (slice_of image p item ≡ s)
sliced image p s e = there (at_number image.items p) refl e
  where
    there : (o : Option Item) → at_number image.items p ≡ o → option_map (slice_of image p) o ≡ Some s → (item : Item) × (at_number image.items p ≡ Some item) × (slice_of image p item ≡ s)
    there None k e = absurd (cc)
    there (Some item) k e = (item, k, same_some (slice_of image p item) s e)

-- the same by the slice
pub part_of_slice : (image : Image) (text : List ℕ) (lines : List DeviceLine) (p : ℕ) (s : Slice) (n : ℕ)
    → IsLawful image → verdict_for image text ≡ Ok lines → slice image p ≡ Some s
    → part s.item.partition.name (machine_trace image lines n) ≡ slice_trace s (machine_inputs image p lines n) n
part_of_slice image text lines p s n lawful taken e =
    let r = sliced image p s e in
    subst (λ (t : Slice). part t.item.partition.name (machine_trace image lines n) ≡ slice_trace t (machine_inputs image p lines n) n) r.2 (isolation image text lines p r.0 n lawful taken r.1)

pub same_slice : (one other : Image) (text words : List ℕ) (lines others : List DeviceLine) (p : ℕ) (s : Slice) (n : ℕ)
    → IsLawful one → IsLawful other → verdict_for one text ≡ Ok lines → verdict_for other words ≡ Ok others → slice one p ≡ Some s → slice other p ≡ Some s
    → machine_inputs one p lines n ≡ machine_inputs other p others n
    → part s.item.partition.name (machine_trace one lines n) ≡ part s.item.partition.name (machine_trace other others n)
same_slice one other text words lines others p s n l k t u e f same =
    part_of_slice one text lines p s n l t e ∙ ap (λ (is : List InputLine). slice_trace s is n) same ∙ sym (part_of_slice other words others p s n k u f)

-- The inputs of a run of a lawful image are allowed, and have a text that is accepted and means
-- them.
use Rattle.isolation.proofs.Prelude.{◌≡◌, sym, ℕ, zero, suc, ◌+◌, ◌≤◌, List, ◌∷◌, ◌++◌, length, map, Option, Some, None, Ok, ◌∙◌, arith, slice_get, is_some, option_map, slice_get-map, third_limits, MOST_DEVICE_LINES, MOST_TICKS, MOST_WORDS, costs_of, Costs, DeviceLine, PortRow, verdict_for, Partition, at_number, Item, Image, EachBeside, IsItem, IsLawful, IsPort, partitions_in, MachineControl, first_tick, Member, fixed_of, machine_members, Schedule, lawful_owner, lawful_end, HasNames, AreInputs, AreWritable, replay_text, Slice, slice, machine_inputs, items_widened}
use Rattle.std.proofs.Common.{[], refl, ap, subst}
use Rattle.apex_types.specs.declared.codes.StartCondition.TheVariants as condition
use Rattle.machine_meaning.specs.Instructions.{reading}
use Rattle.machine_meaning.specs.MachineMeaning.{machine_body, machine_row, section_objects}
use Rattle.isolation.specs.ReplayText.{replay_verdict}
use Rattle.isolation.proofs.DeviceInputs.{text_allowed}
use Rattle.isolation.proofs.HandedIn.{machine_keeps_within}
use Rattle.isolation.proofs.Holding.{AreDelivered, IsKept, are_inputs}
use Rattle.isolation.proofs.InputsOf.{inputs_allowed}
use Rattle.isolation.proofs.InputTexts.{text_again}
use Rattle.isolation.proofs.Law.{record_of, members_at, members_named, sliced}
use Rattle.isolation.proofs.OfImage.{name_in, item_at, image_apart, image_all_apart, image_ends}
use Rattle.isolation.proofs.PortRows.{AreShort}
use Rattle.isolation.proofs.Sounds.{IsSoundMember, fresh_sound, starts_sound, breaks_sound, port_leaves_sound, port_admits_sound, port_arrives_sound}
use Rattle.isolation.proofs.Steps.{same_some, starts_same}
use Rattle.isolation.proofs.TakenLines.{accepted_from_device}
use Rattle.isolation.proofs.TickSound.{tick_sound}
use Rattle.isolation.proofs.Ways.{ports_in}

-- ---- the facts of a lawful image about a partition's row
names_in : (frame : ℕ) (before items : List Item) → EachBeside (IsItem third_limits frame) before items → (k : ℕ) (item : Item) → slice_get items k ≡ Some item → HasNames item.partition
names_in frame before [] each k item e = absurd (cc)
names_in frame before (i ∷ is) each zero item e = subst (λ (x : Item). HasNames x.partition) (same_some i item e) (record { name = each.0.partition.name; ports = each.0.partition.ports })
names_in frame before (i ∷ is) each (suc k) item e = names_in frame (before ++ i ∷ []) is each.1 k item e

item_names : (image : Image) → IsLawful image → (p : ℕ) (item : Item) → at_number image.items p ≡ Some item → HasNames item.partition
item_names image lawful zero item e = absurd (cc)
item_names image lawful (suc place) item e = names_in image.schedule.frame [] image.items (items_widened image lawful.limits) place item e

-- its ports take 16 words at most
are_short : (before rows : List PortRow) → EachBeside (IsPort third_limits) before rows → AreShort rows
are_short before [] each k x e = absurd (cc)
are_short before (r ∷ rs) each zero x e = subst (λ (y : PortRow). y.words ≤ MOST_WORDS) (same_some r x e) each.0.words.most
are_short before (r ∷ rs) each (suc k) x e = are_short (before ++ r ∷ []) rs each.1 k x e

row_short : (image : Image) → IsLawful image → (place : ℕ) (row : Partition) → slice_get (partitions_in image) place ≡ Some row → AreShort row.ports
row_short image lawful place row e = there (slice_get image.items place) refl (sym (slice_get-map (λ (it : Item). it.partition) image.items place) ∙ e)
  where
    there : (o : Option Item) → slice_get image.items place ≡ o → option_map (λ (it : Item). it.partition) o ≡ Some row → AreShort row.ports
    there None k f = absurd (cc)
    there (Some item) k f = subst (λ (r : Partition). AreShort r.ports) (same_some item.partition row f) (are_short [] item.partition.ports (names_in image.schedule.frame [] image.items (items_widened image lawful.limits) place item k).ports)

-- ---- the invariant of each partition
-- the ports of the partition at a place
abbrev ports_at : Image → ℕ → List PortRow
ports_at image place = ports_in (slice_get (partitions_in image) place)

-- each step of a partition keeps it
kept_sound : {C : Type 0} (row : Partition) → AreShort row.ports → IsKept {C = C} row (λ x. IsSoundMember row.ports x)
kept_sound row short = record {
  holds = λ x h. h.kernel.holding;
  starts = λ at c x h. record { kernel = starts_sound row.ports at c x h.kernel; engine = h.engine };
  breaks = λ at x h. record { kernel = breaks_sound row.ports at x h.kernel; engine = h.engine };
  ticks = λ at x h. record { kernel = tick_sound row.ports short x.engine h.engine at x.world h.kernel; engine = h.engine };
  leaves = λ at port x h. record { kernel = port_leaves_sound row.ports at port x h.kernel; engine = h.engine };
  admits = λ at port x h. record { kernel = port_admits_sound row.ports at port x h.kernel; engine = h.engine };
  arrives = λ at port m a x h. record { kernel = port_arrives_sound row.ports at port m a.at a.there a.taken x h.kernel; engine = h.engine };
}

place_kept : (image : Image) → IsLawful image → (place : ℕ) (row : Partition) → slice_get (partitions_in image) place ≡ Some row → IsKept {C = MachineControl} row (λ x. IsSoundMember (ports_at image place) x)
place_kept image lawful place row e = subst (λ (o : Option Partition). IsKept {C = MachineControl} row (λ x. IsSoundMember (ports_in o) x)) (sym e) (kept_sound row (row_short image lawful place row e))

-- each partition has the invariant at first
first_sound : (k : Costs) (s : Schedule) (n : ℕ) (items : List Item) (place : ℕ) (x : Member MachineControl) → slice_get (machine_members k s n items) place ≡ Some x → IsSoundMember (ports_in (slice_get (map (λ (it : Item). it.partition) items) place)) x
first_sound k s n [] place x e = absurd (cc)
first_sound k s n (i ∷ is) zero x e =
    subst (λ (y : Member MachineControl). IsSoundMember i.partition.ports y) (same_some (record_of k s n i) x e)
    (record {
      kernel = fresh_sound i.partition.ports (fixed_of s n i.partition) (map machine_row i.section.processes) (section_objects i.section) (is_some i.section.handler);
      engine = machine_keeps_within k (map reading i.section.code) i.section.routines (machine_body i.section);
    })
first_sound k s n (i ∷ is) (suc place) x e = first_sound k s (n + 1) is place x e

-- ---- the law
-- the inputs that a run brings a partition, except for the values of the words
are_delivered : (image : Image) (text : List ℕ) (lines : List DeviceLine) (p : ℕ) (item : Item) (n : ℕ)
    → IsLawful image → verdict_for image text ≡ Ok lines → at_number image.items p ≡ Some item → n ≤ MOST_TICKS → AreDelivered item.partition 0 (machine_inputs image p lines n)
are_delivered image text lines zero item n lawful taken e few = absurd (cc)
are_delivered image text lines (suc place) item n lawful taken e few =
    let k = costs_of image.version in
    let members = machine_members k image.schedule 1 image.items in
    let right = image_ends image lawful in
    let own = members_at k image.schedule 1 image.items place item e in
    inputs_allowed {C = MachineControl} (map name_in image.items) (image_all_apart image lawful) (partitions_in image)
    (λ q name f. let a = item_at image.items q name f in (a.0.partition, row_at q a.0 a.1))
    image.schedule image.channels image.fault (λ at. lawful_owner image at lawful) (λ at. lawful_end image at lawful) right.0 right.1 lines (accepted_from_device image text lines taken)
    (λ q row f. text_allowed (partitions_in image) image.schedule image.channels image.fault right.0 right.1 q row f text lines taken)
    (λ q x. IsSoundMember (ports_at image q) x) (place_kept image lawful) place item.partition (row_at place item e) n (omega (arith, few)) members (record_of k image.schedule (1 + place) item) own
    (starts_same (name_in item) place (map name_in image.items) (image_apart image lawful place item e) first_tick condition.NormalStart members (record_of k image.schedule (1 + place) item) (record { own = own; named = members_named k image.schedule 1 image.items })).state.named
    (first_sound k image.schedule 1 image.items)
  where
    row_at : (q : ℕ) (i : Item) → slice_get image.items q ≡ Some i → slice_get (partitions_in image) q ≡ Some i.partition
    row_at q i f = slice_get-map (λ (it : Item). it.partition) image.items q ∙ ap (option_map (λ (it : Item). it.partition)) f

-- The inputs that a run of a lawful image brings a partition are allowed, if all their words are
-- words of 64 bits.
pub inputs_allowed_of_run : (image : Image) (text : List ℕ) (lines : List DeviceLine) (p : ℕ) (s : Slice) (n : ℕ)
    → IsLawful image → verdict_for image text ≡ Ok lines → slice image p ≡ Some s → n ≤ MOST_TICKS → AreWritable (machine_inputs image p lines n) → AreInputs s.item.partition 0 (machine_inputs image p lines n)
inputs_allowed_of_run image text lines p s n lawful taken e few words =
    let r = sliced image p s e in
    subst (λ (t : Slice). AreInputs t.item.partition 0 (machine_inputs image p lines n)) r.2
    (are_inputs r.0.partition 0 (machine_inputs image p lines n) (are_delivered image text lines p r.0 n lawful taken r.1 few) words)

-- At most 65,536 of them have a text that is accepted and means them.
pub inputs_read_again : (image : Image) (text : List ℕ) (lines : List DeviceLine) (p : ℕ) (s : Slice) (n : ℕ)
    → IsLawful image → verdict_for image text ≡ Ok lines → slice image p ≡ Some s → n ≤ MOST_TICKS → AreWritable (machine_inputs image p lines n) → length (machine_inputs image p lines n) ≤ MOST_DEVICE_LINES
    → replay_verdict s.item.partition (replay_text s.item.partition (machine_inputs image p lines n)) ≡ Ok (machine_inputs image p lines n)
inputs_read_again image text lines p s n lawful taken e few words room =
    let r = sliced image p s e in
    text_again s.item.partition (machine_inputs image p lines n) (subst (λ (t : Slice). HasNames t.item.partition) r.2 (item_names image lawful p r.0 r.1))
    (inputs_allowed_of_run image text lines p s n lawful taken e few words) room

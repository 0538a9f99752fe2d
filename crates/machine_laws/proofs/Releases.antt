-- Each partition of an accepted table, and of a lawful image, has a next release, which its own windows give. At most
-- one window holds a tick, and at most one ends at it.
use Rattle.std.proofs.Common.{◌≡◌, ℕ, suc, ◌+◌, ◌≤◌, ◌<◌, min, Bool, true, false, cond, not, nat_le, List, [], ◌∷◌, ◌++◌, length, Ok, refl, sym, ap, ◌∙◌, arith, inl, inr, ◌⊎◌, subst}
use Rattle.std.specs.Prelude.{◌||◌, ◌&&◌, ◌==◌, nat_lt, filter}
use Rattle.std.specs.List.{list_any}
use Rattle.std.proofs.lemmas.Bool.{or_parts, and_parts, not-false, not-true, ltb-false, leb-true, leb-false}
use Rattle.std.proofs.lemmas.List.{length-map}
use Rattle.apex_types.specs.declared.identity.At.{At}
use Rattle.apex_types.specs.declared.row.WindowRow.{WindowRow}
use Rattle.toml.specs.Data.{Members}
use Rattle.module_meaning.specs.Table.{Table, Partition}
use Rattle.machine_meaning.specs.Image.{Item, Image}
use Rattle.machine_meaning.specs.ImageReading.{last_end, partitions_in}
use Rattle.machine_meaning.specs.ImageLimits.{EachBeside, IsWindow, IsLawful}
use Rattle.module_meaning.specs.Table.{has_odd_period, has_short_period, lacks_release_from, lacks_release, has_wrong_ends}
use Rattle.module_meaning.specs.ImageRules.{is_wrong_window, has_wrong_window, has_unknown_port}
use Rattle.module_meaning.specs.TableRules.{verdict}
use Rattle.kernel_meaning.specs.Kernel.{Kernel, Fixed}
use Rattle.kernel_meaning.specs.PartitionServices.{next_release_of}
use Rattle.module_meaning.specs.Table.{fixed_of}
use Rattle.kernel_meaning.specs.Windows.{Schedule, schedule_of_partition, releases, has_release, until_start, until_one_of, next_release}
use Rattle.kernel_meaning.specs.WindowFacts.{HasOneOwner, HasOneEnd, IsNextRelease}
use Rattle.machine_laws.proofs.AcceptedTable.{accepted_table, last_of, table_in_order}
use Rattle.kernel_laws.proofs.NextRelease.{is_next_release}
use Rattle.kernel_laws.proofs.WindowOrder.{AreInOrder, begin_within, one_owner, one_end}

first_or_later : (n k m : ℕ) → n ≤ k → k < n + suc m → (n ≡ k) ⊎ (n + 1 ≤ k)
first_or_later n k m least most = compare (nat_le (n + 1) k) refl
  where
    compare : (b : Bool) → nat_le (n + 1) k ≡ b → (n ≡ k) ⊎ (n + 1 ≤ k)
    compare true e = inr (leb-true (n + 1) k e)
    compare false e = let h = leb-false (n + 1) k e in inl (omega arith)

-- of partitions that are numbered from a number on
released : (n : ℕ) (ws : List WindowRow) (ps : List Partition) (k : ℕ) → lacks_release_from n ws ps ≡ false → n ≤ k → k < n + length ps → has_release ws k ≡ true
unfolding lacks_release_from
released n ws [] k h least most = absurd (omega arith)
released n ws (p ∷ ps) k h least most =
    let parts = or_parts (not (has_release ws n)) (lacks_release_from (n + 1) ws ps) h in
    elim (first_or_later n k (length ps) least most) [
      | inl e ↦ subst (λ (m : ℕ). has_release ws m ≡ true) e (not-false (has_release ws n) parts.0)
      | inr l ↦ released (n + 1) ws ps k parts.1 l (omega arith)
    ]

pub accepted_releases : (ms : Members) (t : Table) (p : ℕ) (at : At) → verdict ms ≡ Ok t → 1 ≤ p → p ≤ length t.partitions → at.origin.0 ≤ at.now.0 → IsNextRelease t.schedule p at (next_release t.schedule p at)
accepted_releases ms t p at h least most past =
    let a = accepted_table ms t h in
    let order = table_in_order a.0 t a.1 in
    is_next_release t.schedule p at order.0 past (begin_within t.schedule.frame 0 t.schedule.windows order.1) (released 1 t.schedule.windows t.partitions p a.1.releases least (omega arith))

-- ---- images

in_order : (frame count low : ℕ) (before ws : List WindowRow) → EachBeside IsWindow before ws → list_any (is_wrong_window frame count) ws ≡ false → last_end before ≡ low → AreInOrder frame low ws
in_order frame count low before [] each none e = tt
in_order frame count low before (w ∷ ws) each none e =
    let parts = or_parts (is_wrong_window frame count w) (list_any (is_wrong_window frame count) ws) none in
    let ends = or_parts (nat_lt w.partition.0 1 || nat_lt count w.partition.0) (nat_lt frame (w.offset + w.length)) parts.0 in
    (subst (λ (n : ℕ). n ≤ w.offset) e each.0.after, each.0.length.least, ltb-false frame (w.offset + w.length) ends.1, in_order frame count (w.offset + w.length) (before ++ w ∷ []) ws each.1 parts.1 (last_of before w))

-- the windows of an image whose fields are within their limits, if none is wrong
pub windows_in_order : (frame count : ℕ) (ws : List WindowRow) → EachBeside IsWindow [] ws → list_any (is_wrong_window frame count) ws ≡ false → AreInOrder frame 0 ws
windows_in_order frame count ws each none = in_order frame count 0 [] ws each none refl

kept_rows : (a b c d e f : Bool) → (not a && not b && not c && not d && not e && not f) ≡ true → (a ≡ false) × (d ≡ false)
kept_rows a b c d e f h =
    let five = and_parts (not a && not b && not c && not d && not e) (not f) h in
    let four = and_parts (not a && not b && not c && not d) (not e) five.0 in
    let three = and_parts (not a && not b && not c) (not d) four.0 in
    let two = and_parts (not a && not b) (not c) three.0 in
    let one = and_parts (not a) (not b) two.0 in
    (not-true a one.0, not-true d three.1)

pub kept_in : (image : Image) → IsLawful image → (has_wrong_window image.schedule (length (partitions_in image)) ≡ false) × (lacks_release image.schedule.windows (partitions_in image) ≡ false)
kept_in image h =
    let ps = partitions_in image in
    kept_rows (has_wrong_window image.schedule (length ps)) (has_odd_period image.schedule.frame ps) (has_short_period image.schedule ps) (lacks_release image.schedule.windows ps) (has_unknown_port ps image.channels) (has_wrong_ends ps image.channels) h.rules

lawful_in_order : (image : Image) → IsLawful image → AreInOrder image.schedule.frame 0 image.schedule.windows
lawful_in_order image h = in_order image.schedule.frame (length (partitions_in image)) 0 [] image.schedule.windows h.limits.windows (kept_in image h).0 refl

pub lawful_releases : (image : Image) (p : ℕ) (at : At) → IsLawful image → 1 ≤ p → p ≤ length image.items → at.origin.0 ≤ at.now.0 → IsNextRelease image.schedule p at (next_release image.schedule p at)
lawful_releases image p at h least most past =
    let same = length-map image.items (λ (it : Item). it.partition) in
    is_next_release image.schedule p at h.limits.frame.least past (begin_within image.schedule.frame 0 image.schedule.windows (lawful_in_order image h)) (released 1 image.schedule.windows (partitions_in image) p (kept_in image h).1 least (omega (arith, same)))

-- ---- a partition's own windows

abbrev is_own : ℕ → WindowRow → Bool
is_own p w = w.partition.0 == p

never : (b : Bool) → (b && false) ≡ false
never true = refl
never false = refl

-- the partition's own windows determine how long it is until one of its release windows
until_own : (p : ℕ) (s : Schedule) (at : At) (ws : List WindowRow) → until_one_of (schedule_of_partition p s) p at (filter (is_own p) ws) ≡ until_one_of s p at ws
until_own p s at [] = refl
until_own p s at (w ∷ ws) = either (is_own p w) refl (until_own p s at ws)
  where
    either : (b : Bool) → is_own p w ≡ b → until_one_of (schedule_of_partition p s) p at (filter (is_own p) ws) ≡ until_one_of s p at ws → until_one_of (schedule_of_partition p s) p at (cond b (w ∷ filter (is_own p) ws) (filter (is_own p) ws)) ≡ until_one_of s p at (w ∷ ws)
    either true e rest = ap (λ (n : ℕ). cond (releases p w) (min (until_start s w at) n) n) rest
    either false e rest = rest ∙ sym (ap (λ (b : Bool). cond b (min (until_start s w at) (until_one_of s p at ws)) (until_one_of s p at ws)) (ap (λ (b : Bool). w.release && b) e ∙ never w.release))

-- the release that the kernel of a partition computes is the release by all windows
kernel_release : (p : ℕ) (s : Schedule) (row : Partition) (k : Kernel) (at : At) → k.fixed ≡ fixed_of s p row → next_release s p at ≡ next_release_of at k
kernel_release p s row k at e = sym (ap (λ (f : Fixed). next_release f.schedule f.number at) e ∙ ap (λ (n : ℕ). at.now.0 + n) (until_own p s at s.windows))

pub accepted_release_of : (ms : Members) (t : Table) (p : ℕ) (row : Partition) (k : Kernel) (at : At) → verdict ms ≡ Ok t → 1 ≤ p → p ≤ length t.partitions → k.fixed ≡ fixed_of t.schedule p row → at.origin.0 ≤ at.now.0 → IsNextRelease t.schedule p at (next_release_of at k)
accepted_release_of ms t p row k at h least most is past = subst (IsNextRelease t.schedule p at) (kernel_release p t.schedule row k at is) (accepted_releases ms t p at h least most past)

pub lawful_release_of : (image : Image) (p : ℕ) (row : Partition) (k : Kernel) (at : At) → IsLawful image → 1 ≤ p → p ≤ length image.items → k.fixed ≡ fixed_of image.schedule p row → at.origin.0 ≤ at.now.0 → IsNextRelease image.schedule p at (next_release_of at k)
lawful_release_of image p row k at h least most is past = subst (IsNextRelease image.schedule p at) (kernel_release p image.schedule row k at is) (lawful_releases image p at h least most past)

-- ---- one owner, one end

pub accepted_owner : (ms : Members) (t : Table) (at : At) → verdict ms ≡ Ok t → HasOneOwner t.schedule at
accepted_owner ms t at h = let a = accepted_table ms t h in one_owner t.schedule at (table_in_order a.0 t a.1).1

pub accepted_end : (ms : Members) (t : Table) (at : At) → verdict ms ≡ Ok t → HasOneEnd t.schedule at
accepted_end ms t at h = let a = accepted_table ms t h in one_end t.schedule at (table_in_order a.0 t a.1).1

pub lawful_owner : (image : Image) (at : At) → IsLawful image → HasOneOwner image.schedule at
lawful_owner image at h = one_owner image.schedule at (lawful_in_order image h)

pub lawful_end : (image : Image) (at : At) → IsLawful image → HasOneEnd image.schedule at
lawful_end image at h = one_end image.schedule at (lawful_in_order image h)

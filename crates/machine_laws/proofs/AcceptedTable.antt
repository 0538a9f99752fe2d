-- An accepted module table is within the limits of an image.
use Rattle.std.proofs.Common.{◌≡◌, ℕ, suc, ◌+◌, ◌-◌, ◌≤◌, ◌<◌, ◌^◌, ℤ, pos, negsuc, nat_abs, Bool, true, false, not, cond, List, [], ◌∷◌, ◌++◌, length, map, Option, Some, None, Result, Ok, Err, refl, sym, ap, ◌∙◌, subst, arith, length-append}
use Rattle.std.specs.Prelude.{◌||◌, ◌==◌, ◌+ℤ◌, slice_get, nat_lt, int_lt, bytes_eq, is_none, codes, unwrap_or}
use Rattle.std.specs.List.{list_any, AllByRecursion, All}
use Rattle.std.proofs.lemmas.Bool.{not-false, ltb-false, or_parts, or_from, and_left, ne_eqb}
use Rattle.std.proofs.lemmas.List.{length-map}
use Rattle.std.proofs.lemmas.List.Folds.{list_any-append}
use Rattle.apex_types.specs.Versions.{third_limits}
use Rattle.apex_types.specs.declared.version.ImageVersion.TheVariants.{Third}
use Rattle.apex_types.specs.declared.limits.TheConstants.{MOST_CHANNELS, MOST_DEPTH, MOST_DESTINATIONS, MOST_FRAME_TICKS, MOST_PARTITIONS, MOST_PORTS, MOST_TICKS, MOST_WINDOWS, MOST_WORDS}
use Rattle.apex_types.specs.NameText.{is_name}
use Rattle.apex_types.specs.declared.row.PortRow.{PortRow}
use Rattle.apex_types.specs.declared.row.WindowRow.{WindowRow}
use Rattle.apex_types.specs.declared.row.ChannelEnd.{ChannelEnd}
use Rattle.apex_types.specs.declared.row.ChannelEnd.TheVariants as ends
use Rattle.toml.specs.Data.{Members}
use Rattle.module_meaning.specs.Table.{Table, Partition, Channel, has_twice, has_odd_period, has_short_period, lacks_release, has_wrong_ends}
use Rattle.machine_meaning.specs.Image.{Item, Image}
use Rattle.module_meaning.specs.TableRules.{same, KindText, Sampling, Queuing, PortText, PartitionText, WindowText, ChannelText, TableText, table_text_of, Refusal, Shape, is_outside, is_count_outside, exceeds_kind, exceeds_port, exceeds_times, has_many_ports, exceeds_partition, exceeds_window, has_costs_outside, exceeds_channel, exceeds_counts, exceeds_rows, exceeds_limits, is_unknown_window, has_unknown_end, has_same_names, number_from, partition_number, port_number, port_from, end_of, has_unknown_name, window_row, channel_row, kind_row, port_row, partition_row, numbered, overlaps_after, overlaps, has_unknown_action, judge_table, judge_text, verdict}
use Rattle.kernel_meaning.specs.Windows.{Schedule}
use Rattle.machine_meaning.specs.ImageReading.{last_end, end_of as image_end}
use Rattle.machine_meaning.specs.ImageLimits.{IsFrom, EachBeside, IsPortKind, IsPort, IsSection, IsItem, IsWindow, IsEnd, IsChannel, IsWithinLimits}
use Rattle.machine_meaning.proofs.Beside.{at_seam, each_beside, each_at}
use Rattle.kernel_laws.proofs.WindowOrder.{AreInOrder}
use Rattle.kernel_laws.proofs.TableWindows.{window_keeps, windows_in_order}

-- ---- the verdict

-- a rule that was not broken
rule_held : {A B : Type 0} (b : Bool) (e : B) (x : Result A B) (r : A) → cond b (Err e) x ≡ Ok r → (b ≡ false) × (x ≡ Ok r)
rule_held true e x r h = absurd cc
rule_held false e x r h = (refl, h)

-- the rules that an accepted table keeps, with its text
pub record AcceptedTable (text : TableText) (t : Table) : Type 0 where
  pub limits : exceeds_limits text ≡ false
  pub names : has_same_names text ≡ false
  pub known : has_unknown_name text ≡ false
  pub apart : overlaps text ≡ false
  pub periods : has_odd_period t.schedule.frame t.partitions ≡ false
  pub durations : has_short_period t.schedule t.partitions ≡ false
  pub releases : lacks_release t.schedule.windows t.partitions ≡ false
  pub ends : has_wrong_ends t.partitions t.channels ≡ false
  pub is : numbered text ≡ t

judged : (text : TableText) (t : Table) → judge_text text ≡ Ok t → AcceptedTable text t
unfolding judge_text judge_table
judged text t h =
    let n = numbered text in
    let limits = rule_held (exceeds_limits text) _ _ t h in
    let names = rule_held (has_same_names text || has_unknown_name text) _ _ t limits.1 in
    let both = or_parts (has_same_names text) (has_unknown_name text) names.0 in
    let apart = rule_held (overlaps text) _ _ t names.1 in
    let periods = rule_held (has_odd_period n.schedule.frame n.partitions) _ _ t apart.1 in
    let durations = rule_held (has_short_period n.schedule n.partitions) _ _ t periods.1 in
    let releases = rule_held (lacks_release n.schedule.windows n.partitions) _ _ t durations.1 in
    let ends = rule_held (has_wrong_ends n.partitions n.channels) _ _ t releases.1 in
    let actions = rule_held (has_unknown_action text) _ _ t ends.1 in
    let is : n ≡ t = cc in
    record {
      limits = limits.0;
      names = both.0;
      known = both.1;
      apart = apart.0;
      periods = subst (λ (x : Table). has_odd_period x.schedule.frame x.partitions ≡ false) is periods.0;
      durations = subst (λ (x : Table). has_short_period x.schedule x.partitions ≡ false) is durations.0;
      releases = subst (λ (x : Table). lacks_release x.schedule.windows x.partitions ≡ false) is releases.0;
      ends = subst (λ (x : Table). has_wrong_ends x.partitions x.channels ≡ false) is ends.0;
      is = is;
    }

abbrev judged_option : Option TableText → Result Table Refusal
judged_option o = elim o [ None ↦ Err Shape | Some text ↦ judge_text text ]

text_there : (o : Option TableText) (t : Table) → judged_option o ≡ Ok t → (text : TableText) × AcceptedTable text t
text_there None t h = absurd cc
text_there (Some text) t h = (text, judged text t h)

pub accepted_table : (ms : Members) (t : Table) → verdict ms ≡ Ok t → (text : TableText) × AcceptedTable text t
unfolding verdict
accepted_table ms t h = text_there (table_text_of ms) t h

-- ---- lists

none_of : {A : Type 0} (test : A → Bool) (xs : List A) → list_any test xs ≡ false → AllByRecursion (λ x. test x ≡ false) xs
none_of test [] h = tt
none_of test (x ∷ xs) h = let parts = or_parts (test x) (list_any test xs) h in (parts.0, none_of test xs parts.1)

any_mapped : {A B : Type 0} (test : B → Bool) (f : A → B) (xs : List A) → list_any test (map f xs) ≡ list_any (λ x. test (f x)) xs
any_mapped test f [] = refl
any_mapped test f (x ∷ xs) = ap (λ b. test (f x) || b) (any_mapped test f xs)

map_more : {A B : Type 0} (f : A → B) (xs : List A) (x : A) → map f xs ++ f x ∷ [] ≡ map f (xs ++ x ∷ [])
map_more f [] x = refl
map_more f (y ∷ xs) x = ap (λ t. f y ∷ t) (map_more f xs x)

-- none of these has the name of one before
abbrev Apart : {A : Type 0} → (A → A → Bool) → List A → List A → Type 0
Apart equal before xs = AllByRecursion (λ x. list_any (λ b. equal b x) before ≡ false) xs

none_apart : {A : Type 0} (equal : A → A → Bool) (xs : List A) → Apart equal [] xs
none_apart equal [] = tt
none_apart equal (x ∷ xs) = (refl, none_apart equal xs)

apart_more : {A : Type 0} (equal : A → A → Bool) (before : List A) (x : A) (xs : List A) → Apart equal before xs → AllByRecursion (λ y. equal x y ≡ false) xs → Apart equal (before ++ x ∷ []) xs
apart_more equal before x [] a n = tt
apart_more equal before x (y ∷ xs) a n = (list_any-append (λ b. equal b y) before (x ∷ []) ∙ or_from _ _ a.0 (or_from (equal x y) false n.0 refl), apart_more equal before x xs a.1 n.1)

-- each row, given those before it, if no two have the same name
each_row : {A B : Type 0} (P : List B → B → Type 0) (Q : A → Type 0) (equal : A → A → Bool) (f : A → B) → ((before : List A) (x : A) → list_any (λ b. equal b x) before ≡ false → Q x → P (map f before) (f x))
    → (before xs : List A) → Apart equal before xs → has_twice equal xs ≡ false → AllByRecursion Q xs → EachBeside P (map f before) (map f xs)
unfolding has_twice
each_row P Q equal f row before [] a h q = tt
each_row P Q equal f row before (x ∷ xs) a h q =
    let parts = or_parts (list_any (equal x) xs) (has_twice equal xs) h in
    let rest = each_row P Q equal f row (before ++ x ∷ []) xs (apart_more equal before x xs a.1 (none_of (equal x) xs parts.0)) parts.1 q.1 in
    (row before x a.0 q.0, subst (λ (b : List _). EachBeside P b (map f xs)) (sym (map_more f before x)) rest)

-- ---- numbers

pub inside : (low : ℕ) (high z : ℤ) → is_outside low high z ≡ false → IsFrom low (nat_abs high) (nat_abs z)
inside low (pos h) (pos n) e = let parts = or_parts (nat_lt n low) (nat_lt h n) e in record { least = ltb-false n low parts.0; most = ltb-false h n parts.1 }
inside low (pos h) (negsuc n) e = absurd cc
inside low (negsuc h) (pos n) e = let t : true ≡ false = (or_parts (nat_lt n low) true e).1 in absurd cc
inside low (negsuc h) (negsuc n) e = absurd cc

count_inside : {A : Type 0} (low high : ℕ) (xs : List A) → is_count_outside low high xs ≡ false → IsFrom low high (length xs)
count_inside low high xs h = let parts = or_parts (nat_lt (length xs) low) (nat_lt high (length xs)) h in record { least = ltb-false (length xs) low parts.0; most = ltb-false high (length xs) parts.1 }

-- ---- ports and partitions

kind_inside : (k : KindText) → exceeds_kind k ≡ false → IsPortKind (kind_row k)
unfolding exceeds_kind
kind_inside (Sampling refresh) h = inside 0 (pos MOST_TICKS) refresh h
kind_inside (Queuing depth discipline) h = inside 1 (pos MOST_DEPTH) depth h

port_is : (before : List PortText) (p : PortText) → list_any (λ (b : PortText). same b.name p.name) before ≡ false → exceeds_port p ≡ false → IsPort third_limits (map port_row before) (port_row p)
unfolding exceeds_port
port_is before p fresh h =
    let k = or_parts _ (exceeds_kind p.kind) h in
    let n = or_parts (not (is_name p.name)) (is_outside 1 (pos MOST_WORDS) p.words) k.0 in
    record {
      name = not-false (is_name p.name) n.0;
      fresh = any_mapped (λ (row : PortRow). bytes_eq row.name p.name) port_row before ∙ fresh;
      kind = kind_inside p.kind k.1;
      words = inside 1 (pos MOST_WORDS) p.words n.1;
    }

-- a partition, given those before it
record IsRow (frame : ℕ) (before : List Partition) (row : Partition) : Type 0 where
  name : is_name row.name ≡ true
  fresh : list_any (λ (b : Partition). bytes_eq b.name row.name) before ≡ false
  period : IsFrom 1 frame row.period
  duration : IsFrom 0 row.period row.duration
  port_count : IsFrom 0 MOST_PORTS (length row.ports)
  ports : EachBeside (IsPort third_limits) [] row.ports

-- the rules that a partition of a text keeps
record KeepsRow (frame : ℤ) (p : PartitionText) : Type 0 where
  limits : exceeds_partition frame p ≡ false
  ports : has_twice (λ (q r : PortText). same q.name r.name) p.ports ≡ false

row_is : (frame : ℤ) (before : List PartitionText) (p : PartitionText) → list_any (λ (b : PartitionText). same b.name p.name) before ≡ false → KeepsRow frame p → IsRow (nat_abs frame) (map partition_row before) (partition_row p)
unfolding exceeds_partition
row_is frame before p fresh k =
    let ports = or_parts _ (list_any exceeds_port p.ports) k.limits in
    let many = or_parts _ (has_many_ports p) ports.0 in
    let times = or_parts (not (is_name p.name)) (exceeds_times frame p) many.0 in
    let each = or_parts (is_outside 1 frame p.period) (is_outside 0 p.period p.duration) times.1 in
    let few = count_inside 0 MOST_PORTS p.ports many.1 in
    record {
      name = not-false (is_name p.name) times.0;
      fresh = any_mapped (λ (row : Partition). bytes_eq row.name p.name) partition_row before ∙ fresh;
      period = inside 1 frame p.period each.0;
      duration = inside 0 p.period p.duration each.1;
      port_count = record { least = omega arith; most = omega (arith, few.most, length-map p.ports port_row) };
      ports = each_row (IsPort third_limits) (λ (q : PortText). exceeds_port q ≡ false) (λ (q r : PortText). same q.name r.name) port_row port_is [] p.ports (none_apart (λ (q r : PortText). same q.name r.name) p.ports) k.ports (none_of exceeds_port p.ports ports.1);
    }

keeps_rows : (frame : ℤ) (ps : List PartitionText) → list_any (exceeds_partition frame) ps ≡ false → list_any (λ (p : PartitionText). has_twice (λ (q r : PortText). same q.name r.name) p.ports) ps ≡ false → AllByRecursion (KeepsRow frame) ps
keeps_rows frame [] limits names = tt
keeps_rows frame (p ∷ ps) limits names =
    let l = or_parts (exceeds_partition frame p) (list_any (exceeds_partition frame) ps) limits in
    let n = or_parts (has_twice (λ (q r : PortText). same q.name r.name) p.ports) (list_any (λ (p : PartitionText). has_twice (λ (q r : PortText). same q.name r.name) p.ports) ps) names in
    (record { limits = l.0; ports = n.0 }, keeps_rows frame ps l.1 n.1)

-- the partitions of items, each with a lawful section
items_are : (frame : ℕ) (before items : List Item) → EachBeside (IsRow frame) (map (λ (it : Item). it.partition) before) (map (λ (it : Item). it.partition) items) → AllByRecursion (λ (it : Item). IsSection third_limits it.partition.period it.section) items → EachBeside (IsItem third_limits frame) before items
items_are frame before [] rows sections = tt
items_are frame before (it ∷ items) rows sections =
    let row = rows.0 in
    let fresh = sym (any_mapped (λ (b : Partition). bytes_eq b.name it.partition.name) (λ (b : Item). b.partition) before) ∙ row.fresh in (
      record {
        partition = record { name = row.name; fresh = fresh; period = row.period; duration = row.duration; port_count = row.port_count; ports = row.ports };
        section = sections.0;
      },
      items_are frame (before ++ it ∷ []) items (subst (λ (b : List Partition). EachBeside (IsRow frame) b (map (λ (i : Item). i.partition) items)) (map_more (λ (b : Item). b.partition) before it) rows.1) sections.1,
    )

-- ---- windows

last_there : (before : List WindowRow) (row : WindowRow) → slice_get (before ++ row ∷ []) (length (before ++ row ∷ []) - 1) ≡ Some row
last_there before row = at_seam before row [] (length (before ++ row ∷ []) - 1) (omega (arith, length-append before (row ∷ [])))

pub last_of : (before : List WindowRow) (row : WindowRow) → last_end (before ++ row ∷ []) ≡ row.offset + row.length
last_of before row = ap image_end (last_there before row)

number_first : (b : Bool) (n m k : ℕ) (o : Option ℕ) → (o ≡ Some k → (n + 1 ≤ k) × (k < n + 1 + m)) → cond b (Some n) o ≡ Some k → (n ≤ k) × (k < n + suc m)
number_first true n m k o rest h = let e : n ≡ k = cc in (omega (arith, e), omega (arith, e))
number_first false n m k o rest h = let r = rest h in (omega (arith, r.0), omega (arith, r.1))

-- the number of the first with the property
pub number_small : {A : Type 0} (n : ℕ) (test : A → Bool) (xs : List A) (k : ℕ) → number_from n test xs ≡ Some k → (n ≤ k) × (k < n + length xs)
unfolding number_from
number_small n test [] k h = absurd cc
number_small n test (x ∷ xs) k h = number_first (test x) n (length xs) k (number_from (n + 1) test xs) (λ e. number_small (n + 1) test xs k e) h

window_number_small : (ps : List PartitionText) (o : Option ℕ) → length ps ≤ MOST_PARTITIONS → ((k : ℕ) → o ≡ Some k → (1 ≤ k) × (k < 1 + length ps)) → unwrap_or o 0 < 2 ^ 8
window_number_small ps None few h = omega arith
window_number_small ps (Some k) few h = omega (arith, (h k refl).1)

windows_are : (ps : List PartitionText) (frame end : ℕ) (before : List WindowRow) (ws : List WindowText) → length ps ≤ MOST_PARTITIONS → frame ≤ MOST_FRAME_TICKS → last_end before ≡ end → overlaps_after (pos frame) (pos end) ws ≡ false → list_any exceeds_window ws ≡ false
    → EachBeside IsWindow before (map (window_row ps) ws) × AllByRecursion (λ (w : WindowRow). w.offset + w.length ≤ frame) (map (window_row ps) ws)
unfolding overlaps_after exceeds_window
windows_are ps frame end before [] few small at apart limits = (tt, tt)
windows_are ps frame end before (w ∷ ws) few small at apart limits =
    let a = or_parts _ (overlaps_after (pos frame) (w.offset +ℤ w.length) ws) apart in
    let b = or_parts (int_lt w.offset (pos end)) (int_lt (pos frame) (w.offset +ℤ w.length)) a.0 in
    let l = or_parts (exceeds_window w) (list_any exceeds_window ws) limits in
    let k = window_keeps frame end w.offset w.length l.0 b.0 b.1 in
    let row = window_row ps w in
    let next : overlaps_after (pos frame) (pos (nat_abs w.offset + nat_abs w.length)) ws ≡ false = subst (λ (z : ℤ). overlaps_after (pos frame) z ws ≡ false) k.next a.1 in
    let rest = windows_are ps frame (nat_abs w.offset + nat_abs w.length) (before ++ row ∷ []) ws few small (last_of before row) next l.1 in (
      (
        record {
          partition = window_number_small ps (partition_number ps w.partition) few (λ n h. number_small 1 _ ps n h);
          offset = omega (arith, k.room, k.some);
          after = omega (arith, at, k.after);
          length = record { least = k.some; most = omega (arith, k.room) };
        },
        rest.0,
      ),
      (k.room, rest.1),
    )

-- ---- channels

abbrev port_or : ℕ → Option ℕ → Option ChannelEnd → Option ChannelEnd
port_or n o rest = elim o [ Some q ↦ Some (ends.Port (record { 0 = n }) (record { 0 = q })) | None ↦ rest ]

not_zero : (n : ℕ) → 1 ≤ n → (n == 0) ≡ false
not_zero n h = ne_eqb n 0 (λ e. omega (arith, e))

port_end : (n : ℕ) (o : Option ℕ) (rest : Option ChannelEnd) (e : ChannelEnd) → 1 ≤ n → n < 2 ^ 8 → ((q : ℕ) → o ≡ Some q → q < 2 ^ 8) → (rest ≡ Some e → IsEnd e) → port_or n o rest ≡ Some e → IsEnd e
port_end n None rest e some few small others h = others h
port_end n (Some q) rest e some few small others h =
    let is : ends.Port (record { 0 = n }) (record { 0 = q }) ≡ e = cc in
    subst IsEnd is (few, small q refl, and_left (n == 0) (q == 0) (not_zero n some))

port_ends : (n : ℕ) (ps : List PartitionText) (text : List ℕ) (e : ChannelEnd) → 1 ≤ n → n + length ps ≤ 2 ^ 8 → AllByRecursion (λ (p : PartitionText). length p.ports ≤ MOST_PORTS) ps → port_from n ps text ≡ Some e → IsEnd e
unfolding port_from
port_ends n [] text e some few ports h = absurd cc
port_ends n (p ∷ ps) text e some few ports h =
    port_end n (port_number p text) (port_from (n + 1) ps text) e some (omega arith) (λ q k. omega (arith, (number_small 1 _ p.ports q k).1, ports.0)) (λ k. port_ends (n + 1) ps text e (omega arith) (omega arith) ports.1 k) h

device_or : (b : Bool) (rest : Option ChannelEnd) (e : ChannelEnd) → (rest ≡ Some e → IsEnd e) → cond b (Some ends.Device) rest ≡ Some e → IsEnd e
device_or true rest e others h = let is : ends.Device ≡ e = cc in subst IsEnd is tt
device_or false rest e others h = others h

end_is : (o : Option ChannelEnd) → ((e : ChannelEnd) → o ≡ Some e → IsEnd e) → IsEnd (unwrap_or o ends.Device)
end_is None h = tt
end_is (Some e) h = h e refl

module _ (ps : List PartitionText) (few : length ps ≤ MOST_PARTITIONS) (ports : AllByRecursion (λ (p : PartitionText). length p.ports ≤ MOST_PORTS) ps) where
  named_end : (text : List ℕ) → IsEnd (unwrap_or (end_of ps text) ends.Device)
  unfolding end_of
  named_end text = end_is (end_of ps text) (λ e h. device_or (same text (codes "DEVICE")) (port_from 1 ps text) e (λ k. port_ends 1 ps text e (omega arith) (omega arith) ports k) h)

  named_ends : (texts : List (List ℕ)) → AllByRecursion IsEnd (map (λ d. unwrap_or (end_of ps d) ends.Device) texts)
  named_ends [] = tt
  named_ends (d ∷ ds) = (named_end d, named_ends ds)

  channel_is : (before : List ChannelText) (c : ChannelText) → list_any (λ (b : ChannelText). same b.name c.name) before ≡ false → exceeds_channel c ≡ false → IsChannel (map (channel_row ps) before) (channel_row ps c)
  unfolding exceeds_channel
  channel_is before c fresh h =
      let parts = or_parts (not (is_name c.name)) (is_count_outside 1 MOST_DESTINATIONS c.destinations) h in
      let count = count_inside 1 MOST_DESTINATIONS c.destinations parts.1 in
      let same_count = length-map c.destinations (λ d. unwrap_or (end_of ps d) ends.Device) in
      record {
        name = not-false (is_name c.name) parts.0;
        fresh = any_mapped (λ (row : Channel). bytes_eq row.name c.name) (channel_row ps) before ∙ fresh;
        source = named_end c.source;
        count = record { least = omega (arith, count.least, same_count); most = omega (arith, count.most, same_count) };
        destinations = each_beside IsEnd [] _ (named_ends c.destinations);
      }

-- ---- the table

not_negative : (low : ℕ) (high : ℕ) (z : ℤ) → is_outside low (pos high) z ≡ false → z ≡ pos (nat_abs z)
not_negative low high (pos n) h = refl
not_negative low high (negsuc n) h = absurd cc

few_ports : (frame : ℤ) (ps : List PartitionText) → list_any (exceeds_partition frame) ps ≡ false → AllByRecursion (λ (p : PartitionText). length p.ports ≤ MOST_PORTS) ps
unfolding exceeds_partition
few_ports frame [] h = tt
few_ports frame (p ∷ ps) h =
    let parts = or_parts (exceeds_partition frame p) (list_any (exceeds_partition frame) ps) h in
    let many = or_parts _ (has_many_ports p) (or_parts _ (list_any exceeds_port p.ports) parts.0).0 in
    ((count_inside 0 MOST_PORTS p.ports many.1).most, few_ports frame ps parts.1)

-- the image of a table whose partitions have become items
abbrev pub image_of : Table → List Item → Image
image_of t items = record { schedule = t.schedule; fault = t.fault; version = Third t.costs; items = items; channels = t.channels }

-- each window ends within the frame
abbrev pub HaveRoom : Table → Type 0
HaveRoom t = AllByRecursion (λ (w : WindowRow). w.offset + w.length ≤ t.schedule.frame) t.schedule.windows

text_limits : (text : TableText) (items : List Item) → exceeds_limits text ≡ false → has_same_names text ≡ false → overlaps text ≡ false → map (λ (it : Item). it.partition) items ≡ (numbered text).partitions → AllByRecursion (λ (it : Item). IsSection third_limits it.partition.period it.section) items
    → IsWithinLimits (image_of (numbered text) items) × HaveRoom (numbered text)
unfolding numbered exceeds_counts exceeds_rows has_same_names
text_limits text items limits names apart same_rows sections =
    let ps = text.partitions in
    let l1 = or_parts _ (list_any (exceeds_partition text.frame) ps) limits in
    let l2 = or_parts (exceeds_counts text) (exceeds_rows text) (or_parts (exceeds_counts text || exceeds_rows text) (has_costs_outside text.costs) l1.0).0 in
    let c1 = or_parts _ (is_count_outside 0 MOST_CHANNELS text.channels) l2.0 in
    let c2 = or_parts _ (is_count_outside 1 MOST_WINDOWS text.windows) c1.0 in
    let c3 = or_parts (is_outside 1 (pos MOST_FRAME_TICKS) text.frame) (is_count_outside 1 MOST_PARTITIONS ps) c2.0 in
    let rows = or_parts (list_any exceeds_window text.windows) (list_any exceeds_channel text.channels) l2.1 in
    let n1 = or_parts _ (list_any (λ (p : PartitionText). has_twice (λ (q r : PortText). same q.name r.name) p.ports) ps) names in
    let n2 = or_parts (has_twice (λ (p q : PartitionText). same p.name q.name) ps) (has_twice (λ (c d : ChannelText). same c.name d.name) text.channels) n1.0 in
    let frame = inside 1 (pos MOST_FRAME_TICKS) text.frame c3.0 in
    let frame_is = not_negative 1 MOST_FRAME_TICKS text.frame c3.0 in
    let partitions = count_inside 1 MOST_PARTITIONS ps c3.1 in
    let windows = count_inside 1 MOST_WINDOWS text.windows c2.1 in
    let channels = count_inside 0 MOST_CHANNELS text.channels c1.1 in
    let follow : overlaps_after (pos (nat_abs text.frame)) (pos 0) text.windows ≡ false = subst (λ (z : ℤ). overlaps_after z (pos 0) text.windows ≡ false) frame_is apart in
    let placed = windows_are ps (nat_abs text.frame) 0 [] text.windows partitions.most frame.most refl follow rows.0 in
    let each = each_row (IsRow (nat_abs text.frame)) (KeepsRow text.frame) (λ (p q : PartitionText). same p.name q.name) partition_row (row_is text.frame) [] ps (none_apart (λ (p q : PartitionText). same p.name q.name) ps) n2.0 (keeps_rows text.frame ps l1.1 n1.1) in
    let count_items : length items ≡ length ps = sym (length-map items (λ (it : Item). it.partition)) ∙ ap length same_rows ∙ length-map ps partition_row in
    let count_windows = length-map text.windows (window_row ps) in
    let count_channels = length-map text.channels (channel_row ps) in (
      record {
        frame = frame;
        item_count = record { least = omega (arith, partitions.least, count_items); most = omega (arith, partitions.most, count_items) };
        items = items_are (nat_abs text.frame) [] items (subst (λ (rs : List Partition). EachBeside (IsRow (nat_abs text.frame)) [] rs) (sym same_rows) each) sections;
        window_count = record { least = omega (arith, windows.least, count_windows); most = omega (arith, windows.most, count_windows) };
        windows = placed.0;
        channel_count = record { least = omega arith; most = omega (arith, channels.most, count_channels) };
        channels = each_row IsChannel (λ (c : ChannelText). exceeds_channel c ≡ false) (λ (c d : ChannelText). same c.name d.name) (channel_row ps) (channel_is ps partitions.most (few_ports text.frame ps l1.1)) [] text.channels (none_apart (λ (c d : ChannelText). same c.name d.name) text.channels) n2.1 (none_of exceeds_channel text.channels rows.1);
      },
      placed.1,
    )

pub table_limits : (text : TableText) (t : Table) (items : List Item) → AcceptedTable text t → map (λ (it : Item). it.partition) items ≡ t.partitions → AllByRecursion (λ (it : Item). IsSection third_limits it.partition.period it.section) items
    → IsWithinLimits (image_of t items) × HaveRoom t
table_limits text t items a rows sections =
    let back = sym a.is in
    subst (λ (x : Table). IsWithinLimits (image_of x items) × HaveRoom x) a.is
    (text_limits text items a.limits a.names a.apart (subst (λ (x : Table). map (λ (it : Item). it.partition) items ≡ x.partitions) back rows) sections)

-- An accepted table whose partitions have become lawful sections is within the limits of an image.
pub accepted_limits : (ms : Members) (t : Table) (items : List Item) → verdict ms ≡ Ok t → map (λ (it : Item). it.partition) items ≡ t.partitions → All (λ (it : Item). IsSection third_limits it.partition.period it.section) items → IsWithinLimits (image_of t items)
accepted_limits ms t items h rows sections =
    let a = accepted_table ms t h in
    (table_limits a.0 t items a.1 rows (each_at _ items sections)).0

-- ---- the partitions of windows

number_known : (ps : List PartitionText) (o : Option ℕ) → ((k : ℕ) → o ≡ Some k → (1 ≤ k) × (k < 1 + length ps)) → is_none o ≡ false → (1 ≤ unwrap_or o 0) × (unwrap_or o 0 ≤ length ps)
number_known ps None h known = absurd cc
number_known ps (Some k) h known = let s = h k refl in (s.0, omega (arith, s.1))

-- a window belongs to one of the partitions
windows_known : (ps : List PartitionText) (ws : List WindowText) → list_any (is_unknown_window ps) ws ≡ false → AllByRecursion (λ (w : WindowRow). (1 ≤ w.partition.0) × (w.partition.0 ≤ length ps)) (map (window_row ps) ws)
windows_known ps [] h = tt
windows_known ps (w ∷ ws) h =
    let parts = or_parts (is_unknown_window ps w) (list_any (is_unknown_window ps) ws) h in
    (number_known ps (partition_number ps w.partition) (λ k e. number_small 1 _ ps k e) parts.0, windows_known ps ws parts.1)

text_windows : (text : TableText) → has_unknown_name text ≡ false → AllByRecursion (λ (w : WindowRow). (1 ≤ w.partition.0) × (w.partition.0 ≤ length (numbered text).partitions)) (numbered text).schedule.windows
unfolding has_unknown_name numbered
text_windows text h =
    let known = windows_known text.partitions text.windows (or_parts (list_any (is_unknown_window text.partitions) text.windows) (list_any (has_unknown_end text.partitions) text.channels) h).0 in
    subst (λ (n : ℕ). AllByRecursion (λ (w : WindowRow). (1 ≤ w.partition.0) × (w.partition.0 ≤ n)) (map (window_row text.partitions) text.windows)) (sym (length-map text.partitions partition_row)) known

pub window_numbers : (text : TableText) (t : Table) → AcceptedTable text t → AllByRecursion (λ (w : WindowRow). (1 ≤ w.partition.0) × (w.partition.0 ≤ length t.partitions)) t.schedule.windows
window_numbers text t a = subst (λ (x : Table). AllByRecursion (λ (w : WindowRow). (1 ≤ w.partition.0) × (w.partition.0 ≤ length x.partitions)) x.schedule.windows) a.is (text_windows text a.known)

-- ---- the places of windows

-- the windows of a schedule with a frame follow one another
abbrev pub IsInOrder : Schedule → Type 0
IsInOrder s = (1 ≤ s.frame) × AreInOrder s.frame 0 s.windows

text_in_order : (text : TableText) → exceeds_limits text ≡ false → overlaps text ≡ false → IsInOrder (numbered text).schedule
unfolding numbered exceeds_counts exceeds_rows
text_in_order text limits apart =
    let ps = text.partitions in
    let l1 = or_parts _ (list_any (exceeds_partition text.frame) ps) limits in
    let l2 = or_parts (exceeds_counts text) (exceeds_rows text) (or_parts (exceeds_counts text || exceeds_rows text) (has_costs_outside text.costs) l1.0).0 in
    let c1 = or_parts _ (is_count_outside 0 MOST_CHANNELS text.channels) l2.0 in
    let c2 = or_parts _ (is_count_outside 1 MOST_WINDOWS text.windows) c1.0 in
    let c3 = or_parts (is_outside 1 (pos MOST_FRAME_TICKS) text.frame) (is_count_outside 1 MOST_PARTITIONS ps) c2.0 in
    let rows = or_parts (list_any exceeds_window text.windows) (list_any exceeds_channel text.channels) l2.1 in
    let frame = inside 1 (pos MOST_FRAME_TICKS) text.frame c3.0 in
    let frame_is = not_negative 1 MOST_FRAME_TICKS text.frame c3.0 in
    let follow : overlaps_after (pos (nat_abs text.frame)) (pos 0) text.windows ≡ false = subst (λ (z : ℤ). overlaps_after z (pos 0) text.windows ≡ false) frame_is apart in
    (frame.least, windows_in_order ps (nat_abs text.frame) 0 text.windows follow rows.0)

pub table_in_order : (text : TableText) (t : Table) → AcceptedTable text t → IsInOrder t.schedule
table_in_order text t a = subst (λ (x : Table). IsInOrder x.schedule) a.is (text_in_order text a.limits a.apart)

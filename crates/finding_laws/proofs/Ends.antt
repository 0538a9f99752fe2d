-- Ends of channels do not fit together if and only if such an end is found.
use Rattle.finding_laws.proofs.Prelude.{◌≡◌, ℕ, ◌+◌, ◌-◌, ℤ, pos, ◌&&◌, ◌||◌, Bool, cond, ◌∷◌, ◌++◌, Option, Some, ◌∙◌, codes, inr, and_parts, and_right, cases_Bool, le-ltb, lt-ltb, eq-eqb, eqb-true, false≢true, or_left, or_right, true≢false, nat_list_eq_equiv, map-append, none-some, same_Some, ◌==◌, if◌then◌else◌, int_lt, nat_eq, slice_get, unwrap_or, is_name, MOST_WORDS, ChannelEnd, PortRow, ChannelText, KindText, PartitionText, PortText, Queuing, Sampling, TableText, exceeds_limits, has_costs_outside, has_unknown_end, is_outside, partition_row, is_device, Finding, is_among, Row}
use Rattle.std.proofs.Common.{arith, negsuc, nat_abs, true, false, not, List, [], None, length, map, refl, sym, ap, inl}
use Rattle.std.proofs.lemmas.Bool.{and_from, cases_order, eqb-false, ne_eqb, not-false, or_from}
use Rattle.std.proofs.lemmas.Cmp.{and_equiv, nat_eq_equiv, on_equiv}
use Rattle.std.specs.Cmp.{IsEquivalence}
use Rattle.std.proofs.lemmas.List.{append_assoc, length-map}
use Rattle.window_table.proofs.Rules.{ends_known}
use Rattle.std.proofs.lemmas.Option.{slice_get-map}
use Rattle.std.specs.List.{list_any}
use Rattle.std.specs.Ordering.{int_eq}
use Rattle.std.specs.Prelude.{flat_map, option_map}
use Rattle.apex_types.specs.declared.row.ChannelEnd.TheVariants as ends
use Rattle.apex_types.specs.declared.row.PortKind.{PortKind}
use Rattle.apex_types.specs.declared.row.PortKind.TheVariants as kinds
use Rattle.module_meaning.specs.Table.{Partition, has_twice, is_source}
use Rattle.module_meaning.specs.Table as table
use Rattle.module_meaning.specs.TableRules.{end_of, exceeds_counts, exceeds_kind, exceeds_rows, exceeds_partition, exceeds_port, has_unknown_name, kind_row, port_row, same}
use Rattle.module_meaning.specs.TableRules as rule
use Rattle.finding_laws.specs.Any.{has_any}
use Rattle.finding_laws.proofs.Found.{any_if, any_unless, or_first, or_second, two}
use Rattle.finding_laws.proofs.Twice.{both_or}
use Rattle.finding_laws.proofs.Numbers.{same_list}
use Rattle.finding_laws.proofs.Places.{AreMet, Met, all_met, device, end_at, met_append, port}
use Rattle.finding_laws.proofs.Twice.{behind_append, behind_none, or_swap, twice_behind}
use Rattle.table_findings.specs.Ends.{End, destination, destination_end, destinations_from, destinations_twice, differ, direction, first_port, is_as, is_same_kind, itself, mixed, one_at, port_at, source_end, twice, twice_from}
use Rattle.table_findings.specs.Ends as text
use Rattle.table_findings.specs.Findings.{OtherKind, OtherWords, PortTwice, SamePartition, WrongDirection}
use Rattle.table_findings.specs.Names.{channel_row as text_row}

-- the end that a text names
abbrev end : List PartitionText → List ℕ → ChannelEnd
end ps text = unwrap_or (end_of ps text) ends.Device

abbrev rows : List PartitionText → List Partition
rows ps = map partition_row ps

-- the row of the port that a text names
abbrev row_of : List PartitionText → List ℕ → Option PortRow
row_of ps text = table.port_at (rows ps) (end ps text)

abbrev as_row : Option (ℕ × PortText) → Option PortRow
as_row o = option_map (λ p. port_row p.1) o

row_is : (ps : List PartitionText) (text : List ℕ) → Met ps text → row_of ps text ≡ as_row (port_at ps text)
row_is ps text (device a b c) = rw (b, c) refl
row_is ps text (port n k r q e b c at in_row is kept) =
    let place : (n + 1) - 1 ≡ n = omega arith in
    rw (b, c, place, slice_get-map partition_row ps n, at, slice_get-map port_row r.ports (k - 1), in_row) refl

device_is : (ps : List PartitionText) (text : List ℕ) → Met ps text → table.is_device (end ps text) ≡ is_device text
device_is ps text (device a b c) = rw (b, a) refl
device_is ps text (port n k r q e b c at in_row is kept) = rw (b, e) refl

-- ---- direction

direction_of_row : (ps : List PartitionText) (as_source : Bool) (e : End) (o : Option (ℕ × PortText))
    → elim (as_row o) [ None ↦ false | Some row ↦ not (is_as as_source row.direction) ] ≡ has_any (elim o [ None ↦ [] | Some p ↦ if is_as as_source p.1.direction then [] else one_at e (WrongDirection e.text as_source) ])
direction_of_row ps as_source e None = refl
direction_of_row ps as_source e (Some p) = sym (any_unless (is_as as_source p.1.direction) [] (one_at e (WrongDirection e.text as_source)) refl refl)

direction_is : (ps : List PartitionText) (as_source : Bool) (e : End) → Met ps e.text → table.port_is (rows ps) (λ row. not (is_as as_source row.direction)) (end ps e.text) ≡ has_any (direction ps as_source e)
direction_is ps as_source e m = ap (λ (o : Option PortRow). elim o [ None ↦ false | Some row ↦ not (is_as as_source row.direction) ]) (row_is ps e.text m) ∙ direction_of_row ps as_source e (port_at ps e.text)

source_is : (ps : List PartitionText) (e : End) → Met ps e.text → table.is_destination_port (rows ps) (end ps e.text) ≡ has_any (direction ps true e)
source_is ps e m = direction_is ps true e m

twice_not : (b : Bool) → not (not b) ≡ b
twice_not true = refl
twice_not false = refl

destination_is : (ps : List PartitionText) (e : End) → Met ps e.text → table.is_source_port (rows ps) (end ps e.text) ≡ has_any (direction ps false e)
destination_is ps e m = same_test (row_of ps e.text) ∙ direction_is ps false e m
  where
    same_test : (o : Option PortRow) → ◌≡◌ {A = Bool} (elim o [ None ↦ false | Some row ↦ is_source row.direction ]) (elim o [ None ↦ false | Some row ↦ not (is_as false row.direction) ])
    same_test None = refl
    same_test (Some row) = sym (twice_not (is_source row.direction))

-- ---- kinds and words

abbrev differs : PortRow → PortRow → Bool
differs a b = not (table.is_same_kind a.kind b.kind) || not (a.words == b.words)

abbrev both_differ : Option PortRow → Option PortRow → Bool
both_differ None o = false
both_differ (Some a) None = false
both_differ (Some a) (Some b) = differs a b

kinds_are : (a b : KindText) → table.is_same_kind (kind_row a) (kind_row b) ≡ is_same_kind a b
kinds_are (Sampling a) (Sampling b) = refl
kinds_are (Sampling a) (Queuing b c) = refl
kinds_are (Queuing a c) (Sampling b) = refl
kinds_are (Queuing a c) (Queuing b d) = refl

words_kept : (q : PortText) → exceeds_port q ≡ false → int_lt q.words (pos 1) ≡ false
unfolding exceeds_port
words_kept q kept = or_first (int_lt q.words (pos 1)) (int_lt (pos MOST_WORDS) q.words) (or_second (not (is_name q.name)) (is_outside 1 (pos MOST_WORDS) q.words) (or_first (not (is_name q.name) || is_outside 1 (pos MOST_WORDS) q.words) (exceeds_kind q.kind) kept))

naturals_are : (a b : ℕ) → (a == b) ≡ int_eq (pos a) (pos b)
naturals_are a b = elim (cases_order a b) [
  | inl e ↦ rw (eq-eqb a b e, le-ltb a b (omega arith), le-ltb b a (omega arith)) refl
  | inr o ↦ elim o [
    | inl l ↦ rw (ne_eqb a b (λ e. omega arith), lt-ltb a b l) refl
    | inr l ↦ rw (ne_eqb a b (λ e. omega arith), le-ltb a b (omega arith), lt-ltb b a l) refl
  ]
]

words_are : (a b : ℤ) → int_lt a (pos 1) ≡ false → int_lt b (pos 1) ≡ false → (nat_abs a == nat_abs b) ≡ int_eq a b
words_are (pos a) (pos b) h k = naturals_are a b
words_are (pos a) (negsuc b) h k = absurd (true≢false k)
words_are (negsuc a) b h k = absurd (true≢false h)

differ_cases : (kind words : Bool) (xs ys : List Finding) → has_any xs ≡ true → has_any ys ≡ true → not kind || not words ≡ has_any (cond kind (cond words [] xs) ys)
differ_cases true true xs ys some any = refl
differ_cases true false xs ys some any = sym some
differ_cases false words xs ys some any = sym any

differ_is : (other : List ℕ) (r : PortText) (e : End) (p : PortText) → exceeds_port r ≡ false → exceeds_port p ≡ false → differs (port_row r) (port_row p) ≡ has_any (differ other r e p)
differ_is other r e p kept too =
    rw (kinds_are r.kind p.kind, words_are r.words p.words (words_kept r kept) (words_kept p too)) (differ_cases (is_same_kind r.kind p.kind) (int_eq r.words p.words) (one_at e (OtherWords p.words other r.words)) (one_at e (OtherKind other)) refl refl)

abbrev first_of_row : Option (List ℕ × PortText) → Option PortRow
first_of_row o = option_map (λ y. port_row y.1) o

abbrev IsKept : Option (List ℕ × PortText) → Type 0
IsKept None = Unit {0}
IsKept (Some y) = exceeds_port y.1 ≡ false

mixed_is : (ps : List PartitionText) (first : Option (List ℕ × PortText)) (e : End) → IsKept first → Met ps e.text → both_differ (first_of_row first) (row_of ps e.text) ≡ has_any (mixed ps first e)
mixed_is ps None e kept m = refl
mixed_is ps (Some y) e kept (device a b c) = rw (b, mixed, c) refl
mixed_is ps (Some y) e kept (port n k r q d b c at in_row is too) =
    rw (row_is ps e.text (port n k r q d b c at in_row is too), mixed, c) (differ_is y.0 y.1 e q kept too)

first_row : List (Option PortRow) → Option PortRow
first_row [] = None
first_row (None ∷ xs) = first_row xs
first_row (Some r ∷ xs) = Some r

first_is : (ps : List PartitionText) (texts : List (List ℕ)) → AreMet ps texts → first_of_row (first_port ps texts) ≡ first_row (map (row_of ps) texts)
unfolding first_row
first_is ps [] are = refl
first_is ps (t ∷ texts) are = step are.0 (first_is ps texts are.1)
  where
    step : Met ps t → first_of_row (first_port ps texts) ≡ first_row (map (row_of ps) texts) → first_of_row (first_port ps (t ∷ texts)) ≡ first_row (map (row_of ps) (t ∷ texts))
    step (device a b c) rest = rw (row_is ps t (device a b c), first_port, c) rest
    step (port n k r q d b c at in_row is too) rest = rw (row_is ps t (port n k r q d b c at in_row is too), first_port, c) refl

first_kept : (ps : List PartitionText) (texts : List (List ℕ)) → AreMet ps texts → IsKept (first_port ps texts)
first_kept ps [] are = tt
first_kept ps (t ∷ texts) are = step are.0 (first_kept ps texts are.1)
  where
    step : Met ps t → IsKept (first_port ps texts) → IsKept (first_port ps (t ∷ texts))
    step (device a b c) rest = rw (IsKept, first_port, c) rest
    step (port n k r q d b c at in_row is too) rest = rw (IsKept, first_port, c) too

-- ---- two ports of a channel differ if and only if one differs from the first

kind_equiv : IsEquivalence table.is_same_kind
kind_equiv = record { refl = itself_is; symm = other_way; congr = so_another }
  where
    itself_is : (a : PortKind) → table.is_same_kind a a ≡ true
    itself_is (kinds.Sampling a) = refl
    itself_is (kinds.Queuing a c) = refl

    other_way : (a b : PortKind) → table.is_same_kind a b ≡ table.is_same_kind b a
    other_way (kinds.Sampling a) (kinds.Sampling b) = refl
    other_way (kinds.Sampling a) (kinds.Queuing b d) = refl
    other_way (kinds.Queuing a c) (kinds.Sampling b) = refl
    other_way (kinds.Queuing a c) (kinds.Queuing b d) = refl

    so_another : (a b c : PortKind) → table.is_same_kind a b ≡ true → table.is_same_kind a c ≡ table.is_same_kind b c
    so_another (kinds.Sampling a) (kinds.Sampling b) (kinds.Sampling c) h = refl
    so_another (kinds.Sampling a) (kinds.Sampling b) (kinds.Queuing c d) h = refl
    so_another (kinds.Sampling a) (kinds.Queuing b d) c h = absurd (false≢true h)
    so_another (kinds.Queuing a d) (kinds.Sampling b) c h = absurd (false≢true h)
    so_another (kinds.Queuing a d) (kinds.Queuing b e) (kinds.Sampling c) h = refl
    so_another (kinds.Queuing a d) (kinds.Queuing b e) (kinds.Queuing c f) h = refl

abbrev are_alike : PortRow → PortRow → Bool
are_alike a b = table.is_same_kind a.kind b.kind && nat_eq a.words b.words

alike_equiv : IsEquivalence are_alike
alike_equiv = and_equiv (on_equiv (λ (r : PortRow). r.kind) kind_equiv) (on_equiv (λ (r : PortRow). r.words) nat_eq_equiv)

differs_is : (a b : PortRow) → differs a b ≡ not (are_alike a b)
differs_is a b = by_tests (table.is_same_kind a.kind b.kind) (a.words == b.words)
  where
    by_tests : (x y : Bool) → not x || not y ≡ not (x && y)
    by_tests true y = refl
    by_tests false y = refl

differs_not : (a : PortRow) → differs a a ≡ false
differs_not a = differs_is a a ∙ ap not (alike_equiv.refl a)

none_differs : (r a b : PortRow) → differs r a ≡ false → differs r b ≡ false → differs a b ≡ false
none_differs r a b h k =
    differs_is a b ∙ ap not (sym (alike_equiv.congr r a b (not-false (are_alike r a) (sym (differs_is r a) ∙ h)))) ∙ sym (differs_is r b) ∙ k

abbrev pair_differs : List (Option PortRow) → List (Option PortRow) → Bool
pair_differs ys xs = list_any (λ y. list_any (both_differ y) xs) ys

nobody : (xs : List (Option PortRow)) → list_any (both_differ None) xs ≡ false
nobody [] = refl
nobody (x ∷ xs) = nobody xs

none_from : (r a : PortRow) (xs : List (Option PortRow)) → list_any (both_differ (Some r)) xs ≡ false → differs r a ≡ false → list_any (both_differ (Some a)) xs ≡ false
none_from r a [] h d = refl
none_from r a (None ∷ xs) h d = none_from r a xs h d
none_from r a (Some b ∷ xs) h d =
    or_from (differs a b) (list_any (both_differ (Some a)) xs) (none_differs r a b d (or_first (differs r b) (list_any (both_differ (Some r)) xs) h)) (none_from r a xs (or_second (differs r b) (list_any (both_differ (Some r)) xs) h) d)

no_pair : (r : PortRow) (xs ys : List (Option PortRow)) → list_any (both_differ (Some r)) xs ≡ false → list_any (both_differ (Some r)) ys ≡ false → pair_differs ys xs ≡ false
no_pair r xs [] h k = refl
no_pair r xs (None ∷ ys) h k = or_from (list_any (both_differ None) xs) (pair_differs ys xs) (nobody xs) (no_pair r xs ys h k)
no_pair r xs (Some a ∷ ys) h k =
    or_from (list_any (both_differ (Some a)) xs) (pair_differs ys xs) (none_from r a xs h (or_first (differs r a) (list_any (both_differ (Some r)) ys) k)) (no_pair r xs ys h (or_second (differs r a) (list_any (both_differ (Some r)) ys) k))

some_pair : (r : PortRow) (xs ys : List (Option PortRow)) → first_row ys ≡ Some r → list_any (both_differ (Some r)) xs ≡ true → pair_differs ys xs ≡ true
unfolding first_row
some_pair r xs [] is h = absurd (none-some r is)
some_pair r xs (None ∷ ys) is h = or_right (list_any (both_differ None) xs) (pair_differs ys xs) (some_pair r xs ys is h)
some_pair r xs (Some a ∷ ys) is h = or_left (list_any (both_differ (Some a)) xs) (pair_differs ys xs) (rw (same_Some a r is) h)

no_first : (xs ys : List (Option PortRow)) → first_row ys ≡ None → pair_differs ys xs ≡ false
unfolding first_row
no_first xs [] is = refl
no_first xs (None ∷ ys) is = or_from (list_any (both_differ None) xs) (pair_differs ys xs) (nobody xs) (no_first xs ys is)
no_first xs (Some a ∷ ys) is = absurd (none-some a (sym is))

first_differs : (xs : List (Option PortRow)) → list_any (both_differ (first_row xs)) xs ≡ pair_differs xs xs
first_differs xs = by_first (first_row xs) refl
  where
    by_first : (o : Option PortRow) → first_row xs ≡ o → list_any (both_differ o) xs ≡ pair_differs xs xs
    by_first None is = nobody xs ∙ sym (no_first xs xs is)
    by_first (Some r) is = elim (cases_Bool (list_any (both_differ (Some r)) xs)) [
      | inl e ↦ e ∙ sym (some_pair r xs xs is e)
      | inr e ↦ e ∙ sym (no_pair r xs xs e e)
    ]

-- the first itself differs from none
itself_not : (x : Option PortRow) (xs : List (Option PortRow)) → both_differ (first_row (x ∷ xs)) x ≡ false
unfolding first_row
itself_not None xs = nobody_differs (first_row xs)
  where
    nobody_differs : (o : Option PortRow) → both_differ o None ≡ false
    nobody_differs None = refl
    nobody_differs (Some r) = refl
itself_not (Some r) xs = differs_not r

pair_at : (x y : Option PortRow) → ◌≡◌ {A = Bool} (elim x [ None ↦ false | Some a ↦ elim y [ None ↦ false | Some b ↦ differs a b ] ]) (both_differ x y)
pair_at None y = refl
pair_at (Some a) None = refl
pair_at (Some a) (Some b) = refl

differ_any : (ps : List PartitionText) (d : ChannelEnd) (texts : List (List ℕ)) → list_any (table.differ (rows ps) d) (map (end ps) texts) ≡ list_any (both_differ (table.port_at (rows ps) d)) (map (row_of ps) texts)
differ_any ps d [] = refl
differ_any ps d (t ∷ texts) = both_or _ _ _ _ (pair_at (table.port_at (rows ps) d) (row_of ps t)) (differ_any ps d texts)

mixed_any : (ps : List PartitionText) (all texts : List (List ℕ)) → list_any (λ d. list_any (table.differ (rows ps) d) (map (end ps) all)) (map (end ps) texts) ≡ pair_differs (map (row_of ps) texts) (map (row_of ps) all)
mixed_any ps all [] = refl
mixed_any ps all (t ∷ texts) = both_or _ _ _ _ (differ_any ps (end ps t) all) (mixed_any ps all texts)

any_map : {A B : Type 0} (test : B → Bool) (f : A → B) (xs : List A) → list_any test (map f xs) ≡ list_any (λ x. test (f x)) xs
any_map test f [] = refl
any_map test f (x ∷ xs) = ap (λ (b : Bool). test (f x) || b) (any_map test f xs)

-- the ports of a channel are mixed if and only if a destination's differs from the first
mixed_ports : (ps : List PartitionText) (source : List ℕ) (ds : List (List ℕ)) → AreMet ps (source ∷ ds)
    → table.has_mixed_ports (rows ps) (map (end ps) (source ∷ ds)) ≡ list_any (λ d. both_differ (first_of_row (first_port ps (source ∷ ds))) (row_of ps d)) ds
mixed_ports ps source ds are =
    mixed_any ps (source ∷ ds) (source ∷ ds)
    ∙ sym (first_differs (map (row_of ps) (source ∷ ds)))
    ∙ ap (λ (b : Bool). b || list_any (both_differ (first_row (map (row_of ps) (source ∷ ds)))) (map (row_of ps) ds)) (itself_not (row_of ps source) (map (row_of ps) ds))
    ∙ any_map (both_differ (first_row (map (row_of ps) (source ∷ ds)))) (row_of ps) ds
    ∙ ap (λ (o : Option PortRow). list_any (λ d. both_differ o (row_of ps d)) ds) (sym (first_is ps (source ∷ ds) are))

-- ---- a partition that sends to itself

suc_same : (n m : ℕ) → (n + 1 == m + 1) ≡ (n == m)
suc_same n m = elim (cases_Bool (n == m)) [
  | inl e ↦ eq-eqb (n + 1) (m + 1) (ap (λ (x : ℕ). x + 1) (eqb-true n m e)) ∙ sym e
  | inr e ↦ ne_eqb (n + 1) (m + 1) (λ h. eqb-false n m e (omega (arith, h))) ∙ sym e
]

itself_is : (ps : List PartitionText) (source : List ℕ) (e : End) → Met ps source → Met ps e.text → table.is_in_same_partition (end ps source) (end ps e.text) ≡ has_any (itself ps (port_at ps source) e)
itself_is ps source e (device a b c) m = rw (b, itself, c) refl
itself_is ps source e (port n k r q d b c at in_row is too) (device x y z) = rw (b, y, itself, c, z) refl
itself_is ps source e (port n k r q d b c at in_row is too) (port n' k' r' q' d' b' c' at' in_row' is' too') =
    rw (b, b', itself, c, c') (suc_same n n' ∙ sym (any_if (n == n') (one_at e SamePartition) [] refl refl))

-- ---- the device at two ends

devices : Bool → List (List ℕ) → Bool
devices before [] = false
devices before (d ∷ ds) = (before && is_device d) || devices (before || is_device d) ds

devices_behind : (ps : List PartitionText) (ds : List (List ℕ)) → AreMet ps ds → list_any table.is_device (map (end ps) ds) ≡ devices true ds
unfolding devices
devices_behind ps [] are = refl
devices_behind ps (d ∷ ds) are = both_or _ _ _ _ (device_is ps d are.0) (devices_behind ps ds are.1)

two_devices : (ps : List PartitionText) (ds : List (List ℕ)) → AreMet ps ds → table.has_two_devices (map (end ps) ds) ≡ devices false ds
unfolding devices table.has_two_devices
two_devices ps [] are = refl
two_devices ps (d ∷ ds) are = elim (cases_Bool (is_device d)) [
  | inl e ↦ rw (device_is ps d are.0, e) (devices_behind ps ds are.1)
  | inr e ↦ rw (device_is ps d are.0, e) (two_devices ps ds are.1)
]

-- ---- a queue with several destinations

queuing_is : (ps : List PartitionText) (t : List ℕ) → Met ps t → table.is_queuing_port (rows ps) (end ps t) ≡ text.is_queuing_port ps t
queuing_is ps t m = ap (λ (o : Option PortRow). elim o [ None ↦ false | Some row ↦ table.is_queuing row.kind ]) (row_is ps t m) ∙ of_kind (port_at ps t)
  where
    kind_is : (k : KindText) → table.is_queuing (kind_row k) ≡ text.is_queuing k
    kind_is (Sampling refresh) = refl
    kind_is (Queuing depth discipline) = refl

    of_kind : (o : Option (ℕ × PortText)) → ◌≡◌ {A = Bool} (elim (as_row o) [ None ↦ false | Some row ↦ table.is_queuing row.kind ]) (elim o [ None ↦ false | Some p ↦ text.is_queuing p.1.kind ])
    of_kind None = refl
    of_kind (Some p) = kind_is p.1.kind

queuing_any : (ps : List PartitionText) (ts : List (List ℕ)) → AreMet ps ts → list_any (table.is_queuing_port (rows ps)) (map (end ps) ts) ≡ list_any (text.is_queuing_port ps) ts
queuing_any ps [] are = refl
queuing_any ps (t ∷ ts) are = both_or _ _ _ _ (queuing_is ps t are.0) (queuing_any ps ts are.1)

split_is : (ps : List PartitionText) (i : ℕ) (c : ChannelText) → AreMet ps (c.source ∷ c.destinations) → table.is_split_queue (rows ps) (rule.channel_row ps c) ≡ has_any (text.split_queue ps i c)
split_is ps i c are =
    rw (queuing_any ps (c.source ∷ c.destinations) are, length-map c.destinations (end ps))
    (sym (any_if (list_any (text.is_queuing_port ps) (c.source ∷ c.destinations) && not (length c.destinations == 1)) _ _ refl refl))

-- ---- a channel

-- the parts of a first destination and of the others
regroup : (a b c d e f g h : Bool) → (a || (b || (c || d))) || (e || (f || (g || h))) ≡ (a || e) || ((b || f) || ((c || g) || (d || h)))
regroup a b c d e f g h =
    or_swap a (b || (c || d)) e (f || (g || h))
    ∙ ap (λ (x : Bool). (a || e) || x) (or_swap b (c || d) f (g || h) ∙ ap (λ (x : Bool). (b || f) || x) (or_swap c d g h))

module _ (ps : List PartitionText) (c : ChannelText) where
  abbrev other_way : List ℕ → Bool
  other_way d = table.is_source_port (rows ps) (end ps d)

  abbrev is_mixed : List ℕ → Bool
  is_mixed d = both_differ (first_of_row (first_port ps (c.source ∷ c.destinations))) (row_of ps d)

  abbrev is_same : List ℕ → Bool
  is_same d = table.is_in_same_partition (end ps c.source) (end ps d)

  destination_any : Met ps c.source → IsKept (first_port ps (c.source ∷ c.destinations)) → (before : Bool) (e : End) → Met ps e.text
      → other_way e.text || (is_mixed e.text || (is_same e.text || (before && is_device e.text))) ≡ has_any (destination ps c before e)
  destination_any m kept before e n =
      two _ _ _ _ (destination_is ps e n)
      (two _ _ _ _ (mixed_is ps (first_port ps (c.source ∷ c.destinations)) e kept n)
      (two _ _ _ _ (itself_is ps c.source e m n) (sym (any_if (before && is_device e.text) _ _ refl refl))))

  destinations_any : Met ps c.source → IsKept (first_port ps (c.source ∷ c.destinations)) → (r : Row) (before : Bool) (i : ℕ) (ds : List (List ℕ)) → AreMet ps ds
      → list_any other_way ds || (list_any is_mixed ds || (list_any is_same ds || devices before ds)) ≡ has_any (destinations_from ps c r before i ds)
  unfolding devices
  destinations_any m kept r before i [] are = refl
  destinations_any m kept r before i (d ∷ ds) are =
      sym (regroup (other_way d) (is_mixed d) (is_same d) (before && is_device d) (list_any other_way ds) (list_any is_mixed ds) (list_any is_same ds) (devices (before || is_device d) ds))
      ∙ two _ _ _ _ (destination_any m kept before (destination_end r i d) are.0) (destinations_any m kept r (before || is_device d) (i + 1) ds are.1)

-- the parts of a channel
gathered : (s d m p v q : Bool) → ((((s || d) || m) || p) || v) || q ≡ s || ((d || (m || (p || v))) || q)
gathered true d m p v q = refl
gathered false true m p v q = refl
gathered false false true p v q = refl
gathered false false false true v q = refl
gathered false false false false v q = refl

-- the device at two ends of a channel
device_ends : (ps : List PartitionText) (source : List ℕ) (ds : List (List ℕ)) → AreMet ps (source ∷ ds) → table.has_two_devices (map (end ps) (source ∷ ds)) ≡ devices (is_device source) ds
unfolding table.has_two_devices
device_ends ps source ds are = elim (cases_Bool (is_device source)) [
  | inl e ↦ rw (device_is ps source are.0, e) (devices_behind ps ds are.1)
  | inr e ↦ rw (device_is ps source are.0, e) (two_devices ps ds are.1)
]

wrong_parts : (ps : List PartitionText) (i : ℕ) (c : ChannelText) → AreMet ps (c.source ∷ c.destinations) → table.is_wrong (rows ps) (rule.channel_row ps c)
    ≡ ((((table.is_destination_port (rows ps) (end ps c.source) || list_any (other_way ps c) c.destinations) || list_any (is_mixed ps c) c.destinations) || list_any (is_same ps c) c.destinations) || devices (is_device c.source) c.destinations) || has_any (text.split_queue ps i c)
unfolding table.is_wrong
wrong_parts ps i c are =
    both_or _ _ _ _
    (both_or _ _ _ _
    (both_or _ _ _ _
    (both_or _ _ _ _ (ap (λ (b : Bool). table.is_destination_port (rows ps) (end ps c.source) || b) (any_map (table.is_source_port (rows ps)) (end ps) c.destinations)) (mixed_ports ps c.source c.destinations are))
    (any_map (table.is_in_same_partition (end ps c.source)) (end ps) c.destinations))
    (device_ends ps c.source c.destinations are))
    (split_is ps i c are)

channel_any : (ps : List PartitionText) (i : ℕ) (c : ChannelText) → AreMet ps (c.source ∷ c.destinations) → table.is_wrong (rows ps) (rule.channel_row ps c) ≡ has_any (text.channel ps i c)
channel_any ps i c are =
    wrong_parts ps i c are
    ∙ gathered (table.is_destination_port (rows ps) (end ps c.source)) (list_any (other_way ps c) c.destinations) (list_any (is_mixed ps c) c.destinations) (list_any (is_same ps c) c.destinations) (devices (is_device c.source) c.destinations) (has_any (text.split_queue ps i c))
    ∙ two _ _ _ _ (source_is ps (source_end i c) are.0)
    (two _ _ _ _ (destinations_any ps c are.0 (first_kept ps (c.source ∷ c.destinations) are) (text_row i c) (is_device c.source) 0 c.destinations are.1) refl)

-- each end of these channels names something
abbrev AllMet : List PartitionText → List ChannelText → Type 0
AllMet ps [] = Unit {0}
AllMet ps (c ∷ cs) = AreMet ps (c.source ∷ c.destinations) × AllMet ps cs

channels_any : (ps : List PartitionText) (i : ℕ) (cs : List ChannelText) → AllMet ps cs → list_any (table.is_wrong (rows ps)) (map (rule.channel_row ps) cs) ≡ has_any (text.channels_from ps i cs)
channels_any ps i [] are = refl
channels_any ps i (c ∷ cs) are = two _ _ _ _ (channel_any ps i c are.0) (channels_any ps (i + 1) cs are.1)

-- ---- a port at two ends

-- two texts name one port
abbrev same_port : List ℕ → List ℕ → Bool
same_port a b = not (is_device a) && same a b

same_port_symm : (a b : List ℕ) → same_port a b ≡ same_port b a
same_port_symm a b = elim (cases_Bool (same a b)) [
  | inl e ↦ ap (λ (x : Bool). not (is_device a) && x) (nat_list_eq_equiv.symm a b) ∙ ap (λ (x : Bool). not x && same b a) (nat_list_eq_equiv.congr a b (codes "DEVICE") e)
  | inr e ↦ and_right (not (is_device a)) (same a b) e ∙ sym (and_right (not (is_device b)) (same b a) (nat_list_eq_equiv.symm b a ∙ e))
]

same_slice : {A : Type 0} (xs : List A) (n m : ℕ) (x y : A) → slice_get xs n ≡ Some x → slice_get xs m ≡ Some y → n ≡ m → x ≡ y
same_slice xs n m x y h k e = same_Some x y (sym h ∙ ap (λ (i : ℕ). slice_get xs i) e ∙ k)

same_texts : (a b c : List ℕ) → same a c ≡ true → same b c ≡ true → same a b ≡ true
same_texts a b c h k = nat_list_eq_equiv.symm a b ∙ nat_list_eq_equiv.congr b c a k ∙ nat_list_eq_equiv.symm c a ∙ h

-- the device is no port
device_differs : (a b : List ℕ) → is_device a ≡ false → is_device b ≡ true → same a b ≡ false
device_differs a b d e = elim (cases_Bool (same a b)) [
  | inl s ↦ absurd (false≢true (sym d ∙ nat_list_eq_equiv.congr a b (codes "DEVICE") s ∙ e))
  | inr s ↦ s
]

partition_at_end : Option ChannelEnd → ℕ
partition_at_end (Some (ends.Port p q)) = p.0
partition_at_end (Some ends.Device) = 0
partition_at_end None = 0

port_at_end : Option ChannelEnd → ℕ
port_at_end (Some (ends.Port p q)) = q.0
port_at_end (Some ends.Device) = 0
port_at_end None = 0

-- two ports have one number if and only if their texts are the same
module _ (ps : List PartitionText) (a b : List ℕ) (n k : ℕ) (r : PartitionText) (q : PortText) (m l : ℕ) (s : PartitionText) (o : PortText) where
  same_numbers : end_of ps a ≡ Some (end_at (n + 1) k) → end_of ps b ≡ Some (end_at (m + 1) l) → same a b ≡ true → (n + 1 == m + 1) && (k == l) ≡ true
  unfolding partition_at_end port_at_end
  same_numbers x y e =
      let ends_same = sym x ∙ ap (end_of ps) (same_list a b e) ∙ y in
      and_from (n + 1 == m + 1) (k == l) (eq-eqb (n + 1) (m + 1) (ap partition_at_end ends_same)) (eq-eqb k l (ap port_at_end ends_same))

  texts_same : slice_get ps n ≡ Some r → slice_get r.ports (k - 1) ≡ Some q → same a (r.name ++ 46 ∷ q.name) ≡ true → slice_get ps m ≡ Some s → slice_get s.ports (l - 1) ≡ Some o → same b (s.name ++ 46 ∷ o.name) ≡ true
      → n ≡ m → k ≡ l → same a b ≡ true
  texts_same at in_row is bt in_other os e f =
      let one : r ≡ s = same_slice ps n m r s at bt e in
      let port : q ≡ o = same_slice s.ports (k - 1) (l - 1) q o (ap (λ (x : PartitionText). slice_get x.ports (k - 1)) (sym one) ∙ in_row) in_other (ap (λ (x : ℕ). x - 1) f) in
      same_texts a b (s.name ++ 46 ∷ o.name) (ap (λ (x : PartitionText). same a (x.name ++ 46 ∷ o.name)) (sym one) ∙ ap (λ (x : PortText). same a (r.name ++ 46 ∷ x.name)) (sym port) ∙ is) os

  numbers_are : end_of ps a ≡ Some (end_at (n + 1) k) → slice_get ps n ≡ Some r → slice_get r.ports (k - 1) ≡ Some q → same a (r.name ++ 46 ∷ q.name) ≡ true
      → end_of ps b ≡ Some (end_at (m + 1) l) → slice_get ps m ≡ Some s → slice_get s.ports (l - 1) ≡ Some o → same b (s.name ++ 46 ∷ o.name) ≡ true
      → (n + 1 == m + 1) && (k == l) ≡ same a b
  numbers_are x at in_row is y bt in_other os = elim (cases_Bool ((n + 1 == m + 1) && (k == l))) [
    | inl e ↦ (let parts = and_parts (n + 1 == m + 1) (k == l) e in
        e ∙ sym (texts_same at in_row is bt in_other os (let h = eqb-true (n + 1) (m + 1) parts.0 in omega (arith, h)) (eqb-true k l parts.1)))
    | inr e ↦ elim (cases_Bool (same a b)) [
      | inl t ↦ absurd (false≢true (sym e ∙ same_numbers x y t))
      | inr t ↦ e ∙ sym t
    ]
  ]

same_ports_is : (ps : List PartitionText) (a b : List ℕ) → Met ps a → Met ps b → table.is_same_port (end ps a) (end ps b) ≡ same_port a b
same_ports_is ps a b (device e x y) m = rw (x, e) refl
same_ports_is ps a b (port n k r q d x c at in_row is kept) (device e y z) = rw (x, y, d) (sym (device_differs a b d e))
same_ports_is ps a b (port n k r q d x c at in_row is kept) (port m l s o f y z bt in_other os too) =
    rw (x, y, d) (numbers_are ps a b n k r q m l s o x at in_row is y bt in_other os)

same_ports_any : (ps : List PartitionText) (t : List ℕ) (ts : List (List ℕ)) → Met ps t → AreMet ps ts → list_any (table.is_same_port (end ps t)) (map (end ps) ts) ≡ list_any (same_port t) ts
same_ports_any ps t [] m are = refl
same_ports_any ps t (u ∷ ts) m are = both_or _ _ _ _ (same_ports_is ps t u m are.0) (same_ports_any ps t ts m are.1)

same_ports_twice : (ps : List PartitionText) (ts : List (List ℕ)) → AreMet ps ts → has_twice table.is_same_port (map (end ps) ts) ≡ has_twice same_port ts
unfolding has_twice
same_ports_twice ps [] are = refl
same_ports_twice ps (t ∷ ts) are = both_or _ _ _ _ (same_ports_any ps t ts are.0 are.1) (same_ports_twice ps ts are.1)

abbrev texts_of : ChannelText → List (List ℕ)
texts_of c = c.source ∷ c.destinations

ends_are : (ps : List PartitionText) (cs : List ChannelText) → flat_map table.ends_of (map (rule.channel_row ps) cs) ≡ map (end ps) (flat_map texts_of cs)
ends_are ps [] = refl
ends_are ps (c ∷ cs) = ap (λ (es : List ChannelEnd). map (end ps) (texts_of c) ++ es) (ends_are ps cs) ∙ sym (map-append (end ps) (texts_of c) (flat_map texts_of cs))

texts_met : (ps : List PartitionText) (cs : List ChannelText) → AllMet ps cs → AreMet ps (flat_map texts_of cs)
texts_met ps [] are = tt
texts_met ps (c ∷ cs) are = met_append ps (texts_of c) (flat_map texts_of cs) are.0 (texts_met ps cs are.1)

twice_is : (seen : List (List ℕ)) (e : End) → list_any (same_port e.text) seen ≡ has_any (twice seen e)
twice_is seen e = any_and (is_device e.text) (same e.text) seen ∙ by_tests (is_device e.text) (is_among e.text seen)
  where
    any_and : (b : Bool) (test : List ℕ → Bool) (xs : List (List ℕ)) → list_any (λ x. not b && test x) xs ≡ not b && list_any test xs
    any_and true test [] = refl
    any_and true test (x ∷ xs) = any_and true test xs
    any_and false test xs = refl

    by_tests : (b c : Bool) → not b && c ≡ has_any (if b then [] else if c then one_at e (PortTwice e.text) else [])
    by_tests true c = refl
    by_tests false true = refl
    by_tests false false = refl

destinations_twice_is : (seen : List (List ℕ)) (r : Row) (i : ℕ) (ds : List (List ℕ)) → twice_behind same_port seen ds ≡ has_any (destinations_twice seen r i ds)
destinations_twice_is seen r i [] = refl
destinations_twice_is seen r i (d ∷ ds) = two _ _ _ _ (twice_is seen (destination_end r i d)) (destinations_twice_is (seen ++ d ∷ []) r (i + 1) ds)

twice_from_is : (seen : List (List ℕ)) (i : ℕ) (cs : List ChannelText) → twice_behind same_port seen (flat_map texts_of cs) ≡ has_any (twice_from seen i cs)
twice_from_is seen i [] = refl
twice_from_is seen i (c ∷ cs) =
    behind_append same_port seen (texts_of c) (flat_map texts_of cs)
    ∙ two _ _ _ _
    (two _ _ _ _ (twice_is seen (source_end i c)) (destinations_twice_is (seen ++ c.source ∷ []) (text_row i c) 0 c.destinations))
    (ap (λ (ts : List (List ℕ)). twice_behind same_port ts (flat_map texts_of cs)) (sym (append_assoc seen (c.source ∷ []) c.destinations)) ∙ twice_from_is ((seen ++ c.source ∷ []) ++ c.destinations) (i + 1) cs)

-- ---- the table

channels_met : (frame : ℤ) (ps : List PartitionText) (cs : List ChannelText) → list_any (exceeds_partition frame) ps ≡ false → list_any (has_unknown_end ps) cs ≡ false → AllMet ps cs
channels_met frame ps [] kept known = tt
channels_met frame ps (c ∷ cs) kept known =
    (all_met frame ps (texts_of c) kept (or_first (has_unknown_end ps c) (list_any (has_unknown_end ps) cs) known), channels_met frame ps cs kept (or_second (has_unknown_end ps c) (list_any (has_unknown_end ps) cs) known))

either_way : (a b : Bool) → a || b ≡ b || a
either_way true true = refl
either_way true false = refl
either_way false true = refl
either_way false false = refl

pub ends_any : (t : TableText) → exceeds_limits t ≡ false → has_unknown_name t ≡ false → table.has_wrong_ends (rows t.partitions) (map (rule.channel_row t.partitions) t.channels) ≡ has_any (text.ends t)
ends_any t kept known =
    let ports_kept = or_second (exceeds_counts t || exceeds_rows t || has_costs_outside t.costs) (list_any (exceeds_partition t.frame) t.partitions) kept in
    let are = channels_met t.frame t.partitions t.channels ports_kept (ends_known t known) in
    either_way (has_twice table.is_same_port (flat_map table.ends_of (map (rule.channel_row t.partitions) t.channels))) (list_any (table.is_wrong (rows t.partitions)) (map (rule.channel_row t.partitions) t.channels))
    ∙ two _ _ _ _ (channels_any t.partitions 0 t.channels are)
    (ap (has_twice table.is_same_port) (ends_are t.partitions t.channels)
    ∙ same_ports_twice t.partitions (flat_map texts_of t.channels) (texts_met t.partitions t.channels are)
    ∙ behind_none same_port same_port_symm (flat_map texts_of t.channels)
    ∙ twice_from_is [] 0 t.channels)

-- A document is no table if and only if a wrong key, type or word is found.
use Rattle.finding_laws.proofs.Prelude.{◌≡◌, ℕ, ℤ, ◌+◌, ◌&&◌, ◌||◌, Bool, ◌∷◌, ◌++◌, Option, Some, ◌∙◌, codes, inr, and_left, and_parts, and_right, cases_Bool, or_left, or_right, Less, Equal, Greater, Ordering, none-some, slice_cmp, match_ordering, nat_cmp, if◌then◌else◌, is_none, unwrap_or, Data, Items, Members, array, as_array, as_bool, as_integer, as_str, as_table, boolean, datetime, float, get_member, integer, is_sorted, items_are_sorted, member, members_are_sorted, string, table, ◌>>=◌, PortText, array_at, cost_keys, integer_at, is_cost_key, is_one_of, is_partition_key, is_table_key, optional_array_at, optional_costs, optional_table_at, table_at, text_at, keys, needed, Finding, NoWord, each, of_part, of_type, one, row_at, Row, Subject, Module, Health, Words}
use Rattle.std.proofs.Common.{true, false, not, List, [], None, refl, sym, ap, inl}
use Rattle.finding_laws.proofs.Numbers.{same_list}
use Rattle.std.specs.List.{list_any}
use Rattle.std.specs.Prelude.{is_some}
use Rattle.toml.specs.Data.{item, no_items, no_members}
use Rattle.module_meaning.specs.TableRules.{boolean_at, channel_of, costs_of, direction_of, discipline_of, has_only, has_texts_only, integers_at, is_channel_key, is_queuing_key, is_sampling_key, is_window_key, kind_of, partition_of, port_of, queuing_of, same, sampling_of, table_text_of, tables_of, texts_of, window_of}
use Rattle.finding_laws.specs.Any.{has_any}
use Rattle.finding_laws.proofs.Found.{any_append, any_unless, two}
use Rattle.finding_laws.proofs.Health.{none_if, none_then, word_any}
use Rattle.finding_laws.proofs.Keys.{or_false, same_cmp, array_sorted_at, at_key, sorted_at}
use Rattle.finding_laws.proofs.Ors.{all_of, answer, any_or, any_same, either, reordered, the}
use Rattle.finding_laws.proofs.Parts.{is_array, is_boolean, is_integer, is_missing, is_table, is_text, is_wrong_member, part_any}
use Rattle.finding_laws.proofs.Twice.{both_or}
use Rattle.table_findings.specs.Fields.{words_of}
use Rattle.table_findings.specs.Shape as shape
use Rattle.table_findings.specs.Shape.{items_at, unnamed, word}
use Rattle.table_findings.specs.Subjects.{Costs, Partition, Port, Window, Channel, Destination}
use Rattle.table_findings.specs.declared.fields.Part.{Part}
use Rattle.table_findings.specs.declared.fields.Part.TheVariants as part
use Rattle.table_findings.specs.declared.words.Words.TheVariants as words

-- ---- a value at a key

abbrev is_of : Subject → List ℕ → List ℕ → Data → Bool
is_of s type k d = has_any (of_type s (Some k) type d)

value_at : {A : Type 0} (read : Data → Option A) (test : List ℕ → Data → Bool) (k : List ℕ) (ms : Members) → ((d : Data) → is_none (read d) ≡ test k d) → is_none (get_member k ms >>= read) ≡ is_missing ms k || at_key test ms k
value_at read test k ms h = by_member (get_member k ms)
  where
    by_member : (o : Option Data) → is_none (o >>= read) ≡ is_none o || elim o [ None ↦ false | Some d ↦ test k d ]
    by_member None = refl
    by_member (Some d) = h d

module _ (s : Subject) (k : List ℕ) (ms : Members) where
  no_text : is_none (text_at k ms) ≡ is_missing ms k || at_key (is_of s (codes "string")) ms k
  no_text = value_at as_str (is_of s (codes "string")) k ms (is_text s (Some k))

  no_integer : is_none (integer_at k ms) ≡ is_missing ms k || at_key (is_of s (codes "integer")) ms k
  no_integer = value_at as_integer (is_of s (codes "integer")) k ms (is_integer s (Some k))

  no_boolean : is_none (boolean_at k ms) ≡ is_missing ms k || at_key (is_of s (codes "boolean")) ms k
  no_boolean = value_at as_bool (is_of s (codes "boolean")) k ms (is_boolean s (Some k))

  no_array : is_none (array_at k ms) ≡ is_missing ms k || at_key (is_of s (codes "array")) ms k
  no_array = value_at as_array (is_of s (codes "array")) k ms (is_array s (Some k))

  no_table : is_none (table_at k ms) ≡ is_missing ms k || at_key (is_of s (codes "table")) ms k
  no_table = value_at as_table (is_of s (codes "table")) k ms (is_table s (Some k))

-- an array that has to be there, and what is read of its items
needed_array : {A : Type 0} (o : Option Items) (read : Items → Option A) → is_none (o >>= read) ≡ is_none o || is_none (read (unwrap_or o no_items))
needed_array None read = refl
needed_array (Some ds) read = refl

-- an array that may be absent
optional_array : {A : Type 0} (s : Subject) (k : List ℕ) (ms : Members) (read : Items → Option A) → is_none (optional_array_at k ms >>= read) ≡ at_key (is_of s (codes "array")) ms k || is_none (read (items_at k ms))
optional_array s k ms read = by_member (get_member k ms)
  where
    by_member : (o : Option Data) → ◌≡◌ {A = Bool} (is_none ((elim o [ None ↦ Some no_items | Some d ↦ as_array d ]) >>= read)) (elim o [ None ↦ false | Some d ↦ is_of s (codes "array") k d ] || is_none (read (unwrap_or (o >>= as_array) no_items)))
    by_member None = refl
    by_member (Some (string x)) = refl
    by_member (Some (integer x)) = refl
    by_member (Some (float x)) = refl
    by_member (Some (boolean x)) = refl
    by_member (Some (datetime x)) = refl
    by_member (Some (array x)) = refl
    by_member (Some (table x)) = refl

-- ---- tables in an array

and_others : {A : Type 0} (x : A) (rest : Option (List A)) → is_none (rest >>= λ xs. Some (x ∷ xs)) ≡ is_none rest
and_others x None = refl
and_others x (Some xs) = refl

one_table : {A : Type 0} (read : Members → Option A) (o : Option Members) (rest : Option (List A)) → is_none (o >>= λ ms. read ms >>= λ x. rest >>= λ xs. Some (x ∷ xs)) ≡ is_none (o >>= read) || is_none rest
one_table read None rest = refl
one_table read (Some ms) rest = none_then (read ms) _ _ (λ x. and_others x rest)

tables_any : {A : Type 0} (read : Members → Option A) (of_element : ℕ → Data → List Finding) → ((i : ℕ) (d : Data) → is_sorted d ≡ true → is_none (as_table d >>= read) ≡ has_any (of_element i d))
    → (i : ℕ) (ds : Items) → items_are_sorted ds ≡ true → is_none (tables_of read ds) ≡ has_any (each of_element i ds)
unfolding tables_of
tables_any read of_element h i no_items sorted = refl
tables_any read of_element h i (item d ds) sorted =
    let parts = and_parts (is_sorted d) (items_are_sorted ds) sorted in
    one_table read (as_table d) (tables_of read ds) ∙ two _ _ _ _ (h i d parts.0) (tables_any read of_element h (i + 1) ds parts.1)

-- an element of an array of tables
element_any : {A : Type 0} (read : Members → Option A) (s : Subject) (of_table : Members → List Finding) → ((ms : Members) → members_are_sorted ms ≡ true → is_none (read ms) ≡ has_any (of_table ms))
    → (d : Data) → is_sorted d ≡ true → ◌≡◌ {A = Bool} (is_none (as_table d >>= read)) (has_any (elim (as_table d) [ None ↦ of_type s None (codes "table") d | Some ms ↦ of_table ms ]))
element_any read s of_table h (table ms) sorted = h ms sorted
element_any read s of_table h (string x) sorted = refl
element_any read s of_table h (integer x) sorted = refl
element_any read s of_table h (float x) sorted = refl
element_any read s of_table h (boolean x) sorted = refl
element_any read s of_table h (datetime x) sorted = refl
element_any read s of_table h (array x) sorted = refl

items_sorted : (k : List ℕ) (ms : Members) → members_are_sorted ms ≡ true → items_are_sorted (items_at k ms) ≡ true
items_sorted k ms sorted = by_array (array_at k ms) refl
  where
    by_array : (o : Option Items) → array_at k ms ≡ o → items_are_sorted (unwrap_or o no_items) ≡ true
    by_array None is = refl
    by_array (Some ds) is = array_sorted_at k ms ds sorted is

-- ---- windows

window_any : (s : Subject) (ms : Members) → members_are_sorted ms ≡ true → is_none (window_of ms) ≡ has_any (of_part s part.Window ms)
unfolding window_of
window_any s ms sorted =
    let there = is_missing ms in
    let text = at_key (is_of s (codes "string")) ms in
    let number = at_key (is_of s (codes "integer")) ms in
    let truth = at_key (is_of s (codes "boolean")) ms in
    none_then (text_at (codes "partition") ms) _ _ (λ a. none_then (integer_at (codes "offset") ms) _ _ (λ b. none_then (integer_at (codes "length") ms) _ _ (λ c. none_then (boolean_at (codes "release") ms) _ _ (λ d. none_if (has_only is_window_key ms) _))))
    ∙ both_or _ _ _ _ (no_text s (codes "partition") ms) (both_or _ _ _ _ (no_integer s (codes "offset") ms) (both_or _ _ _ _ (no_integer s (codes "length") ms) (both_or _ _ _ _ (no_boolean s (codes "release") ms) refl)))
    ∙ reordered (there (codes "partition") ∷ there (codes "offset") ∷ there (codes "length") ∷ there (codes "release") ∷ text (codes "partition") ∷ number (codes "offset") ∷ number (codes "length") ∷ truth (codes "release") ∷ not (has_only is_window_key ms) ∷ [])
    (either (either (the 0) (the 4)) (either (either (the 1) (the 5)) (either (either (the 2) (the 6)) (either (either (the 3) (the 7)) (the 8)))))
    (either (all_of (0 ∷ 1 ∷ 2 ∷ 3 ∷ [])) (either (the 8) (all_of (4 ∷ 5 ∷ 6 ∷ 7 ∷ [])))) refl
    ∙ part_any s part.Window ms sorted

windows_any : (i : ℕ) (ds : Items) → items_are_sorted ds ≡ true → is_none (tables_of window_of ds) ≡ has_any (each shape.window i ds)
windows_any = tables_any window_of shape.window (λ i d. element_any window_of (Window (unnamed i)) (λ ms. of_part (Window (row_at i (codes "partition") ms)) part.Window ms) (λ ms. window_any (Window (row_at i (codes "partition") ms)) ms) d)

-- ---- channels

one_text : (o : Option (List ℕ)) (rest : Option (List (List ℕ))) → is_none (o >>= λ x. rest >>= λ xs. Some (x ∷ xs)) ≡ is_none o || is_none rest
one_text None rest = refl
one_text (Some x) None = refl
one_text (Some x) (Some xs) = refl

texts_any : (r : Row) (i : ℕ) (ds : Items) → is_none (texts_of ds) ≡ has_any (each (shape.destination r) i ds)
unfolding texts_of
texts_any r i no_items = refl
texts_any r i (item d ds) = one_text (as_str d) (texts_of ds) ∙ two _ _ _ _ (is_text (Destination i r) None d) (texts_any r (i + 1) ds)

channel_any : (r : Row) (ms : Members) → members_are_sorted ms ≡ true → is_none (channel_of ms) ≡ has_any (shape.channel_table r ms)
unfolding channel_of
channel_any r ms sorted =
    let s = Channel r in
    let there = is_missing ms in
    let text = at_key (is_of s (codes "string")) ms in
    let items = at_key (is_of s (codes "array")) ms in
    let ends = is_none (texts_of (items_at (codes "destinations") ms)) in
    none_then (text_at (codes "name") ms) _ _ (λ a. none_then (text_at (codes "source") ms) _ _ (λ b. none_then (array_at (codes "destinations") ms >>= texts_of) _ _ (λ c. none_if (has_only is_channel_key ms) _)))
    ∙ both_or _ _ _ _ (no_text s (codes "name") ms) (both_or _ _ _ _ (no_text s (codes "source") ms) (both_or _ _ _ _ (needed_array (array_at (codes "destinations") ms) texts_of ∙ both_or _ _ _ _ (no_array s (codes "destinations") ms) refl) refl))
    ∙ reordered (there (codes "name") ∷ there (codes "source") ∷ there (codes "destinations") ∷ text (codes "name") ∷ text (codes "source") ∷ items (codes "destinations") ∷ not (has_only is_channel_key ms) ∷ ends ∷ [])
    (either (either (the 0) (the 3)) (either (either (the 1) (the 4)) (either (either (either (the 2) (the 5)) (the 7)) (the 6))))
    (either (either (all_of (0 ∷ 1 ∷ 2 ∷ [])) (either (the 6) (all_of (3 ∷ 4 ∷ 5 ∷ [])))) (the 7)) refl
    ∙ two _ _ _ _ (part_any s part.Channel ms sorted) (texts_any r 0 (items_at (codes "destinations") ms))

channels_any : (i : ℕ) (ds : Items) → items_are_sorted ds ≡ true → is_none (tables_of channel_of ds) ≡ has_any (each shape.channel i ds)
channels_any = tables_any channel_of shape.channel (λ i d. element_any channel_of (Channel (unnamed i)) (λ ms. shape.channel_table (row_at i (codes "name") ms) ms) (λ ms. channel_any (row_at i (codes "name") ms) ms) d)

-- ---- costs

integers_any : (ks : List (List ℕ)) (ms : Members) → is_none (integers_at ks ms) ≡ list_any (λ k. is_none (integer_at k ms)) ks
unfolding integers_at
integers_any [] ms = refl
integers_any (k ∷ ks) ms = by_first (integer_at k ms) (integers_at ks ms) ∙ ap (λ (b : Bool). is_none (integer_at k ms) || b) (integers_any ks ms)
  where
    by_first : (o : Option ℤ) (rest : Option (List ℤ)) → is_none (o >>= λ z. rest >>= λ zs. Some (z ∷ zs)) ≡ is_none o || is_none rest
    by_first None rest = refl
    by_first (Some z) None = refl
    by_first (Some z) (Some zs) = refl

costs_any : (ms : Members) → members_are_sorted ms ≡ true → is_none (costs_of ms) ≡ has_any (of_part Costs part.Costs ms)
unfolding costs_of
costs_any ms sorted =
    let there = list_any (is_missing ms) cost_keys in
    let number = list_any (at_key (is_of Costs (codes "integer")) ms) cost_keys in
    none_then (integers_at cost_keys ms) _ _ (λ numbers. none_if (has_only is_cost_key ms) numbers)
    ∙ both_or _ _ _ _
    (integers_any cost_keys ms
    ∙ any_same (λ k. is_none (integer_at k ms)) (λ k. is_missing ms k || at_key (is_of Costs (codes "integer")) ms k) cost_keys (λ k. no_integer Costs k ms)
    ∙ any_or (is_missing ms) (at_key (is_of Costs (codes "integer")) ms) cost_keys)
    refl
    ∙ reordered (there ∷ number ∷ not (has_only is_cost_key ms) ∷ []) (either (either (the 0) (the 1)) (the 2)) (either (the 0) (either (the 2) (the 1))) refl
    ∙ part_any Costs part.Costs ms sorted

-- ---- ports

none_of_two : {A : Type 0} (a b : Bool) (x y : A) → is_none (if a then Some x else (if b then Some y else None)) ≡ not (a || (b || false))
none_of_two true b x y = refl
none_of_two false true x y = refl
none_of_two false false x y = refl

direction_is : (text : List ℕ) → is_none (direction_of text) ≡ not (is_one_of (words_of words.Direction) text)
unfolding direction_of
direction_is text = none_of_two (same text (codes "SOURCE")) (same text (codes "DESTINATION")) _ _

discipline_is : (text : List ℕ) → is_none (discipline_of text) ≡ not (is_one_of (words_of words.Discipline) text)
unfolding discipline_of
discipline_is text = none_of_two (same text (codes "FIFO")) (same text (codes "PRIORITY")) _ _

-- a text at a key that is one of some words
no_word : {A : Type 0} (s : Subject) (w : Words) (k : List ℕ) (ms : Members) (of_word : List ℕ → Option A) → ((text : List ℕ) → is_none (of_word text) ≡ not (is_one_of (words_of w) text))
    → is_none (text_at k ms >>= of_word) ≡ (is_missing ms k || at_key (is_of s (codes "string")) ms k) || has_any (word s k w ms)
no_word s w k ms of_word h = by_member (get_member k ms)
  where
    by_member : (o : Option Data) → ◌≡◌ {A = Bool} (is_none (o >>= as_str >>= of_word))
        ((is_none o || elim o [ None ↦ false | Some d ↦ is_of s (codes "string") k d ]) || has_any (elim (o >>= as_str) [ None ↦ [] | Some text ↦ if is_one_of (words_of w) text then [] else one s (Some k) (NoWord text w) ]))
    by_member None = refl
    by_member (Some (string text)) = h text ∙ sym (any_unless (is_one_of (words_of w) text) [] (one s (Some k) (NoWord text w)) refl refl)
    by_member (Some (integer x)) = refl
    by_member (Some (float x)) = refl
    by_member (Some (boolean x)) = refl
    by_member (Some (datetime x)) = refl
    by_member (Some (array x)) = refl
    by_member (Some (table x)) = refl

abbrev words_found : Subject → Members → Bool
words_found s ms = has_any (shape.port_words s ms)

sampling_any : (ms : Members) → is_none (sampling_of ms) ≡ is_none (integer_at (codes "refresh") ms) || not (has_only is_sampling_key ms)
unfolding sampling_of
sampling_any ms = none_then (integer_at (codes "refresh") ms) _ _ (λ a. none_if (has_only is_sampling_key ms) _)

queuing_any : (ms : Members) → is_none (queuing_of ms) ≡ is_none (integer_at (codes "depth") ms) || (is_none (text_at (codes "discipline") ms >>= discipline_of) || not (has_only is_queuing_key ms))
unfolding queuing_of
queuing_any ms = none_then (integer_at (codes "depth") ms) _ _ (λ a. none_then (text_at (codes "discipline") ms >>= discipline_of) _ _ (λ b. none_if (has_only is_queuing_key ms) _))

at_last : {A B : Type 0} (o : Option A) (f : A → B) → is_none (o >>= λ z. Some (f z)) ≡ is_none o
at_last None f = refl
at_last (Some z) f = refl

port_parts : (ms : Members) → is_none (port_of ms) ≡ is_none (text_at (codes "name") ms) || (is_none (kind_of ms) || (is_none (text_at (codes "direction") ms >>= direction_of) || is_none (integer_at (codes "words") ms)))
unfolding port_of
port_parts ms =
    none_then (text_at (codes "name") ms) _ _ (λ a. none_then (kind_of ms) _ _ (λ b. none_then (text_at (codes "direction") ms >>= direction_of) _ _ (λ c. at_last (integer_at (codes "words") ms) _)))

-- a key that is not known
not_only : (ks : List (List ℕ)) (k : List ℕ) (ms : Members) (d : Data) → is_one_of ks k ≡ false → get_member k ms ≡ Some d → has_only (is_one_of ks) ms ≡ false
unfolding has_only
not_only ks k no_members d unknown is = absurd (none-some d is)
not_only ks k (member l e ms) d unknown is = by_order (slice_cmp nat_cmp k l) refl (not_only ks k ms d unknown) is
  where
    by_order : (o : Ordering) → o ≡ slice_cmp nat_cmp k l → (get_member k ms ≡ Some d → has_only (is_one_of ks) ms ≡ false) → match_ordering o (get_member k ms) (Some e) (get_member k ms) ≡ Some d → is_one_of ks l && has_only (is_one_of ks) ms ≡ false
    by_order Less here rest is = and_right (is_one_of ks l) (has_only (is_one_of ks) ms) (rest is)
    by_order Greater here rest is = and_right (is_one_of ks l) (has_only (is_one_of ks) ms) (rest is)
    by_order Equal here rest is = and_left (is_one_of ks l) (has_only (is_one_of ks) ms) (ap (is_one_of ks) (sym (same_list k l (sym (same_cmp k l Equal here)))) ∙ unknown)

-- a word of a key that is not known
no_other_word : (s : Subject) (w : Words) (ks : List (List ℕ)) (k : List ℕ) (ms : Members) → is_one_of ks k ≡ false → not (has_only (is_one_of ks) ms) || has_any (word s k w ms) ≡ not (has_only (is_one_of ks) ms)
no_other_word s w ks k ms unknown = by_member (get_member k ms) refl
  where
    by_member : (o : Option Data) → get_member k ms ≡ o
        → not (has_only (is_one_of ks) ms) || has_any (elim (o >>= as_str) [ None ↦ [] | Some text ↦ if is_one_of (words_of w) text then [] else one s (Some k) (NoWord text w) ]) ≡ not (has_only (is_one_of ks) ms)
    by_member None is = or_false (not (has_only (is_one_of ks) ms))
    by_member (Some d) is = rw (not_only ks k ms d unknown is) refl

words_parts : (s : Subject) (ms : Members) → has_any (word s (codes "kind") words.Kind ms) || (has_any (word s (codes "direction") words.Direction ms) || has_any (word s (codes "discipline") words.Discipline ms)) ≡ words_found s ms
words_parts s ms =
    let of_kind = word s (codes "kind") words.Kind ms in
    let of_direction = word s (codes "direction") words.Direction ms in
    let of_discipline = word s (codes "discipline") words.Discipline ms in
    sym (any_append of_kind (of_direction ++ of_discipline) ∙ ap (λ (b : Bool). has_any of_kind || b) (any_append of_direction of_discipline))

-- a port of a known kind
module _ (s : Subject) (ms : Members) (sorted : members_are_sorted ms ≡ true) where
  abbrev there : List ℕ → Bool
  there = is_missing ms

  abbrev text : List ℕ → Bool
  text = at_key (is_of s (codes "string")) ms

  abbrev number : List ℕ → Bool
  number = at_key (is_of s (codes "integer")) ms

  table_parts : (p : Part) → shape.part_of_kind (text_at (codes "kind") ms) ≡ p
      → (list_any (is_missing ms) (needed p) || (not (has_only (is_one_of (keys p)) ms) || list_any (at_key (is_wrong_member s p) ms) (keys p))) || (has_any (word s (codes "kind") words.Kind ms) || (has_any (word s (codes "direction") words.Direction ms) || has_any (word s (codes "discipline") words.Discipline ms)))
      ≡ has_any (shape.port_table s ms)
  table_parts p is = two _ _ _ _ (part_any s p ms sorted) (words_parts s ms) ∙ ap (λ (q : Part). has_any (of_part s q ms ++ shape.port_words s ms)) (sym is)

  kind_there : (kind : List ℕ) → text_at (codes "kind") ms ≡ Some kind → there (codes "kind") || text (codes "kind") ≡ false
  kind_there kind is = sym (no_text s (codes "kind") ms) ∙ ap is_none is

  kind_known : (kind : List ℕ) → text_at (codes "kind") ms ≡ Some kind → is_one_of (words_of words.Kind) kind ≡ true → has_any (word s (codes "kind") words.Kind ms) ≡ false
  kind_known kind is known = sym (word_any s (codes "kind") words.Kind ms kind is) ∙ ap not known

  sampling_port : (kind : List ℕ) → text_at (codes "kind") ms ≡ Some kind → same kind (codes "SAMPLING") ≡ true → is_none (port_of ms) ≡ has_any (shape.port_table s ms)
  unfolding kind_of
  sampling_port kind is e =
      let only = not (has_only is_sampling_key ms) in
      let of_direction = has_any (word s (codes "direction") words.Direction ms) in
      let of_discipline = has_any (word s (codes "discipline") words.Discipline ms) in
      let of_kind = has_any (word s (codes "kind") words.Kind ms) in
      let leaves = there (codes "name") ∷ there (codes "kind") ∷ there (codes "direction") ∷ there (codes "words") ∷ there (codes "refresh") ∷ text (codes "name") ∷ text (codes "kind") ∷ text (codes "direction") ∷ number (codes "words") ∷ number (codes "refresh") ∷ only ∷ of_kind ∷ of_direction ∷ of_discipline ∷ [] in
      let tests = either (either (the 0) (the 5)) (either (either (either (the 4) (the 9)) (the 10)) (either (either (either (the 2) (the 7)) (the 12)) (either (the 3) (the 8)))) in
      port_parts ms
      ∙ both_or _ _ _ _ (no_text s (codes "name") ms)
      (both_or _ _ _ _ (ap is_none (kind_is kind is e) ∙ sampling_any ms ∙ both_or _ _ _ _ (no_integer s (codes "refresh") ms) refl)
      (both_or _ _ _ _ (no_word s words.Direction (codes "direction") ms direction_of direction_is) (no_integer s (codes "words") ms)))
      ∙ reordered leaves tests (either tests (the 10)) refl
      ∙ ap (λ (b : Bool). answer leaves tests || b) (sym (no_other_word s words.Discipline (keys part.SamplingPort) (codes "discipline") ms refl))
      ∙ ap (λ (b : Bool). answer leaves tests || (b || (only || of_discipline))) (sym (kind_known kind is (rw e refl)))
      ∙ ap (λ (b : Bool). answer leaves tests || (of_kind || (b || (only || of_discipline)))) (sym (kind_there kind is))
      ∙ reordered leaves (either tests (either (the 11) (either (either (the 1) (the 6)) (either (the 10) (the 13)))))
      (either (either (all_of (0 ∷ 1 ∷ 2 ∷ 3 ∷ 4 ∷ [])) (either (the 10) (all_of (5 ∷ 6 ∷ 7 ∷ 8 ∷ 9 ∷ [])))) (either (the 11) (either (the 12) (the 13)))) refl
      ∙ table_parts part.SamplingPort (ap shape.part_of_kind is ∙ rw e refl)
    where
      kind_is : (kind : List ℕ) → text_at (codes "kind") ms ≡ Some kind → same kind (codes "SAMPLING") ≡ true → kind_of ms ≡ sampling_of ms
      kind_is kind is e = rw (kind_of, is, e) refl

  queuing_port : (kind : List ℕ) → text_at (codes "kind") ms ≡ Some kind → same kind (codes "SAMPLING") ≡ false → same kind (codes "QUEUING") ≡ true → is_none (port_of ms) ≡ has_any (shape.port_table s ms)
  unfolding kind_of
  queuing_port kind is d e =
      let only = not (has_only is_queuing_key ms) in
      let of_direction = has_any (word s (codes "direction") words.Direction ms) in
      let of_discipline = has_any (word s (codes "discipline") words.Discipline ms) in
      let of_kind = has_any (word s (codes "kind") words.Kind ms) in
      let leaves = there (codes "name") ∷ there (codes "kind") ∷ there (codes "direction") ∷ there (codes "words") ∷ there (codes "depth") ∷ there (codes "discipline") ∷ text (codes "name") ∷ text (codes "kind") ∷ text (codes "direction") ∷ number (codes "words") ∷ number (codes "depth") ∷ text (codes "discipline") ∷ only ∷ of_kind ∷ of_direction ∷ of_discipline ∷ [] in
      let tests = either (either (the 0) (the 6)) (either (either (either (the 4) (the 10)) (either (either (either (the 5) (the 11)) (the 15)) (the 12))) (either (either (either (the 2) (the 8)) (the 14)) (either (the 3) (the 9)))) in
      port_parts ms
      ∙ both_or _ _ _ _ (no_text s (codes "name") ms)
      (both_or _ _ _ _ (ap is_none (kind_is kind is d e) ∙ queuing_any ms ∙ both_or _ _ _ _ (no_integer s (codes "depth") ms) (both_or _ _ _ _ (no_word s words.Discipline (codes "discipline") ms discipline_of discipline_is) refl))
      (both_or _ _ _ _ (no_word s words.Direction (codes "direction") ms direction_of direction_is) (no_integer s (codes "words") ms)))
      ∙ sym (or_false (answer leaves tests))
      ∙ ap (λ (b : Bool). answer leaves tests || b) (sym (kind_known kind is (rw (d, e) refl)))
      ∙ ap (λ (b : Bool). answer leaves tests || (b || of_kind)) (sym (kind_there kind is))
      ∙ reordered leaves (either tests (either (either (the 1) (the 7)) (the 13)))
      (either (either (all_of (0 ∷ 1 ∷ 2 ∷ 3 ∷ 4 ∷ 5 ∷ [])) (either (the 12) (all_of (6 ∷ 7 ∷ 8 ∷ 9 ∷ 10 ∷ 11 ∷ [])))) (either (the 13) (either (the 14) (the 15)))) refl
      ∙ table_parts part.QueuingPort (ap shape.part_of_kind is ∙ rw (d, e) refl)
    where
      kind_is : (kind : List ℕ) → text_at (codes "kind") ms ≡ Some kind → same kind (codes "SAMPLING") ≡ false → same kind (codes "QUEUING") ≡ true → kind_of ms ≡ queuing_of ms
      kind_is kind is d e = rw (kind_of, is, d, e) refl

  -- without a kind no port is read
  no_kind : kind_of ms ≡ None → is_none (port_of ms) ≡ true
  no_kind is =
      let name = is_none (text_at (codes "name") ms) in
      let others = is_none (text_at (codes "direction") ms >>= direction_of) || is_none (integer_at (codes "words") ms) in
      port_parts ms ∙ or_right name (is_none (kind_of ms) || others) (or_left (is_none (kind_of ms)) others (ap is_none is))

  unknown_kind : (kind : List ℕ) → text_at (codes "kind") ms ≡ Some kind → same kind (codes "SAMPLING") ≡ false → same kind (codes "QUEUING") ≡ false → is_none (port_of ms) ≡ has_any (shape.port_table s ms)
  unfolding kind_of
  unknown_kind kind is d e =
      let of_kind = has_any (word s (codes "kind") words.Kind ms) in
      let others = has_any (word s (codes "direction") words.Direction ms) || has_any (word s (codes "discipline") words.Discipline ms) in
      no_kind (rw (kind_of, is, d, e) refl)
      ∙ sym (or_right _ (of_kind || others) (or_left of_kind others (sym (word_any s (codes "kind") words.Kind ms kind is) ∙ rw (d, e) refl)))
      ∙ table_parts part.Port (ap shape.part_of_kind is ∙ rw (d, e) refl)

  missing_kind : text_at (codes "kind") ms ≡ None → is_none (port_of ms) ≡ has_any (shape.port_table s ms)
  unfolding kind_of
  missing_kind is =
      let others = has_any (word s (codes "kind") words.Kind ms) || (has_any (word s (codes "direction") words.Direction ms) || has_any (word s (codes "discipline") words.Discipline ms)) in
      let leaves = there (codes "name") ∷ there (codes "kind") ∷ there (codes "direction") ∷ there (codes "words") ∷ text (codes "name") ∷ text (codes "kind") ∷ text (codes "direction") ∷ number (codes "words") ∷ number (codes "refresh") ∷ number (codes "depth") ∷ text (codes "discipline") ∷ not (has_only (is_one_of (keys part.Port)) ms) ∷ others ∷ [] in
      let tests = either (either (all_of (0 ∷ 1 ∷ 2 ∷ 3 ∷ [])) (either (the 11) (all_of (4 ∷ 5 ∷ 6 ∷ 7 ∷ 8 ∷ 9 ∷ 10 ∷ [])))) (the 12) in
      no_kind (rw (kind_of, is) refl)
      ∙ sym (or_left (there (codes "kind") || text (codes "kind")) (answer leaves tests) (sym (no_text s (codes "kind") ms) ∙ ap is_none is))
      ∙ reordered leaves (either (either (the 1) (the 5)) tests) tests refl
      ∙ table_parts part.Port (ap shape.part_of_kind is)

port_any : (partition : Row) (r : Row) (ms : Members) → members_are_sorted ms ≡ true → is_none (port_of ms) ≡ has_any (shape.port_table (Port r partition) ms)
port_any partition r ms sorted = by_kind (text_at (codes "kind") ms) refl
  where
    by_kind : (o : Option (List ℕ)) → text_at (codes "kind") ms ≡ o → is_none (port_of ms) ≡ has_any (shape.port_table (Port r partition) ms)
    by_kind None is = missing_kind (Port r partition) ms sorted is
    by_kind (Some kind) is = elim (cases_Bool (same kind (codes "SAMPLING"))) [
      | inl e ↦ sampling_port (Port r partition) ms sorted kind is e
      | inr d ↦ elim (cases_Bool (same kind (codes "QUEUING"))) [
        | inl e ↦ queuing_port (Port r partition) ms sorted kind is d e
        | inr e ↦ unknown_kind (Port r partition) ms sorted kind is d e
      ]
    ]

ports_any : (partition : Row) (i : ℕ) (ds : Items) → items_are_sorted ds ≡ true → is_none (tables_of port_of ds) ≡ has_any (each (shape.port partition) i ds)
ports_any partition = tables_any port_of (shape.port partition) (λ i d. element_any port_of (Port (unnamed i) partition) (λ ms. shape.port_table (Port (row_at i (codes "name") ms) partition) ms) (λ ms. port_any partition (row_at i (codes "name") ms) ms) d)

-- ---- partitions

not_both : (a b : Bool) → not (a && b) ≡ not a || not b
not_both true b = refl
not_both false b = refl

some_or_none : {A : Type 0} (o : Option A) → not (is_some o) ≡ is_none o
some_or_none None = refl
some_or_none (Some x) = refl

health_any : (s : Subject) (ms : Members) → not (has_texts_only ms) ≡ has_any (shape.health_members s ms)
unfolding has_texts_only
health_any s no_members = refl
health_any s (member k d ms) = not_both (is_some (as_str d)) (has_texts_only ms) ∙ two _ _ _ _ (some_or_none (as_str d) ∙ is_text s (Some k) d) (health_any s ms)

health_table : {A : Type 0} (r : Row) (o : Option Members) (ports : Option (List PortText)) (only : Bool) (f : Members → List PortText → A)
    → ◌≡◌ {A = Bool} (is_none (o >>= λ h. ports >>= λ qs. if only && has_texts_only h then Some (f h qs) else None))
    (is_none o || (is_none ports || (not only || has_any (elim o [ None ↦ [] | Some inner ↦ shape.health_members (Health r) inner ]))))
health_table r None ports only f = refl
health_table r (Some h) ports only f =
    none_then ports _ _ (λ qs. none_if (only && has_texts_only h) _ ∙ not_both only (has_texts_only h) ∙ ap (λ (b : Bool). not only || b) (health_any (Health r) h))

partition_any : (r : Row) (ms : Members) → members_are_sorted ms ≡ true → is_none (partition_of ms) ≡ has_any (shape.partition_table r ms)
unfolding partition_of
partition_any r ms sorted =
    let s = Partition r in
    let there = is_missing ms in
    let text = at_key (is_of s (codes "string")) ms in
    let number = at_key (is_of s (codes "integer")) ms in
    let inner = at_key (is_of s (codes "table")) ms in
    let items = at_key (is_of s (codes "array")) ms in
    let ports = is_none (tables_of port_of (items_at (codes "port") ms)) in
    none_then (text_at (codes "name") ms) _ _ (λ a. none_then (integer_at (codes "period") ms) _ _ (λ b. none_then (integer_at (codes "duration") ms) _ _ (λ c.
    health_table r (table_at (codes "hm") ms) (optional_array_at (codes "port") ms >>= tables_of port_of) (has_only is_partition_key ms) _)))
    ∙ both_or _ _ _ _ (no_text s (codes "name") ms) (both_or _ _ _ _ (no_integer s (codes "period") ms) (both_or _ _ _ _ (no_integer s (codes "duration") ms)
    (both_or _ _ _ _ (no_table s (codes "hm") ms) (both_or _ _ _ _ (optional_array s (codes "port") ms (tables_of port_of)) refl))))
    ∙ reordered (there (codes "name") ∷ there (codes "period") ∷ there (codes "duration") ∷ there (codes "hm") ∷ text (codes "name") ∷ number (codes "period") ∷ number (codes "duration") ∷ inner (codes "hm") ∷ items (codes "port") ∷ not (has_only is_partition_key ms) ∷ has_any (shape.health r ms) ∷ ports ∷ [])
    (either (either (the 0) (the 4)) (either (either (the 1) (the 5)) (either (either (the 2) (the 6)) (either (either (the 3) (the 7)) (either (either (the 8) (the 11)) (either (the 9) (the 10)))))))
    (either (either (all_of (0 ∷ 1 ∷ 2 ∷ 3 ∷ [])) (either (the 9) (all_of (4 ∷ 5 ∷ 6 ∷ 7 ∷ 8 ∷ [])))) (either (the 10) (the 11))) refl
    ∙ two _ _ _ _ (part_any s part.Partition ms sorted) (two _ _ _ _ refl (ports_any r 0 (items_at (codes "port") ms) (items_sorted (codes "port") ms sorted)))

partitions_any : (i : ℕ) (ds : Items) → items_are_sorted ds ≡ true → is_none (tables_of partition_of ds) ≡ has_any (each shape.partition i ds)
partitions_any = tables_any partition_of shape.partition (λ i d. element_any partition_of (Partition (unnamed i)) (λ ms. shape.partition_table (row_at i (codes "name") ms) ms) (λ ms. partition_any (row_at i (codes "name") ms) ms) d)

-- ---- the document

cost_table : (ms : Members) → members_are_sorted ms ≡ true → is_none (optional_table_at (codes "cost") ms >>= optional_costs) ≡ at_key (is_of Module (codes "table")) ms (codes "cost") || has_any (shape.costs ms)
cost_table ms sorted = by_member (get_member (codes "cost") ms) (λ d is. sorted_at (codes "cost") ms d sorted is)
  where
    some_costs : (o : Option (List ℤ)) → is_none (o >>= λ costs. Some (Some costs)) ≡ is_none o
    some_costs None = refl
    some_costs (Some costs) = refl

    by_member : (o : Option Data) → ((d : Data) → o ≡ Some d → is_sorted d ≡ true)
        → ◌≡◌ {A = Bool} (is_none ((elim o [ None ↦ Some None | Some d ↦ as_table d >>= λ t. Some (Some t) ]) >>= optional_costs))
        (elim o [ None ↦ false | Some d ↦ is_of Module (codes "table") (codes "cost") d ] || has_any (elim (o >>= as_table) [ None ↦ [] | Some inner ↦ of_part Costs part.Costs inner ]))
    by_member None h = refl
    by_member (Some (table inner)) h = some_costs (costs_of inner) ∙ costs_any inner (h (table inner) refl)
    by_member (Some (string x)) h = refl
    by_member (Some (integer x)) h = refl
    by_member (Some (float x)) h = refl
    by_member (Some (boolean x)) h = refl
    by_member (Some (datetime x)) h = refl
    by_member (Some (array x)) h = refl

table_keys : (ms : Members) → has_only is_table_key ms ≡ has_only (is_one_of (keys part.Module)) ms
unfolding has_only
table_keys no_members = refl
table_keys (member k d ms) =
    ap (λ (b : Bool). b && has_only is_table_key ms)
    (reordered (same k (codes "frame") ∷ same k (codes "fault") ∷ same k (codes "cost") ∷ same k (codes "partition") ∷ same k (codes "window") ∷ same k (codes "channel") ∷ [])
    (all_of (0 ∷ 1 ∷ 2 ∷ 3 ∷ 4 ∷ 5 ∷ [])) (all_of (0 ∷ 1 ∷ 3 ∷ 4 ∷ 2 ∷ 5 ∷ [])) refl)
    ∙ ap (λ (b : Bool). is_one_of (keys part.Module) k && b) (table_keys ms)

pub shape_any : (ms : Members) → members_are_sorted ms ≡ true → is_none (table_text_of ms) ≡ has_any (shape.shape ms)
unfolding table_text_of
shape_any ms sorted =
    let there = is_missing ms in
    let text = at_key (is_of Module (codes "string")) ms in
    let number = at_key (is_of Module (codes "integer")) ms in
    let inner = at_key (is_of Module (codes "table")) ms in
    let items = at_key (is_of Module (codes "array")) ms in
    let partitions = is_none (tables_of partition_of (items_at (codes "partition") ms)) in
    let windows = is_none (tables_of window_of (items_at (codes "window") ms)) in
    let channels = is_none (tables_of channel_of (items_at (codes "channel") ms)) in
    none_then (integer_at (codes "frame") ms) _ _ (λ a. none_then (text_at (codes "fault") ms) _ _ (λ b. none_then (optional_table_at (codes "cost") ms >>= optional_costs) _ _ (λ c. none_then (array_at (codes "partition") ms >>= tables_of partition_of) _ _ (λ d.
    none_then (array_at (codes "window") ms >>= tables_of window_of) _ _ (λ e. none_then (optional_array_at (codes "channel") ms >>= tables_of channel_of) _ _ (λ f. none_if (has_only is_table_key ms) _))))))
    ∙ both_or _ _ _ _ (no_integer Module (codes "frame") ms) (both_or _ _ _ _ (no_text Module (codes "fault") ms) (both_or _ _ _ _ (cost_table ms sorted)
    (both_or _ _ _ _ (needed_array (array_at (codes "partition") ms) (tables_of partition_of) ∙ both_or _ _ _ _ (no_array Module (codes "partition") ms) refl)
    (both_or _ _ _ _ (needed_array (array_at (codes "window") ms) (tables_of window_of) ∙ both_or _ _ _ _ (no_array Module (codes "window") ms) refl)
    (both_or _ _ _ _ (optional_array Module (codes "channel") ms (tables_of channel_of)) (ap not (table_keys ms)))))))
    ∙ reordered (there (codes "frame") ∷ there (codes "fault") ∷ there (codes "partition") ∷ there (codes "window") ∷ number (codes "frame") ∷ text (codes "fault") ∷ items (codes "partition") ∷ items (codes "window") ∷ inner (codes "cost") ∷ items (codes "channel")
    ∷ not (has_only (is_one_of (keys part.Module)) ms) ∷ has_any (shape.costs ms) ∷ partitions ∷ windows ∷ channels ∷ [])
    (either (either (the 0) (the 4)) (either (either (the 1) (the 5)) (either (either (the 8) (the 11)) (either (either (either (the 2) (the 6)) (the 12)) (either (either (either (the 3) (the 7)) (the 13)) (either (either (the 9) (the 14)) (the 10)))))))
    (either (either (all_of (0 ∷ 1 ∷ 2 ∷ 3 ∷ [])) (either (the 10) (all_of (4 ∷ 5 ∷ 6 ∷ 7 ∷ 8 ∷ 9 ∷ [])))) (either (the 11) (either (the 12) (either (the 13) (the 14))))) refl
    ∙ two _ _ _ _ (part_any Module part.Module ms sorted) (two _ _ _ _ refl (two _ _ _ _ (partitions_any 0 (items_at (codes "partition") ms) (items_sorted (codes "partition") ms sorted))
    (two _ _ _ _ (windows_any 0 (items_at (codes "window") ms) (items_sorted (codes "window") ms sorted)) (channels_any 0 (items_at (codes "channel") ms) (items_sorted (codes "channel") ms sorted)))))

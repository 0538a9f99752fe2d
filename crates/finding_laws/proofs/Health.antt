-- A health table or an action is wrong if and only if that is found.
use Rattle.finding_laws.proofs.Prelude.{◌≡◌, ℕ, ℤ, ◌+◌, ◌&&◌, ◌||◌, Bool, ◌∷◌, ◌++◌, Option, Some, ◌∙◌, codes, and_parts, none-some, same_Some, if◌then◌else◌, is_none, Data, Items, Members, array, as_str, as_table, boolean, datetime, float, get_member, integer, is_sorted, items_are_sorted, member, members_are_sorted, string, table, ◌>>=◌, ChannelText, PartitionText, PortText, TableText, WindowText, array_at, has_unknown_action, integer_at, is_one_of, is_partition_key, is_table_key, optional_array_at, optional_costs, optional_table_at, table_at, text_at, Finding, NoWord, each, of_part, of_type, one, row_at, Row, Subject, Health, Module, Words}
use Rattle.std.proofs.Common.{true, false, not, List, [], None, refl, sym, ap}
use Rattle.std.proofs.lemmas.Option.{cond_some}
use Rattle.std.specs.List.{list_any}
use Rattle.toml.specs.Data.{item, no_items, no_members}
use Rattle.module_meaning.specs.TableRules.{action_at, has_only, has_texts_only, health_of, is_error_name, channel_of, module_action_of, port_of, window_of, partition_action_of, partition_of, same, table_text_of, tables_of}
use Rattle.finding_laws.specs.Any.{has_any}
use Rattle.finding_laws.proofs.Found.{any_unless, two}
use Rattle.finding_laws.proofs.Keys.{any_member, array_sorted_at, at_key, by_keys, table_sorted, table_sorted_at}
use Rattle.finding_laws.proofs.Ors.{all_of, any_or, any_same, either, reordered, the}
use Rattle.finding_laws.proofs.Parts.{is_missing, part_any}
use Rattle.table_findings.specs.Fields.{health_keys, words_of}
use Rattle.table_findings.specs.Health.{action, actions, errors, health, partition}
use Rattle.table_findings.specs.Shape.{items_at, word}
use Rattle.table_findings.specs.declared.fields.Part.TheVariants as part
use Rattle.table_findings.specs.declared.words.Words.TheVariants as words

-- ---- actions

none_of_three : {A : Type 0} (a b c : Bool) (x y z : A) → is_none (if a then Some x else (if b then Some y else (if c then Some z else None))) ≡ not (a || (b || (c || false)))
none_of_three true b c x y z = refl
none_of_three false true c x y z = refl
none_of_three false false true x y z = refl
none_of_three false false false x y z = refl

none_of_four : {A : Type 0} (a b c d : Bool) (x y z w : A) → is_none (if a then Some x else (if b then Some y else (if c then Some z else (if d then Some w else None)))) ≡ not (a || (b || (c || (d || false))))
none_of_four true b c d x y z w = refl
none_of_four false true c d x y z w = refl
none_of_four false false true d x y z w = refl
none_of_four false false false true x y z w = refl
none_of_four false false false false x y z w = refl

module_action_is : (text : List ℕ) → is_none (module_action_of text) ≡ not (is_one_of (words_of words.ModuleAction) text)
unfolding module_action_of
module_action_is text = none_of_three (same text (codes "IGNORE")) (same text (codes "SHUTDOWN")) (same text (codes "RESET")) _ _ _

partition_action_is : (text : List ℕ) → is_none (partition_action_of text) ≡ not (is_one_of (words_of words.PartitionAction) text)
unfolding partition_action_of
partition_action_is text = none_of_four (same text (codes "IGNORE")) (same text (codes "IDLE")) (same text (codes "WARM_START")) (same text (codes "COLD_START")) _ _ _ _

-- ---- a health table

abbrev is_wrong_action : Subject → List ℕ → Data → Bool
is_wrong_action s k d = has_any (action s k d)

actions_any : (s : Subject) (ms : Members) → any_member (is_wrong_action s) ms ≡ has_any (actions s ms)
actions_any s no_members = refl
actions_any s (member k d ms) = two _ _ _ _ refl (actions_any s ms)

-- a value that is no action
no_action : (s : Subject) (k : List ℕ) (d : Data) → is_none (as_str d >>= partition_action_of) ≡ has_any (of_type s (Some k) (codes "string") d) || is_wrong_action s k d
no_action s k (string text) = partition_action_is text ∙ sym (any_unless (is_one_of (words_of words.PartitionAction) text) [] (one s (Some k) (NoWord text words.PartitionAction)) refl refl)
no_action s k (integer x) = refl
no_action s k (float x) = refl
no_action s k (boolean x) = refl
no_action s k (datetime x) = refl
no_action s k (array x) = refl
no_action s k (table x) = refl

-- an action that is missing, of another type, or unknown
abbrev is_typed : Subject → List ℕ → Data → Bool
is_typed s k d = has_any (of_type s (Some k) (codes "string") d)

no_action_at : (s : Subject) (k : List ℕ) (ms : Members) → is_none (action_at k ms) ≡ is_missing ms k || (at_key (is_typed s) ms k || at_key (is_wrong_action s) ms k)
no_action_at s k ms = by_member (get_member k ms)
  where
    by_member : (o : Option Data) → ◌≡◌ {A = Bool} (is_none (o >>= as_str >>= partition_action_of)) (is_none o || (elim o [ None ↦ false | Some d ↦ is_typed s k d ] || elim o [ None ↦ false | Some d ↦ is_wrong_action s k d ]))
    by_member None = refl
    by_member (Some d) = no_action s k d

pub none_then : {A B : Type 0} (o : Option A) (f : A → Option B) (b : Bool) → ((x : A) → is_none (f x) ≡ b) → is_none (o >>= f) ≡ is_none o || b
none_then None f b h = refl
none_then (Some x) f b h = h x

pub none_if : {A : Type 0} (b : Bool) (x : A) → is_none (if b then Some x else None) ≡ not b
none_if true x = refl
none_if false x = refl

health_parts : (ms : Members) → is_none (health_of ms)
    ≡ is_none (action_at (codes "DEADLINE_MISSED") ms) || (is_none (action_at (codes "APPLICATION_ERROR") ms) || (is_none (action_at (codes "NUMERIC_ERROR") ms) || (is_none (action_at (codes "ILLEGAL_REQUEST") ms)
    || (is_none (action_at (codes "STACK_OVERFLOW") ms) || (is_none (action_at (codes "MEMORY_VIOLATION") ms) || (is_none (action_at (codes "HARDWARE_FAULT") ms) || not (has_only is_error_name ms)))))))
unfolding health_of
health_parts ms =
    none_then (action_at (codes "DEADLINE_MISSED") ms) _ _ (λ a.
    none_then (action_at (codes "APPLICATION_ERROR") ms) _ _ (λ b.
    none_then (action_at (codes "NUMERIC_ERROR") ms) _ _ (λ c.
    none_then (action_at (codes "ILLEGAL_REQUEST") ms) _ _ (λ d.
    none_then (action_at (codes "STACK_OVERFLOW") ms) _ _ (λ e.
    none_then (action_at (codes "MEMORY_VIOLATION") ms) _ _ (λ f.
    none_then (action_at (codes "HARDWARE_FAULT") ms) _ _ (λ g.
    none_if (has_only is_error_name ms) _)))))))

health_any : (s : Subject) (ms : Members) → members_are_sorted ms ≡ true → is_none (health_of ms) ≡ has_any (of_part s part.Health ms ++ actions s ms)
health_any s ms sorted =
    let none = λ (k : List ℕ). is_none (action_at k ms) in
    let only = not (has_only is_error_name ms) in
    let missing = list_any (is_missing ms) health_keys in
    let typed = list_any (at_key (is_typed s) ms) health_keys in
    let known = list_any (at_key (is_wrong_action s) ms) health_keys in
    health_parts ms
    ∙ reordered (none (codes "DEADLINE_MISSED") ∷ none (codes "APPLICATION_ERROR") ∷ none (codes "NUMERIC_ERROR") ∷ none (codes "ILLEGAL_REQUEST") ∷ none (codes "STACK_OVERFLOW") ∷ none (codes "MEMORY_VIOLATION") ∷ none (codes "HARDWARE_FAULT") ∷ only ∷ [])
    (either (the 0) (either (the 1) (either (the 2) (either (the 3) (either (the 4) (either (the 5) (either (the 6) (the 7))))))))
    (either (all_of (0 ∷ 1 ∷ 2 ∷ 3 ∷ 4 ∷ 5 ∷ 6 ∷ [])) (the 7)) refl
    ∙ ap (λ (b : Bool). b || only)
    (any_same none (λ k. is_missing ms k || (at_key (is_typed s) ms k || at_key (is_wrong_action s) ms k)) health_keys (λ k. no_action_at s k ms)
    ∙ any_or (is_missing ms) (λ k. at_key (is_typed s) ms k || at_key (is_wrong_action s) ms k) health_keys
    ∙ ap (λ (b : Bool). missing || b) (any_or (at_key (is_typed s) ms) (at_key (is_wrong_action s) ms) health_keys))
    ∙ reordered (missing ∷ typed ∷ known ∷ only ∷ []) (either (either (the 0) (either (the 1) (the 2))) (the 3)) (either (either (the 0) (either (the 3) (the 1))) (either (the 3) (the 2))) refl
    ∙ ap (λ (b : Bool). (missing || (only || typed)) || b) (sym (by_keys (is_wrong_action s) health_keys ms sorted))
    ∙ reordered (missing ∷ typed ∷ any_member (is_wrong_action s) ms ∷ only ∷ []) (either (either (the 0) (either (the 3) (the 1))) (either (the 3) (the 2))) (either (either (the 0) (either (the 3) (the 1))) (the 2)) refl
    ∙ two _ _ _ _ (part_any s part.Health ms sorted) (actions_any s ms)

-- ---- partitions

-- an array of tables that was read
pub first_table : {A : Type 0} (read : Members → Option A) (table : Option Members) (rest : Option (List A)) (xs : List A) → (table >>= λ ms. read ms >>= λ x. rest >>= λ ys. Some (x ∷ ys)) ≡ Some xs
    → (ms : Members) × (x : A) × (ys : List A) × (table ≡ Some ms) × (read ms ≡ Some x) × (rest ≡ Some ys) × (xs ≡ x ∷ ys)
first_table read None rest xs h = absurd (none-some xs h)
first_table read (Some ms) rest xs h = by_read (read ms) rest refl h
  where
    by_read : (o : Option _) (rest : Option (List _)) → read ms ≡ o → (o >>= λ x. rest >>= λ ys. Some (x ∷ ys)) ≡ Some xs
        → (ns : Members) × (x : _) × (ys : List _) × (◌≡◌ {A = Option Members} (Some ms) (Some ns)) × (read ns ≡ Some x) × (rest ≡ Some ys) × (xs ≡ x ∷ ys)
    by_read None rest is h = absurd (none-some xs h)
    by_read (Some x) None is h = absurd (none-some xs h)
    by_read (Some x) (Some ys) is h = (ms, x, ys, refl, is, refl, sym (same_Some (x ∷ ys) xs h))

health_read : (name : Option (List ℕ)) (period duration : Option ℤ) (health : Option Members) (ports : Option (List PortText)) (only : Bool) (p : PartitionText)
    → (name >>= λ n. period >>= λ a. duration >>= λ b. health >>= λ h. ports >>= λ qs. if only && has_texts_only h then Some (record { name = n; period = a; duration = b; health = health_of h; ports = qs }) else None) ≡ Some p
    → (table : Members) × (health ≡ Some table) × (p.health ≡ health_of table)
health_read None period duration health ports only p e = absurd (none-some p e)
health_read (Some n) None duration health ports only p e = absurd (none-some p e)
health_read (Some n) (Some a) None health ports only p e = absurd (none-some p e)
health_read (Some n) (Some a) (Some b) None ports only p e = absurd (none-some p e)
health_read (Some n) (Some a) (Some b) (Some h) None only p e = absurd (none-some p e)
health_read (Some n) (Some a) (Some b) (Some h) (Some qs) only p e =
    (h, refl, ap (λ (q : PartitionText). q.health) (sym (cond_some (only && has_texts_only h) (record { name = n; period = a; duration = b; health = health_of h; ports = qs }) p e).1))

errors_any : (r : Row) (ms inner : Members) → table_at (codes "hm") ms ≡ Some inner → has_any (of_part (Health r) part.Health inner ++ actions (Health r) inner) ≡ has_any (errors r ms)
errors_any r ms inner is = rw (errors, is) refl

of_table : (i : ℕ) (d : Data) (ms : Members) → as_table d ≡ Some ms → has_any (errors (row_at i (codes "name") ms) ms) ≡ has_any (partition i d)
of_table i d ms is = rw (partition, is) refl

partition_any : (i : ℕ) (d : Data) (ms : Members) (p : PartitionText) → as_table d ≡ Some ms → members_are_sorted ms ≡ true → partition_of ms ≡ Some p → is_none p.health ≡ has_any (partition i d)
unfolding partition_of
partition_any i d ms p is sorted read =
    let found = health_read (text_at (codes "name") ms) (integer_at (codes "period") ms) (integer_at (codes "duration") ms) (table_at (codes "hm") ms) (optional_array_at (codes "port") ms >>= tables_of port_of) (has_only is_partition_key ms) p read in
    ap is_none found.2
    ∙ health_any (Health (row_at i (codes "name") ms)) found.0 (table_sorted_at (codes "hm") ms found.0 sorted found.1)
    ∙ errors_any (row_at i (codes "name") ms) ms found.0 found.1
    ∙ of_table i d ms is

partitions_any : (i : ℕ) (ds : Items) (ps : List PartitionText) → tables_of partition_of ds ≡ Some ps → items_are_sorted ds ≡ true → list_any (λ p. is_none p.health) ps ≡ has_any (each partition i ds)
unfolding tables_of
partitions_any i no_items ps h sorted = ap (list_any (λ p. is_none p.health)) (sym (same_Some [] ps h))
partitions_any i (item d ds) ps h sorted =
    let found = first_table partition_of (as_table d) (tables_of partition_of ds) ps h in
    let parts = and_parts (is_sorted d) (items_are_sorted ds) sorted in
    ap (list_any (λ p. is_none p.health)) found.6
    ∙ two _ _ _ _ (partition_any i d found.0 found.1 found.3 (table_sorted d found.0 parts.0 found.3) found.4) (partitions_any (i + 1) ds found.2 found.5 parts.1)

-- ---- the document

pub actions_read : (frame : Option ℤ) (fault : Option (List ℕ)) (costs : Option (Option (List ℤ))) (partitions : Option (List PartitionText)) (windows : Option (List WindowText)) (channels : Option (List ChannelText)) (only : Bool) (t : TableText)
    → (frame >>= λ f. fault >>= λ word. costs >>= λ c. partitions >>= λ ps. windows >>= λ ws. channels >>= λ cs. if only then Some (record { frame = f; fault = module_action_of word; costs = c; partitions = ps; windows = ws; channels = cs }) else None) ≡ Some t
    → (word : List ℕ) × (fault ≡ Some word) × (t.fault ≡ module_action_of word) × (partitions ≡ Some t.partitions) × (costs ≡ Some t.costs)
actions_read None fault costs ps ws cs only t e = absurd (none-some t e)
actions_read (Some f) None costs ps ws cs only t e = absurd (none-some t e)
actions_read (Some f) (Some word) None ps ws cs only t e = absurd (none-some t e)
actions_read (Some f) (Some word) (Some c) None ws cs only t e = absurd (none-some t e)
actions_read (Some f) (Some word) (Some c) (Some ps) None cs only t e = absurd (none-some t e)
actions_read (Some f) (Some word) (Some c) (Some ps) (Some ws) None only t e = absurd (none-some t e)
actions_read (Some f) (Some word) (Some c) (Some ps) (Some ws) (Some cs) false t e = absurd (none-some t e)
actions_read (Some f) (Some word) (Some c) (Some ps) (Some ws) (Some cs) true t e =
    let is = same_Some (record { frame = f; fault = module_action_of word; costs = c; partitions = ps; windows = ws; channels = cs }) t e in
    (word, refl, ap (λ (x : TableText). x.fault) (sym is), ap (λ (x : TableText). Some x.partitions) is, ap (λ (x : TableText). Some x.costs) is)

-- an array that was read
array_read : {A : Type 0} (ds : Option Items) (read : Items → Option A) (x : A) → (ds >>= read) ≡ Some x → (es : Items) × (ds ≡ Some es) × (read es ≡ Some x)
array_read None read x h = absurd (none-some x h)
array_read (Some es) read x h = (es, refl, h)

pub word_any : (s : Subject) (k : List ℕ) (w : Words) (ms : Members) (text : List ℕ) → text_at k ms ≡ Some text → not (is_one_of (words_of w) text) ≡ has_any (word s k w ms)
word_any s k w ms text is = rw (word, is) (sym (any_unless (is_one_of (words_of w) text) [] (one s (Some k) (NoWord text w)) refl refl))

pub items_any : (of_element : ℕ → Data → List Finding) (k : List ℕ) (ms : Members) (ds : Items) → array_at k ms ≡ Some ds → has_any (each of_element 0 ds) ≡ has_any (each of_element 0 (items_at k ms))
items_any of_element k ms ds is = rw (items_at, is) refl

pub actions_found : (ms : Members) (t : TableText) → members_are_sorted ms ≡ true → table_text_of ms ≡ Some t → has_unknown_action t ≡ has_any (health ms)
unfolding table_text_of
actions_found ms t sorted read =
    let found = actions_read (integer_at (codes "frame") ms) (text_at (codes "fault") ms) (optional_table_at (codes "cost") ms >>= optional_costs) (array_at (codes "partition") ms >>= tables_of partition_of)
    (array_at (codes "window") ms >>= tables_of window_of) (optional_array_at (codes "channel") ms >>= tables_of channel_of) (has_only is_table_key ms) t read in
    let table = array_read (array_at (codes "partition") ms) (tables_of partition_of) t.partitions found.3 in
    two _ _ _ _
    (ap is_none found.2 ∙ module_action_is found.0 ∙ word_any Module (codes "fault") words.ModuleAction ms found.0 found.1)
    (partitions_any 0 table.0 t.partitions table.2 (array_sorted_at (codes "partition") ms table.0 sorted table.1) ∙ items_any partition (codes "partition") ms table.0 table.1)

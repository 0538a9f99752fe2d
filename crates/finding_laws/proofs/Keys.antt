-- The members of a table whose keys ascend, looked at one by one or by key.
use Rattle.finding_laws.proofs.Prelude.{◌≡◌, ℕ, ◌&&◌, ◌||◌, Bool, ◌∷◌, Option, Some, ◌∙◌, inr, Less, Equal, Greater, Ordering, and_parts, cases_Bool, false≢true, nat_list_cmp_total, slice_cmp, is_lt, match_ordering, nat_cmp, Data, Items, Members, array, as_array, as_table, boolean, datetime, float, get_member, integer, is_before, is_sorted, items_are_sorted, member, members_are_sorted, string, table, none-some, same_Some, ◌>>=◌, array_at, is_one_of, table_at}
use Rattle.std.proofs.Common.{arith, true, false, not, List, [], None, refl, sym, ap, inl}
use Rattle.std.proofs.lemmas.Bool.Decides.{nat_tests}
use Rattle.std.proofs.lemmas.Cmp.{same_from_slice_cmp}
use Rattle.std.specs.List.{list_any}
use Rattle.std.specs.Ordering.{is_eq}
use Rattle.toml.specs.Data.{no_members}
use Rattle.module_meaning.specs.TableRules.{has_only, same}
use Rattle.finding_laws.proofs.Numbers.{same_list, same_symm}
use Rattle.finding_laws.proofs.Twice.{both_or, or_swap}

pub same_cmp : (k l : List ℕ) (o : Ordering) → o ≡ slice_cmp nat_cmp k l → is_eq o ≡ same k l
same_cmp = same_from_slice_cmp nat_cmp is_eq same refl (λ _ _. refl) (λ _ _. refl) (λ x y xs ys o h. grind (arith, nat_tests))

is_less : (o : Ordering) → is_lt o ≡ true → o ≡ Less
is_less Less h = refl
is_less Equal h = absurd (false≢true h)
is_less Greater h = absurd (false≢true h)

before_next : (k l : List ℕ) (ms : Members) → slice_cmp nat_cmp k l ≡ Less → is_before l ms ≡ true → is_before k ms ≡ true
before_next k l no_members h b = refl
before_next k l (member m d ms) h b = rw (nat_list_cmp_total.trans k l m h (is_less (slice_cmp nat_cmp l m) b)) refl

-- the key of a first member is none of the others
not_later : (k : List ℕ) (ms : Members) → is_before k ms ≡ true → members_are_sorted ms ≡ true → get_member k ms ≡ None
not_later k no_members h s = refl
not_later k (member l d ms) h s =
    let below = is_less (slice_cmp nat_cmp k l) h in
    let parts = and_parts (is_before l ms && is_sorted d) (members_are_sorted ms) s in
    let first = and_parts (is_before l ms) (is_sorted d) parts.0 in
    rw below (not_later k ms (before_next k l ms below first.0) parts.1)

-- a test of each member
abbrev pub any_member : (List ℕ → Data → Bool) → Members → Bool
any_member test no_members = false
any_member test (member k d ms) = test k d || any_member test ms

-- a test of the member at a key
abbrev pub at_key : (List ℕ → Data → Bool) → Members → List ℕ → Bool
at_key test ms k = elim (get_member k ms) [ None ↦ false | Some d ↦ test k d ]

pub or_false : (a : Bool) → a || false ≡ a
or_false true = refl
or_false false = refl

if_there : (Data → Bool) → Option Data → Bool
if_there test o = elim o [ None ↦ false | Some d ↦ test d ]

at_more : (test : List ℕ → Data → Bool) (k l : List ℕ) (d : Data) (ms : Members) → get_member l ms ≡ None → at_key test (member l d ms) k ≡ (same l k && test l d) || at_key test ms k
unfolding if_there
at_more test k l d ms none = by_order (slice_cmp nat_cmp k l) refl
  where
    by_order : (o : Ordering) → o ≡ slice_cmp nat_cmp k l → ◌≡◌ {A = Bool} (elim (match_ordering o (get_member k ms) (Some d) (get_member k ms)) [ None ↦ false | Some x ↦ test k x ]) ((same l k && test l d) || at_key test ms k)
    by_order Less is = rw (same_symm l k, ← same_cmp k l Less is) refl
    by_order Greater is = rw (same_symm l k, ← same_cmp k l Greater is) refl
    by_order Equal is =
        let e : k ≡ l = same_list k l (sym (same_cmp k l Equal is)) in
        let absent : at_key test ms k ≡ false = ap (at_key test ms) e ∙ ap (if_there (test l)) none in
        ap (λ (x : List ℕ). test x d) e
        ∙ sym (both_or (same l k && test l d) (at_key test ms k) (test l d) false (ap (λ (b : Bool). b && test l d) (same_symm l k ∙ sym (same_cmp k l Equal is))) absent ∙ or_false (test l d))

distributes : (s o t : Bool) → (s && t) || (o && t) ≡ (s || o) && t
distributes true o true = refl
distributes true true false = refl
distributes true false false = refl
distributes false o t = refl

keys_more : (test : List ℕ → Data → Bool) (l : List ℕ) (d : Data) (ms : Members) (ks : List (List ℕ)) → get_member l ms ≡ None
    → list_any (at_key test (member l d ms)) ks ≡ (is_one_of ks l && test l d) || list_any (at_key test ms) ks
keys_more test l d ms [] none = refl
keys_more test l d ms (k ∷ ks) none =
    both_or _ _ _ _ (at_more test k l d ms none) (keys_more test l d ms ks none)
    ∙ or_swap (same l k && test l d) (at_key test ms k) (is_one_of ks l && test l d) (list_any (at_key test ms) ks)
    ∙ ap (λ (b : Bool). b || (at_key test ms k || list_any (at_key test ms) ks)) (distributes (same l k) (is_one_of ks l) (test l d))

no_key : (test : List ℕ → Data → Bool) (ks : List (List ℕ)) → list_any (at_key test no_members) ks ≡ false
no_key test [] = refl
no_key test (k ∷ ks) = no_key test ks

-- where a key is none of these, nothing more is asked
pub by_keys : (test : List ℕ → Data → Bool) (ks : List (List ℕ)) (ms : Members) → members_are_sorted ms ≡ true
    → not (has_only (is_one_of ks) ms) || any_member test ms ≡ not (has_only (is_one_of ks) ms) || list_any (at_key test ms) ks
unfolding has_only
by_keys test ks no_members s = sym (no_key test ks)
by_keys test ks (member l d ms) s =
    let parts = and_parts (is_before l ms && is_sorted d) (members_are_sorted ms) s in
    let first = and_parts (is_before l ms) (is_sorted d) parts.0 in
    step (is_one_of ks l) (has_only (is_one_of ks) ms) (test l d) (any_member test ms) (list_any (at_key test ms) ks) (by_keys test ks ms parts.1)
    ∙ ap (λ (b : Bool). not (is_one_of ks l && has_only (is_one_of ks) ms) || b) (sym (keys_more test l d ms ks (not_later l ms first.0 parts.1)))
  where
    step : (known only here any keyed : Bool) → not only || any ≡ not only || keyed → not (known && only) || (here || any) ≡ not (known && only) || ((known && here) || keyed)
    step true true here any keyed is = ap (λ (b : Bool). here || b) is
    step true false here any keyed is = refl
    step false only here any keyed is = refl

-- where a test holds of each key that is none of these, that there is one need not be asked
pub or_unknown : (test : List ℕ → Data → Bool) (ks : List (List ℕ)) (ms : Members) → ((k : List ℕ) (d : Data) → is_one_of ks k ≡ false → test k d ≡ true)
    → not (has_only (is_one_of ks) ms) || any_member test ms ≡ any_member test ms
unfolding has_only
or_unknown test ks no_members unknown = refl
or_unknown test ks (member l d ms) unknown = elim (cases_Bool (is_one_of ks l)) [
  | inl e ↦ rw e (step (has_only (is_one_of ks) ms) (test l d) (any_member test ms) (or_unknown test ks ms unknown))
  | inr e ↦ rw (e, unknown l d e) refl
]
  where
    step : (only here any : Bool) → not only || any ≡ any → not only || (here || any) ≡ here || any
    step true here any is = refl
    step false true any is = refl
    step false false any is = is

-- ---- the data at a key is sorted too

pub sorted_at : (k : List ℕ) (ms : Members) (d : Data) → members_are_sorted ms ≡ true → get_member k ms ≡ Some d → is_sorted d ≡ true
sorted_at k no_members d s is = absurd (none-some d is)
sorted_at k (member l e ms) d s is =
    let parts = and_parts (is_before l ms && is_sorted e) (members_are_sorted ms) s in
    by_order (slice_cmp nat_cmp k l) (sorted_at k ms d parts.1) (and_parts (is_before l ms) (is_sorted e) parts.0).1 is
  where
    by_order : (o : Ordering) → (get_member k ms ≡ Some d → is_sorted d ≡ true) → is_sorted e ≡ true → match_ordering o (get_member k ms) (Some e) (get_member k ms) ≡ Some d → is_sorted d ≡ true
    by_order Less rest here is = rest is
    by_order Greater rest here is = rest is
    by_order Equal rest here is = ap is_sorted (sym (same_Some e d is)) ∙ here

pub table_sorted : (d : Data) (ms : Members) → is_sorted d ≡ true → as_table d ≡ Some ms → members_are_sorted ms ≡ true
table_sorted (table ns) ms s is = ap members_are_sorted (sym (same_Some ns ms is)) ∙ s
table_sorted (string x) ms s is = absurd (none-some ms is)
table_sorted (integer x) ms s is = absurd (none-some ms is)
table_sorted (float x) ms s is = absurd (none-some ms is)
table_sorted (boolean x) ms s is = absurd (none-some ms is)
table_sorted (datetime x) ms s is = absurd (none-some ms is)
table_sorted (array x) ms s is = absurd (none-some ms is)

array_sorted : (d : Data) (ds : Items) → is_sorted d ≡ true → as_array d ≡ Some ds → items_are_sorted ds ≡ true
array_sorted (array es) ds s is = ap items_are_sorted (sym (same_Some es ds is)) ∙ s
array_sorted (string x) ds s is = absurd (none-some ds is)
array_sorted (integer x) ds s is = absurd (none-some ds is)
array_sorted (float x) ds s is = absurd (none-some ds is)
array_sorted (boolean x) ds s is = absurd (none-some ds is)
array_sorted (datetime x) ds s is = absurd (none-some ds is)
array_sorted (table x) ds s is = absurd (none-some ds is)

pub table_sorted_at : (k : List ℕ) (ms inner : Members) → members_are_sorted ms ≡ true → table_at k ms ≡ Some inner → members_are_sorted inner ≡ true
table_sorted_at k ms inner s is = by_member (get_member k ms) refl is
  where
    by_member : (o : Option Data) → get_member k ms ≡ o → (o >>= as_table) ≡ Some inner → members_are_sorted inner ≡ true
    by_member None e is = absurd (none-some inner is)
    by_member (Some d) e is = table_sorted d inner (sorted_at k ms d s e) is

pub array_sorted_at : (k : List ℕ) (ms : Members) (ds : Items) → members_are_sorted ms ≡ true → array_at k ms ≡ Some ds → items_are_sorted ds ≡ true
array_sorted_at k ms ds s is = by_member (get_member k ms) refl is
  where
    by_member : (o : Option Data) → get_member k ms ≡ o → (o >>= as_array) ≡ Some ds → items_are_sorted ds ≡ true
    by_member None e is = absurd (none-some ds is)
    by_member (Some d) e is = array_sorted d ds (sorted_at k ms d s e) is

-- The keys of each table of a TOML document ascend.
use Rattle.finding_laws.proofs.Prelude.{◌≡◌, ℕ, suc, ◌&&◌, Bool, ◌∷◌, ◌++◌, Option, Some, ◌∙◌, Less, Equal, Greater, Ordering, option_map, and_parts, nat_list_cmp_total, none-some, same_Some, slice_cmp, ◌==◌, if◌then◌else◌, is_lt, match_ordering, nat_cmp, Data, Items, Members, array, is_before, is_sorted, items_are_sorted, members_are_sorted, string, table}
use Rattle.std.proofs.Common.{zero, true, false, List, [], None, refl, sym, ap}
use Rattle.std.proofs.Common.{option_and_then}
use Rattle.std.proofs.lemmas.Bool.{and_from}
use Rattle.std.specs.Prelude.{drop, length, slice_index}
use Rattle.std.specs.Ordering.{ordering_reverse}
use Rattle.toml.specs.Data.{item, no_items, push_item, same_key}
use Rattle.toml.specs.Tables.{Definition, Document, Edit, Node, Nodes, along_dots, along_header, array_table, at_found, at_key, by_dot, by_header, close, close_node, define, define_as, Expression, dot_node, dotted, get_node, header, header_node, implicit, insert, key_value, new_node, no_nodes, node, open_array, open_table, put, redefine, replace, std_table, value}
use Rattle.toml.specs.Parse.{after_byte, after_element, atom, ends_line, expression, header_key, items, key_equals, keyval, line, lines, members, parse_document, read_map, scalar_data, skip_bom, val}
use Rattle.toml_parser.specs.Strings.{Key, quoted, recursion_limit, starts_string}
use Rattle.toml_parser.specs.Lexical.{Read, first, left_brace, left_bracket, right_brace, right_bracket, skip_blank, skip_ws}
use Rattle.toml_parser.specs.Numbers.{unquoted}
use Rattle.toml_parser.specs.declared.scalar.Scalar.{Scalar}
use Rattle.toml_parser.specs.declared.scalar.Scalar.TheVariants as scalar

-- ---- nodes whose keys ascend

comes_before : List ℕ → Nodes → Bool
comes_before k no_nodes = true
comes_before k (node l x ns) = is_lt (slice_cmp nat_cmp k l)

abbrev mutual
  are_sorted : Nodes → Bool
  are_sorted no_nodes = true
  are_sorted (node k x ns) = (comes_before k ns && one_sorted x) && are_sorted ns

  one_sorted : Node → Bool
  one_sorted (value d) = is_sorted d
  one_sorted (open_table origin ns) = are_sorted ns
  one_sorted (open_array ds ns) = items_are_sorted ds && are_sorted ns

and_assoc : (a b c : Bool) → (a && b) && c ≡ a && (b && c)
and_assoc true b c = refl
and_assoc false b c = refl

and_true : (a : Bool) → a && true ≡ a
and_true true = refl
and_true false = refl

push_sorted : (ds : Items) (d : Data) → items_are_sorted (push_item ds d) ≡ items_are_sorted ds && is_sorted d
push_sorted no_items d = and_true (is_sorted d)
push_sorted (item e ds) d = ap (λ (b : Bool). is_sorted e && b) (push_sorted ds d) ∙ sym (and_assoc (is_sorted e) (items_are_sorted ds) (is_sorted d))

closed_before : (k : List ℕ) (ns : Nodes) → is_before k (close ns) ≡ comes_before k ns
unfolding comes_before
closed_before k no_nodes = refl
closed_before k (node l x ns) = refl

mutual
  closed_sorted : (ns : Nodes) → members_are_sorted (close ns) ≡ are_sorted ns
  closed_sorted no_nodes = refl
  closed_sorted (node k x ns) =
      ap (λ (b : Bool). (b && is_sorted (close_node x)) && members_are_sorted (close ns)) (closed_before k ns)
      ∙ ap (λ (b : Bool). (comes_before k ns && b) && members_are_sorted (close ns)) (closed_one x)
      ∙ ap (λ (b : Bool). (comes_before k ns && one_sorted x) && b) (closed_sorted ns)

  closed_one : (x : Node) → is_sorted (close_node x) ≡ one_sorted x
  closed_one (value d) = refl
  closed_one (open_table origin ns) = closed_sorted ns
  closed_one (open_array ds ns) = push_sorted ds (table (close ns)) ∙ ap (λ (b : Bool). items_are_sorted ds && b) (closed_sorted ns)

-- ---- changes of a table

turned : (k l : List ℕ) → slice_cmp nat_cmp k l ≡ Greater → slice_cmp nat_cmp l k ≡ Less
turned k l h = nat_list_cmp_total.antisymm l k ∙ ap ordering_reverse h

less_is : (k l : List ℕ) → slice_cmp nat_cmp k l ≡ Less → is_lt (slice_cmp nat_cmp k l) ≡ true
less_is k l h = ap is_lt h

before_insert : (l k : List ℕ) (x : Node) (ns : Nodes) → slice_cmp nat_cmp l k ≡ Less → comes_before l ns ≡ true → comes_before l (insert k x ns) ≡ true
unfolding comes_before
before_insert l k x no_nodes h b = less_is l k h
before_insert l k x (node m y ns) h b = by_order (slice_cmp nat_cmp k m)
  where
    by_order : (o : Ordering) → comes_before l (match_ordering o (node k x (node m y ns)) (node m x ns) (node m y (insert k x ns))) ≡ true
    by_order Less = less_is l k h
    by_order Equal = b
    by_order Greater = b

insert_sorted : (k : List ℕ) (x : Node) (ns : Nodes) → one_sorted x ≡ true → are_sorted ns ≡ true → are_sorted (insert k x ns) ≡ true
unfolding comes_before
insert_sorted k x no_nodes h s = and_from (one_sorted x) true h refl
insert_sorted k x (node l y ns) h s =
    let parts = and_parts (comes_before l ns && one_sorted y) (are_sorted ns) s in
    let first = and_parts (comes_before l ns) (one_sorted y) parts.0 in
    by_order first.0 first.1 parts.1 (insert_sorted k x ns h parts.1) (slice_cmp nat_cmp k l) refl
  where
    by_order : comes_before l ns ≡ true → one_sorted y ≡ true → are_sorted ns ≡ true → are_sorted (insert k x ns) ≡ true → (o : Ordering) → slice_cmp nat_cmp k l ≡ o
        → are_sorted (match_ordering o (node k x (node l y ns)) (node l x ns) (node l y (insert k x ns))) ≡ true
    by_order before one rest more Less is = and_from (comes_before k (node l y ns) && one_sorted x) (are_sorted (node l y ns)) (and_from (comes_before k (node l y ns)) (one_sorted x) (less_is k l is) h) s
    by_order before one rest more Equal is = and_from (comes_before l ns && one_sorted x) (are_sorted ns) (and_from (comes_before l ns) (one_sorted x) before h) rest
    by_order before one rest more Greater is =
        and_from (comes_before l (insert k x ns) && one_sorted y) (are_sorted (insert k x ns)) (and_from (comes_before l (insert k x ns)) (one_sorted y) (before_insert l k x ns (turned k l is) before) one) more

before_replace : (l k : List ℕ) (x : Node) (ns : Nodes) → comes_before l (replace k x ns) ≡ comes_before l ns
unfolding comes_before
before_replace l k x no_nodes = refl
before_replace l k x (node m y ns) = elim (same_key k m) as (λ b. comes_before l (if b then node m x ns else node m y (replace k x ns)) ≡ comes_before l (node m y ns)) [
  | true ↦ refl
  | false ↦ refl
]

replace_sorted : (k : List ℕ) (x : Node) (ns : Nodes) → one_sorted x ≡ true → are_sorted ns ≡ true → are_sorted (replace k x ns) ≡ true
replace_sorted k x no_nodes h s = refl
replace_sorted k x (node l y ns) h s =
    let parts = and_parts (comes_before l ns && one_sorted y) (are_sorted ns) s in
    let first = and_parts (comes_before l ns) (one_sorted y) parts.0 in
    elim (same_key k l) as (λ b. are_sorted (if b then node l x ns else node l y (replace k x ns)) ≡ true) [
      | true ↦ and_from (comes_before l ns && one_sorted x) (are_sorted ns) (and_from (comes_before l ns) (one_sorted x) first.0 h) parts.1
      | false ↦ and_from (comes_before l (replace k x ns) && one_sorted y) (are_sorted (replace k x ns)) (and_from (comes_before l (replace k x ns)) (one_sorted y) (before_replace l k x ns ∙ first.0) first.1) (replace_sorted k x ns h parts.1)
    ]

got_sorted : (k : List ℕ) (ns : Nodes) (x : Node) → are_sorted ns ≡ true → get_node k ns ≡ Some x → one_sorted x ≡ true
got_sorted k no_nodes x s is = absurd (none-some x is)
got_sorted k (node l y ns) x s is =
    let parts = and_parts (comes_before l ns && one_sorted y) (are_sorted ns) s in
    by_key (same_key k l) (and_parts (comes_before l ns) (one_sorted y) parts.0).1 (got_sorted k ns x parts.1) is
  where
    by_key : (b : Bool) → one_sorted y ≡ true → (get_node k ns ≡ Some x → one_sorted x ≡ true) → (if b then Some y else get_node k ns) ≡ Some x → one_sorted x ≡ true
    by_key true one rest is = ap one_sorted (sym (same_Some y x is)) ∙ one
    by_key false one rest is = rest is

-- an edit that keeps keys in their order
abbrev Keeps : Edit → Type 0
Keeps e = (old new : Nodes) → are_sorted old ≡ true → e old ≡ Some new → are_sorted new ≡ true

mapped : {A B : Type 0} (f : A → B) (o : Option A) (y : B) → option_map f o ≡ Some y → (x : A) × (o ≡ Some x) × (f x ≡ y)
mapped f None y h = absurd (none-some y h)
mapped f (Some x) y h = (x, refl, same_Some (f x) y h)

header_kept : (e : Edit) (x y : Node) → Keeps e → one_sorted x ≡ true → header_node e x ≡ Some y → one_sorted y ≡ true
header_kept e (value d) y keeps s is = absurd (none-some y is)
header_kept e (open_table origin inner) y keeps s is =
    let found = mapped (open_table origin) (e inner) y is in ap one_sorted (sym found.2) ∙ keeps inner found.0 s found.1
header_kept e (open_array done last) y keeps s is =
    let found = mapped (open_array done) (e last) y is in
    let parts = and_parts (items_are_sorted done) (are_sorted last) s in
    ap one_sorted (sym found.2) ∙ and_from (items_are_sorted done) (are_sorted found.0) parts.0 (keeps last found.0 parts.1 found.1)

dot_kept : (e : Edit) (x y : Node) → Keeps e → one_sorted x ≡ true → dot_node e x ≡ Some y → one_sorted y ≡ true
dot_kept e (value d) y keeps s is = absurd (none-some y is)
dot_kept e (open_table header inner) y keeps s is = absurd (none-some y is)
dot_kept e (open_table implicit inner) y keeps s is =
    let found = mapped (open_table dotted) (e inner) y is in ap one_sorted (sym found.2) ∙ keeps inner found.0 s found.1
dot_kept e (open_table dotted inner) y keeps s is =
    let found = mapped (open_table dotted) (e inner) y is in ap one_sorted (sym found.2) ∙ keeps inner found.0 s found.1
dot_kept e (open_array done last) y keeps s is = absurd (none-some y is)

by_header_kept : (k : List ℕ) (e : Edit) (ns new : Nodes) (o : Option Node) → Keeps e → are_sorted ns ≡ true → get_node k ns ≡ o → by_header k e ns o ≡ Some new → are_sorted new ≡ true
by_header_kept k e ns new None keeps s got is =
    let found = mapped (λ inner. insert k (open_table implicit inner) ns) (e no_nodes) new is in
    ap are_sorted (sym found.2) ∙ insert_sorted k (open_table implicit found.0) ns (keeps no_nodes found.0 refl found.1) s
by_header_kept k e ns new (Some x) keeps s got is =
    let found = mapped (λ y. replace k y ns) (header_node e x) new is in
    ap are_sorted (sym found.2) ∙ replace_sorted k found.0 ns (header_kept e x found.0 keeps (got_sorted k ns x s got) found.1) s

by_dot_kept : (k : List ℕ) (e : Edit) (ns new : Nodes) (o : Option Node) → Keeps e → are_sorted ns ≡ true → get_node k ns ≡ o → by_dot k e ns o ≡ Some new → are_sorted new ≡ true
by_dot_kept k e ns new None keeps s got is =
    let found = mapped (λ inner. insert k (open_table dotted inner) ns) (e no_nodes) new is in
    ap are_sorted (sym found.2) ∙ insert_sorted k (open_table dotted found.0) ns (keeps no_nodes found.0 refl found.1) s
by_dot_kept k e ns new (Some x) keeps s got is =
    let found = mapped (λ y. replace k y ns) (dot_node e x) new is in
    ap are_sorted (sym found.2) ∙ replace_sorted k found.0 ns (dot_kept e x found.0 keeps (got_sorted k ns x s got) found.1) s

along_header_kept : (path : List (List ℕ)) (e : Edit) → Keeps e → Keeps (along_header path e)
unfolding along_header
along_header_kept [] e keeps = keeps
along_header_kept (k ∷ path) e keeps = λ old new s is. by_header_kept k (along_header path e) old new (get_node k old) (along_header_kept path e keeps) s refl is

along_dots_kept : (path : List (List ℕ)) (e : Edit) → Keeps e → Keeps (along_dots path e)
unfolding along_dots
along_dots_kept [] e keeps = keeps
along_dots_kept (k ∷ path) e keeps = λ old new s is. by_dot_kept k (along_dots path e) old new (get_node k old) (along_dots_kept path e keeps) s refl is

-- ---- definitions

abbrev is_definition_sorted : Definition → Bool
is_definition_sorted (key_value d) = is_sorted d
is_definition_sorted std_table = true
is_definition_sorted array_table = true

new_sorted : (what : Definition) → is_definition_sorted what ≡ true → one_sorted (new_node what) ≡ true
new_sorted (key_value d) s = s
new_sorted std_table s = refl
new_sorted array_table s = refl

redefined_sorted : (what : Definition) (x y : Node) → one_sorted x ≡ true → redefine what x ≡ Some y → one_sorted y ≡ true
redefined_sorted (key_value d) x y s is = absurd (none-some y is)
redefined_sorted std_table (value d) y s is = absurd (none-some y is)
redefined_sorted std_table (open_table implicit inner) y s is = ap one_sorted (sym (same_Some (open_table header inner) y is)) ∙ s
redefined_sorted std_table (open_table dotted inner) y s is = absurd (none-some y is)
redefined_sorted std_table (open_table header inner) y s is = absurd (none-some y is)
redefined_sorted std_table (open_array done last) y s is = absurd (none-some y is)
redefined_sorted array_table (value d) y s is = absurd (none-some y is)
redefined_sorted array_table (open_table origin inner) y s is = absurd (none-some y is)
redefined_sorted array_table (open_array done last) y s is =
    ap one_sorted (sym (same_Some (open_array (push_item done (table (close last))) no_nodes) y is))
    ∙ and_from (items_are_sorted (push_item done (table (close last)))) true (push_sorted done (table (close last)) ∙ ap (λ (b : Bool). items_are_sorted done && b) (closed_sorted last) ∙ s) refl

at_found_kept : (k : List ℕ) (what : Definition) (ns new : Nodes) (o : Option Node) → is_definition_sorted what ≡ true → are_sorted ns ≡ true → get_node k ns ≡ o → at_found k what ns o ≡ Some new → are_sorted new ≡ true
at_found_kept k what ns new None d s got is = ap are_sorted (sym (same_Some (insert k (new_node what) ns) new is)) ∙ insert_sorted k (new_node what) ns (new_sorted what d) s
at_found_kept k what ns new (Some x) d s got is =
    let found = mapped (λ y. replace k y ns) (redefine what x) new is in
    ap are_sorted (sym found.2) ∙ replace_sorted k found.0 ns (redefined_sorted what x found.0 (got_sorted k ns x s got) found.1) s

at_key_kept : (k : List ℕ) (what : Definition) → is_definition_sorted what ≡ true → Keeps (at_key k what)
unfolding at_key
at_key_kept k what d = λ old new s is. at_found_kept k what old new (get_node k old) d s refl is

put_kept : (key : Key) (d : Data) → is_sorted d ≡ true → Keeps (put key d)
put_kept key d s = along_dots_kept key.0 (at_key key.1 (key_value d)) (at_key_kept key.1 (key_value d) s)

defined_kept : (doc next : Document) (key : Key) (what : Definition) → is_definition_sorted what ≡ true → are_sorted doc.0 ≡ true → define_as doc key what ≡ Some next → are_sorted next.0 ≡ true
defined_kept doc next key (key_value d) h s is =
    let found = mapped (λ root. (root, doc.1)) (along_header doc.1 (put key d) doc.0) next is in
    ap (λ (n : Document). are_sorted n.0) (sym found.2) ∙ along_header_kept doc.1 (put key d) (put_kept key d h) doc.0 found.0 s found.1
defined_kept doc next key std_table h s is =
    let found = mapped (λ root. (root, key.0 ++ key.1 ∷ [])) (along_header key.0 (at_key key.1 std_table) doc.0) next is in
    ap (λ (n : Document). are_sorted n.0) (sym found.2) ∙ along_header_kept key.0 (at_key key.1 std_table) (at_key_kept key.1 std_table refl) doc.0 found.0 s found.1
defined_kept doc next key array_table h s is =
    let found = mapped (λ root. (root, key.0 ++ key.1 ∷ [])) (along_header key.0 (at_key key.1 array_table) doc.0) next is in
    ap (λ (n : Document). are_sorted n.0) (sym found.2) ∙ along_header_kept key.0 (at_key key.1 array_table) (at_key_kept key.1 array_table refl) doc.0 found.0 s found.1

define_kept : (doc next : Document) (e : Expression) → is_definition_sorted e.1 ≡ true → are_sorted doc.0 ≡ true → define doc e ≡ Some next → are_sorted next.0 ≡ true
unfolding define
define_kept doc next e h s is = defined_kept doc next e.0 e.1 h s is

-- ---- reading

pub then_some : {A B : Type 0} (o : Option A) (f : A → Option B) (y : B) → option_and_then f o ≡ Some y → (x : A) × (o ≡ Some x) × (f x ≡ Some y)
then_some None f y h = absurd (none-some y h)
then_some (Some x) f y h = (x, refl, h)

pub by_test : {A P : Type 0} (b : Bool) (x y : Option A) (r : A) → (if b then x else y) ≡ Some r → (x ≡ Some r → P) → (y ≡ Some r → P) → P
by_test true x y r is f g = f is
by_test false x y r is f g = g is

abbrev Reads : (List ℕ → Read Data) → Type 0
Reads read = (bytes : List ℕ) (r : Data × List ℕ) → read bytes ≡ Some r → is_sorted r.0 ≡ true

keyval_kept : (read : List ℕ → Read Data) → Reads read → (bytes : List ℕ) (r : (Key × Data) × List ℕ) → keyval read bytes ≡ Some r → is_sorted r.0.1 ≡ true
keyval_kept read reads bytes r is =
    let k = then_some (key_equals bytes) (λ k. read_map (λ d. (k.0, d)) (read k.1)) r is in
    let d = mapped (λ p. ((k.0.0, p.0), p.1)) (read k.0.1) r k.2 in
    ap (λ (x : (Key × Data) × List ℕ). is_sorted x.0.1) (sym d.2) ∙ reads k.0.1 d.0 d.1

items_kept : (read : List ℕ → Read Data) → Reads read → (n : ℕ) (found : Items) (bytes : List ℕ) (r : Items × List ℕ) → items_are_sorted found ≡ true → items read n found bytes ≡ Some r → items_are_sorted r.0 ≡ true
unfolding items
items_kept read reads zero found bytes r s is = absurd (none-some r is)
items_kept read reads (suc n) found bytes r s is =
    by_test (first (skip_blank bytes) == right_bracket) (Some (found, drop 1 (skip_blank bytes))) _ r is
    (λ end. ap (λ (x : Items × List ℕ). items_are_sorted x.0) (sym (same_Some (found, drop 1 (skip_blank bytes)) r end)) ∙ s)
    (λ more.
    let v = then_some (read (skip_blank bytes)) (λ v. option_and_then (items read n (push_item found v.0)) (after_element right_bracket v.1)) r more in
    let rest = then_some (after_element right_bracket v.0.1) (items read n (push_item found v.0.0)) r v.2 in
    items_kept read reads n (push_item found v.0.0) rest.0 r (push_sorted found v.0.0 ∙ and_from (items_are_sorted found) (is_sorted v.0.0) s (reads (skip_blank bytes) v.0 v.1)) rest.2)

members_kept : (read : List ℕ → Read Data) → Reads read → (n : ℕ) (found : Nodes) (bytes : List ℕ) (r : Members × List ℕ) → are_sorted found ≡ true → members read n found bytes ≡ Some r → members_are_sorted r.0 ≡ true
unfolding members
members_kept read reads zero found bytes r s is = absurd (none-some r is)
members_kept read reads (suc n) found bytes r s is =
    by_test (first (skip_blank bytes) == right_brace) (Some (close found, drop 1 (skip_blank bytes))) _ r is
    (λ end. ap (λ (x : Members × List ℕ). members_are_sorted x.0) (sym (same_Some (close found, drop 1 (skip_blank bytes)) r end)) ∙ closed_sorted found ∙ s)
    (λ more.
    let e = then_some (keyval read (skip_blank bytes)) (λ e. option_and_then (λ next. option_and_then (members read n next) (after_element right_brace e.1)) (put e.0.0 e.0.1 found)) r more in
    let next = then_some (put e.0.0.0 e.0.0.1 found) (λ next. option_and_then (members read n next) (after_element right_brace e.0.1)) r e.2 in
    let rest = then_some (after_element right_brace e.0.1) (members read n next.0) r next.2 in
    members_kept read reads n next.0 rest.0 r (put_kept e.0.0.0 e.0.0.1 (keyval_kept read reads (skip_blank bytes) e.0 e.1) found next.0 s next.1) rest.2)

scalar_sorted : (x : Scalar) → is_sorted (scalar_data x) ≡ true
scalar_sorted (scalar.Boolean b) = refl
scalar_sorted (scalar.Integer z) = refl
scalar_sorted (scalar.Float x) = refl
scalar_sorted (scalar.Datetime dt) = refl

atom_kept : Reads atom
unfolding atom
atom_kept bytes r is =
    by_test (starts_string bytes) (read_map string (quoted bytes)) (read_map scalar_data (unquoted bytes)) r is
    (λ text. let found = mapped (λ p. (string p.0, p.1)) (quoted bytes) r text in ap (λ (x : Data × List ℕ). is_sorted x.0) (sym found.2))
    (λ other. let found = mapped (λ p. (scalar_data p.0, p.1)) (unquoted bytes) r other in ap (λ (x : Data × List ℕ). is_sorted x.0) (sym found.2) ∙ scalar_sorted found.0.0)

val_kept : (n : ℕ) → Reads (val n)
unfolding val
val_kept zero bytes r is = atom_kept bytes r is
val_kept (suc n) bytes r is =
    by_test (first bytes == left_bracket) _ _ r is
    (λ list. let found = mapped (λ p. (array p.0, p.1)) (items (val n) (length bytes) no_items (drop 1 bytes)) r list in
    ap (λ (x : Data × List ℕ). is_sorted x.0) (sym found.2) ∙ items_kept (val n) (val_kept n) (length bytes) no_items (drop 1 bytes) found.0 refl found.1)
    (λ other. by_test (first bytes == left_brace) _ _ r other
    (λ inline. let found = mapped (λ p. (table p.0, p.1)) (members (val n) (length bytes) no_nodes (drop 1 bytes)) r inline in
    ap (λ (x : Data × List ℕ). is_sorted x.0) (sym found.2) ∙ members_kept (val n) (val_kept n) (length bytes) no_nodes (drop 1 bytes) found.0 refl found.1)
    (λ plain. atom_kept bytes r plain))

expression_kept : (bytes : List ℕ) (r : Expression × List ℕ) → expression bytes ≡ Some r → is_definition_sorted r.0.1 ≡ true
unfolding expression
expression_kept bytes r is =
    by_test (first bytes == left_bracket && slice_index bytes 1 == left_bracket) _ _ r is
    (λ double.
    let k = then_some (header_key (drop 2 bytes)) (λ k. option_map (λ rest. ((k.0, array_table), rest)) (after_byte right_bracket k.1)) r double in
    let found = mapped (λ rest. ((k.0.0, array_table), rest)) (after_byte right_bracket k.0.1) r k.2 in
    ap (λ (x : Expression × List ℕ). is_definition_sorted x.0.1) (sym found.2))
    (λ other. by_test (first bytes == left_bracket) _ _ r other
    (λ single. let found = mapped (λ p. ((p.0, std_table), p.1)) (header_key (drop 1 bytes)) r single in ap (λ (x : Expression × List ℕ). is_definition_sorted x.0.1) (sym found.2))
    (λ pair. let found = mapped (λ p. ((p.0.0, key_value p.0.1), p.1)) (keyval (val recursion_limit) bytes) r pair in
    ap (λ (x : Expression × List ℕ). is_definition_sorted x.0.1) (sym found.2) ∙ keyval_kept (val recursion_limit) (val_kept recursion_limit) bytes found.0 found.1))

line_kept : (bytes : List ℕ) (r : Expression × List ℕ) → line bytes ≡ Some r → is_definition_sorted r.0.1 ≡ true
unfolding line
line_kept bytes r is =
    let e = then_some (expression bytes) (λ e. if ends_line (skip_ws e.1) then Some e else None) r is in
    by_test (ends_line (skip_ws e.0.1)) (Some e.0) None r e.2
    (λ here. ap (λ (x : Expression × List ℕ). is_definition_sorted x.0.1) (sym (same_Some e.0 r here)) ∙ expression_kept bytes e.0 e.1)
    (λ not_here. absurd (none-some r not_here))

lines_kept : (n : ℕ) (doc : Document) (bytes : List ℕ) (r : Document) → are_sorted doc.0 ≡ true → lines n doc bytes ≡ Some r → are_sorted r.0 ≡ true
unfolding lines
lines_kept zero doc bytes r s is = absurd (none-some r is)
lines_kept (suc n) doc bytes r s is =
    by_test (length (skip_blank bytes) == 0) (Some doc) _ r is
    (λ end. ap (λ (x : Document). are_sorted x.0) (sym (same_Some doc r end)) ∙ s)
    (λ more.
    let e = then_some (line (skip_blank bytes)) (λ e. option_and_then (λ next. lines n next e.1) (define doc e.0)) r more in
    let next = then_some (define doc e.0.0) (λ next. lines n next e.0.1) r e.2 in
    lines_kept n next.0 e.0.1 r (define_kept doc next.0 e.0.0 (line_kept (skip_blank bytes) e.0 e.1) s next.1) next.2)

pub document_sorted : (bytes : List ℕ) (ms : Members) → parse_document bytes ≡ Some ms → members_are_sorted ms ≡ true
unfolding parse_document
document_sorted bytes ms is =
    let found = mapped (λ doc. close doc.0) (lines (suc (length bytes)) (no_nodes, []) (skip_bom bytes)) ms is in
    ap members_are_sorted (sym found.2) ∙ closed_sorted found.0.0 ∙ lines_kept (suc (length bytes)) (no_nodes, []) (skip_bom bytes) found.0 refl found.1

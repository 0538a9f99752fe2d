-- Look-ups in entries, and the entries of declarations one by one.
use Rattle.std.proofs.Common.{◌≡◌, ℕ, suc, ◌+◌, ◌<◌, ◌≤◌, Bool, true, false, not, cond, ◌&&◌, List, [], ◌∷◌, ◌++◌, map, length, drop, get_or, drop-cons, Option, Some, None, option_map, refl, sym, ap, ◌∙◌, arith, append_assoc, append-nil, is_some, is_none, inl, inr}
use Rattle.std.specs.Option.{unwrap_or}
use Rattle.std.specs.Str.{bytes_eq}
use Rattle.std.specs.Map.{lookup}
use Rattle.std.proofs.lemmas.List.{map-append, drop_all, length-map}
use Rattle.indexmap.specs.IndexMap.{insert_entry}
use Rattle.std.proofs.lemmas.Slice.Eq.{bytes_eq-Decides}
use Rattle.std.proofs.lemmas.Bool.{cases_Bool, false_from_ne_true}
use Rattle.apex_types.specs.declared.place.Place.TheVariants.{Slot}
use Rattle.apex_types.specs.declared.row.PortRow.{PortRow}
use Rattle.apex_types.specs.declared.denotation.Denotation.{Denotation}
use Rattle.apex_types.specs.declared.denotation.Denotation.TheVariants.{Scalar, Object}
use Rattle.apex_types.specs.declared.denotation.ObjectKind.TheVariants as object
use Rattle.apex_types.specs.declared.limits.TheConstants.{MOST_PROCESSES}
use Rattle.pal_base.specs.declared.syntax.Declaration.{Declaration}
use Rattle.pal_base.specs.declared.syntax.Process.{Process}
use Rattle.pal_base.specs.View.{name_of, declaration_of, declared_of, process_of}
use Rattle.pal_meaning.specs.Resolve as meant
use Rattle.pal_meaning.specs.Resolve.{Entry, Counts, find, or_else, scope_of, slot, own_entries, declaration_entries, process_entries, declared_meaning, after, counted}
use Rattle.pal_meaning.specs.WellFormed.{are_new}
use Rattle.pal.specs.declared.meanings.Counts as code
use Rattle.pal.specs.Tables.{counts_of}

pub eq_sym : (xs ys : List ℕ) → bytes_eq xs ys ≡ bytes_eq ys xs
eq_sym xs ys = elim (cases_Bool (bytes_eq ys xs)) [
  | inl t ↦ (bytes_eq-Decides xs ys).1 (sym ((bytes_eq-Decides ys xs).0 t)) ∙ sym t
  | inr f ↦ false_from_ne_true (bytes_eq xs ys) (λ t. let s = (bytes_eq-Decides ys xs).1 (sym ((bytes_eq-Decides xs ys).0 t)) in let k : true ≡ false = sym s ∙ f in cc) ∙ sym f
]

-- the look-up by a table's text is that of the definitions
pub found : {K : Type 0} (text : K → List ℕ) (q : List ℕ) (es : List (K × Denotation)) → lookup (λ k. bytes_eq q (text k)) es ≡ find q (map (λ e. record { name = text e.0; meaning = e.1 }) es)
found text q [] = refl
found text q (e ∷ es) = ap (λ b. cond b (Some e.1) (lookup (λ k. bytes_eq q (text k)) es)) (eq_sym q (text e.0)) ∙ ap (λ r. cond (bytes_eq (text e.0) q) (Some e.1) r) (found text q es)

append_step : (b : Bool) (m : Denotation) (r f g : Option Denotation) → r ≡ or_else f g → cond b (Some m) r ≡ or_else (cond b (Some m) f) g
append_step true m r f g h = refl
append_step false m r f g h = h

pub find-append : (q : List ℕ) (es fs : List Entry) → find q (es ++ fs) ≡ or_else (find q es) (find q fs)
find-append q [] fs = refl
find-append q (e ∷ es) fs = append_step (bytes_eq e.name q) e.meaning (find q (es ++ fs)) (find q es) (find q fs) (find-append q es fs)

abbrev pub entry : {K : Type 0} → (K → List ℕ) → K × Denotation → Entry
entry text e = record { name = text e.0; meaning = e.1 }

insert_step : {X : Type 0} (a b : Bool) (m : Denotation) (o : Option Denotation) (x y z : X) → a ≡ b → is_some (cond b (Some m) o) ≡ false → (is_some o ≡ false → y ≡ z) → cond a x y ≡ z
insert_step a true m o x y z p h next = let k : true ≡ false = h in cc
insert_step true false m o x y z p h next = let k : true ≡ false = p in cc
insert_step false false m o x y z p h next = next h

-- a name that is not there goes last
pub inserted : {K : Type 0} (text : K → List ℕ) (k : K) (v : Denotation) (es : List (K × Denotation)) → is_some (find (text k) (map (entry text) es)) ≡ false → insert_entry (λ a b. bytes_eq (text a) (text b)) es k v ≡ es ++ (k, v) ∷ []
inserted text k v [] h = refl
inserted text k v (e ∷ es) h =
    insert_step (bytes_eq (text k) (text e.0)) (bytes_eq (text e.0) (text k)) e.1 (find (text k) (map (entry text) es))
    ((e.0, v) ∷ es) (e ∷ insert_entry (λ a b. bytes_eq (text a) (text b)) es k v) (e ∷ (es ++ (k, v) ∷ []))
    (eq_sym (text k) (text e.0)) h (λ g. ap (λ xs. e ∷ xs) (inserted text k v es g))

pub entered : {K : Type 0} (text : K → List ℕ) (k : K) (v : Denotation) (es more : List (K × Denotation)) → is_some (find (text k) (map (entry text) es)) ≡ false → more ≡ insert_entry (λ a b. bytes_eq (text a) (text b)) es k v → map (entry text) more ≡ map (entry text) es ++ entry text (k, v) ∷ []
entered text k v es more h is = ap (map (entry text)) (is ∙ inserted text k v es h) ∙ map-append (entry text) es ((k, v) ∷ [])

-- a name that is there already changes no look-up
pub shadowed : (e : Entry) (es : List Entry) → is_some (find e.name es) ≡ true → (name : List ℕ) (rest : List Entry) → find name (es ++ rest) ≡ find name (es ++ e ∷ rest)
shadowed e es h name rest = find-append name es rest ∙ by (bytes_eq e.name name) refl ∙ sym (find-append name es (e ∷ rest))
  where
    covers : (r s : Option Denotation) (o : Option Denotation) → is_some o ≡ true → or_else o r ≡ or_else o s
    covers r s None h = let k : false ≡ true = h in cc
    covers r s (Some m) h = refl

    by : (b : Bool) → bytes_eq e.name name ≡ b → or_else (find name es) (find name rest) ≡ or_else (find name es) (cond (bytes_eq e.name name) (Some e.meaning) (find name rest))
    by true p = covers (find name rest) (cond (bytes_eq e.name name) (Some e.meaning) (find name rest)) (find name es) (ap (λ n. is_some (find n es)) (sym ((bytes_eq-Decides e.name name).0 p)) ∙ h)
    by false p = ap (λ b. or_else (find name es) (cond b (Some e.meaning) (find name rest))) (sym p)

and_false : (a b : Bool) → (a && false && b) ≡ false
and_false true b = refl
and_false false b = refl

and_true : (a : Bool) → (a && true) ≡ a
and_true true = refl
and_true false = refl

-- a name that is there already is not new
pub not_new : (e : Entry) (es : List Entry) → is_some (find e.name es) ≡ true → (declared rest : List Entry) → (false && not (is_some (find e.name declared)) && are_new declared es rest) ≡ are_new declared es (e ∷ rest)
not_new e es h declared rest = sym (and_false (not (is_some (find e.name declared))) (are_new declared (es ++ e ∷ []) rest)) ∙ ap (λ b. not (is_some (find e.name declared)) && not b && are_new declared (es ++ e ∷ []) rest) (sym h)

-- a name that is not there is new, unless it is declared
pub is_new : (e : Entry) (es more : List Entry) → is_some (find e.name es) ≡ false → more ≡ es ++ e ∷ [] → (declared rest : List Entry) → (true && not (is_some (find e.name declared)) && are_new declared more rest) ≡ are_new declared es (e ∷ rest)
is_new e es more h is declared rest =
    ap (λ a. a && are_new declared more rest) (sym (and_true (not (is_some (find e.name declared)))))
    ∙ ap (λ b. not (is_some (find e.name declared)) && not b && are_new declared more rest) (sym h)
    ∙ ap (λ l. not (is_some (find e.name declared)) && not (is_some (find e.name es)) && are_new declared l rest) is

pub behind : (e : Entry) (es more : List Entry) → more ≡ es ++ e ∷ [] → (name : List ℕ) (rest : List Entry) → find name (more ++ rest) ≡ find name (es ++ e ∷ rest)
behind e es more is name rest = ap (λ l. find name (l ++ rest)) is ∙ ap (find name) (append_assoc es (e ∷ []) rest)

and_assoc : (a b c : Bool) → (a && b && c) ≡ (a && (b && c))
and_assoc true b c = refl
and_assoc false b c = refl

-- one more entry of those that are left: of the look-ups, of the names that are new, and of the list
pub sees_step : (first now next left later all : List Entry) (e : Entry) → left ≡ e ∷ later
    → ((name : List ℕ) (rest : List Entry) → find name (next ++ rest) ≡ find name (now ++ e ∷ rest))
    → ((name : List ℕ) (rest : List Entry) → find name (now ++ (left ++ rest)) ≡ find name (first ++ (all ++ rest)))
    → (name : List ℕ) (rest : List Entry) → find name (next ++ (later ++ rest)) ≡ find name (first ++ (all ++ rest))
sees_step first now next left later all e is step before name rest = step name (later ++ rest) ∙ ap (λ l. find name (now ++ (l ++ rest))) (sym is) ∙ before name rest

pub fresh_step : (declared first now next left later all : List Entry) (e : Entry) (new f g : Bool) → left ≡ e ∷ later → g ≡ (f && (new && not (is_some (find e.name declared))))
    → ((known rest : List Entry) → (new && not (is_some (find e.name known)) && are_new known next rest) ≡ are_new known now (e ∷ rest))
    → ((rest : List Entry) → (f && are_new declared now (left ++ rest)) ≡ are_new declared first (all ++ rest))
    → (rest : List Entry) → (g && are_new declared next (later ++ rest)) ≡ are_new declared first (all ++ rest)
fresh_step declared first now next left later all e new f g is flag step before rest =
    ap (λ b. b && are_new declared next (later ++ rest)) flag
    ∙ and_assoc f (new && not (is_some (find e.name declared))) (are_new declared next (later ++ rest))
    ∙ ap (λ b. f && b) (step declared (later ++ rest))
    ∙ ap (λ l. f && are_new declared now (l ++ rest)) (sym is)
    ∙ before rest

both_true : (a b : Bool) → (a && b) ≡ true → (a ≡ true) × (b ≡ true)
both_true true b h = (refl, h)
both_true false b h = let k : false ≡ true = h in cc

pub list_step : (first now next left later all : List Entry) (e : Entry) (new f g : Bool) → left ≡ e ∷ later → g ≡ (f && new)
    → (new ≡ true → next ≡ now ++ e ∷ [])
    → (f ≡ true → now ++ left ≡ first ++ all)
    → g ≡ true → next ++ later ≡ first ++ all
list_step first now next left later all e new f g is flag step before h =
    let both = both_true f new (sym flag ∙ h) in
    ap (λ l. l ++ later) (step both.1) ∙ append_assoc now (e ∷ []) later ∙ ap (λ l. now ++ l) (sym is) ∙ before both.0

pub and_unit : (f new : Bool) → (f && new) ≡ (f && (new && true))
and_unit f new = ap (λ b. f && b) (sym (and_true new))

none_or_some : (o : Option Denotation) → is_none o ≡ not (is_some o)
none_or_some None = refl
none_or_some (Some m) = refl

pub not_declared : (q q' : List ℕ) (declared : List Entry) (o : Option Denotation) → o ≡ find q declared → is_none o ≡ not (is_some (find q declared))
not_declared q q' declared o is = none_or_some o ∙ ap (λ x. not (is_some x)) is

next_of : (i : ℕ) → suc i ≡ i + 1
next_of i = omega arith

-- the first of what is left
pub own_left : {X : Type 0} (f : X → List ℕ) (xs : List X) (i b : ℕ) (d : X) (text : List ℕ) (s : ℕ) → i < length xs → text ≡ f (get_or xs i d) → s ≡ slot (b + i) → own_entries (b + i) (map f (drop i xs)) ≡ record { name = text; meaning = Scalar (Slot s) } ∷ own_entries (b + (i + 1)) (map f (drop (i + 1) xs))
own_left f xs i b d text s lt named placed =
    let further : b + i + 1 ≡ b + (i + 1) = omega arith in
    ap (λ l. own_entries (b + i) (map f l)) (drop-cons xs i d lt ∙ ap (λ j. get_or xs i d ∷ drop j xs) (next_of i))
    ∙ ap (λ p. record { name = f (get_or xs i d); meaning = Scalar (Slot (slot (b + i))) } ∷ own_entries p (map f (drop (i + 1) xs))) further
    ∙ ap (λ t. record { name = t; meaning = Scalar (Slot (slot (b + i))) } ∷ own_entries (b + (i + 1)) (map f (drop (i + 1) xs))) (sym named)
    ∙ ap (λ t. record { name = text; meaning = Scalar (Slot t) } ∷ own_entries (b + (i + 1)) (map f (drop (i + 1) xs))) (sym placed)

pub own_none : {X : Type 0} (f : X → List ℕ) (xs : List X) (i b : ℕ) → length xs ≤ i → own_entries b (map f (drop i xs)) ≡ []
own_none f xs i b h = ap (λ l. own_entries b (map f l)) (drop_all i xs h)

-- parameters, and then locals
pub own-append : (b n : ℕ) (xs ys : List (List ℕ)) → n ≡ b + length xs → own_entries b (xs ++ ys) ≡ own_entries b xs ++ own_entries n ys
own-append b n [] ys h = let e : b ≡ n = omega arith in ap (λ p. own_entries p ys) e
own-append b n (x ∷ xs) ys h =
    let e : n ≡ b + 1 + length xs = omega arith in
    ap (λ l. record { name = x; meaning = Scalar (Slot (slot b)) } ∷ l) (own-append (b + 1) n xs ys e)

counts_kept : (o : Option code.Counts) (c : code.Counts) → counts_of (unwrap_or o c) ≡ unwrap_or (option_map counts_of o) (counts_of c)
counts_kept None c = refl
counts_kept (Some d) c = refl

pub counts_next : (o : Option code.Counts) (c d : code.Counts) (a : Option Counts) → d ≡ unwrap_or o c → option_map counts_of o ≡ a → counts_of d ≡ unwrap_or a (counts_of c)
counts_next o c d a is seen = ap counts_of is ∙ counts_kept o c ∙ ap (λ x. unwrap_or x (counts_of c)) seen

module _ (names : List (List ℕ)) (ports : List PortRow) where
  pub declaration_left : (ds : List Declaration) (i : ℕ) (x : Declaration) (c next : Counts) (text : List ℕ) (m : Denotation) → i < length ds → x ≡ get_or ds i x → text ≡ name_of names x.name → m ≡ declared_meaning ports c text (declared_of names x.kind) → next ≡ unwrap_or (after c (declared_of names x.kind)) c
      → declaration_entries ports c (map (declaration_of names) (drop i ds)) ≡ record { name = text; meaning = m } ∷ declaration_entries ports next (map (declaration_of names) (drop (i + 1) ds))
  declaration_left ds i x c next text m lt is named means counted =
      let rest = map (declaration_of names) (drop (i + 1) ds) in
      ap (λ l. declaration_entries ports c (map (declaration_of names) l)) (drop-cons ds i x lt ∙ ap (λ y. y ∷ drop (suc i) ds) (sym is) ∙ ap (λ j. x ∷ drop j ds) (next_of i))
      ∙ ap (λ k. record { name = name_of names x.name; meaning = declared_meaning ports c (name_of names x.name) (declared_of names x.kind) } ∷ declaration_entries ports k rest) (sym counted)
      ∙ ap (λ t. record { name = t; meaning = declared_meaning ports c t (declared_of names x.kind) } ∷ declaration_entries ports next rest) (sym named)
      ∙ ap (λ v. record { name = text; meaning = v } ∷ declaration_entries ports next rest) (sym means)

  pub process_left : (ps : List Process) (i : ℕ) (x : Process) (c n v : ℕ) (text : List ℕ) → i < length ps → x ≡ get_or ps i x → text ≡ name_of names x.name → v ≡ meant.next MOST_PROCESSES c → n ≡ unwrap_or (counted MOST_PROCESSES c 1) c
      → process_entries c (map (process_of names) (drop i ps)) ≡ record { name = text; meaning = Object object.Process v } ∷ process_entries n (map (process_of names) (drop (i + 1) ps))
  process_left ps i x c n v text lt is named numbered next =
      let rest = map (process_of names) (drop (i + 1) ps) in
      ap (λ l. process_entries c (map (process_of names) l)) (drop-cons ps i x lt ∙ ap (λ y. y ∷ drop (suc i) ps) (sym is) ∙ ap (λ j. x ∷ drop j ps) (next_of i))
      ∙ ap (λ k. record { name = name_of names x.name; meaning = Object object.Process (meant.next MOST_PROCESSES c) } ∷ process_entries k rest) (sym next)
      ∙ ap (λ t. record { name = t; meaning = Object object.Process (meant.next MOST_PROCESSES c) } ∷ process_entries n rest) (sym named)
      ∙ ap (λ k. record { name = text; meaning = Object object.Process k } ∷ process_entries n rest) (sym numbered)

-- entries that were entered one list after the other
pub both_fresh : (declared first mid last xs ys : List Entry) (a b g : Bool) → first ≡ [] → g ≡ (a && b)
    → ((rest : List Entry) → (a && are_new declared mid rest) ≡ are_new declared first (xs ++ rest))
    → ((rest : List Entry) → (b && are_new declared last rest) ≡ are_new declared mid (ys ++ rest))
    → g ≡ are_new declared [] (xs ++ ys)
both_fresh declared first mid last xs ys a b g none flag one other =
    flag ∙ ap (λ x. a && x) (sym (and_true b) ∙ other [] ∙ ap (are_new declared mid) (append-nil ys)) ∙ one ys ∙ ap (λ l. are_new declared l (xs ++ ys)) none

both_seen : (first mid last xs ys : List Entry) → first ≡ []
    → ((name : List ℕ) (rest : List Entry) → find name (mid ++ rest) ≡ find name (first ++ (xs ++ rest)))
    → ((name : List ℕ) (rest : List Entry) → find name (last ++ rest) ≡ find name (mid ++ (ys ++ rest)))
    → (name : List ℕ) → find name last ≡ find name (xs ++ ys)
both_seen first mid last xs ys none one other name =
    ap (find name) (sym (append-nil last)) ∙ other name [] ∙ ap (λ l. find name (mid ++ l)) (append-nil ys) ∙ one name ys ∙ ap (λ l. find name (l ++ (xs ++ ys))) none

pub same_scope : (declared first mid last xs ys : List Entry) → first ≡ []
    → ((name : List ℕ) (rest : List Entry) → find name (mid ++ rest) ≡ find name (first ++ (xs ++ rest)))
    → ((name : List ℕ) (rest : List Entry) → find name (last ++ rest) ≡ find name (mid ++ (ys ++ rest)))
    → scope_of last declared ≡ scope_of (xs ++ ys) declared
same_scope declared first mid last xs ys none one other = λ i name. or_else (both_seen first mid last xs ys none one other name i) (find name declared)

pub own_both : {X : Type 0} (f : X → List ℕ) (xs ys : List X) → own_entries 0 (map f xs ++ map f ys) ≡ own_entries 0 (map f xs) ++ own_entries (length xs) (map f ys)
own_both f xs ys = own-append 0 (length xs) (map f xs) (map f ys) (let e : length (map f xs) ≡ length xs = length-map xs f in omega arith)

pub flipped : (a b : Bool) → a ≡ not b → b ≡ not a
flipped a true h = ap not (sym h)
flipped a false h = ap not (sym h)

-- A table of the names that appear in some statements has those of a list.
use Rattle.std.proofs.Common.{◌≡◌, ℕ, ◌+◌, ◌<◌, ◌≤◌, Bool, true, false, ◌||◌, if◌then◌else◌, List, [], ◌∷◌, ◌++◌, length, map, flat_map, drop, get_or, Bor, refl, sym, ap, ◌∙◌, inl, inr}
use Rattle.std.specs.List.{list_any}
use Rattle.std.specs.Prelude.{OnOk, Result, Ok, Err}
use Rattle.std.specs.Str.{bytes_eq}
use Rattle.std.proofs.lemmas.Bool.{cases_Bool}
use Rattle.std.proofs.lemmas.List.{at_drop_all, at_drop_more}
use Rattle.std.proofs.lemmas.List.Folds.{list_any-append}
use Rattle.std.proofs.lemmas.Slice.Eq.{bytes_eq-Decides}
use Rattle.indexmap.specs.IndexSet.{insert_key}
use Rattle.pal.proofs.Tables.{eq_sym}
use Rattle.pal_meaning.specs.Syntax as written
use Rattle.lint.specs.Lives.{found}
use Rattle.lint.specs.Mentions.{Mention, Read, Element, Apply, Write, ByZero, Test, Ask, Leave, Endless, is_mentioned, names_in}
use Rattle.lint.specs.Unused.{is_used, unused, unused_declaration, unused_declarations}
use Rattle.lint.specs.Views.{Found, unless}
use Rattle.lint.specs.declared.finding.FindingKind.{FindingKind}
use Rattle.lint.specs.declared.finding.FindingKind.TheVariants as finding

or_assoc : (a b c : Bool) → ((a || b) || c) ≡ (a || (b || c))
or_assoc true b c = refl
or_assoc false b c = refl

or_false : (a : Bool) → (a || false) ≡ a
or_false true = refl
or_false false = refl

absorbed : (a b : Bool) → (b ≡ true → a ≡ true) → a ≡ (a || b)
absorbed true b h = refl
absorbed false true h = h refl
absorbed false false h = refl

abbrev pub texts_of : List (Bor (List ℕ)) → List (List ℕ)
texts_of ks = map (λ text. text.now) ks

-- what is among the texts is used
among : (eq : Bor (List ℕ) → Bor (List ℕ) → Bool) → ((x y : Bor (List ℕ)) → eq x y ≡ bytes_eq x.now y.now) → (k : Bor (List ℕ)) (ks : List (Bor (List ℕ))) (q : List ℕ) → list_any (eq k) ks ≡ true → bytes_eq k.now q ≡ true → is_used (texts_of ks) q ≡ true
among eq is k [] q h e = absurd cc
among eq is k (x ∷ ks) q h e = elim (cases_Bool (eq k x)) [
  | inl t ↦
      let same : k.now ≡ x.now = (bytes_eq-Decides k.now x.now).0 (sym (is k x) ∙ t) in
      let here : bytes_eq x.now q ≡ true = ap (λ (w : List ℕ). bytes_eq w q) (sym same) ∙ e in
      ap (λ (b : Bool). b || is_used (texts_of ks) q) here
  | inr f ↦
      let rest : list_any (eq k) ks ≡ true = ap (λ (b : Bool). b || list_any (eq k) ks) (sym f) ∙ h in
      ap (λ (b : Bool). bytes_eq x.now q || b) (among eq is k ks q rest e) ∙ or_true (bytes_eq x.now q)
]
  where
    or_true : (a : Bool) → (a || true) ≡ true
    or_true true = refl
    or_true false = refl

map_append : (xs ys : List (Bor (List ℕ))) → texts_of (xs ++ ys) ≡ texts_of xs ++ texts_of ys
map_append [] ys = refl
map_append (x ∷ xs) ys = ap (λ (l : List (List ℕ)). x.now ∷ l) (map_append xs ys)

-- one more text
pub inserted : (eq : Bor (List ℕ) → Bor (List ℕ) → Bool) → ((x y : Bor (List ℕ)) → eq x y ≡ bytes_eq x.now y.now) → (k : Bor (List ℕ)) (ks : List (Bor (List ℕ))) (q : List ℕ) → is_used (texts_of (insert_key eq ks k)) q ≡ (is_used (texts_of ks) q || bytes_eq k.now q)
inserted eq is k ks q = elim (cases_Bool (list_any (eq k) ks)) [
  | inl t ↦ ap (λ (b : Bool). is_used (texts_of (if b then ks else ks ++ k ∷ [])) q) t ∙ absorbed (is_used (texts_of ks) q) (bytes_eq k.now q) (among eq is k ks q t)
  | inr f ↦
      ap (λ (b : Bool). is_used (texts_of (if b then ks else ks ++ k ∷ [])) q) f
      ∙ ap (λ (l : List (List ℕ)). is_used l q) (map_append ks (k ∷ []))
      ∙ list_any-append (λ other. bytes_eq other q) (texts_of ks) (k.now ∷ [])
      ∙ ap (λ (b : Bool). is_used (texts_of ks) q || b) (or_false (bytes_eq k.now q))
]

-- what a look-up by a text finds
pub known : (ks : List (Bor (List ℕ))) (q : List ℕ) → list_any (λ k. bytes_eq q k.now) ks ≡ is_used (texts_of ks) q
known [] q = refl
known (k ∷ ks) q = ap (λ (b : Bool). b || list_any (λ k. bytes_eq q k.now) ks) (eq_sym q k.now) ∙ ap (λ (b : Bool). bytes_eq k.now q || b) (known ks q)

-- ---- one more of a list

pub one_more : {A B : Type 0} (seen : A → B) (p : B → Bool) (xs : List A) (i : ℕ) (d : A) (old new whole : Bool) → i < length xs → new ≡ (old || p (seen (get_or xs i d)))
    → (old || list_any p (map seen (drop i xs))) ≡ whole → (new || list_any p (map seen (drop (i + 1) xs))) ≡ whole
one_more seen p xs i d old new whole some grown before =
    let rest = list_any p (map seen (drop (i + 1) xs)) in
    ap (λ (b : Bool). b || rest) grown ∙ or_assoc old (p (seen (get_or xs i d))) rest
    ∙ ap (λ (b : Bool). old || b) (sym (at_drop_more (λ (ys : List _). list_any p (map seen ys)) xs i d some))
    ∙ before

-- the same for an item that is read
pub one_more_item : {A B : Type 0} (seen : A → B) (p : B → Bool) (xs : List A) (i : ℕ) (x : A) (old new whole : Bool) → i < length xs → x ≡ get_or xs i x → new ≡ (old || p (seen x))
    → (old || list_any p (map seen (drop i xs))) ≡ whole → (new || list_any p (map seen (drop (i + 1) xs))) ≡ whole
one_more_item seen p xs i x old new whole some is grown before = one_more seen p xs i x old new whole some (grown ∙ ap (λ (y : _). old || p (seen y)) is) before

pub no_more : {A B : Type 0} (seen : A → B) (p : B → Bool) (xs : List A) (i : ℕ) (now whole : Bool) → length xs ≤ i → (now || list_any p (map seen (drop i xs))) ≡ whole → now ≡ whole
no_more seen p xs i now whole over h = sym (or_false now) ∙ ap (λ (b : Bool). now || b) (sym (at_drop_all (λ (ys : List _). list_any p (map seen ys)) xs i over)) ∙ h

-- a name of a mention is among the names
one_name : (q : List ℕ) (m : Mention) (ms : List Mention) → is_used (names_in (m ∷ ms)) q ≡ (is_mentioned q m || is_used (names_in ms) q)
one_name q (Read name) ms = refl
one_name q (Element name index) ms = refl
one_name q (Apply name arguments) ms = refl
one_name q (Write name thing) ms = refl
one_name q ByZero ms = refl
one_name q Test ms = refl
one_name q (Ask may_wait) ms = refl
one_name q Leave ms = refl
one_name q Endless ms = refl

pub by_names : (q : List ℕ) (ms : List Mention) → list_any (is_mentioned q) ms ≡ is_used (names_in ms) q
by_names q [] = refl
by_names q (m ∷ ms) = ap (λ (b : Bool). is_mentioned q m || b) (by_names q ms) ∙ sym (one_name q m ms)

-- ---- the same names, the same findings

same_kind : (us vs : List (List ℕ)) (kind : written.Kind) (name : List ℕ) → is_used us name ≡ is_used vs name → unused_declaration us kind name ≡ unused_declaration vs kind name
same_kind us vs (written.Variable value) name h = ap (λ (b : Bool). unless b (found finding.UnusedVariable name)) h
same_kind us vs (written.Array size values) name h = ap (λ (b : Bool). unless b (found finding.UnusedVariable name)) h
same_kind us vs (written.Procedure parameters body) name h = ap (λ (b : Bool). unless b (found finding.UnusedProcedure name)) h
same_kind us vs _ name h = refl

pub same_unused : (us vs : List (List ℕ)) → ((q : List ℕ) → is_used us q ≡ is_used vs q) → (ds : List written.Declaration) → unused_declarations us ds ≡ unused_declarations vs ds
same_unused us vs h [] = refl
same_unused us vs h (d ∷ ds) =
    ap (λ (l : List Found). l ++ unused_declarations us ds) (same_kind us vs d.kind d.name (h d.name))
    ∙ ap (λ (l : List Found). unused_declaration vs d.kind d.name ++ l) (same_unused us vs h ds)

-- the same of parameters and locals
pub same_own : (us vs : List (List ℕ)) → ((q : List ℕ) → is_used us q ≡ is_used vs q) → (kind : FindingKind) (ns : List (List ℕ)) → flat_map (unused us kind) ns ≡ flat_map (unused vs kind) ns
same_own us vs h kind [] = refl
same_own us vs h kind (n ∷ ns) =
    ap (λ (b : Bool). unless b (found kind n) ++ flat_map (unused us kind) ns) (h n)
    ∙ ap (λ (l : List Found). unused vs kind n ++ l) (same_own us vs h kind ns)

pub if_same : {E : Type 0} (us vs : List (List ℕ)) → ((q : List ℕ) → is_used us q ≡ is_used vs q) → (ds : List written.Declaration) (old new : List Found) (r : Result (Unit {0}) E)
    → OnOk r (new ≡ old ++ unused_declarations us ds) → OnOk r (new ≡ old ++ unused_declarations vs ds)
if_same us vs h ds old new (Ok x) added = added ∙ ap (λ (l : List Found). old ++ l) (same_unused us vs h ds)
if_same us vs h ds old new (Err e) added = added

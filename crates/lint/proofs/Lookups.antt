-- Look-ups among declarations, by name and by number, and among calls.
use Rattle.std.proofs.Common.{◌≡◌, ℕ, zero, suc, ◌+◌, ◌-◌, ◌<◌, Bool, true, false, ◌&&◌, ◌||◌, ◌==◌, cond, if◌then◌else◌, List, [], ◌∷◌, ◌++◌, length, map, drop, get_or, Option, Some, None, refl, sym, ap, ◌∙◌, inl, inr, arith}
use Rattle.std.specs.Str.{bytes_eq}
use Rattle.std.proofs.lemmas.Bool.{cases_Bool}
use Rattle.std.proofs.lemmas.List.{at_drop_more}
use Rattle.apex_types.specs.declared.denotation.ObjectKind.{ObjectKind}
use Rattle.apex_types.specs.declared.denotation.ObjectKind.TheVariants as object
use Rattle.pal_base.specs.View.{declaration_of, declared_of, name_of}
use Rattle.pal_base.specs.declared.syntax.Declaration as code
use Rattle.pal_meaning.specs.Syntax as written
use Rattle.lint.specs.Arrays.{declared, declared_at, is_of_kind, words_in, words_or_none}
use Rattle.lint.specs.Measures.{words_numbered, words_of_kind}
use Rattle.lint.specs.Plain.{is_name}
use Rattle.lint.specs.declared.declarations.Measure.{Measure}

-- ---- by name

-- one more declaration before those that are in the table, of which `found` and `meant` say the same
pub measured_before : (found : Option Measure → Option ℕ) (meant : Option written.Kind → Option ℕ) (names : List (List ℕ)) (ds : List code.Declaration) (i j : ℕ) (d : code.Declaration) (text : List ℕ) (m : Measure) (old new : Option Measure) (q : List ℕ) → i < length ds → j ≡ i + 1
    → text ≡ name_of names (get_or ds i d).name → found (Some m) ≡ meant (Some (declared_of names (get_or ds i d).kind)) → new ≡ cond (bytes_eq text q) (Some m) old
    → found old ≡ meant (declared q (map (declaration_of names) (drop j ds))) → found new ≡ meant (declared q (map (declaration_of names) (drop i ds)))
measured_before found meant names ds i j d text m old new q some next named same grown before =
    let x = get_or ds i d in
    let rest = declared q (map (declaration_of names) (drop (i + 1) ds)) in
    let later : found old ≡ meant rest = before ∙ ap (λ (n : ℕ). meant (declared q (map (declaration_of names) (drop n ds)))) next in
    let by_name : (b : Bool) → found (cond b (Some m) old) ≡ meant (if b then Some (declared_of names x.kind) else rest) = λ b. elim (cases_Bool b) [
      | inl t ↦ ap (λ (w : Bool). found (cond w (Some m) old)) t ∙ same ∙ sym (ap (λ (w : Bool). meant (if w then Some (declared_of names x.kind) else rest)) t)
      | inr f ↦ ap (λ (w : Bool). found (cond w (Some m) old)) f ∙ later ∙ sym (ap (λ (w : Bool). meant (if w then Some (declared_of names x.kind) else rest)) f)
    ] in
    ap found grown ∙ by_name (bytes_eq text q)
    ∙ ap (λ (t : List ℕ). meant (if bytes_eq t q then Some (declared_of names x.kind) else rest)) named
    ∙ sym (ap meant (at_drop_more (λ (xs : List code.Declaration). declared q (map (declaration_of names) xs)) ds i d some))

-- ---- by number

-- the first object has the number 1, and those after it are numbered on
passed : (w : Option ℕ) (ws : List (Option ℕ)) (number : ℕ) → words_numbered (w ∷ ws) number ≡ (if number == 1 then w else words_numbered ws (number - 1))
passed w ws zero = refl
passed w ws (suc zero) = refl
passed w ws (suc (suc n)) =
    let other : (suc (suc n) == 1) ≡ false = grind arith in
    let less : suc (suc n) - 1 ≡ suc n = omega arith in
    sym (ap (λ (b : Bool). if b then w else words_numbered ws (suc (suc n) - 1)) other ∙ ap (words_numbered ws) less)

none_at : (number : ℕ) → words_numbered [] number ≡ None
none_at zero = refl
none_at (suc n) = refl

chosen : (b : Bool) (k : written.Kind) (o : Option written.Kind) → (if b then words_in k else words_or_none o) ≡ words_or_none (if b then Some k else o)
chosen true k o = refl
chosen false k o = refl

-- the words at a number are those of the declaration
pub words_at : (kind : ObjectKind) (number : ℕ) (ds : List written.Declaration) → words_numbered (words_of_kind kind ds) number ≡ words_or_none (declared_at kind number ds)
words_at kind number [] = none_at number
words_at kind number (d ∷ ds) =
    let whole : Bool → Option ℕ = λ b. words_or_none (if b && (number == 1) then Some d.kind else declared_at kind (if b then number - 1 else number) ds) in
    let listed : Bool → Option ℕ = λ b. words_numbered ((if b then words_in d.kind ∷ [] else []) ++ words_of_kind kind ds) number in
    elim (cases_Bool (is_of_kind kind d.kind)) [
      | inl t ↦
          ap listed t ∙ passed (words_in d.kind) (words_of_kind kind ds) number
          ∙ ap (λ (o : Option ℕ). if number == 1 then words_in d.kind else o) (words_at kind (number - 1) ds)
          ∙ chosen (number == 1) d.kind (declared_at kind (number - 1) ds) ∙ sym (ap whole t)
      | inr f ↦ ap listed f ∙ words_at kind number ds ∙ sym (ap whole f)
    ]

-- only buffers and blackboards are of a kind
is_of_none : (kind : ObjectKind) → (kind ≡ object.Buffer → ⊥) → (kind ≡ object.Blackboard → ⊥) → (k : written.Kind) → is_of_kind kind k ≡ false
is_of_none object.Buffer no_buffer no_blackboard k = absurd (no_buffer refl)
is_of_none object.Blackboard no_buffer no_blackboard k = absurd (no_blackboard refl)
is_of_none object.Semaphore no_buffer no_blackboard k = refl
is_of_none object.Event no_buffer no_blackboard k = refl
is_of_none object.Port no_buffer no_blackboard k = refl
is_of_none object.Process no_buffer no_blackboard k = refl

pub no_words : (kind : ObjectKind) (number : ℕ) → (kind ≡ object.Buffer → ⊥) → (kind ≡ object.Blackboard → ⊥) → (ds : List written.Declaration) → None ≡ words_or_none (declared_at kind number ds)
no_words kind number no_buffer no_blackboard [] = refl
no_words kind number no_buffer no_blackboard (d ∷ ds) =
    no_words kind number no_buffer no_blackboard ds
    ∙ sym (ap (λ (b : Bool). words_or_none (if b && (number == 1) then Some d.kind else declared_at kind (if b then number - 1 else number) ds)) (is_of_none kind no_buffer no_blackboard d.kind))

-- ---- calls

neither : (created b : Bool) → created ≡ (created || (b && false))
neither true b = refl
neither false true = refl
neither false false = refl

-- a call whose first argument is no name creates nothing
pub no_name : (created b : Bool) (name : List ℕ) (argument : Option (List ℕ)) → argument ≡ None → created ≡ (created || (b && is_name name argument))
no_name created b name argument none = neither created b ∙ ap (λ (o : Option (List ℕ)). created || (b && is_name name o)) (sym none)

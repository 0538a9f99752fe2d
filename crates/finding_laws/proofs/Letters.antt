-- The bytes of a word that begins with a lower-case letter, and the word of these bytes.
use Rattle.finding_laws.proofs.Prelude.{◌≡◌, ℕ, suc, ◌+◌, ◌-◌, ◌≤◌, Bool, cond, ◌||◌, ◌∷◌, take, drop, Option, Some, ◌∙◌, nat_eq, list_all, Service, Number, ServiceWord, first_word}
use Rattle.std.proofs.Common.{arith, zero, true, false, List, [], length, None, refl, sym, ap, length-drop}
use Rattle.std.specs.Prelude.{◌&&◌, find, not}
use Rattle.std.specs.Cmp.Lexicographic.{same_text}
use Rattle.std.specs.List.{prefix_len, starts_with}
use Rattle.std.proofs.lemmas.List.Sums.{prefix_len-le-length}
use Rattle.engine_meaning.specs.Digits.{front, is_digit, same}
use Rattle.pal_meaning.specs.Grammar.{Word, Mark, Name, Stray, behind, grammar_words, in_name, in_service, is_lower, is_upper, lower_word, mark_or_name, service_or_stray, sign_or_stray, sign_word, signs, upper_word, within, word_at}
use Rattle.engine_meaning.specs.Digits.{decimal_value}

-- a text begins with a lower-case letter
abbrev pub is_small : List ℕ → Bool
is_small [] = false
is_small (b ∷ bs) = is_lower b

-- ---- the bytes of such a word

chosen : {A : Type 0} (t : Bool) (x y : A) → t ≡ true → cond t x y ≡ x
chosen true x y is = refl
chosen false x y is = let k : false ≡ true = is in cc

small_at : (b : ℕ) (bs : List ℕ) → is_lower b ≡ true → word_at (b ∷ bs) ≡ (lower_word (front in_name (b ∷ bs)), behind in_name (b ∷ bs))
unfolding word_at
small_at b bs is = chosen (is_lower b) _ _ is

all_but : (n : ℕ) (bs : List ℕ) → n ≤ length bs → length bs - length (drop n bs) ≡ n
all_but n bs few = omega (arith, length-drop n bs, few)

first_small : (b : ℕ) (bs : List ℕ) → is_lower b ≡ true → first_word (b ∷ bs) ≡ front in_name (b ∷ bs)
first_small b bs is =
    let rest : (word_at (b ∷ bs)).1 ≡ behind in_name (b ∷ bs) = ap (λ (r : Word × List ℕ). r.1) (small_at b bs is) in
    ap (λ t. take (length (b ∷ bs) - length t) (b ∷ bs)) rest ∙ ap (λ n. take n (b ∷ bs)) (all_but (prefix_len in_name (b ∷ bs)) (b ∷ bs) (prefix_len-le-length in_name (b ∷ bs)))

word_small : (b : ℕ) (bs : List ℕ) → is_lower b ≡ true → (word_at (b ∷ bs)).0 ≡ lower_word (first_word (b ∷ bs))
word_small b bs is = ap (λ (r : Word × List ℕ). r.0) (small_at b bs is) ∙ ap lower_word (sym (first_small b bs is))

front_small : (b : ℕ) (bs : List ℕ) → is_lower b ≡ true → front in_name (b ∷ bs) ≡ b ∷ front in_name bs
front_small b bs is =
    let in_it : in_name b ≡ true = ap (λ t. t || is_digit b || (nat_eq b 95)) is in
    let n : prefix_len in_name (b ∷ bs) ≡ suc (prefix_len in_name bs) = ap (λ t. cond t (1 + prefix_len in_name bs) 0) in_it ∙ omega arith in
    ap (λ k. take k (b ∷ bs)) n

-- ---- the words of such bytes

head_of : ℕ → List ℕ → ℕ
head_of other [] = other
head_of other (b ∷ bs) = b

same_head : (k c b : ℕ) (cs bs : List ℕ) → take k (c ∷ cs) ≡ b ∷ bs → c ≡ b
unfolding head_of
same_head zero c b cs bs is = let k : [] ≡ b ∷ bs = is in cc
same_head (suc k) c b cs bs is = ap (head_of c) is

-- a text that begins with the bytes of such a word begins with this word
pub same_word : (t u : List ℕ) → is_small u ≡ true → first_word t ≡ first_word u → (is_small t ≡ true) × ((word_at t).0 ≡ (word_at u).0)
unfolding word_at
same_word t [] small is = let k : false ≡ true = small in cc
same_word [] (b ∷ bs) small is = let k : [] ≡ b ∷ front in_name bs = is ∙ first_small b bs small ∙ front_small b bs small in cc
same_word (c ∷ cs) (b ∷ bs) small is =
    let head : c ≡ b = same_head (length (c ∷ cs) - length (word_at (c ∷ cs)).1) c b cs (front in_name bs) (is ∙ first_small b bs small ∙ front_small b bs small) in
    let lower : is_lower c ≡ true = ap is_lower head ∙ small in
    (lower, word_small c cs lower ∙ ap lower_word is ∙ sym (word_small b bs small))

-- ---- the bytes of a mark that begins with a letter, and of a name

marked_among : (text mark : List ℕ) (marks : List (List ℕ)) → mark_or_name (find (λ m. same m text) marks) text ≡ Mark mark → text ≡ mark
marked_among text mark [] is = let k : Name text ≡ Mark mark = is in cc
marked_among text mark (m ∷ ms) is = by (same m text) refl is (λ h. marked_among text mark ms h)
  where
    by : (t : Bool) → same m text ≡ t → mark_or_name (cond t (Some m) (find (λ m. same m text) ms)) text ≡ Mark mark → (mark_or_name (find (λ m. same m text) ms) text ≡ Mark mark → text ≡ mark) → text ≡ mark
    by true e h rest = let k : m ≡ text = same_text m text (sym e) in cc
    by false e h rest = rest h

named_among : (text name : List ℕ) (found : Option (List ℕ)) → mark_or_name found text ≡ Name name → text ≡ name
named_among text name (Some m) is = let k : Mark m ≡ Name name = is in cc
named_among text name None is = cc

no_sign : (mark : List ℕ) (b : ℕ) (bs : List ℕ) (p : List ℕ → Bool) (all : List (List ℕ)) → is_small mark ≡ true → list_all (λ s. not (is_small s)) all ≡ true → (sign_or_stray (find p all) b bs).0 ≡ Mark mark → ⊥
no_sign mark b bs p [] small none is = let k : Stray ≡ Mark mark = is in cc
no_sign mark b bs p (s ∷ ss) small none is = by (is_small s) refl none (p s) is (λ h i. no_sign mark b bs p ss small h i)
  where
    by : (t : Bool) → is_small s ≡ t → (not t && list_all (λ s. not (is_small s)) ss) ≡ true → (u : Bool) → (sign_or_stray (cond u (Some s) (find p ss)) b bs).0 ≡ Mark mark
        → (list_all (λ s. not (is_small s)) ss ≡ true → (sign_or_stray (find p ss) b bs).0 ≡ Mark mark → ⊥) → ⊥
    by true e h u i rest = let k : false ≡ true = h in cc
    by false e h true i rest = let same_mark : s ≡ mark = cc in let k : false ≡ true = sym e ∙ ap is_small same_mark ∙ small in cc
    by false e h false i rest = rest h i

no_name : (name : List ℕ) (b : ℕ) (bs : List ℕ) (found : Option (List ℕ)) → (sign_or_stray found b bs).0 ≡ Name name → ⊥
no_name name b bs (Some s) is = let k : Mark s ≡ Name name = is in cc
no_name name b bs None is = let k : Stray ≡ Name name = is in cc

no_service : (w : Word) (found : Option Service) → ((s : Service) → ServiceWord s ≡ w → ⊥) → (Stray ≡ w → ⊥) → service_or_stray found ≡ w → ⊥
no_service w (Some s) h k is = h s is
no_service w None h k is = k is

-- which kind of word is at the front, if it is none that begins with a byte other than a letter
small_by : (b : ℕ) (bs : List ℕ) (w : Word) → (word_at (b ∷ bs)).0 ≡ w → ((n : Option ℕ) → Number n ≡ w → ⊥) → ((s : Service) → ServiceWord s ≡ w → ⊥) → (Stray ≡ w → ⊥)
    → ((sign_or_stray (find (starts_with nat_eq (b ∷ bs)) signs) b bs).0 ≡ w → ⊥) → is_lower b ≡ true
unfolding word_at sign_word upper_word
small_by b bs w is number service stray sign = by (is_lower b) (is_digit b) (is_upper b) is
  where
    by : (l d u : Bool) → (cond l (lower_word (front in_name (b ∷ bs)), behind in_name (b ∷ bs)) (cond d (Number (within (decimal_value (front is_digit (b ∷ bs)))), behind is_digit (b ∷ bs))
        (cond u (upper_word (front in_service (b ∷ bs)), behind in_service (b ∷ bs)) (sign_word b bs)))).0 ≡ w → l ≡ true
    by true d u h = refl
    by false true u h = absurd (number _ h)
    by false false true h = absurd (no_service w _ service stray h)
    by false false false h = absurd (sign h)

pub mark_bytes : (t mark : List ℕ) → is_small mark ≡ true → (word_at t).0 ≡ Mark mark → (is_small t ≡ true) × (first_word t ≡ mark)
unfolding word_at lower_word
mark_bytes [] mark small is = let k : Stray ≡ Mark mark = is in cc
mark_bytes (b ∷ bs) mark small is =
    let lower : is_lower b ≡ true =
    small_by b bs (Mark mark) is (λ n h. cc) (λ s h. cc) (λ h. cc) (λ h. no_sign mark b bs (starts_with nat_eq (b ∷ bs)) signs small refl h) in
    (lower, marked_among (first_word (b ∷ bs)) mark grammar_words (sym (word_small b bs lower) ∙ is))

pub name_bytes : (t name : List ℕ) → (word_at t).0 ≡ Name name → (is_small t ≡ true) × (first_word t ≡ name)
unfolding word_at lower_word
name_bytes [] name is = let k : Stray ≡ Name name = is in cc
name_bytes (b ∷ bs) name is =
    let lower : is_lower b ≡ true = small_by b bs (Name name) is (λ n h. cc) (λ s h. cc) (λ h. cc) (λ h. no_name name b bs (find (starts_with nat_eq (b ∷ bs)) signs) h) in
    (lower, named_among (first_word (b ∷ bs)) name (find (λ m. same m (first_word (b ∷ bs))) grammar_words) (sym (word_small b bs lower) ∙ is))

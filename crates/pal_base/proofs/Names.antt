-- Names stay unchanged while others are added after them.
use Rattle.std.proofs.Common.{◌≡◌, ℕ, zero, suc, ◌+◌, ◌<◌, ◌≤◌, Bool, true, false, ◌||◌, ◌&&◌, List, [], ◌∷◌, ◌++◌, length, map, take, Some, option_map, refl, sym, ◌∙◌, ap, arith, cond, append_assoc, append-nil, subst, lit<, length-append, inl, inr, ◌⊎◌}
use Rattle.std.specs.Prelude.{slice_get, nat_eq}
use Rattle.std.specs.List.{prefix_len, list_any}
use Rattle.std.specs.Str.{IsAscii}
use Rattle.std.specs.String.{string_bytes, string_eq}
use Rattle.std.specs.declared.string.String.{String}
use Rattle.std.specs.declared.alloc.Global.{Global}
use Rattle.std.specs.Cmp.Lexicographic.{same_text}
use Rattle.std.proofs.lemmas.Bool.{leb-true, eqb-true}
use Rattle.std.proofs.lemmas.Option.{slice_get-map}
use Rattle.std.proofs.lemmas.List.{map-append}
use Rattle.indexmap.specs.IndexSet.{insert_key}
use Rattle.pal_meaning.specs.Grammar as grammar
use Rattle.engine_meaning.specs.Digits.{front, is_digit}
use Rattle.pal_meaning.specs.Grammar.{in_name, is_lower}
use Rattle.pal_base.specs.declared.word.Token.{Token}
use Rattle.pal_base.specs.declared.word.Word.{Word}
use Rattle.pal_base.specs.declared.word.Word.TheVariants as word
use Rattle.pal_base.specs.View.{texts, text_or_none}
use Rattle.pal_base.specs.WordView.{word_of, token_of, Extends, IsKnown}

get_front : (xs ys : List (List ℕ)) (i : ℕ) → i < length xs → slice_get (xs ++ ys) i ≡ slice_get xs i
get_front [] ys i h = absurd (omega arith)
get_front (x ∷ xs) ys zero h = refl
get_front (x ∷ xs) ys (suc i) h = get_front xs ys i (omega arith)

pub known_stays : (names more : List (List ℕ)) (w : Word) → IsKnown names w → word_of (names ++ more) w ≡ word_of names w
known_stays names more (word.Name x) h = ap (λ t. grammar.Name (text_or_none t)) (get_front names more x.0 h)
known_stays names more (word.Number n) h = refl
known_stays names more (word.Service s) h = refl
known_stays names more (word.Mark m) h = refl
known_stays names more word.Stray h = refl

-- each of the tokens has a name that is there, or none
abbrev pub AreKnown : List (List ℕ) → List Token → Type 0
AreKnown names [] = Unit {0}
AreKnown names (t ∷ ts) = IsKnown names t.word × AreKnown names ts

pub tokens_stay : (names more : List (List ℕ)) (ts : List Token) → AreKnown names ts → map (token_of (names ++ more)) ts ≡ map (token_of names) ts
tokens_stay names more [] h = refl
tokens_stay names more (t ∷ ts) h =
    ap (λ w. w ∷ map (token_of (names ++ more)) ts) (known_stays names more t.word h.0)
    ∙ ap (λ ws. word_of names t.word ∷ ws) (tokens_stay names more ts h.1)

added : (b : Bool) (ks : List (String Global)) (k : String Global) → Extends (texts ks) (texts (cond b ks (ks ++ k ∷ [])))
added true ks k = ([], sym (append-nil (texts ks)))
added false ks k = (string_bytes k ∷ [], map-append string_bytes ks (k ∷ []))

pub inserted : (eq : String Global → String Global → Bool) (ks : List (String Global)) (k : String Global) → Extends (texts ks) (texts (insert_key eq ks k))
inserted eq ks k = added (list_any (eq k) ks) ks k

-- the text at the place of a key that equals the key
pub stored_text : (keys : List (String Global)) (i : ℕ) (key k : String Global) → slice_get keys i ≡ Some k → string_eq key k ≡ true → text_or_none (slice_get (texts keys) i) ≡ string_bytes key
stored_text keys i key k e h =
    ap text_or_none (slice_get-map string_bytes keys i ∙ ap (option_map string_bytes) e)
    ∙ sym (same_text (string_bytes key) (string_bytes k) (sym h))

or_cases : (a b : Bool) → (a || b) ≡ true → (a ≡ true) ⊎ (b ≡ true)
or_cases true b h = inl refl
or_cases false b h = inr h

and_right : (a b : Bool) → (a && b) ≡ true → b ≡ true
and_right true b h = h
and_right false b h = cc

tests : (b : ℕ) → in_name b ≡ true → b ≤ 122
tests b h = elim (or_cases (is_lower b || is_digit b) (nat_eq b 95) h) [
  | inl lower_or_digit ↦ elim (or_cases (is_lower b) (is_digit b) lower_or_digit) [
    | inl lower ↦ leb-true b 122 (and_right _ _ lower)
    | inr digit ↦ omega (arith, leb-true b 57 (and_right _ _ digit))
  ]
  | inr underscore ↦ omega (arith, eqb-true b 95 underscore)
]

ascii_name : (b : ℕ) → in_name b ≡ true → b < 128
ascii_name b h = omega (arith, tests b h)

ascii_front : (b : ℕ) (bs : List ℕ) → b < 128 → IsAscii bs → IsAscii (b ∷ bs)
ascii_front b bs h k zero = h
ascii_front b bs h k (suc i) = k i

none_is_ascii : IsAscii []
none_is_ascii i = lit< tt

shown : (t : Bool) (b n : ℕ) (bs : List ℕ) → (t ≡ true → b < 128) → IsAscii (take n bs) → IsAscii (take (cond t (1 + n) 0) (b ∷ bs))
shown true b n bs h k =
    let e : suc n ≡ 1 + n = omega arith in
    let P : ℕ → Type 0 = λ m. IsAscii (take m (b ∷ bs)) in
    subst P e (ascii_front b (take n bs) (h refl) k)
shown false b n bs h k = none_is_ascii

pub name_is_ascii : (bs : List ℕ) → IsAscii (front in_name bs)
name_is_ascii [] = none_is_ascii
name_is_ascii (b ∷ bs) = shown (in_name b) b (prefix_len in_name bs) bs (ascii_name b) (name_is_ascii bs)

known_in_more : (names more : List (List ℕ)) (w : Word) → IsKnown names w → IsKnown (names ++ more) w
known_in_more names more (word.Name x) h = omega (arith, h, length-append names more)
known_in_more names more (word.Number n) h = tt
known_in_more names more (word.Service s) h = tt
known_in_more names more (word.Mark m) h = tt
known_in_more names more word.Stray h = tt

pub all_known : (names more : List (List ℕ)) (ts : List Token) (t : Token) → AreKnown names ts → IsKnown (names ++ more) t.word → AreKnown (names ++ more) (ts ++ t ∷ [])
all_known names more [] t h k = (k, tt)
all_known names more (u ∷ ts) t h k = (known_in_more names more u.word h.0, all_known names more ts t h.1 k)

-- one more token: what was seen so far stays, and the new word comes after it
pub one_more : (old new : List (List ℕ)) (ts : List Token) (t : Token) (w : grammar.Word) (all rest rest' : List grammar.Word) →
    AreKnown old ts → Extends old new → token_of new t ≡ w → rest ≡ w ∷ rest' →
    all ≡ map (token_of old) ts ++ rest → all ≡ map (token_of new) (ts ++ t ∷ []) ++ rest'
one_more old new ts t w all rest rest' known grows seen split before =
    before
    ∙ ap (λ ws. ws ++ rest) (sym (tokens_stay old grows.0 ts known) ∙ ap (λ ns. map (token_of ns) ts) (sym grows.1))
    ∙ ap (λ ws. map (token_of new) ts ++ ws) (split ∙ ap (λ v. v ∷ rest') (sym seen))
    ∙ sym (append_assoc (map (token_of new) ts) (token_of new t ∷ []) rest')
    ∙ ap (λ ws. ws ++ rest') (sym (map-append (token_of new) ts (t ∷ [])))

pub all_known_too : (old new : List (List ℕ)) (ts : List Token) (t : Token) → AreKnown old ts → Extends old new → IsKnown new t.word → AreKnown new (ts ++ t ∷ [])
all_known_too old new ts t known grows k =
    let P : List (List ℕ) → Type 0 = λ ns. IsKnown ns t.word → AreKnown ns (ts ++ t ∷ []) in
    subst P (sym grows.1) (all_known old grows.0 ts t known) k

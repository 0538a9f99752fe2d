-- Line feeds appear between words, and not within them.
use Rattle.std.proofs.Common.{◌≡◌, ℕ, zero, suc, ◌+◌, ◌<◌, ◌≤◌, Bool, true, false, ◌&&◌, ◌||◌, List, [], ◌∷◌, length, drop, Option, Some, refl, sym, ap, ◌∙◌, arith, cond, nat_eq}
use Rattle.std.specs.Prelude.{find}
use Rattle.std.specs.List.{prefix_len, starts_with}
use Rattle.std.proofs.lemmas.Bool.{eqb-true}
use Rattle.pal_meaning.specs.Grammar.{Word, behind_blanks, behind, word_at, sign_word, sign_or_stray, signs, is_lower, is_upper, in_name, in_service, is_blank}
use Rattle.pal_meaning.specs.Lines.{feeds, from_word}
use Rattle.pal_laws.proofs.WordsOf.{word_shorter}
use Rattle.engine_meaning.specs.Digits.{is_digit}

-- where a byte is no line feed
skipped : (b : ℕ) (bs : List ℕ) → nat_eq b 10 ≡ false → feeds (b ∷ bs) ≡ feeds bs
skipped b bs h = ap (λ t. cond t (suc (feeds bs)) (feeds bs)) h

not_so : (t : Bool) → (t ≡ true → ⊥) → t ≡ false
not_so true h = absurd (h refl)
not_so false h = refl

differs : (p : ℕ → Bool) (b : ℕ) → p 10 ≡ false → p b ≡ true → nat_eq b 10 ≡ false
differs p b none h = not_so (nat_eq b 10) (λ e. let same : p b ≡ p 10 = ap p (eqb-true b 10 e) in let unlike : true ≡ false = sym h ∙ same ∙ none in absurd (let f : ⊥ = cc in f))

-- a run of bytes
run_by : (p : ℕ → Bool) (b : ℕ) (bs : List ℕ) (t : Bool) → p 10 ≡ false → p b ≡ t → feeds (drop (prefix_len p bs) bs) ≡ feeds bs → feeds (drop (cond t (1 + prefix_len p bs) 0) (b ∷ bs)) ≡ feeds (b ∷ bs)
run_by p b bs true none h rest =
    let one : 1 + prefix_len p bs ≡ suc (prefix_len p bs) = omega arith in
    ap (λ n. feeds (drop n (b ∷ bs))) one ∙ rest ∙ sym (skipped b bs (differs p b none h))
run_by p b bs false none h rest = refl

run_feeds : (p : ℕ → Bool) (bs : List ℕ) → p 10 ≡ false → feeds (behind p bs) ≡ feeds bs
run_feeds p [] none = refl
run_feeds p (b ∷ bs) none = run_by p b bs (p b) none refl (run_feeds p bs none)

-- signs
abbrev HasNoFeed : List ℕ → Type 0
HasNoFeed [] = Unit {0}
HasNoFeed (b ∷ bs) = (nat_eq b 10 ≡ false) × HasNoFeed bs

abbrev HaveNoFeed : List (List ℕ) → Type 0
HaveNoFeed [] = Unit {0}
HaveNoFeed (s ∷ ss) = HasNoFeed s × HaveNoFeed ss

both : (a b : Bool) → (a && b) ≡ true → (a ≡ true) × (b ≡ true)
both true true h = (refl, refl)
both true false h = let e : false ≡ true = h in absurd (let f : ⊥ = cc in f)
both false b h = let e : false ≡ true = h in absurd (let f : ⊥ = cc in f)

sign_feeds : (sign text : List ℕ) → HasNoFeed sign → starts_with nat_eq text sign ≡ true → feeds (drop (length sign) text) ≡ feeds text
sign_feeds [] text none h = refl
sign_feeds (s ∷ ss) [] none h = refl
sign_feeds (s ∷ ss) (b ∷ bs) none h =
    let parts = both (nat_eq s b) (starts_with nat_eq bs ss) h in
    let same : nat_eq b 10 ≡ false = ap (λ n. nat_eq n 10) (sym (eqb-true s b parts.0)) ∙ none.0 in
    sign_feeds ss bs none.1 parts.1 ∙ sym (skipped b bs same)

picked_feeds : (t : Bool) (s : List ℕ) (o : Option (List ℕ)) (b : ℕ) (bs : List ℕ) → (t ≡ true → feeds (sign_or_stray (Some s) b bs).1 ≡ feeds (b ∷ bs)) → feeds (sign_or_stray o b bs).1 ≡ feeds (b ∷ bs) →
    feeds (sign_or_stray (cond t (Some s) o) b bs).1 ≡ feeds (b ∷ bs)
picked_feeds true s o b bs h k = h refl
picked_feeds false s o b bs h k = k

found_feeds : (ss : List (List ℕ)) (b : ℕ) (bs : List ℕ) → nat_eq b 10 ≡ false → HaveNoFeed ss → feeds (sign_or_stray (find (starts_with nat_eq (b ∷ bs)) ss) b bs).1 ≡ feeds (b ∷ bs)
found_feeds [] b bs none h = sym (skipped b bs none)
found_feeds (s ∷ ss) b bs none h = picked_feeds (starts_with nat_eq (b ∷ bs) s) s (find (starts_with nat_eq (b ∷ bs)) ss) b bs (λ e. sign_feeds s (b ∷ bs) h.0 e) (found_feeds ss b bs none h.1)

one : (b : ℕ) → nat_eq b 10 ≡ false → HasNoFeed (b ∷ [])
one b h = (h, tt)

two : (a b : ℕ) → nat_eq a 10 ≡ false → nat_eq b 10 ≡ false → HasNoFeed (a ∷ b ∷ [])
two a b h k = (h, (k, tt))

signs_have_none : HaveNoFeed signs
signs_have_none = (
  two 58 61 refl refl,
  (
    two 45 62 refl refl,
    (
      two 60 62 refl refl,
      (
        two 60 61 refl refl,
        (
          two 62 61 refl refl,
          (
            one 43 refl,
            (
              one 45 refl,
              (
                one 42 refl,
                (
                  one 47 refl,
                  (
                    one 37 refl,
                    (
                      one 61 refl,
                      (
                        one 60 refl,
                        (
                          one 62 refl,
                          (one 59 refl, (one 44 refl, (one 40 refl, (one 41 refl, (one 123 refl, (one 125 refl, (one 91 refl, (one 93 refl, tt)))))))),
                        ),
                      ),
                    ),
                  ),
                ),
              ),
            ),
          ),
        ),
      ),
    ),
  ),
)

chosen_feeds : (t : Bool) (x y : Word × List ℕ) (n : ℕ) → feeds x.1 ≡ n → feeds y.1 ≡ n → feeds (cond t x y).1 ≡ n
chosen_feeds true x y n h k = h
chosen_feeds false x y n h k = k

-- a word has no line feed
word_feeds : (b : ℕ) (bs : List ℕ) → nat_eq b 10 ≡ false → feeds (word_at (b ∷ bs)).1 ≡ feeds (b ∷ bs)
unfolding word_at sign_word
word_feeds b bs none =
    chosen_feeds (is_lower b) _ _ _ (run_feeds in_name (b ∷ bs) refl)
    (chosen_feeds (is_digit b) _ _ _ (run_feeds is_digit (b ∷ bs) refl)
    (chosen_feeds (is_upper b) _ _ _ (run_feeds in_service (b ∷ bs) refl)
    (found_feeds signs b bs none signs_have_none)))

-- after blanks, the first byte is no line feed
abbrev pub BeginsPlain : List ℕ → Type 0
BeginsPlain [] = Unit {0}
BeginsPlain (b ∷ bs) = nat_eq b 10 ≡ false

plain_by : (f h c : Bool) (b : ℕ) (xs ys zs : List ℕ) (bs : List ℕ) → nat_eq b 10 ≡ f → BeginsPlain xs → BeginsPlain ys → BeginsPlain zs → BeginsPlain (cond f xs (cond h ys (cond c zs (b ∷ bs))))
plain_by true h c b xs ys zs bs e x y z = x
plain_by false true c b xs ys zs bs e x y z = y
plain_by false false true b xs ys zs bs e x y z = z
plain_by false false false b xs ys zs bs e x y z = e

pub blanks_plain : (comment : Bool) (bs : List ℕ) → BeginsPlain (behind_blanks comment bs)
unfolding behind_blanks
blanks_plain comment [] = tt
blanks_plain comment (b ∷ bs) = plain_by (nat_eq b 10) (nat_eq b 35) (comment || is_blank b) b (behind_blanks false bs) (behind_blanks true bs) (behind_blanks comment bs) bs refl (blanks_plain false bs) (blanks_plain true bs) (blanks_plain comment bs)

pub next_feeds : (bs : List ℕ) → BeginsPlain bs → feeds (word_at bs).1 ≡ feeds bs
unfolding word_at
next_feeds [] plain = refl
next_feeds (b ∷ bs) plain = word_feeds b bs plain

-- the next word begins after the blanks that follow the word before it
pub next_word : (n : ℕ) (text : List ℕ) → from_word (suc n) text ≡ behind_blanks false (word_at (from_word n text)).1
unfolding from_word
next_word zero text = refl
next_word (suc n) text = next_word n (word_at (behind_blanks false text)).1

pub word_plain : (n : ℕ) (text : List ℕ) → BeginsPlain (from_word n text)
unfolding from_word
word_plain zero text = blanks_plain false text
word_plain (suc n) text = word_plain n (word_at (behind_blanks false text)).1

few_more : (t : Bool) (n : ℕ) → n ≤ cond t (suc n) n
few_more true n = omega arith
few_more false n = omega arith

one_few : (b : ℕ) (bs : List ℕ) → feeds bs ≤ feeds (b ∷ bs)
one_few b bs = few_more (nat_eq b 10) (feeds bs)

either_few : (t : Bool) (xs ys : List ℕ) (n : ℕ) → feeds xs ≤ n → feeds ys ≤ n → feeds (cond t xs ys) ≤ n
either_few true xs ys n h k = h
either_few false xs ys n h k = k

blanks_few : (comment : Bool) (bs : List ℕ) → feeds (behind_blanks comment bs) ≤ feeds bs
unfolding behind_blanks
blanks_few comment [] = omega arith
blanks_few comment (b ∷ bs) =
    let more : feeds bs ≤ feeds (b ∷ bs) = one_few b bs in
    let f : feeds (behind_blanks false bs) ≤ feeds (b ∷ bs) = omega (arith, blanks_few false bs, more) in
    let t : feeds (behind_blanks true bs) ≤ feeds (b ∷ bs) = omega (arith, blanks_few true bs, more) in
    let c : feeds (behind_blanks comment bs) ≤ feeds (b ∷ bs) = omega (arith, blanks_few comment bs, more) in
    let r : feeds (b ∷ bs) ≤ feeds (b ∷ bs) = omega arith in
    either_few (nat_eq b 10) (behind_blanks false bs) _ (feeds (b ∷ bs)) f
    (either_few (nat_eq b 35) (behind_blanks true bs) _ (feeds (b ∷ bs)) t
    (either_few (comment || is_blank b) (behind_blanks comment bs) (b ∷ bs) (feeds (b ∷ bs)) c r))

-- no more line feeds follow than the text has
pub word_few : (n : ℕ) (text : List ℕ) → feeds (from_word n text) ≤ feeds text
unfolding from_word
word_few zero text = blanks_few false text
word_few (suc n) text =
    let next = behind_blanks false text in
    omega (arith, word_few n (word_at next).1, next_feeds next (blanks_plain false text), blanks_few false text)

pub word_short : (bs : List ℕ) → 0 < length bs → length (word_at bs).1 ≤ length bs
word_short [] some = absurd (omega (arith, some))
word_short (b ∷ bs) some = omega (arith, word_shorter b bs)

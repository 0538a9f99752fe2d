-- Each word of a text has its line.
use Rattle.std.proofs.Common.{◌≡◌, ℕ, zero, suc, ◌+◌, ◌-◌, ◌<◌, ◌≤◌, false, List, [], ◌∷◌, ◌++◌, length, drop, length-append, sym, ap, ◌∙◌, subst, arith}
use Rattle.apex_types.specs.declared.limits.TheConstants.{MOST_SOURCE_BYTES}
use Rattle.pal_meaning.specs.Beginning.{LeavesAt}
use Rattle.pal_meaning.specs.Grammar.{Word, behind_blanks, word_at, words_of}
use Rattle.pal_meaning.specs.Lines.{feeds, from_word, word_line}
use Rattle.pal_laws.proofs.Feeds.{BeginsPlain, next_feeds, next_word, word_plain, word_few, word_short}
use Rattle.pal_laws.proofs.Places.{refused_words_leave}
use Rattle.pal_laws.specs.GrammarReading.{program_at}
use Rattle.pal_base.specs.Lined.{HasFewLines, AreLined, first_line, refused_line, IsLineOf}
use Rattle.pal_base.specs.Seen.{Refuses, refusal_of}
use Rattle.pal_base.specs.declared.fault.Refusal.{Refusal}
use Rattle.pal_base.specs.declared.source.ReadError.{ReadError}
use Rattle.pal_base.specs.declared.source.ReadError.TheVariants.{Memory, Refused}
use Rattle.pal_base.specs.declared.word.Token.{Token}

-- the state while words are read one after another: `tokens` were made of the text, and `rest`
-- follows, in line `line`
pub record AreCounted (text : List ℕ) (tokens : List Token) (rest : List ℕ) (line : ℕ) : Type 0 where
  pub place : rest ≡ from_word (length tokens) text
  pub few : line + length rest ≤ suc (length text)
  pub counts : HasFewLines text → line + feeds rest ≡ suc (feeds text)
  pub lined : HasFewLines text → AreLined text 0 tokens

line_now : (text : List ℕ) (tokens : List Token) (rest : List ℕ) (line : ℕ) → AreCounted text tokens rest line → HasFewLines text → line ≡ word_line text (length tokens)
line_now text tokens rest line counted few =
    omega (arith, counted.counts few, ap feeds counted.place, word_few (length tokens) text)

pub counted_starts : (text : List ℕ) (tokens : List Token) (rest : List ℕ) (line : ℕ) → tokens ≡ [] → rest ≡ behind_blanks false text → line + length rest ≤ 1 + length text →
    (1 + length text < 4294967296 → line + feeds rest ≡ 1 + feeds text) → AreCounted text tokens rest line
unfolding from_word
counted_starts text tokens rest line none is few counts = record {
  place = is ∙ ap (λ n. from_word n text) (sym (ap length none));
  few = omega (arith, few);
  counts = λ h. omega (arith, counts (omega (arith, h)));
  lined = λ h. subst (AreLined text 0) (sym none) tt;
}

lined_more : (text : List ℕ) (n : ℕ) (ts : List Token) (t : Token) → AreLined text n ts → t.line ≡ word_line text (n + length ts) → AreLined text n (ts ++ t ∷ [])
lined_more text n [] t lined h = let same : n + 0 ≡ n = omega arith in (h ∙ ap (word_line text) same, tt)
lined_more text n (x ∷ ts) t lined h = let same : n + suc (length ts) ≡ suc n + length ts = omega arith in (lined.0, lined_more text (suc n) ts t lined.1 (h ∙ ap (word_line text) same))

pub counted_goes_on : (text : List ℕ) (old new : List Token) (t : Token) (rest after next : List ℕ) (line then : ℕ) → AreCounted text old rest line → 0 < length rest → after ≡ (word_at rest).1 →
    next ≡ behind_blanks false after → then + length next ≤ line + length after → (line + length after < 4294967296 → then + feeds next ≡ line + feeds after) → t.line ≡ line → new ≡ old ++ t ∷ [] → AreCounted text new next then
counted_goes_on text old new t rest after next line then counted some word blanks few counts at pushed =
    let shorter : length after ≤ length rest = omega (arith, ap length word, word_short rest some) in
    let same : feeds after ≡ feeds rest = ap feeds word ∙ next_feeds rest (subst BeginsPlain (sym counted.place) (word_plain (length old) text)) in
    let more : length new ≡ suc (length old) = omega (arith, ap length pushed, length-append old (t ∷ [])) in
    record {
      place = blanks ∙ ap (behind_blanks false) (word ∙ ap (λ (bs : List ℕ). (word_at bs).1) counted.place) ∙ sym (next_word (length old) text) ∙ ap (λ n. from_word n text) (sym more);
      few = omega (arith, few, shorter, counted.few);
      counts = λ h. omega (arith, counts (omega (arith, h, shorter, counted.few)), same, counted.counts h);
      lined = λ h. subst (AreLined text 0) (sym pushed) (lined_more text 0 old t (counted.lined h) (at ∙ line_now text old rest line counted h ∙ ap (word_line text) (omega arith)));
    }

pub counted_ends : (text : List ℕ) (tokens : List Token) (rest : List ℕ) (line : ℕ) → AreCounted text tokens rest line → HasFewLines text → AreLined text 0 tokens × (line ≡ word_line text (length tokens))
counted_ends text tokens rest line counted few = (counted.lined few, line_now text tokens rest line counted few)

-- the line of the word at a place
pub lined_at : (text : List ℕ) (n k : ℕ) (ts : List Token) (last : ℕ) → AreLined text n ts → last ≡ word_line text (n + length ts) → k ≤ length ts → first_line last (drop k ts) ≡ word_line text (n + k)
lined_at text n zero [] last lined h le = h
lined_at text n zero (t ∷ ts) last lined h le = let same : n ≡ n + 0 = omega arith in lined.0 ∙ ap (word_line text) same
lined_at text n (suc k) [] last lined h le = absurd (omega (arith, le))
lined_at text n (suc k) (t ∷ ts) last lined h le =
    let same : n + suc (length ts) ≡ suc n + length ts = omega arith in
    let there : suc n + k ≡ n + suc k = omega arith in
    lined_at text (suc n) k ts last lined.1 (h ∙ ap (word_line text) same) (omega (arith, le)) ∙ ap (word_line text) there

line_is : (error : ReadError) (line last : ℕ) (text : List ℕ) (ts : List Token) (ws : List Word) → line ≡ refused_line last ts error → ws ≡ words_of text → length ws ≡ length ts → AreLined text 0 ts → last ≡ word_line text (0 + length ts) →
    Refuses error (program_at ws) → IsLineOf (refusal_of error) line text
line_is Memory line last text ts ws at words many lined h given = tt
line_is (Refused misfit) line last text ts ws at words many lined h given =
    let leaves = refused_words_leave ws misfit.left given in
    let place : length ws - misfit.left ≡ length ts - misfit.left = ap (λ n. n - misfit.left) many in
    (length ts - misfit.left, subst (λ (vs : List Word). LeavesAt vs (length ts - misfit.left)) words (subst (LeavesAt ws) place leaves.1), at ∙ lined_at text 0 (length ts - misfit.left) ts last lined h (omega arith) ∙ ap (word_line text) (omega arith))

pub line_so : (error : ReadError) (refusal : Refusal) (line last : ℕ) (text : List ℕ) (ts : List Token) (ws : List Word) → refusal ≡ refusal_of error → line ≡ refused_line last ts error → ws ≡ words_of text → length ws ≡ length ts →
    AreLined text 0 ts × (last ≡ word_line text (length ts)) → Refuses error (program_at ws) → IsLineOf refusal line text
line_so error refusal line last text ts ws is at words many lined given =
    let so_many : length ts ≡ 0 + length ts = omega arith in
    subst (λ r. IsLineOf r line text) (sym is) (line_is error line last text ts ws at words many lined.0 (lined.1 ∙ ap (word_line text) so_many) given)

-- the lines of a source text are few
pub few_lines : (text : List ℕ) → length text ≤ MOST_SOURCE_BYTES → HasFewLines text
few_lines text le = omega (arith, le)

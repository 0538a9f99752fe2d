-- How a reading continues, step by step, where each part is read.
use Rattle.std.proofs.Common.{◌≡◌, ℕ, ◌<◌, List, [], ◌∷◌, length, Some, None, Ok, Err, ap, ◌∙◌}
use Rattle.pal_meaning.specs.Grammar.{Word}
use Rattle.pal_laws.specs.GrammarReading.{Answer, Turn, ◌>>=◌, either, repeat}
use Rattle.pal_meaning.specs.Grammar.{all_words, Each}
use Rattle.pal_laws.proofs.Repeats.{repeat_ends, repeat_goes_on}

-- a reading at the front, then a reading after it
pub then_reads : {A B : Type 0} (o : Answer A) (f : A → Answer B) (a : A) (y : Answer B) → o ≡ Ok a → f a ≡ y → (o >>= f) ≡ y
then_reads o f a y e g = ap (λ p. p >>= f) e ∙ g

-- the second of two ways, if the first finds nothing
pub other_way : {A B : Type 0} (o : Answer A) (f : A → Answer B) (left : ℕ) (other y : Answer B) → o ≡ Err left → other ≡ y → either o f other ≡ y
other_way o f left other y e g = ap (λ p. either p f other) e ∙ g

-- a turn that finds one thing, and then the rest of the repetition
pub repeat_reads_on : {X : Type 0} (turn : Turn X) (ws vs us : List Word) (x : X) (xs : List X) → turn ws ≡ Ok (Some (x, vs)) → length vs < length ws → repeat turn vs ≡ Ok (xs, us) → repeat turn ws ≡ Ok (x ∷ xs, us)
repeat_reads_on turn ws vs us x xs e l h = repeat_goes_on turn ws x vs e l ∙ ap (λ r. r >>= λ ys. Ok (x ∷ ys.0, ys.1)) h

-- things one after another are read by turns that read each, up to where a turn finds nothing more
pub repeat_reads : {X : Type 0} (P : X → Type 0) (words : X → List Word → List Word) (turn : Turn X) (xs : List X) (rest : List Word) →
    ((x : X) (ws : List Word) → P x → turn (words x ws) ≡ Ok (Some (x, ws))) → ((x : X) (ws : List Word) → length ws < length (words x ws)) →
    Each P xs → turn rest ≡ Ok None → repeat turn (all_words words xs rest) ≡ Ok (xs, rest)
repeat_reads P words turn [] rest one longer all ends = repeat_ends turn rest ends
repeat_reads P words turn (x ∷ xs) rest one longer all ends =
    let vs = all_words words xs rest in
    repeat_reads_on turn (words x vs) vs rest x xs (one x vs all.0) (longer x vs) (repeat_reads P words turn xs rest one longer all.1 ends)

-- the condition that is always true
abbrev pub Any : {X : Type 0} → X → Type 0
Any x = Unit {0}

pub any_all : {X : Type 0} (xs : List X) → Each (λ (x : X). Any x) xs
any_all [] = tt
any_all (x ∷ xs) = (tt, any_all xs)

-- Fields and their texts: a text that is read as a value is the text of the value, and the text of
-- a lawful value is read as it.
use Rattle.std.proofs.Common.{◌≡◌, ℕ, Bool, true, false, cond, List, [], ◌∷◌, Option, Some, refl, sym, ap, ◌∙◌}
use Rattle.std.specs.Prelude.{find}
use Rattle.std.specs.Cmp.Lexicographic.{same_text}
use Rattle.std.specs.List.{list_all}
use Rattle.engine_meaning.specs.Digits.{same}
use Rattle.trace_text.specs.Reading.{with_word}
use Rattle.text_lines.proofs.Pieces.{is_ink}

pub record Spells {A : Type 0} (read : List ℕ → Option A) (text : A → List ℕ) (IsGood : A → Type 0) : Type 0 where
  pub takes : (bs : List ℕ) (a : A) → read bs ≡ Some a → (text a ≡ bs) × IsGood a
  pub again : (a : A) → IsGood a → read (text a) ≡ Some a
  pub ink : (a : A) → IsGood a → list_all is_ink (text a) ≡ true

pub same_some : {A : Type 0} (a b : A) → Some a ≡ Some b → a ≡ b
same_some a b e = cc

found_at : {A : Type 0} (test : A → Bool) (t : Bool) (x : A) (rest : Option A) (y : A) → test x ≡ t → (rest ≡ Some y → test y ≡ true) → cond t (Some x) rest ≡ Some y → test y ≡ true
found_at test true x rest y is later e = ap test (sym (same_some x y e)) ∙ is
found_at test false x rest y is later e = later e

-- an item that is found passes the test
pub found : {A : Type 0} (test : A → Bool) (xs : List A) (y : A) → find test xs ≡ Some y → test y ≡ true
found test [] y e = cc
found test (x ∷ xs) y e = found_at test (test x) x (find test xs) y refl (found test xs y) e

-- an item that is found by its word has the word
pub found_word : {A : Type 0} (word : A → List ℕ) (all : List A) (bs : List ℕ) (a : A) → with_word word all bs ≡ Some a → word a ≡ bs
found_word word all bs a e = same_text (word a) bs (sym (found (λ x. same (word x) bs) all a e))

-- each of the values is found by its own word
pub words_spell : {A : Type 0} (word : A → List ℕ) (all : List A) → ((a : A) → with_word word all (word a) ≡ Some a) → ((a : A) → list_all is_ink (word a) ≡ true) → Spells (with_word word all) word (λ _. Unit {0})
words_spell word all again ink = record {
  takes = λ bs a e. (found_word word all bs a e, tt);
  again = λ a good. again a;
  ink = λ a good. ink a;
}

-- What is added to a list, one after another.
use Rattle.std.proofs.Common.{◌≡◌, ℕ, List, ◌++◌, Result, Ok, Err, sym, ap, ◌∙◌, append_assoc}
use Rattle.std.specs.Prelude.{OnOk}

pub on_ok : {X E P Q : Type 0} (r : Result X E) → (P → Q) → OnOk r P → OnOk r Q
on_ok (Ok x) f h = f h
on_ok (Err e) f h = h

pub three_added : {X : Type 0} (old a b c : List X) {first second third : List X} → first ≡ old ++ a → second ≡ first ++ b → third ≡ second ++ c → third ≡ old ++ ((a ++ b) ++ c)
three_added old a b c one two three =
    three ∙ ap (λ l. l ++ c) (two ∙ ap (λ l. l ++ b) one ∙ append_assoc old a b) ∙ append_assoc old (a ++ b) c

pub four_added : {X : Type 0} (old a b c d : List X) {first second third fourth : List X} → first ≡ old ++ a → second ≡ first ++ b → third ≡ second ++ c → fourth ≡ third ++ d → fourth ≡ old ++ ((a ++ b) ++ (c ++ d))
four_added old a b c d one two three four =
    four ∙ ap (λ l. l ++ d) (three_added old a b c one two three) ∙ append_assoc old ((a ++ b) ++ c) d ∙ ap (λ l. old ++ l) (append_assoc (a ++ b) c d)

-- the same where the last two belong together
pub two_added : {X : Type 0} (old a b c : List X) {first second third : List X} → first ≡ old ++ a → second ≡ first ++ b → third ≡ second ++ c → third ≡ old ++ (a ++ (b ++ c))
two_added old a b c one two three = three_added old a b c one two three ∙ ap (λ l. old ++ l) (append_assoc a b c)

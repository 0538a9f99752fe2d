-- A loop that adds findings: those that it has added, followed by those of the rest, are all of them.
use Rattle.std.proofs.Common.{◌≡◌, ℕ, ◌≤◌, List, [], ◌∷◌, ◌++◌, length, drop, length-drop, refl, sym, ap, ◌∙◌, arith}
use Rattle.std.proofs.lemmas.List.{append_assoc, append-nil, nil_from_length}
use Rattle.std.proofs.Common.{take, OnOk, Result}
use Rattle.std.proofs.lemmas.Result.{IfOk-equal}
use Rattle.std.specs.Prelude.{Bool, ◌||◌}
use Rattle.std.specs.List.{list_any}
use Rattle.std.proofs.lemmas.List.{take-map}
use Rattle.module_meaning.specs.TableRules.{is_one_of, same}
use Rattle.table_findings.specs.declared.finding.Finding.{Finding}
use Rattle.table_findings.specs.Views.{finding_of, findings_of}

-- one turn: the first of the rest adds its own
pub step : {X A : Type 0} (all rest : List X → List A) (own : X → List A) (xs others : List X) (x : X) (old new whole : List A) → ((y : X) (ys : List X) → all (y ∷ ys) ≡ own y ++ rest ys)
    → old ++ all xs ≡ whole → xs ≡ x ∷ others → new ≡ old ++ own x → new ++ rest others ≡ whole
step all rest own xs others x old new whole cons inv is grows =
    ap (λ (a : List _). a ++ rest others) grows ∙ append_assoc old (own x) (rest others) ∙ ap (λ (a : List _). old ++ a) (sym (cons x others)) ∙ ap (λ (ys : List _). old ++ all ys) (sym is) ∙ inv

-- the end: nothing is left
pub done : {X A : Type 0} (all : List X → List A) (xs : List X) (old whole : List A) → all [] ≡ [] → old ++ all xs ≡ whole → xs ≡ [] → old ≡ whole
done all xs old whole nil inv is = sym (append-nil old) ∙ ap (λ (a : List _). old ++ a) (sym nil) ∙ ap (λ (ys : List _). old ++ all ys) (sym is) ∙ inv

-- nothing is left after the last
pub all_seen : {X : Type 0} (xs : List X) (i : ℕ) → length xs ≤ i → drop i xs ≡ []
all_seen xs i h = nil_from_length (drop i xs) (omega (arith, length-drop i xs))

pub append_nil : {A : Type 0} (xs : List A) → xs ++ [] ≡ xs
append_nil xs = append-nil xs

pub findings_taken : (n : ℕ) (fs : List Finding) → findings_of (take n fs) ≡ take n (findings_of fs)
findings_taken n fs = sym (take-map finding_of n fs)

pub is_one : (words : List (List ℕ)) (text : List ℕ) → list_any (same text) words ≡ is_one_of words text
is_one [] text = refl
is_one (word ∷ words) text = ap (λ (b : Bool). same text word || b) (is_one words text)

-- the second of two calls adds its own after those of the first
pub two_add : {A T E : Type 0} (r : Result T E) (old mid new first last : List A) → mid ≡ old ++ first → OnOk r (new ≡ mid ++ last) → OnOk r (new ≡ old ++ (first ++ last))
two_add r old mid new first last before after = IfOk-equal r new (mid ++ last) (old ++ (first ++ last)) after (ap (λ (xs : List _). xs ++ last) before ∙ append_assoc old first last)

-- A loop over what is found in a text: the lines so far, followed by lines that report the rest, report all of it.
use Rattle.std.proofs.Common.{◌≡◌, ℕ, ◌+◌, ◌<◌, ◌≤◌, List, [], ◌∷◌, ◌++◌, length, drop, get_or, refl, sym, ap, ◌∙◌, subst}
use Rattle.std.proofs.lemmas.List.{append_assoc, append-nil, at_drop_all, at_drop_more}
use Rattle.finding_lines.specs.Lines.{AreAt, IsAt}
use Rattle.finding_lines.specs.Reports.{Report}

abbrev pub IsUnderWay : Report → List ℕ → (places rest lines : List ℕ) → Type 0
IsUnderWay r text places rest lines = (others : List ℕ) → AreAt r text rest others → AreAt r text places (lines ++ others)

-- the lines of the next one are added
pub goes_on : {X : Type 0} (r : Report) (text : List ℕ) (all : List X → List ℕ) (place : X → ℕ) (xs : List X) (i : ℕ) (d : X) (old part new : List ℕ)
    → ((y : X) (ys : List X) → all (y ∷ ys) ≡ place y ∷ all ys) → i < length xs → IsAt r text (place (get_or xs i d)) part → new ≡ old ++ part
    → IsUnderWay r text (all xs) (all (drop i xs)) old → IsUnderWay r text (all xs) (all (drop (i + 1) xs)) new
goes_on r text all place xs i d old part new law some at grows before others told =
    subst (AreAt r text (all xs)) (sym (ap (λ (a : List ℕ). a ++ others) grows ∙ append_assoc old part others))
    (before (part ++ others)
    (subst (λ (ps : List ℕ). AreAt r text ps (part ++ others)) (sym (at_drop_more all xs i d some ∙ law (get_or xs i d) (drop (i + 1) xs))) (part, others, at, told, refl)))

-- after the last one the lines report all
pub all_reported : {X : Type 0} (r : Report) (text : List ℕ) (all : List X → List ℕ) (xs : List X) (i : ℕ) (lines : List ℕ)
    → all [] ≡ [] → length xs ≤ i → IsUnderWay r text (all xs) (all (drop i xs)) lines → AreAt r text (all xs) lines
all_reported r text all xs i lines none over before =
    subst (AreAt r text (all xs)) (append-nil lines) (before [] (subst (λ (ps : List ℕ). AreAt r text ps []) (sym (at_drop_all all xs i over ∙ none)) refl))

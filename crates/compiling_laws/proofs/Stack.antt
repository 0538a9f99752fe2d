-- The words of a stack: what lies below, then the values, the last one on top.
use Rattle.compiling_laws.proofs.Prelude.{◌≡◌, ℕ, suc, ◌+◌, ◌-◌, ◌≤◌, ◌<◌, ℤ, pos, List, ◌∷◌, ◌++◌, length, take, drop, reverse, refl, sym, ap, ◌∙◌, append_assoc, length-append, slice_get, slice_set, taken, Laid, calls_of, onto, saved, below, put_words, word, pushed, popped}
use Rattle.std.proofs.Common.{zero, [], arith}
use Rattle.std.proofs.Math.Seq.{set-append_seam, get_or-append_seam}

pub onto_length : (ws r : List ℤ) → length (onto ws r) ≡ length ws + length r
onto_length [] r = omega arith
onto_length (w ∷ ws) r = omega (arith, onto_length ws (w ∷ r))

pub onto_split : (ws r : List ℤ) → onto ws r ≡ onto ws [] ++ r
onto_split [] r = refl
onto_split (w ∷ ws) r = onto_split ws (w ∷ r) ∙ sym (append_assoc (onto ws []) (w ∷ []) r) ∙ ap (λ l. l ++ r) (sym (onto_split ws (w ∷ [])))

pub onto_parts : (n : ℕ) (ws r : List ℤ) → onto ws r ≡ onto (drop n ws) (onto (take n ws) r)
onto_parts zero ws r = refl
onto_parts (suc n) [] r = refl
onto_parts (suc n) (w ∷ ws) r = onto_parts n ws (w ∷ r)

-- the word on top
pub word_at_top : (x vs : List ℤ) (v : ℤ) (js : List ℤ) (i : ℕ) → i ≡ length x + length vs → word (x ++ onto vs (v ∷ js)) i ≡ v
word_at_top x vs v js i e =
    let o = onto vs [] in
    let at : i ≡ length (x ++ o) = omega (arith, length-append x o, onto_length vs []) in
    ap (λ l. word (x ++ l) i) (onto_split vs (v ∷ js)) ∙ ap (λ l. word l i) (sym (append_assoc x o (v ∷ js))) ∙ ap (λ p. word ((x ++ o) ++ v ∷ js) p) at ∙ get_or-append_seam (x ++ o) v js (pos 0)

pub set_at_top : (x vs : List ℤ) (j : ℤ) (js : List ℤ) (v : ℤ) (i : ℕ) → i ≡ length x + length vs → slice_set (x ++ onto vs (j ∷ js)) i v ≡ x ++ onto vs (v ∷ js)
set_at_top x vs j js v i e =
    let o = onto vs [] in
    let at : i ≡ length (x ++ o) = omega (arith, length-append x o, onto_length vs []) in
    ap (λ l. slice_set (x ++ l) i v) (onto_split vs (j ∷ js)) ∙ ap (λ l. slice_set l i v) (sym (append_assoc x o (j ∷ js))) ∙ ap (λ p. slice_set ((x ++ o) ++ j ∷ js) p v) at ∙ set-append_seam (x ++ o) j js v ∙ append_assoc x o (v ∷ js) ∙ ap (λ l. x ++ l) (sym (onto_split vs (v ∷ js)))

-- a word among the slots
pub get_within : (b s t : List ℤ) (i : ℕ) → i < length s → slice_get ((b ++ s) ++ t) (length b + i) ≡ slice_get s i
get_within [] [] t i h = absurd (omega arith)
get_within [] (w ∷ s) t zero h = refl
get_within [] (w ∷ s) t (suc i) h = let at : 0 + suc i ≡ suc (0 + i) = omega arith in ap (λ p. slice_get (w ∷ (s ++ t)) p) at ∙ get_within [] s t i (omega arith)
get_within (x ∷ b) s t i h = let at : length (x ∷ b) + i ≡ suc (length b + i) = omega arith in ap (λ p. slice_get (x ∷ ((b ++ s) ++ t)) p) at ∙ get_within b s t i h

pub set_within : (b s t : List ℤ) (i : ℕ) (v : ℤ) → i < length s → slice_set ((b ++ s) ++ t) (length b + i) v ≡ (b ++ slice_set s i v) ++ t
set_within [] [] t i v h = absurd (omega arith)
set_within [] (w ∷ s) t zero v h = refl
set_within [] (w ∷ s) t (suc i) v h = let at : 0 + suc i ≡ suc (0 + i) = omega arith in ap (λ p. slice_set (w ∷ (s ++ t)) p v) at ∙ ap (λ l. w ∷ l) (set_within [] s t i v (omega arith))
set_within (x ∷ b) s t i v h = let at : length (x ∷ b) + i ≡ suc (length b + i) = omega arith in ap (λ p. slice_set (x ∷ ((b ++ s) ++ t)) p v) at ∙ ap (λ l. x ∷ l) (set_within b s t i v h)

-- words put one after the other over as many others
pub put_over : (x ws junk : List ℤ) (i : ℕ) → i ≡ length x → length ws ≤ length junk → (js : List ℤ) × (put_words (x ++ junk) i ws ≡ x ++ (ws ++ js))
put_over x [] junk i e h = (junk, refl)
put_over x (w ∷ ws) [] i e h = absurd (omega arith)
put_over x (w ∷ ws) (j ∷ junk) i e h =
    let at : i + 1 ≡ length (x ++ w ∷ []) = omega (arith, length-append x (w ∷ [])) in
    let later = put_over (x ++ w ∷ []) ws junk (i + 1) at (omega arith) in
    let set : slice_set (x ++ j ∷ junk) i w ≡ (x ++ w ∷ []) ++ junk = ap (λ p. slice_set (x ++ j ∷ junk) p w) e ∙ set-append_seam x j junk w ∙ sym (append_assoc x (w ∷ []) junk) in
    (later.0, ap (λ l. put_words l (i + 1) ws) set ∙ later.1 ∙ append_assoc x (w ∷ []) (ws ++ later.0))

pushes_one : (x vs junk ws : List ℤ) (w : ℤ) (sp : ℕ) → sp ≡ length x + length vs → length (w ∷ ws) ≤ length junk → (js : List ℤ) → pushed (x ++ onto vs junk) sp ws ≡ x ++ onto (ws ++ vs) js → length js + length ws ≡ length junk → (ks : List ℤ) × (pushed (x ++ onto vs junk) sp (w ∷ ws) ≡ x ++ onto (w ∷ (ws ++ vs)) ks) × (length ks + length (w ∷ ws) ≡ length junk)
pushes_one x vs junk ws w sp e h [] later left = absurd (omega arith)
pushes_one x vs junk ws w sp e h (j ∷ js) later left =
    let at : sp + length ws ≡ length x + length (ws ++ vs) = omega (arith, length-append ws vs) in
    let same : length js + length (w ∷ ws) ≡ length junk = omega arith in
    (js, ap (λ l. slice_set l (sp + length ws) w) later ∙ set_at_top x (ws ++ vs) j js w (sp + length ws) at, same)

-- the words of a reply become values
pub pushed_onto : (x vs junk answer : List ℤ) (sp : ℕ) → sp ≡ length x + length vs → length answer ≤ length junk → (js : List ℤ) × (pushed (x ++ onto vs junk) sp answer ≡ x ++ onto (answer ++ vs) js) × (length js + length answer ≡ length junk)
pushed_onto x vs junk [] sp e h = (junk, refl, omega arith)
pushed_onto x vs junk (w ∷ ws) sp e h =
    let later = pushed_onto x vs junk ws sp e (omega arith) in
    pushes_one x vs junk ws w sp e h later.0 later.1 later.2

-- the arguments of a service are the values passed to it, the first one first
pub popped_values : (n : ℕ) (x vs junk : List ℤ) (sp : ℕ) (after : List ℤ) → n ≤ length vs → sp ≡ length x + length vs → popped n (x ++ onto vs junk) sp after ≡ onto (take n vs) after
popped_values zero x vs junk sp after h e = refl
popped_values (suc n) x [] junk sp after h e = absurd (omega arith)
popped_values (suc n) x (v ∷ vs) junk sp after h e =
    let at : sp - 1 ≡ length x + length vs = omega arith in
    ap (λ w. popped n (x ++ onto vs (v ∷ junk)) (sp - 1) (w ∷ after)) (word_at_top x vs v junk (sp - 1) at) ∙ popped_values n x vs (v ∷ junk) (sp - 1) (v ∷ after) (omega arith) at

pub onto_reverse : (ws : List ℤ) → onto ws [] ≡ reverse ws
onto_reverse ws = refl

pub saved_length : (ls : List Laid) → length (saved ls) ≡ 2
saved_length [] = refl
saved_length (l ∷ ls) = refl

abbrev pub base : List Laid → List ℤ → List ℤ
base ls slots = below ls ++ (slots ++ saved ls)

pub base_length_from : (ls : List Laid) (slots : List ℤ) → length (below ls) ≡ taken (calls_of ls) → length (base ls slots) ≡ taken (calls_of ls) + length slots + 2
base_length_from ls slots e = omega (arith, length-append (below ls) (slots ++ saved ls), length-append slots (saved ls), saved_length ls)

pub below_length : (ls : List Laid) → length (below ls) ≡ taken (calls_of ls)
below_length [] = refl
below_length (l ∷ ls) = omega (arith, length-append (base ls l.call.slots) (onto l.call.values []), onto_length l.call.values [], base_length_from ls l.call.slots (below_length ls))

pub base_length : (ls : List Laid) (slots : List ℤ) → length (base ls slots) ≡ taken (calls_of ls) + length slots + 2
base_length ls slots = base_length_from ls slots (below_length ls)

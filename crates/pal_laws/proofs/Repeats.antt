-- How a repetition continues, whatever bounded it.
use Rattle.std.proofs.Common.{◌≡◌, ℕ, zero, suc, ◌<◌, Bool, true, false, List, [], ◌∷◌, ◌++◌, length, Option, Some, None, Ok, Err, refl, ◌∙◌, ap, arith, cond}
use Rattle.std.specs.Prelude.{nat_lt}
use Rattle.std.proofs.lemmas.Bool.{ltb-true, lt-ltb}
use Rattle.pal_meaning.specs.Grammar.{Word}
use Rattle.pal_laws.specs.GrammarReading.{Reading, Answer, Turn, repeat, repeat_within, turned, ◌>>=◌}

guarded : {A : Type 0} (b : Bool) (p q none : A) → (b ≡ true → p ≡ q) → cond b p none ≡ cond b q none
guarded true p q none h = h refl
guarded false p q none h = refl

agreed : {X : Type 0} (f g : Reading (List X)) (ws : List Word) (t : Answer (Option (X × List Word))) → ((vs : List Word) → length vs < length ws → f vs ≡ g vs) → turned f ws t ≡ turned g ws t
agreed f g ws (Err left) h = refl
agreed f g ws (Ok None) h = refl
agreed f g ws (Ok (Some x)) h = guarded (nat_lt (length x.1) (length ws)) (f x.1 >>= λ xs. Ok (x.0 ∷ xs.0, xs.1)) (g x.1 >>= λ xs. Ok (x.0 ∷ xs.0, xs.1)) (Err (length ws))
    (λ e. ap (λ r. r >>= λ xs. Ok (x.0 ∷ xs.0, xs.1)) (h x.1 (ltb-true (length x.1) (length ws) e)))

-- the repetition is the same with any bounds above the number of words
bounds_agree : {X : Type 0} (turn : Turn X) (n m : ℕ) (ws : List Word) → length ws < n → length ws < m → repeat_within n turn ws ≡ repeat_within m turn ws
unfolding repeat_within
bounds_agree turn zero m ws h k = absurd (omega arith)
bounds_agree turn (suc n) zero ws h k = absurd (omega arith)
bounds_agree turn (suc n) (suc m) ws h k = agreed (repeat_within n turn) (repeat_within m turn) ws (turn ws) (λ vs l. bounds_agree turn n m vs (omega arith) (omega arith))

-- a turn that finds nothing more ends it
pub repeat_ends : {X : Type 0} (turn : Turn X) (ws : List Word) → turn ws ≡ Ok None → repeat turn ws ≡ Ok ([], ws)
unfolding repeat repeat_within
repeat_ends turn ws e = ap (turned (repeat_within (length ws) turn) ws) e

-- a turn that has no reading ends it
pub repeat_fails : {X : Type 0} (turn : Turn X) (ws : List Word) (left : ℕ) → turn ws ≡ Err left → repeat turn ws ≡ Err left
unfolding repeat repeat_within
repeat_fails turn ws left e = ap (turned (repeat_within (length ws) turn) ws) e

-- a turn that finds one thing is followed by the rest of the repetition
pub repeat_goes_on : {X : Type 0} (turn : Turn X) (ws : List Word) (x : X) (vs : List Word) → turn ws ≡ Ok (Some (x, vs)) → length vs < length ws → repeat turn ws ≡ (repeat turn vs >>= λ xs. Ok (x ∷ xs.0, xs.1))
unfolding repeat repeat_within
repeat_goes_on turn ws x vs e l =
    ap (turned (repeat_within (length ws) turn) ws) e
    ∙ ap (λ b. cond b (repeat_within (length ws) turn vs >>= λ xs. Ok (x ∷ xs.0, xs.1)) (Err (length ws))) (lt-ltb (length vs) (length ws) l)
    ∙ ap (λ r. r >>= λ xs. Ok (x ∷ xs.0, xs.1)) (bounds_agree turn (length ws) (suc (length vs)) vs l (omega arith))

-- the items found before, and then those of the rest of the repetition
abbrev pub after : {X : Type 0} → List X → Answer (List X × List Word) → Answer (List X × List Word)
after front read = read >>= λ xs. Ok (front ++ xs.0, xs.1)

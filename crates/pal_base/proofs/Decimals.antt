-- A number above 2^63 - 1 stays above it, whatever digits follow.
use Rattle.std.proofs.Common.{◌≡◌, ℕ, ◌+◌, ◌-◌, ◌*◌, ◌^◌, ◌≤◌, Bool, true, false, List, [], ◌∷◌, Some, None, refl, ◌∙◌, ap, arith, cond}
use Rattle.std.specs.Prelude.{fold, nat_lt}
use Rattle.std.proofs.lemmas.Bool.{ltb-true, lt-ltb}
use Rattle.pal_meaning.specs.Grammar.{within}

fold_grows : (ds : List ℕ) (v : ℕ) → v ≤ fold (λ (n d : ℕ). n * 10 + (d - 48)) v ds
fold_grows [] v = omega arith
fold_grows (d ∷ ds) v = omega (arith, fold_grows ds (v * 10 + (d - 48)))

outside : (b : Bool) (n : ℕ) → (b ≡ true → ⊥) → cond b (Some n) None ≡ None
outside true n h = absurd (h refl)
outside false n h = refl

inside : (b : Bool) (n : ℕ) → None ≡ cond b (Some n) None → b ≡ true → ⊥
inside b n e h = let k : None ≡ Some n = e ∙ ap (λ t. cond t (Some n) None) h in cc

pub stays_too_large : (ds : List ℕ) (v : ℕ) → None ≡ within v → within (fold (λ (n d : ℕ). n * 10 + (d - 48)) v ds) ≡ None
stays_too_large ds v e = outside _ _ (λ h. inside (nat_lt v (2 ^ 63)) v e (lt-ltb v (2 ^ 63) (omega (arith, ltb-true (fold (λ (n d : ℕ). n * 10 + (d - 48)) v ds) (2 ^ 63) h, fold_grows ds v))))

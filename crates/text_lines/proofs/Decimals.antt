-- A number above a bound stays above it, whatever digits follow.
use Rattle.std.proofs.Common.{◌≡◌, ℕ, ◌+◌, ◌-◌, ◌*◌, ◌≤◌, Bool, true, false, List, [], ◌∷◌, Some, None, refl, ◌∙◌, ap, arith, cond}
use Rattle.std.specs.Prelude.{fold, nat_le}
use Rattle.std.proofs.lemmas.Bool.{leb-true, le-leb}
use Rattle.module_meaning.specs.DeviceText.{if_at_most}

fold_grows : (ds : List ℕ) (v : ℕ) → v ≤ fold (λ (n d : ℕ). n * 10 + (d - 48)) v ds
fold_grows [] v = omega arith
fold_grows (d ∷ ds) v = omega (arith, fold_grows ds (v * 10 + (d - 48)))

outside : (b : Bool) (n : ℕ) → (b ≡ true → ⊥) → cond b (Some n) None ≡ None
outside true n h = absurd (h refl)
outside false n h = refl

inside : (b : Bool) (n : ℕ) → None ≡ cond b (Some n) None → b ≡ true → ⊥
inside b n e h = let k : None ≡ Some n = e ∙ ap (λ t. cond t (Some n) None) h in cc

pub stays_above : (most : ℕ) (ds : List ℕ) (v : ℕ) → None ≡ if_at_most most v → if_at_most most (fold (λ (n d : ℕ). n * 10 + (d - 48)) v ds) ≡ None
stays_above most ds v e =
    let later : ℕ = fold (λ (n d : ℕ). n * 10 + (d - 48)) v ds in
    outside (nat_le later most) later (λ (h : nat_le later most ≡ true). inside (nat_le v most) v e (le-leb v most (omega (arith, leb-true later most h, fold_grows ds v))))

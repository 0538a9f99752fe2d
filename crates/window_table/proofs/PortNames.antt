-- A text that begins with another.
use Rattle.std.proofs.Common.{◌≡◌, ℕ, Bool, true, false, ◌&&◌, eqb, List, [], ◌∷◌, ◌++◌, length, take, drop, refl, ap, ◌∙◌}
use Rattle.std.specs.Cmp.Lexicographic.{pointwise}
use Rattle.module_meaning.specs.TableRules.{same}

and_both : (a b c : Bool) → (a && (b && c)) ≡ ((a && b) && c)
and_both true b c = refl
and_both false b c = refl

pub same_after : (t p q : List ℕ) → same t (p ++ q) ≡ (pointwise eqb (take (length p) t) p && same (drop (length p) t) q)
same_after t [] q = refl
same_after [] (x ∷ p) q = refl
same_after (y ∷ t) (x ∷ p) q = ap (λ b. eqb y x && b) (same_after t p q) ∙ and_both (eqb y x) (pointwise eqb (take (length p) t) p) (same (drop (length p) t) q)

-- The pieces of the line of a finding, one after the other.
use Rattle.std.proofs.Common.{◌≡◌, ◌==◌, ℕ, List, [], ◌++◌, Bool, false, ap, append_assoc, append-nil, codes, if◌then◌else◌, arith}
use Rattle.std.specs.Fmt.{decimal}
use Rattle.lint.specs.Sentences.{place_text}

-- eight pieces, of which the fourth and the seventh are known by other names
pub eight : (a b c d e f g h other_d other_g : List ℕ) → other_d ≡ d → other_g ≡ g
    → a ++ (b ++ (c ++ (other_d ++ (e ++ (f ++ (other_g ++ (h ++ []))))))) ≡ a ++ b ++ c ++ d ++ e ++ f ++ g ++ h
eight a b c d e f g h other_d other_g is_d is_g = rw is_d (rw is_g (simp (append_assoc, append-nil)))

-- the place of a finding that has a line
is_not_zero : (line : ℕ) → (line ≡ 0 → ⊥) → (line == 0) ≡ false
is_not_zero line some = grind arith

pub place_is : (line : ℕ) → (line ≡ 0 → ⊥) → place_text line ≡ codes " line " ++ decimal line
place_is line some = ap (λ (none : Bool). if none then [] else codes " line " ++ decimal line) (is_not_zero line some)

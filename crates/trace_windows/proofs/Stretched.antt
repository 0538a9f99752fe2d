-- Stretches that follow one another.
use Rattle.std.proofs.Common.{◌≡◌, ℕ, ◌≤◌, ◌<◌, List, [], ◌∷◌, ◌++◌, Option, refl, sym, subst}
use Rattle.trace_windows.specs.Stretches.{AreStretches, owner_of}
use Rattle.trace_windows.specs.declared.stretch.Stretch.{Stretch}

-- one stretch more
pub one_more : (owner : ℕ → Option ℕ) (from now : ℕ) (ss : List Stretch) (s : Stretch) → AreStretches owner from now ss
    → s.span.from.0 ≡ now → now < s.span.until.0 → ((t : ℕ) → now ≤ t → t < s.span.until.0 → owner t ≡ owner_of s)
    → AreStretches owner from s.span.until.0 (ss ++ s ∷ [])
one_more owner from now [] s h at ahead same =
    subst (λ n. AreStretches owner n s.span.until.0 (s ∷ [])) (sym h) (at, ahead, same, refl)
one_more owner from now (x ∷ xs) s (h0, h1, h2, rest) at ahead same =
    (h0, h1, h2, one_more owner x.span.until.0 now xs s rest at ahead same)

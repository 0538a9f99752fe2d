-- Lists whose items are judged with those before them, and the place where two lists meet.
use Rattle.std.proofs.Common.{◌≡◌, ℕ, zero, suc, ◌+◌, List, [], ◌∷◌, ◌++◌, length, Some, refl, arith}
use Rattle.std.specs.Prelude.{slice_get}
use Rattle.std.specs.List.{AllByRecursion, All}
use Rattle.machine_meaning.specs.ImageLimits.{EachBeside}

pub at_seam : {A : Type 0} (before : List A) (x : A) (rest : List A) (n : ℕ) → length before ≡ n → slice_get (before ++ x ∷ rest) n ≡ Some x
at_seam [] x rest zero h = refl
at_seam [] x rest (suc n) h = absurd (omega arith)
at_seam (b ∷ before) x rest zero h = absurd (omega arith)
at_seam (b ∷ before) x rest (suc n) h = at_seam before x rest n (omega arith)

pub each_beside : {A : Type 0} (P : A → Type 0) (before xs : List A) → AllByRecursion P xs → EachBeside (λ _. P) before xs
each_beside P before [] a = tt
each_beside P before (x ∷ xs) a = (a.0, each_beside P (before ++ x ∷ []) xs a.1)

pub each_at : {A : Type 0} (P : A → Type 0) (xs : List A) → All P xs → AllByRecursion P xs
each_at P [] a = tt
each_at P (x ∷ xs) a = (a 0 x (omega arith), each_at P xs (λ k d h. a (suc k) d (omega arith)))

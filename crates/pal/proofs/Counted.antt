-- The number of arguments that the definitions see.
use Rattle.std.proofs.Common.{◌≡◌, ℕ, List, [], ◌∷◌, length, arith}
use Rattle.pal_base.specs.declared.syntax.Expr.{Expr}
use Rattle.pal_base.specs.View.{exprs_of}
use Rattle.pal_meaning.specs.WellFormed.{expr_count}

pub counted : (names : List (List ℕ)) (es : List Expr) → length es ≡ expr_count (exprs_of names es)
counted names [] = omega arith
counted names (e ∷ es) = omega (arith, counted names es)

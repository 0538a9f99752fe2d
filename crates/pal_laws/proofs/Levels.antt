-- Reading one level further in.
use Rattle.std.proofs.Common.{◌≡◌, ℕ, zero, suc, ◌-◌, List, length, Err, refl, sym, ap, arith, ◌∙◌, cond, Bool, false}
use Rattle.pal_meaning.specs.Grammar.{Word}
use Rattle.pal_laws.specs.GrammarReading.{Reading, ◌>>=◌, expect, no_level, unary_at, unary_with, unary_read, expr_at, deeper_at, nested_at, arguments_at, arguments_with, block_at, block_read, statements_at, statements_with, stmt_at, stmt_with}
use Rattle.std.specs.Prelude.{codes, ◌==◌}
use Rattle.std.proofs.Math.Dec.{eqb-suc-zero}
use Rattle.pal_meaning.specs.Syntax as tree

one_less : (k : ℕ) → k ≡ suc k - 1
one_less k = omega arith

not_zero : (k : ℕ) → (suc k == 0) ≡ false
not_zero k = eqb-suc-zero k

unary_by : Bool → ℕ → Reading tree.Expr
unary_by b j ws = unary_with (λ v. cond b (no_level v) (unary_at j v)) (λ v. cond b (no_level v) (expr_at j v)) (λ v. cond b (no_level v) (arguments_with (expr_at j) v)) ws

pub unary_is : (k : ℕ) (ws : List Word) → unary_at k ws ≡ unary_read k ws
unfolding unary_at unary_read deeper_at nested_at arguments_at expr_at unary_by
unary_is zero ws = refl
unary_is (suc k) ws = ap (λ b. unary_by b k ws) (sym (not_zero k)) ∙ ap (λ j. unary_by (suc k == 0) j ws) (one_less k)

block_by : Bool → ℕ → Reading tree.Block
block_by b j ws = cond b (Err (length ws)) (expect (codes "{") ws >>= statements_with (stmt_with (block_at j) j))

pub block_is : (k : ℕ) (ws : List Word) → block_at k ws ≡ block_read k ws
unfolding block_at block_read statements_at stmt_at block_by
block_is zero ws = refl
block_is (suc k) ws = ap (λ b. block_by b k ws) (sym (not_zero k)) ∙ ap (λ j. block_by (suc k == 0) j ws) (one_less k)

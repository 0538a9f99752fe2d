-- The words that may follow an expression: none with which it would continue.
use Rattle.std.proofs.Common.{◌≡◌, ℕ, suc, ◌-◌, ◌<◌, ◌≤◌, List, ◌∷◌, length, Ok, Err, refl, arith, subst, ap}
use Rattle.std.specs.Prelude.{codes}
use Rattle.apex_types.specs.declared.instruction.BinaryOperator.{BinaryOperator}
use Rattle.apex_types.specs.declared.instruction.BinaryOperator.TheVariants as binary
use Rattle.pal_meaning.specs.Grammar.{Word, Mark}
use Rattle.pal_laws.specs.GrammarReading.{expect, one_of, operator_at}
use Rattle.pal_meaning.specs.Grammar.{Rank, Disjunction, Conjunction, Comparison, Sum, Product, operator_mark}
use Rattle.pal_meaning.specs.Grammar.{rank_of, looseness, expr_words, links_words, AreLinks}
use Rattle.pal_meaning.specs.Syntax as tree

-- no index, no arguments, and no operator that binds as loosely as this or more tightly
pub record Ends (loosest : ℕ) (rest : List Word) : Type 0 where
  pub no_index : expect (codes "[") rest ≡ Err (length rest)
  pub no_arguments : expect (codes "(") rest ≡ Err (length rest)
  pub no_operator : (rank : Rank) → looseness rank ≤ loosest → operator_at rank rest ≡ Err (length rest)

-- no rank has an operator with this mark
abbrev IsForeign : List ℕ → Type 0
IsForeign mark = (rank : Rank) (rest : List Word) → operator_at rank (Mark mark ∷ rest) ≡ Err (suc (length rest))

parenthesis_foreign : IsForeign (codes ")")
unfolding expect one_of
parenthesis_foreign Disjunction rest = refl
parenthesis_foreign Conjunction rest = refl
parenthesis_foreign Comparison rest = refl
parenthesis_foreign Sum rest = refl
parenthesis_foreign Product rest = refl

bracket_foreign : IsForeign (codes "]")
unfolding expect one_of
bracket_foreign Disjunction rest = refl
bracket_foreign Conjunction rest = refl
bracket_foreign Comparison rest = refl
bracket_foreign Sum rest = refl
bracket_foreign Product rest = refl

comma_foreign : IsForeign (codes ",")
unfolding expect one_of
comma_foreign Disjunction rest = refl
comma_foreign Conjunction rest = refl
comma_foreign Comparison rest = refl
comma_foreign Sum rest = refl
comma_foreign Product rest = refl

semicolon_foreign : IsForeign (codes ";")
unfolding expect one_of
semicolon_foreign Disjunction rest = refl
semicolon_foreign Conjunction rest = refl
semicolon_foreign Comparison rest = refl
semicolon_foreign Sum rest = refl
semicolon_foreign Product rest = refl

brace_foreign : IsForeign (codes "{")
unfolding expect one_of
brace_foreign Disjunction rest = refl
brace_foreign Conjunction rest = refl
brace_foreign Comparison rest = refl
brace_foreign Sum rest = refl
brace_foreign Product rest = refl

pub parenthesis_ends : (n : ℕ) (rest : List Word) → Ends n (Mark (codes ")") ∷ rest)
unfolding expect
parenthesis_ends n rest = record { no_index = refl; no_arguments = refl; no_operator = λ rank le. parenthesis_foreign rank rest }

pub bracket_ends : (n : ℕ) (rest : List Word) → Ends n (Mark (codes "]") ∷ rest)
unfolding expect
bracket_ends n rest = record { no_index = refl; no_arguments = refl; no_operator = λ rank le. bracket_foreign rank rest }

pub comma_ends : (n : ℕ) (rest : List Word) → Ends n (Mark (codes ",") ∷ rest)
unfolding expect
comma_ends n rest = record { no_index = refl; no_arguments = refl; no_operator = λ rank le. comma_foreign rank rest }

pub semicolon_ends : (n : ℕ) (rest : List Word) → Ends n (Mark (codes ";") ∷ rest)
unfolding expect
semicolon_ends n rest = record { no_index = refl; no_arguments = refl; no_operator = λ rank le. semicolon_foreign rank rest }

pub brace_ends : (n : ℕ) (rest : List Word) → Ends n (Mark (codes "{") ∷ rest)
unfolding expect
brace_ends n rest = record { no_index = refl; no_arguments = refl; no_operator = λ rank le. brace_foreign rank rest }

-- an operator is found at its rank
own_operator : (op : BinaryOperator) (rest : List Word) → operator_at (rank_of op) (Mark (operator_mark op) ∷ rest) ≡ Ok (op, rest)
unfolding expect one_of
own_operator binary.Add rest = refl
own_operator binary.Subtract rest = refl
own_operator binary.Multiply rest = refl
own_operator binary.Divide rest = refl
own_operator binary.Remainder rest = refl
own_operator binary.Equal rest = refl
own_operator binary.NotEqual rest = refl
own_operator binary.Less rest = refl
own_operator binary.LessOrEqual rest = refl
own_operator binary.Greater rest = refl
own_operator binary.GreaterOrEqual rest = refl
own_operator binary.And rest = refl
own_operator binary.Or rest = refl

pub operator_found : (op : BinaryOperator) (rank : Rank) (rest : List Word) → rank_of op ≡ rank → operator_at rank (Mark (operator_mark op) ∷ rest) ≡ Ok (op, rest)
operator_found op rank rest e = subst (λ r. operator_at r (Mark (operator_mark op) ∷ rest) ≡ Ok (op, rest)) e (own_operator op rest)

-- every rank binds more loosely than an operand that is no chain
pub some_looseness : (rank : Rank) → 1 ≤ looseness rank
some_looseness Disjunction = omega arith
some_looseness Conjunction = omega arith
some_looseness Comparison = omega arith
some_looseness Sum = omega arith
some_looseness Product = omega arith

none_tighter : (rank : Rank) → looseness rank < 1 → ⊥
none_tighter rank l = omega (arith, some_looseness rank, l)

-- and at no rank that binds more tightly
tighter_fails : (op : BinaryOperator) (rank : Rank) (rest : List Word) → looseness rank < looseness (rank_of op) → operator_at rank (Mark (operator_mark op) ∷ rest) ≡ Err (suc (length rest))
unfolding expect one_of
tighter_fails binary.Or Disjunction rest l = absurd (omega arith)
tighter_fails binary.Or rank rest l = refl
tighter_fails binary.And Disjunction rest l = absurd (omega arith)
tighter_fails binary.And Conjunction rest l = absurd (omega arith)
tighter_fails binary.And rank rest l = refl
tighter_fails binary.Equal Product rest l = refl
tighter_fails binary.Equal Sum rest l = refl
tighter_fails binary.Equal rank rest l = absurd (omega arith)
tighter_fails binary.NotEqual Product rest l = refl
tighter_fails binary.NotEqual Sum rest l = refl
tighter_fails binary.NotEqual rank rest l = absurd (omega arith)
tighter_fails binary.Less Product rest l = refl
tighter_fails binary.Less Sum rest l = refl
tighter_fails binary.Less rank rest l = absurd (omega arith)
tighter_fails binary.LessOrEqual Product rest l = refl
tighter_fails binary.LessOrEqual Sum rest l = refl
tighter_fails binary.LessOrEqual rank rest l = absurd (omega arith)
tighter_fails binary.Greater Product rest l = refl
tighter_fails binary.Greater Sum rest l = refl
tighter_fails binary.Greater rank rest l = absurd (omega arith)
tighter_fails binary.GreaterOrEqual Product rest l = refl
tighter_fails binary.GreaterOrEqual Sum rest l = refl
tighter_fails binary.GreaterOrEqual rank rest l = absurd (omega arith)
tighter_fails binary.Add Product rest l = refl
tighter_fails binary.Add rank rest l = absurd (omega arith)
tighter_fails binary.Subtract Product rest l = refl
tighter_fails binary.Subtract rank rest l = absurd (omega arith)
tighter_fails binary.Multiply rank rest l = absurd (none_tighter rank l)
tighter_fails binary.Divide rank rest l = absurd (none_tighter rank l)
tighter_fails binary.Remainder rank rest l = absurd (none_tighter rank l)

no_index_mark : (op : BinaryOperator) (rest : List Word) → expect (codes "[") (Mark (operator_mark op) ∷ rest) ≡ Err (suc (length rest))
unfolding expect
no_index_mark binary.Add rest = refl
no_index_mark binary.Subtract rest = refl
no_index_mark binary.Multiply rest = refl
no_index_mark binary.Divide rest = refl
no_index_mark binary.Remainder rest = refl
no_index_mark binary.Equal rest = refl
no_index_mark binary.NotEqual rest = refl
no_index_mark binary.Less rest = refl
no_index_mark binary.LessOrEqual rest = refl
no_index_mark binary.Greater rest = refl
no_index_mark binary.GreaterOrEqual rest = refl
no_index_mark binary.And rest = refl
no_index_mark binary.Or rest = refl

no_arguments_mark : (op : BinaryOperator) (rest : List Word) → expect (codes "(") (Mark (operator_mark op) ∷ rest) ≡ Err (suc (length rest))
unfolding expect
no_arguments_mark binary.Add rest = refl
no_arguments_mark binary.Subtract rest = refl
no_arguments_mark binary.Multiply rest = refl
no_arguments_mark binary.Divide rest = refl
no_arguments_mark binary.Remainder rest = refl
no_arguments_mark binary.Equal rest = refl
no_arguments_mark binary.NotEqual rest = refl
no_arguments_mark binary.Less rest = refl
no_arguments_mark binary.LessOrEqual rest = refl
no_arguments_mark binary.Greater rest = refl
no_arguments_mark binary.GreaterOrEqual rest = refl
no_arguments_mark binary.And rest = refl
no_arguments_mark binary.Or rest = refl

operator_ends : (op : BinaryOperator) (rank : Rank) (rest : List Word) → rank_of op ≡ rank → Ends (looseness rank - 1) (Mark (operator_mark op) ∷ rest)
operator_ends op rank rest e =
    let same : looseness (rank_of op) ≡ looseness rank = ap looseness e in
    record { no_index = no_index_mark op rest; no_arguments = no_arguments_mark op rest; no_operator = λ other le. tighter_fails op other rest (omega (arith, same, some_looseness rank, le)) }

-- the end of an expression ends those that bind more tightly
pub ends_tighter : (n m : ℕ) (rest : List Word) → n ≤ m → Ends m rest → Ends n rest
ends_tighter n m rest le ends = record { no_index = ends.no_index; no_arguments = ends.no_arguments; no_operator = λ rank l. ends.no_operator rank (omega (arith, le, l)) }

-- the operators of a rank end its operands
pub links_end : (ls : tree.Links) (k : ℕ) (rank : Rank) (rest : List Word) → AreLinks ls k rank → Ends (looseness rank) rest → Ends (looseness rank - 1) (links_words ls rest)
links_end tree.NoLink k rank rest h ends = ends_tighter (looseness rank - 1) (looseness rank) rest (omega arith) ends
links_end (tree.MoreLinks op e ls) k rank rest h ends = operator_ends op rank (expr_words e (links_words ls rest)) h.0

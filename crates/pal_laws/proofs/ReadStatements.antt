-- A statement that is written is read, and so is a block.
use Rattle.std.proofs.Common.{◌≡◌, ℕ, suc, ◌-◌, ◌≤◌, true, false, cond, List, [], ◌∷◌, length, Option, Some, None, Ok, Err, refl, ap, ◌∙◌}
use Rattle.std.specs.Prelude.{codes, ◌==◌}
use Rattle.apex_types.specs.declared.service.Service.{Service}
use Rattle.pal_meaning.specs.Grammar.{Word, Mark}
use Rattle.engine_meaning.specs.Digits.{same}
use Rattle.pal_laws.specs.GrammarReading.{Answer, Turn, ◌>>=◌, each, until, expect, name_at, number_at, service_at, repeat, block_of, expr_at, nested_at, arguments_at, names_at, targets_at, service_call_at, assignment_at, work_at, return_at, branch_with, while_with, stmt_with, statements_with, block_at, stmt_at, statements_at, block_read}
use Rattle.pal_meaning.specs.Grammar.{all_words, next_name, names_words, targets_words, expr_words, arguments_words, stmt_words, block_words, IsExpr, IsStmt, IsBlock}
use Rattle.pal_meaning.specs.Syntax as tree
use Rattle.pal_laws.proofs.Repeats.{repeat_ends}
use Rattle.pal_laws.proofs.Levels.{block_is}
use Rattle.pal_laws.proofs.Longer.{next_name_longer, stmt_longer}
use Rattle.pal_laws.proofs.ReadSteps.{then_reads, other_way, repeat_reads, repeat_reads_on, Any, any_all}
use Rattle.pal_laws.proofs.Followed.{Ends, semicolon_ends, bracket_ends, brace_ends}
use Rattle.pal_laws.proofs.ReadExpressions.{expr_reads, expr_at_is, nested_reads, arguments_read, arguments_at_read, not_none}

-- names with commas between them, up to where there is no comma
abbrev name_turn : Turn (List ℕ)
name_turn ws = each (expect (codes ",") ws) name_at

name_turn_reads : (x : List ℕ) (ws : List Word) → name_turn (next_name x ws) ≡ Ok (Some (x, ws))
unfolding expect name_at
name_turn_reads x ws = refl

pub names_read : (x : List ℕ) (xs : List (List ℕ)) (rest : List Word) → expect (codes ",") rest ≡ Err (length rest) → names_at (names_words (x ∷ xs) rest) ≡ Ok (x ∷ xs, rest)
unfolding names_at name_at
names_read x xs rest none = then_reads (repeat name_turn (all_words next_name xs rest)) _ _ _
    (repeat_reads Any next_name name_turn xs rest (λ y ws so. name_turn_reads y ws) next_name_longer (any_all xs) (ap (λ o. each o name_at) none)) refl

no_comma : (rest : List Word) → expect (codes ",") (Mark (codes ";") ∷ rest) ≡ Err (suc (length rest))
unfolding expect
no_comma rest = refl

targets_read : (xs : List (List ℕ)) (rest : List Word) → targets_at (targets_words xs (Mark (codes ";") ∷ rest)) ≡ Ok (xs, Mark (codes ";") ∷ rest)
unfolding targets_at expect
targets_read [] rest = refl
targets_read (x ∷ xs) rest = names_read x xs (Mark (codes ";") ∷ rest) (no_comma rest)

-- an expression in a statement
expr_at_reads : (e : tree.Expr) (k : ℕ) (rest : List Word) → IsExpr e k 5 → Ends 5 rest → expr_at k (expr_words e rest) ≡ Ok (e, rest)
expr_at_reads e k rest is ends = expr_at_is k (expr_words e rest) ∙ expr_reads e k 5 rest is ends

-- no statement begins with this mark
abbrev pub IsNoStart : List ℕ → Type 0
IsNoStart mark = (same (codes "if") mark ≡ false) × (same (codes "while") mark ≡ false) × (same (codes "work") mark ≡ false) × (same (codes "return") mark ≡ false)

unmarked : (text mark : List ℕ) (ws : List Word) → same text mark ≡ false → expect mark (Mark text ∷ ws) ≡ Err (suc (length ws))
unfolding expect
unmarked text mark ws e = ap (λ b. cond b (Ok ws) (Err (suc (length ws)))) e

stmt_start : (s : tree.Stmt) (mark : List ℕ) (rest : List Word) → IsNoStart mark → expect mark (stmt_words s rest) ≡ Err (length (stmt_words s rest))
unfolding expect
stmt_start (tree.Assign x e) mark rest differs = refl
stmt_start (tree.AssignElement x i e) mark rest differs = refl
stmt_start (tree.If e b) mark rest differs = unmarked (codes "if") mark _ differs.0
stmt_start (tree.IfElse e b other) mark rest differs = unmarked (codes "if") mark _ differs.0
stmt_start (tree.While e b) mark rest differs = unmarked (codes "while") mark _ differs.1
stmt_start (tree.Work ticks) mark rest differs = unmarked (codes "work") mark _ differs.2
stmt_start (tree.Return e) mark rest differs = unmarked (codes "return") mark _ differs.3
stmt_start (tree.CallService service es xs) mark rest differs = refl

no_brace : (s : tree.Stmt) (rest : List Word) → expect (codes "}") (stmt_words s rest) ≡ Err (length (stmt_words s rest))
no_brace s rest = stmt_start s (codes "}") rest (refl, refl, refl, refl)

pub block_start : (b : tree.Block) (mark : List ℕ) (rest : List Word) → IsNoStart mark → same (codes "}") mark ≡ false → expect mark (block_words b (Mark (codes "}") ∷ rest)) ≡ Err (length (block_words b (Mark (codes "}") ∷ rest)))
block_start tree.NoStmt mark rest differs brace = unmarked (codes "}") mark rest brace
block_start (tree.MoreStmts s ss) mark rest differs brace = stmt_start s mark (block_words ss (Mark (codes "}") ∷ rest)) differs

no_else : (b : tree.Block) (rest : List Word) → expect (codes "else") (block_words b (Mark (codes "}") ∷ rest)) ≡ Err (length (block_words b (Mark (codes "}") ∷ rest)))
no_else b rest = block_start b (codes "else") rest (refl, refl, refl, refl) refl

-- blocks
abbrev block_list : tree.Block → List tree.Stmt
block_list tree.NoStmt = []
block_list (tree.MoreStmts s ss) = s ∷ block_list ss

block_back : (b : tree.Block) → block_of (block_list b) ≡ b
block_back tree.NoStmt = refl
block_back (tree.MoreStmts s ss) = ap (λ r. tree.MoreStmts s r) (block_back ss)

abbrev stmt_turn : ℕ → Turn tree.Stmt
stmt_turn k ws = until (expect (codes "}") ws) (stmt_at k ws)

stmt_turn_reads : (k : ℕ) (s : tree.Stmt) (ws vs : List Word) → expect (codes "}") ws ≡ Err (length ws) → stmt_at k ws ≡ Ok (s, vs) → stmt_turn k ws ≡ Ok (Some (s, vs))
stmt_turn_reads k s ws vs none h = ap (λ o. until o (stmt_at k ws)) none ∙ ap (λ o. o >>= λ x. Ok (Some x)) h

stmt_turn_ends : (k : ℕ) (rest : List Word) → stmt_turn k (Mark (codes "}") ∷ rest) ≡ Ok None
unfolding expect
stmt_turn_ends k rest = refl

closes : (k : ℕ) (b : tree.Block) (rest : List Word) → repeat (stmt_turn k) (block_words b (Mark (codes "}") ∷ rest)) ≡ Ok (block_list b, Mark (codes "}") ∷ rest) → statements_at k (block_words b (Mark (codes "}") ∷ rest)) ≡ Ok (b, rest)
unfolding statements_at statements_with expect
closes k b rest h = then_reads (repeat (stmt_turn k) (block_words b (Mark (codes "}") ∷ rest))) _ _ _ h (ap (λ r. Ok (r, rest)) (block_back b))

abbrev opened : tree.Block → List Word → List Word
opened b rest = Mark (codes "{") ∷ block_words b (Mark (codes "}") ∷ rest)

opens : (k : ℕ) (b : tree.Block) (rest : List Word) → 1 ≤ k → statements_at (k - 1) (block_words b (Mark (codes "}") ∷ rest)) ≡ Ok (b, rest) → block_at k (opened b rest) ≡ Ok (b, rest)
unfolding block_read expect
opens k b rest le h = block_is k (opened b rest) ∙ ap (λ t. cond t (Err (length (opened b rest))) (statements_at (k - 1) (block_words b (Mark (codes "}") ∷ rest)))) (not_none k le) ∙ h

-- where a level may still be opened
level_left : {B : Type 0} (k left : ℕ) (o y : Answer B) → 1 ≤ k → o ≡ y → cond (k == 0) (Err left) o ≡ y
level_left k left o y le h = ap (λ t. cond t (Err left) o) (not_none k le) ∙ h

-- statements, where their blocks are read
assignment_reads : (x : List ℕ) (e : tree.Expr) (k : ℕ) (rest : List Word) → IsExpr e k 5 → stmt_at k (stmt_words (tree.Assign x e) rest) ≡ Ok (tree.Assign x e, rest)
unfolding stmt_at stmt_with assignment_at name_at expect
assignment_reads x e k rest is = then_reads (expr_at k (expr_words e (Mark (codes ";") ∷ rest))) _ _ _ (expr_at_reads e k (Mark (codes ";") ∷ rest) is (semicolon_ends 5 rest)) refl

element_reads : (x : List ℕ) (i e : tree.Expr) (k : ℕ) (rest : List Word) → 1 ≤ k → IsExpr i (k - 1) 5 → IsExpr e k 5 → stmt_at k (stmt_words (tree.AssignElement x i e) rest) ≡ Ok (tree.AssignElement x i e, rest)
unfolding stmt_at stmt_with assignment_at name_at expect
element_reads x i e k rest le inside is =
    let value = expr_words e (Mark (codes ";") ∷ rest) in
    let after = Mark (codes "]") ∷ Mark (codes ":=") ∷ value in
    then_reads (nested_at k (expr_words i after)) _ _ _ (nested_reads k i (expr_words i after) after le (expr_reads i (k - 1) 5 after inside (bracket_ends 5 (Mark (codes ":=") ∷ value))))
    (then_reads (expr_at k value) _ _ _ (expr_at_reads e k (Mark (codes ";") ∷ rest) is (semicolon_ends 5 rest)) refl)

if_reads : (e : tree.Expr) (b : tree.Block) (k : ℕ) (rest : List Word) → 1 ≤ k → IsExpr e k 5 → block_at k (opened b rest) ≡ Ok (b, rest) → expect (codes "else") rest ≡ Err (length rest) → stmt_at k (stmt_words (tree.If e b) rest) ≡ Ok (tree.If e b, rest)
unfolding stmt_at stmt_with branch_with name_at service_at expect
if_reads e b k rest le is block none = level_left k _ _ _ le (
    then_reads (expr_at k (expr_words e (opened b rest))) _ _ _ (expr_at_reads e k (opened b rest) is (brace_ends 5 (block_words b (Mark (codes "}") ∷ rest))))
    (then_reads (block_at k (opened b rest)) _ _ _ block (other_way (expect (codes "else") rest) _ _ _ _ none refl)))

if_else_reads : (e : tree.Expr) (b other : tree.Block) (k : ℕ) (rest : List Word) → 1 ≤ k → IsExpr e k 5 → block_at k (opened b (Mark (codes "else") ∷ opened other rest)) ≡ Ok (b, Mark (codes "else") ∷ opened other rest) →
    block_at k (opened other rest) ≡ Ok (other, rest) → stmt_at k (stmt_words (tree.IfElse e b other) rest) ≡ Ok (tree.IfElse e b other, rest)
unfolding stmt_at stmt_with branch_with name_at service_at expect
if_else_reads e b other k rest le is block more = level_left k _ _ _ le (
    let after = Mark (codes "else") ∷ opened other rest in
    then_reads (expr_at k (expr_words e (opened b after))) _ _ _ (expr_at_reads e k (opened b after) is (brace_ends 5 (block_words b (Mark (codes "}") ∷ after))))
    (then_reads (block_at k (opened b after)) _ _ _ block (then_reads (block_at k (opened other rest)) _ _ _ more refl)))

while_reads : (e : tree.Expr) (b : tree.Block) (k : ℕ) (rest : List Word) → 1 ≤ k → IsExpr e k 5 → block_at k (opened b rest) ≡ Ok (b, rest) → stmt_at k (stmt_words (tree.While e b) rest) ≡ Ok (tree.While e b, rest)
unfolding stmt_at stmt_with while_with name_at service_at expect
while_reads e b k rest le is block = level_left k _ _ _ le (
    then_reads (expr_at k (expr_words e (opened b rest))) _ _ _ (expr_at_reads e k (opened b rest) is (brace_ends 5 (block_words b (Mark (codes "}") ∷ rest))))
    (then_reads (block_at k (opened b rest)) _ _ _ block refl))

work_reads : (ticks : Option ℕ) (k : ℕ) (rest : List Word) → stmt_at k (stmt_words (tree.Work ticks) rest) ≡ Ok (tree.Work ticks, rest)
unfolding stmt_at stmt_with work_at name_at service_at number_at expect
work_reads ticks k rest = refl

return_reads : (e : tree.Expr) (k : ℕ) (rest : List Word) → IsExpr e k 5 → stmt_at k (stmt_words (tree.Return e) rest) ≡ Ok (tree.Return e, rest)
unfolding stmt_at stmt_with return_at name_at service_at expect
return_reads e k rest is = then_reads (expr_at k (expr_words e (Mark (codes ";") ∷ rest))) _ _ _ (expr_at_reads e k (Mark (codes ";") ∷ rest) is (semicolon_ends 5 rest)) refl

service_call_reads : (service : Service) (es : tree.Exprs) (xs : List (List ℕ)) (k : ℕ) (rest : List Word) → IsStmt (tree.CallService service es xs) k → stmt_at k (stmt_words (tree.CallService service es xs) rest) ≡ Ok (tree.CallService service es xs, rest)
unfolding stmt_at stmt_with service_call_at name_at service_at expect
service_call_reads service es xs k rest is =
    let after = targets_words xs (Mark (codes ";") ∷ rest) in
    level_left k _ _ _ is.0 (then_reads (arguments_at k (arguments_words es true (Mark (codes ")") ∷ after))) _ _ _ (arguments_at_read k es after is.0 (arguments_read es (k - 1) after is.1))
    (then_reads (targets_at after) _ _ _ (targets_read xs rest) refl))

mutual
  stmt_reads : (s : tree.Stmt) (k : ℕ) (rest : List Word) → IsStmt s k → expect (codes "else") rest ≡ Err (length rest) → stmt_at k (stmt_words s rest) ≡ Ok (s, rest)
  stmt_reads (tree.Assign x e) k rest is none = assignment_reads x e k rest is
  stmt_reads (tree.AssignElement x i e) k rest is none = element_reads x i e k rest is.0 is.1 is.2
  stmt_reads (tree.If e b) k rest is none = if_reads e b k rest is.1 is.0 (opens k b rest is.1 (closes (k - 1) b rest (block_reads b (k - 1) rest is.2))) none
  stmt_reads (tree.IfElse e b other) k rest is none =
      let after = Mark (codes "else") ∷ opened other rest in
      if_else_reads e b other k rest is.1 is.0 (opens k b after is.1 (closes (k - 1) b after (block_reads b (k - 1) after is.2))) (opens k other rest is.1 (closes (k - 1) other rest (block_reads other (k - 1) rest is.3)))
  stmt_reads (tree.While e b) k rest is none = while_reads e b k rest is.1 is.0 (opens k b rest is.1 (closes (k - 1) b rest (block_reads b (k - 1) rest is.2)))
  stmt_reads (tree.Work ticks) k rest is none = work_reads ticks k rest
  stmt_reads (tree.Return e) k rest is none = return_reads e k rest is
  stmt_reads (tree.CallService service es xs) k rest is none = service_call_reads service es xs k rest is

  block_reads : (b : tree.Block) (k : ℕ) (rest : List Word) → IsBlock b k → repeat (stmt_turn k) (block_words b (Mark (codes "}") ∷ rest)) ≡ Ok (block_list b, Mark (codes "}") ∷ rest)
  block_reads tree.NoStmt k rest is = repeat_ends (stmt_turn k) (Mark (codes "}") ∷ rest) (stmt_turn_ends k rest)
  block_reads (tree.MoreStmts s ss) k rest is =
      let vs = block_words ss (Mark (codes "}") ∷ rest) in
      repeat_reads_on (stmt_turn k) (stmt_words s vs) vs (Mark (codes "}") ∷ rest) s (block_list ss)
      (stmt_turn_reads k s (stmt_words s vs) vs (no_brace s vs) (stmt_reads s k vs is.0 (no_else ss rest))) (stmt_longer s vs) (block_reads ss k rest is.1)

-- the statements of a block up to its closing brace
pub statements_read : (b : tree.Block) (k : ℕ) (rest : List Word) → IsBlock b k → statements_at k (block_words b (Mark (codes "}") ∷ rest)) ≡ Ok (b, rest)
statements_read b k rest is = closes k b rest (block_reads b k rest is)

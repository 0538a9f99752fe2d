-- A tree that holds a list of subtrees, as the definitions see it.
use Rattle.std.proofs.Common.{◌≡◌, ℕ, length, List, [], ◌∷◌, map, refl, ap, ◌∙◌}
use Rattle.std.specs.Prelude.{Vec, Box}
use Rattle.std.specs.declared.alloc.Global.{Global}
use mathlib.Core.Former.{Count}
use Rattle.pal_base.specs.declared.syntax.Identifier.{Identifier}
use Rattle.pal_base.specs.declared.syntax.Expr.{Expr, Chain, Chain', Apply, Apply', Row_of-Expr, end_of-Expr, more_of-Expr, items-the_row-Expr, items_hidden-the_row-Expr-0, Row_of-Link, end_of-Link, more_of-Link, items-the_row-Link, items_hidden-the_row-Link-1}
use Rattle.pal_base.specs.declared.syntax.Link.{Link}
use Rattle.pal_base.specs.declared.syntax.Stmt.{Stmt}
use Rattle.pal_base.specs.declared.syntax.StmtKind.{StmtKind, If, If', IfElse, IfElse', While, While', Row_of-Stmt, end_of-Stmt, more_of-Stmt, items-the_row-Stmt, items_hidden-the_row-Stmt-0}
use Rattle.pal_base.specs.View.{name_of, expr_of, expr_row, link_row, exprs_of, links_of, kind_of, stmt_of, stmt_row, block_of}
use Rattle.pal_base.specs.Rows.{pair_of}
use Rattle.pal_laws.specs.GrammarReading as reading
use Rattle.pal_meaning.specs.Syntax as tree

expr_list : (names : List (List ℕ)) (n : _) (k : Row_of-Expr n) → expr_row names k ≡ exprs_of names (items-the_row-Expr n k)
expr_list names n end_of-Expr = refl
expr_list names n (more_of-Expr e es) = ap (λ r. tree.MoreExprs (expr_of names e) r) (expr_list names _ es)

link_list : (names : List (List ℕ)) (n : _) (k : Row_of-Link n) → link_row names k ≡ links_of names (items-the_row-Link n k)
link_list names n end_of-Link = refl
link_list names n (more_of-Link operator e ls) = ap (λ r. tree.MoreLinks operator (expr_of names e) r) (link_list names _ ls)

stmt_list : (names : List (List ℕ)) (n : _) (k : Row_of-Stmt n) → stmt_row names k ≡ block_of names (items-the_row-Stmt n k)
stmt_list names n end_of-Stmt = refl
stmt_list names n (more_of-Stmt line s ss) = ap (λ r. tree.MoreStmts (kind_of names s) r) (stmt_list names _ ss)

abbrev arguments_of : Expr → (n : Count) × Row_of-Expr n
arguments_of (Apply' x shape es) = (_, es)
arguments_of _ = (_, end_of-Expr)

abbrev rest_of : Expr → (n : Count) × Row_of-Link n
rest_of (Chain' p first shape ls) = (_, ls)
rest_of _ = (_, end_of-Link)

abbrev first_block : StmtKind → (n : Count) × Row_of-Stmt n
first_block (If' test shape ss) = (_, ss)
first_block (IfElse' test shape ss other ts) = (_, ss)
first_block (While' test shape ss) = (_, ss)
first_block _ = (_, end_of-Stmt)

abbrev second_block : StmtKind → (n : Count) × Row_of-Stmt n
second_block (IfElse' test shape ss other ts) = (_, ts)
second_block _ = (_, end_of-Stmt)

pub view_apply : (names : List (List ℕ)) (x : Identifier) (es : Vec Expr Global) → expr_of names (Apply x es) ≡ tree.Apply (name_of names x) (exprs_of names es.items)
view_apply names x es = let row = arguments_of (Apply x es) in ap (λ r. tree.Apply (name_of names x) r) (expr_list names row.0 row.1 ∙ ap (exprs_of names) (items_hidden-the_row-Expr-0 es))

view_chain : (names : List (List ℕ)) (e : Box Expr Global) (ls : Vec Link Global) → expr_of names (Chain e ls) ≡ tree.Chain (expr_of names e.value) (links_of names ls.items)
view_chain names e ls = let row = rest_of (Chain e ls) in ap (λ r. tree.Chain (expr_of names e.value) r) (link_list names row.0 row.1 ∙ ap (links_of names) (items_hidden-the_row-Link-1 ls))

pub view_if : (names : List (List ℕ)) (test : Expr) (ss : Vec Stmt Global) → kind_of names (If test ss) ≡ tree.If (expr_of names test) (block_of names ss.items)
view_if names test ss = let row = first_block (If test ss) in ap (λ r. tree.If (expr_of names test) r) (stmt_list names row.0 row.1 ∙ ap (block_of names) (items_hidden-the_row-Stmt-0 ss))

pub view_while : (names : List (List ℕ)) (test : Expr) (ss : Vec Stmt Global) → kind_of names (While test ss) ≡ tree.While (expr_of names test) (block_of names ss.items)
view_while names test ss = let row = first_block (While test ss) in ap (λ r. tree.While (expr_of names test) r) (stmt_list names row.0 row.1 ∙ ap (block_of names) (items_hidden-the_row-Stmt-0 ss))

pub view_if_else : (names : List (List ℕ)) (test : Expr) (ss ts : Vec Stmt Global) → kind_of names (IfElse test ss ts) ≡ tree.IfElse (expr_of names test) (block_of names ss.items) (block_of names ts.items)
view_if_else names test ss ts =
    let row = first_block (IfElse test ss ts) in
    let other = second_block (IfElse test ss ts) in
    ap (λ r. tree.IfElse (expr_of names test) r (stmt_row names other.1)) (stmt_list names row.0 row.1 ∙ ap (block_of names) (items_hidden-the_row-Stmt-0 ss))
    ∙ ap (λ r. tree.IfElse (expr_of names test) (block_of names ss.items) r) (stmt_list names other.0 other.1 ∙ ap (block_of names) (items_hidden-the_row-Stmt-0 ts))

-- lists of trees
pub exprs_are : (names : List (List ℕ)) (es : List Expr) → reading.exprs_of (map (expr_of names) es) ≡ exprs_of names es
exprs_are names [] = refl
exprs_are names (e ∷ es) = ap (tree.MoreExprs (expr_of names e)) (exprs_are names es)

pub links_are : (names : List (List ℕ)) (ls : List Link) → reading.links_of (map (pair_of names) ls) ≡ links_of names ls
links_are names [] = refl
links_are names (l ∷ ls) = ap (tree.MoreLinks l.operator (expr_of names l.operand)) (links_are names ls)

pub block_is_list : (names : List (List ℕ)) (ss : List Stmt) → reading.block_of (map (stmt_of names) ss) ≡ block_of names ss
block_is_list names [] = refl
block_is_list names (s ∷ ss) = ap (tree.MoreStmts (stmt_of names s)) (block_is_list names ss)

-- an operand with its operators
chain_longer : (names : List (List ℕ)) (first : tree.Expr) (ls : List Link) → (length ls ≡ 0 → ⊥) → tree.Chain first (links_of names ls) ≡ reading.chain_of first (links_of names ls)
chain_longer names first [] h = absurd (h refl)
chain_longer names first (l ∷ ls) h = refl

pub chain_made : (names : List (List ℕ)) (e : Box Expr Global) (ls : Vec Link Global) → (length ls.items ≡ 0 → ⊥) → expr_of names (Chain e ls) ≡ reading.chain_of (expr_of names e.value) (links_of names ls.items)
chain_made names e ls h = view_chain names e ls ∙ chain_longer names (expr_of names e.value) ls.items h

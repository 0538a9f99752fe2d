-- A written variant with a list of the same kind, as the definitions see it.
use Rattle.std.proofs.Common.{◌≡◌, ℕ, List, refl, sym, ap, ◌∙◌}
use Rattle.std.specs.Prelude.{Vec, Box}
use Rattle.std.specs.declared.alloc.Global.{Global}
use mathlib.Core.Former.{Count}
use Rattle.pal_base.specs.declared.syntax.Expr.{Expr, Chain, Chain', Apply, Apply', Row_of-Expr, end_of-Expr, more_of-Expr, items-the_row-Expr, items_hidden-the_row-Expr-0, Row_of-Link, end_of-Link, more_of-Link, items-the_row-Link, items_hidden-the_row-Link-1}
use Rattle.pal_base.specs.declared.syntax.Link.{Link}
use Rattle.pal_base.specs.declared.syntax.Identifier.{Identifier}
use Rattle.pal_base.specs.declared.syntax.Stmt.{Stmt}
use Rattle.pal_base.specs.declared.syntax.StmtKind.{StmtKind, If, If', IfElse, IfElse', While, While', Row_of-Stmt, end_of-Stmt, more_of-Stmt, items-the_row-Stmt, items_hidden-the_row-Stmt-0}
use Rattle.pal_base.specs.View.{expr_of, expr_row, link_row, exprs_of, links_of, kind_of, stmt_row, block_of, name_of}
use Rattle.pal_meaning.specs.Syntax as tree

module _ (names : List (List ℕ)) where
  expr_list : (n : _) (k : Row_of-Expr n) → expr_row names k ≡ exprs_of names (items-the_row-Expr n k)
  expr_list n end_of-Expr = refl
  expr_list n (more_of-Expr e es) = ap (λ r. tree.MoreExprs (expr_of names e) r) (expr_list _ es)

  link_list : (n : _) (k : Row_of-Link n) → link_row names k ≡ links_of names (items-the_row-Link n k)
  link_list n end_of-Link = refl
  link_list n (more_of-Link operator e ls) = ap (λ r. tree.MoreLinks operator (expr_of names e) r) (link_list _ ls)

  stmt_list : (n : _) (k : Row_of-Stmt n) → stmt_row names k ≡ block_of names (items-the_row-Stmt n k)
  stmt_list n end_of-Stmt = refl
  stmt_list n (more_of-Stmt line s ss) = ap (λ r. tree.MoreStmts (kind_of names s) r) (stmt_list _ ss)

abbrev arguments_of : Expr → (n : Count) × Row_of-Expr n
arguments_of (Apply' f shape es) = (_, es)
arguments_of _ = (_, end_of-Expr)

abbrev rest_of : Expr → (n : Count) × Row_of-Link n
rest_of (Chain' p first shape ls) = (_, ls)
rest_of _ = (_, end_of-Link)

abbrev first_block : StmtKind → (n : Count) × Row_of-Stmt n
first_block (If' test shape ss) = (_, ss)
first_block (IfElse' test shape ss other ts) = (_, ss)
first_block (While' test shape ss) = (_, ss)
first_block _ = (_, end_of-Stmt)

abbrev second_block : StmtKind → (n : Count) × Row_of-Stmt n
second_block (IfElse' test shape ss other ts) = (_, ts)
second_block _ = (_, end_of-Stmt)

module _ (names : List (List ℕ)) where
  view_apply : (f : Identifier) (es : Vec Expr Global) → expr_of names (Apply f es) ≡ tree.Apply (name_of names f) (exprs_of names es.items)
  view_apply f es = let row = arguments_of (Apply f es) in ap (λ r. tree.Apply (name_of names f) r) (expr_list names row.0 row.1 ∙ ap (exprs_of names) (items_hidden-the_row-Expr-0 es))

  view_chain : (e : Box Expr Global) (ls : Vec Link Global) → expr_of names (Chain e ls) ≡ tree.Chain (expr_of names e.value) (links_of names ls.items)
  view_chain e ls = let row = rest_of (Chain e ls) in ap (λ r. tree.Chain (expr_of names e.value) r) (link_list names row.0 row.1 ∙ ap (links_of names) (items_hidden-the_row-Link-1 ls))

  view_if : (test : Expr) (ss : Vec Stmt Global) → kind_of names (If test ss) ≡ tree.If (expr_of names test) (block_of names ss.items)
  view_if test ss = let row = first_block (If test ss) in ap (λ r. tree.If (expr_of names test) r) (stmt_list names row.0 row.1 ∙ ap (block_of names) (items_hidden-the_row-Stmt-0 ss))

  view_while : (test : Expr) (ss : Vec Stmt Global) → kind_of names (While test ss) ≡ tree.While (expr_of names test) (block_of names ss.items)
  view_while test ss = let row = first_block (While test ss) in ap (λ r. tree.While (expr_of names test) r) (stmt_list names row.0 row.1 ∙ ap (block_of names) (items_hidden-the_row-Stmt-0 ss))

  view_if_else : (test : Expr) (ss ts : Vec Stmt Global) → kind_of names (IfElse test ss ts) ≡ tree.IfElse (expr_of names test) (block_of names ss.items) (block_of names ts.items)
  view_if_else test ss ts =
      let row = first_block (IfElse test ss ts) in
      let other = second_block (IfElse test ss ts) in
      ap (λ r. tree.IfElse (expr_of names test) r (stmt_row names other.1)) (stmt_list names row.0 row.1 ∙ ap (block_of names) (items_hidden-the_row-Stmt-0 ss))
      ∙ ap (λ r. tree.IfElse (expr_of names test) (block_of names ss.items) r) (stmt_list names other.0 other.1 ∙ ap (block_of names) (items_hidden-the_row-Stmt-0 ts))

  -- the same where a function has looked into the value
  pub seen_chain : (e : Expr) (first : Box Expr Global) (ls : Vec Link Global) (x : Expr) (xs : List Link) → e ≡ Chain first ls → x ≡ first.value → xs ≡ ls.items → expr_of names e ≡ tree.Chain (expr_of names x) (links_of names xs)
  seen_chain e first ls x xs is at list = ap (expr_of names) is ∙ view_chain first ls ∙ ap (λ y. tree.Chain (expr_of names y) (links_of names ls.items)) (sym at) ∙ ap (λ ys. tree.Chain (expr_of names x) (links_of names ys)) (sym list)

  pub seen_apply : (e : Expr) (f : Identifier) (es : Vec Expr Global) (xs : List Expr) → e ≡ Apply f es → xs ≡ es.items → expr_of names e ≡ tree.Apply (name_of names f) (exprs_of names xs)
  seen_apply e f es xs is list = ap (expr_of names) is ∙ view_apply f es ∙ ap (λ ys. tree.Apply (name_of names f) (exprs_of names ys)) (sym list)

  pub seen_if : (s : StmtKind) (test : Expr) (ss : Vec Stmt Global) (xs : List Stmt) → s ≡ If test ss → xs ≡ ss.items → kind_of names s ≡ tree.If (expr_of names test) (block_of names xs)
  seen_if s test ss xs is list = ap (kind_of names) is ∙ view_if test ss ∙ ap (λ ys. tree.If (expr_of names test) (block_of names ys)) (sym list)

  pub seen_while : (s : StmtKind) (test : Expr) (ss : Vec Stmt Global) (xs : List Stmt) → s ≡ While test ss → xs ≡ ss.items → kind_of names s ≡ tree.While (expr_of names test) (block_of names xs)
  seen_while s test ss xs is list = ap (kind_of names) is ∙ view_while test ss ∙ ap (λ ys. tree.While (expr_of names test) (block_of names ys)) (sym list)

  pub seen_if_else : (s : StmtKind) (test : Expr) (ss ts : Vec Stmt Global) (xs ys : List Stmt) → s ≡ IfElse test ss ts → xs ≡ ss.items → ys ≡ ts.items → kind_of names s ≡ tree.IfElse (expr_of names test) (block_of names xs) (block_of names ys)
  seen_if_else s test ss ts xs ys is first second = ap (kind_of names) is ∙ view_if_else test ss ts ∙ ap (λ zs. tree.IfElse (expr_of names test) (block_of names zs) (block_of names ts.items)) (sym first) ∙ ap (λ zs. tree.IfElse (expr_of names test) (block_of names xs) (block_of names zs)) (sym second)

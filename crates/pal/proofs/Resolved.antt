-- Resolved parts that were put one after the other are the whole.
use Rattle.std.proofs.Common.{◌≡◌, ℕ, suc, ◌+◌, ◌<◌, ◌≤◌, ◌-◌, ℤ, pos, take, replicate, List, [], ◌∷◌, ◌++◌, length, drop, get_or, drop-cons, refl, sym, ap, ◌∙◌, arith}
use Rattle.std.proofs.lemmas.List.{drop_all, take_all}
use Rattle.pal_meaning.specs.Program as tree
use Rattle.pal_meaning.specs.Resolve.{Scope, resolve_expr, resolve_exprs, resolve_links, resolve_stmt, resolve_block, resolve_arguments}
use Rattle.pal_meaning.specs.Syntax as written
use Rattle.apex_types.specs.declared.shape.ArgumentKind.{ArgumentKind}
use Rattle.pal_base.specs.declared.program.Expr as code_expr
use Rattle.pal_base.specs.declared.program.Link as code_link
use Rattle.pal_base.specs.declared.program.Stmt as code_stmt
use Rattle.pal_base.specs.declared.syntax.Expr as written_expr
use Rattle.pal_base.specs.declared.syntax.Link as written_link
use Rattle.pal_base.specs.declared.syntax.Stmt as written_stmt
use Rattle.pal_base.specs.View as view
use Rattle.pal_base.specs.ProgramView.{expr_of, exprs_of, links_of, stmt_of, block_of}
use Rattle.pal.specs.Parts.{exprs_onto, links_onto, block_onto}

pub exprs_push : (es : List code_expr.Expr) (e : code_expr.Expr) (rest : tree.Exprs) → exprs_onto (es ++ e ∷ []) rest ≡ exprs_onto es (tree.MoreExprs (expr_of e) rest)
exprs_push [] e rest = refl
exprs_push (x ∷ es) e rest = ap (tree.MoreExprs (expr_of x)) (exprs_push es e rest)

pub exprs_alone : (es : List code_expr.Expr) → exprs_onto es tree.NoExpr ≡ exprs_of es
exprs_alone [] = refl
exprs_alone (x ∷ es) = ap (tree.MoreExprs (expr_of x)) (exprs_alone es)

links_push : (ls : List code_link.Link) (l : code_link.Link) (rest : tree.Links) → links_onto (ls ++ l ∷ []) rest ≡ links_onto ls (tree.MoreLinks l.operator (expr_of l.operand) rest)
links_push [] l rest = refl
links_push (x ∷ ls) l rest = ap (tree.MoreLinks x.operator (expr_of x.operand)) (links_push ls l rest)

links_alone : (ls : List code_link.Link) → links_onto ls tree.NoLink ≡ links_of ls
links_alone [] = refl
links_alone (x ∷ ls) = ap (tree.MoreLinks x.operator (expr_of x.operand)) (links_alone ls)

block_push : (ss : List code_stmt.Stmt) (s : code_stmt.Stmt) (rest : tree.Block) → block_onto (ss ++ s ∷ []) rest ≡ block_onto ss (tree.MoreStmts (stmt_of s) rest)
block_push [] s rest = refl
block_push (x ∷ ss) s rest = ap (tree.MoreStmts (stmt_of x)) (block_push ss s rest)

block_alone : (ss : List code_stmt.Stmt) → block_onto ss tree.NoStmt ≡ block_of ss
block_alone [] = refl
block_alone (x ∷ ss) = ap (tree.MoreStmts (stmt_of x)) (block_alone ss)

split : {X : Type 0} (xs : List X) (i : ℕ) (x : X) → i < length xs → x ≡ get_or xs i x → drop i xs ≡ x ∷ drop (i + 1) xs
split xs i x lt is = let n : suc i ≡ i + 1 = omega arith in drop-cons xs i x lt ∙ ap (λ y. y ∷ drop (suc i) xs) (sym is) ∙ ap (λ j. x ∷ drop j xs) n

module _ (names : List (List ℕ)) (scope : Scope) where
  pub exprs_step : (xs : List written_expr.Expr) (i : ℕ) (x : written_expr.Expr) (done next : List code_expr.Expr) (y : code_expr.Expr) (all : tree.Exprs) → i < length xs → x ≡ get_or xs i x → next ≡ done ++ y ∷ [] → expr_of y ≡ resolve_expr scope (view.expr_of names x)
      → exprs_onto done (resolve_exprs scope (view.exprs_of names (drop i xs))) ≡ all → exprs_onto next (resolve_exprs scope (view.exprs_of names (drop (i + 1) xs))) ≡ all
  exprs_step xs i x done next y all lt is pushed seen before =
      let rest = resolve_exprs scope (view.exprs_of names (drop (i + 1) xs)) in
      ap (λ l. exprs_onto l rest) pushed ∙ exprs_push done y rest ∙ ap (λ e. exprs_onto done (tree.MoreExprs e rest)) seen
      ∙ ap (λ l. exprs_onto done (resolve_exprs scope (view.exprs_of names l))) (sym (split xs i x lt is)) ∙ before

  pub exprs_done : (xs : List written_expr.Expr) (i : ℕ) (done : List code_expr.Expr) (all : tree.Exprs) → length xs ≤ i → exprs_onto done (resolve_exprs scope (view.exprs_of names (drop i xs))) ≡ all → exprs_of done ≡ all
  exprs_done xs i done all le before = sym (exprs_alone done) ∙ ap (λ l. exprs_onto done (resolve_exprs scope (view.exprs_of names l))) (sym (drop_all i xs le)) ∙ before

  pub links_step : (xs : List written_link.Link) (i : ℕ) (x : written_link.Link) (done next : List code_link.Link) (y : code_expr.Expr) (all : tree.Links) → i < length xs → x ≡ get_or xs i x → next ≡ done ++ record { operator = x.operator; operand = y } ∷ [] → expr_of y ≡ resolve_expr scope (view.expr_of names x.operand)
      → links_onto done (resolve_links scope (view.links_of names (drop i xs))) ≡ all → links_onto next (resolve_links scope (view.links_of names (drop (i + 1) xs))) ≡ all
  links_step xs i x done next y all lt is pushed seen before =
      let rest = resolve_links scope (view.links_of names (drop (i + 1) xs)) in
      ap (λ l. links_onto l rest) pushed ∙ links_push done (record { operator = x.operator; operand = y }) rest ∙ ap (λ e. links_onto done (tree.MoreLinks x.operator e rest)) seen
      ∙ ap (λ l. links_onto done (resolve_links scope (view.links_of names l))) (sym (split xs i x lt is)) ∙ before

  pub links_done : (xs : List written_link.Link) (i : ℕ) (done : List code_link.Link) (all : tree.Links) → length xs ≤ i → links_onto done (resolve_links scope (view.links_of names (drop i xs))) ≡ all → links_of done ≡ all
  links_done xs i done all le before = sym (links_alone done) ∙ ap (λ l. links_onto done (resolve_links scope (view.links_of names l))) (sym (drop_all i xs le)) ∙ before

  pub block_step : (xs : List written_stmt.Stmt) (i : ℕ) (x : written_stmt.Stmt) (done next : List code_stmt.Stmt) (y : code_stmt.Stmt) (all : tree.Block) → i < length xs → x ≡ get_or xs i x → next ≡ done ++ y ∷ [] → stmt_of y ≡ resolve_stmt scope (view.stmt_of names x)
      → block_onto done (resolve_block scope (view.block_of names (drop i xs))) ≡ all → block_onto next (resolve_block scope (view.block_of names (drop (i + 1) xs))) ≡ all
  block_step xs i x done next y all lt is pushed seen before =
      let rest = resolve_block scope (view.block_of names (drop (i + 1) xs)) in
      ap (λ l. block_onto l rest) pushed ∙ block_push done y rest ∙ ap (λ e. block_onto done (tree.MoreStmts e rest)) seen
      ∙ ap (λ l. block_onto done (resolve_block scope (view.block_of names l))) (sym (split xs i x lt is)) ∙ before

  pub block_done : (xs : List written_stmt.Stmt) (i : ℕ) (done : List code_stmt.Stmt) (all : tree.Block) → length xs ≤ i → block_onto done (resolve_block scope (view.block_of names (drop i xs))) ≡ all → block_of done ≡ all
  block_done xs i done all le before = sym (block_alone done) ∙ ap (λ l. block_onto done (resolve_block scope (view.block_of names l))) (sym (drop_all i xs le)) ∙ before

-- without more arguments or more kinds, nothing follows
pub no_arguments : (names : List (List ℕ)) (scope : Scope) (kinds : List ArgumentKind) (es : List written_expr.Expr) → length es ≡ 0 → resolve_arguments scope kinds (view.exprs_of names es) ≡ tree.NoExpr
no_arguments names scope [] [] h = refl
no_arguments names scope (k ∷ ks) [] h = refl
no_arguments names scope kinds (e ∷ es) h = absurd (omega arith)

pub no_kinds : (scope : Scope) (kinds : List ArgumentKind) (es : written.Exprs) → length kinds ≡ 0 → resolve_arguments scope kinds es ≡ tree.NoExpr
no_kinds scope [] es h = refl
no_kinds scope (k ∷ ks) es h = absurd (omega arith)

pub none_behind : (words : List code_expr.Expr) (rest : tree.Exprs) → rest ≡ tree.NoExpr → exprs_of words ≡ exprs_onto words rest
none_behind words rest h = sym (exprs_alone words) ∙ ap (exprs_onto words) (sym h)

pub zeros_behind : (old new : List ℤ) (len end count : ℕ) → len ≡ length old → end ≡ len + count → new ≡ take end old ++ replicate (end - len) (pos 0) → new ≡ old ++ replicate count (pos 0)
zeros_behind old new len end count l e h =
    let all : length old ≤ end = omega arith in
    let left : end - len ≡ count = omega arith in
    h ∙ ap (λ xs. xs ++ replicate (end - len) (pos 0)) (take_all end old all) ∙ ap (λ n. old ++ replicate n (pos 0)) left

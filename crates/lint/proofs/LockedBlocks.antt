-- Blocks with services that wait while preemption is locked.
use Rattle.std.proofs.Common.{◌≡◌, ℕ, ◌+◌, ◌<◌, Bool, List, ◌++◌, Result, OnOk, length, get_or, drop, sym, ap, subst, ◌∙◌}
use Rattle.std.specs.Prelude.{Vec}
use Rattle.std.specs.declared.alloc.Global.{Global}
use Rattle.pal_base.specs.declared.syntax.Expr.{Expr}
use Rattle.pal_base.specs.declared.syntax.Stmt.{Stmt}
use Rattle.pal_base.specs.declared.syntax.StmtKind.{StmtKind, If, IfElse, While}
use Rattle.pal_base.specs.View.{block_of, kind_of}
use Rattle.pal_meaning.specs.Syntax as tree
use Rattle.pal.proofs.SyntaxRows.{seen_if, seen_if_else, seen_while}
use Rattle.lint.specs.Locks.{locked_after, waits_while_locked, waits_while_locked_in}
use Rattle.lint.specs.Views.{Found}
use Rattle.lint.proofs.Adding.{adds, next_of}

-- a statement of a block, before those that follow it
pub goes_on : (names : List (List ℕ)) (all : List Stmt) (i : ℕ) (s : Stmt) (locked after : Bool) (old new total : List Found) → i < length all → s ≡ get_or all i s
    → new ≡ old ++ waits_while_locked_in locked (kind_of names s.kind) → after ≡ locked_after locked (kind_of names s.kind)
    → old ++ waits_while_locked locked (block_of names (drop i all)) ≡ total → new ++ waits_while_locked after (block_of names (drop (i + 1) all)) ≡ total
goes_on names all i s locked after old new total within is added left h =
    let rest = block_of names (drop (i + 1) all) in
    let k = kind_of names s.kind in
    let next : block_of names (drop i all) ≡ tree.MoreStmts k rest = ap (block_of names) (next_of all i s within is) in
    adds old new (waits_while_locked_in locked k) (waits_while_locked after rest) total added
    (ap (λ l. old ++ (waits_while_locked_in locked k ++ waits_while_locked l rest)) left ∙ ap (λ b. old ++ waits_while_locked locked b) (sym next) ∙ h)

module _ (names : List (List ℕ)) (locked : Bool) {X E : Type 0} (result : Result X E) (old new : List Found) where
  pub in_if : (s : StmtKind) (test : Expr) (ss : Vec Stmt Global) (xs : List Stmt) → s ≡ If test ss → xs ≡ ss.items
      → OnOk result (new ≡ old ++ waits_while_locked locked (block_of names xs)) → OnOk result (new ≡ old ++ waits_while_locked_in locked (kind_of names s))
  in_if s test ss xs is list h = subst (λ k. OnOk result (new ≡ old ++ waits_while_locked_in locked k)) (sym (seen_if names s test ss xs is list)) h

  pub in_while : (s : StmtKind) (test : Expr) (ss : Vec Stmt Global) (xs : List Stmt) → s ≡ While test ss → xs ≡ ss.items
      → OnOk result (new ≡ old ++ waits_while_locked locked (block_of names xs)) → OnOk result (new ≡ old ++ waits_while_locked_in locked (kind_of names s))
  in_while s test ss xs is list h = subst (λ k. OnOk result (new ≡ old ++ waits_while_locked_in locked k)) (sym (seen_while names s test ss xs is list)) h

  pub in_if_else : (s : StmtKind) (test : Expr) (ss ts : Vec Stmt Global) (xs ys : List Stmt) → s ≡ IfElse test ss ts → xs ≡ ss.items → ys ≡ ts.items
      → OnOk result (new ≡ old ++ (waits_while_locked locked (block_of names xs) ++ waits_while_locked locked (block_of names ys))) → OnOk result (new ≡ old ++ waits_while_locked_in locked (kind_of names s))
  in_if_else s test ss ts xs ys is first second h = subst (λ k. OnOk result (new ≡ old ++ waits_while_locked_in locked k)) (sym (seen_if_else names s test ss ts xs ys is first second)) h

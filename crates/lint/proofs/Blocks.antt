-- The calls of blocks.
use Rattle.std.proofs.Common.{◌≡◌, ℕ, ◌+◌, ◌<◌, List, ◌++◌, Option, None, Result, Ok, Err, OnOk, length, get_or, drop, sym, ap, subst, ◌∙◌, append_assoc}
use Rattle.std.specs.Prelude.{Vec}
use Rattle.std.specs.declared.alloc.Global.{Global}
use Rattle.pal_base.specs.declared.syntax.Expr.{Expr}
use Rattle.pal_base.specs.declared.syntax.Stmt.{Stmt}
use Rattle.pal_base.specs.declared.syntax.StmtKind.{StmtKind, If, IfElse, While}
use Rattle.pal_base.specs.View.{block_of, kind_of}
use Rattle.pal_meaning.specs.Syntax as tree
use Rattle.pal.proofs.SyntaxRows.{seen_if, seen_if_else, seen_while}
use Rattle.lint.specs.Calls.{Call, calls_behind, calls_in, left_by}
use Rattle.lint.specs.Uses.{Created, Scope}
use Rattle.lint.proofs.Adding.{adds, next_of}

-- a statement of a block, before those that follow it
pub goes_on : (names : List (List ℕ)) (scope : Scope) (all : List Stmt) (i : ℕ) (s : Stmt) (created after : Option Created) (old new total : List Call) → i < length all → s ≡ get_or all i s
    → new ≡ old ++ calls_in scope created (kind_of names s.kind) → after ≡ left_by created (kind_of names s.kind)
    → old ++ calls_behind scope created (block_of names (drop i all)) ≡ total → new ++ calls_behind scope after (block_of names (drop (i + 1) all)) ≡ total
goes_on names scope all i s created after old new total within is added left h =
    let rest = block_of names (drop (i + 1) all) in
    let k = kind_of names s.kind in
    let next : block_of names (drop i all) ≡ tree.MoreStmts k rest = ap (block_of names) (next_of all i s within is) in
    adds old new (calls_in scope created k) (calls_behind scope after rest) total added
    (ap (λ c. old ++ (calls_in scope created k ++ calls_behind scope c rest)) left ∙ ap (λ b. old ++ calls_behind scope created b) (sym next) ∙ h)

module _ (names : List (List ℕ)) (scope : Scope) (created : Option Created) {X E : Type 0} (result : Result X E) (old new : List Call) where
  pub in_if : (s : StmtKind) (test : Expr) (ss : Vec Stmt Global) (xs : List Stmt) → s ≡ If test ss → xs ≡ ss.items
      → OnOk result (new ≡ old ++ calls_behind scope None (block_of names xs)) → OnOk result (new ≡ old ++ calls_in scope created (kind_of names s))
  in_if s test ss xs is list h = subst (λ k. OnOk result (new ≡ old ++ calls_in scope created k)) (sym (seen_if names s test ss xs is list)) h

  pub in_while : (s : StmtKind) (test : Expr) (ss : Vec Stmt Global) (xs : List Stmt) → s ≡ While test ss → xs ≡ ss.items
      → OnOk result (new ≡ old ++ calls_behind scope None (block_of names xs)) → OnOk result (new ≡ old ++ calls_in scope created (kind_of names s))
  in_while s test ss xs is list h = subst (λ k. OnOk result (new ≡ old ++ calls_in scope created k)) (sym (seen_while names s test ss xs is list)) h

  pub in_if_else : (s : StmtKind) (test : Expr) (ss ts : Vec Stmt Global) (xs ys : List Stmt) → s ≡ IfElse test ss ts → xs ≡ ss.items → ys ≡ ts.items
      → OnOk result (new ≡ old ++ (calls_behind scope None (block_of names xs) ++ calls_behind scope None (block_of names ys))) → OnOk result (new ≡ old ++ calls_in scope created (kind_of names s))
  in_if_else s test ss ts xs ys is first second h = subst (λ k. OnOk result (new ≡ old ++ calls_in scope created k)) (sym (seen_if_else names s test ss ts xs ys is first second)) h

-- what two lists add, one after the other
pub both_add : {A X E : Type 0} (result : Result X E) (old mid new first second : List A) → mid ≡ old ++ first → OnOk result (new ≡ mid ++ second) → OnOk result (new ≡ old ++ (first ++ second))
both_add (Ok x) old mid new first second one two = two ∙ ap (λ l. l ++ second) one ∙ append_assoc old first second
both_add (Err e) old mid new first second one two = tt

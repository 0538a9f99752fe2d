-- The mentions in expressions and statements.
use Rattle.std.proofs.Common.{◌≡◌, ℕ, ◌+◌, ◌<◌, ◌≤◌, List, [], ◌∷◌, ◌++◌, length, map, drop, get_or, Option, Result, Ok, Err, OnOk, ap, sym, subst, ◌∙◌, append_assoc, arith}
use Rattle.std.specs.Prelude.{Vec, Box}
use Rattle.std.specs.declared.alloc.Global.{Global}
use Rattle.std.proofs.lemmas.List.{at_drop_more}
use Rattle.apex_types.specs.declared.service.Service.{Service}
use Rattle.pal_base.specs.declared.syntax.Expr.{Expr, Chain}
use Rattle.pal_base.specs.declared.syntax.Expr as code_expr
use Rattle.pal_base.specs.declared.syntax.Identifier.{Identifier}
use Rattle.pal_base.specs.declared.syntax.Link.{Link}
use Rattle.pal_base.specs.declared.syntax.Stmt.{Stmt}
use Rattle.pal_base.specs.declared.syntax.StmtKind.{StmtKind, If, IfElse, While}
use Rattle.pal_base.specs.View.{block_of, expr_of, exprs_of, kind_of, links_of, name_of}
use Rattle.pal.proofs.SyntaxRows.{seen_apply, seen_chain, seen_if, seen_if_else, seen_while}
use Rattle.pal_meaning.specs.Syntax as tree
use Rattle.lint.specs.Mentions.{Mention, Thing, Apply, Test, Write, in_block, in_expr, in_exprs, in_links, in_loop, in_stmt, in_targets, if_endless, thing_at}
use Rattle.lint.specs.Plain.{Plain, plains}
use Rattle.lint.specs.Views.{mention_of, mentions_seen}
use Rattle.lint.specs.declared.mentions.Mention as code_mention
use Rattle.lint.proofs.Adding.{adds}
use Rattle.lint.proofs.Blocks.{both_add}

module _ (names : List (List ℕ)) {X E : Type 0} (result : Result X E) (old mid new : List Mention) where
  pub in_apply : (e : Expr) (f : Identifier) (es : Vec Expr Global) (xs : List Expr) → e ≡ code_expr.Apply f es → xs ≡ es.items
      → mid ≡ old ++ Apply (name_of names f) (plains (exprs_of names xs)) ∷ [] → OnOk result (new ≡ mid ++ in_exprs (exprs_of names xs)) → OnOk result (new ≡ old ++ in_expr (expr_of names e))
  in_apply e f es xs is list first rest =
      subst (λ k. OnOk result (new ≡ old ++ in_expr k)) (sym (seen_apply names e f es xs is list))
      (both_add result old mid new (Apply (name_of names f) (plains (exprs_of names xs)) ∷ []) (in_exprs (exprs_of names xs)) first rest)

  pub in_chain : (e : Expr) (operand : Box Expr Global) (ls : Vec Link Global) (x : Expr) (xs : List Link) → e ≡ Chain operand ls → x ≡ operand.value → xs ≡ ls.items
      → mid ≡ old ++ in_expr (expr_of names x) → OnOk result (new ≡ mid ++ in_links (links_of names xs)) → OnOk result (new ≡ old ++ in_expr (expr_of names e))
  in_chain e operand ls x xs is at list first rest =
      subst (λ k. OnOk result (new ≡ old ++ in_expr k)) (sym (seen_chain names e operand ls x xs is at list))
      (both_add result old mid new (in_expr (expr_of names x)) (in_links (links_of names xs)) first rest)

  pub in_if : (s : StmtKind) (test : Expr) (ss : Vec Stmt Global) (xs : List Stmt) → s ≡ If test ss → xs ≡ ss.items
      → mid ≡ old ++ (Test ∷ in_expr (expr_of names test)) → OnOk result (new ≡ mid ++ in_block (block_of names xs)) → OnOk result (new ≡ old ++ in_stmt (kind_of names s))
  in_if s test ss xs is list first rest =
      subst (λ k. OnOk result (new ≡ old ++ in_stmt k)) (sym (seen_if names s test ss xs is list))
      (both_add result old mid new ((Test ∷ in_expr (expr_of names test))) (in_block (block_of names xs)) first rest)

  pub in_while : (s : StmtKind) (test : Expr) (ss : Vec Stmt Global) (xs : List Stmt) → s ≡ While test ss → xs ≡ ss.items
      → mid ≡ old ++ (Test ∷ in_expr (expr_of names test)) → OnOk result (new ≡ mid ++ in_loop (expr_of names test) (in_block (block_of names xs))) → OnOk result (new ≡ old ++ in_stmt (kind_of names s))
  in_while s test ss xs is list first rest =
      subst (λ k. OnOk result (new ≡ old ++ in_stmt k)) (sym (seen_while names s test ss xs is list))
      (both_add result old mid new ((Test ∷ in_expr (expr_of names test))) (in_loop (expr_of names test) (in_block (block_of names xs))) first rest)

  pub in_if_else : (s : StmtKind) (test : Expr) (ss ts : Vec Stmt Global) (xs ys : List Stmt) (between : List Mention) → s ≡ IfElse test ss ts → xs ≡ ss.items → ys ≡ ts.items
      → between ≡ old ++ (Test ∷ in_expr (expr_of names test)) → mid ≡ between ++ in_block (block_of names xs) → OnOk result (new ≡ mid ++ in_block (block_of names ys))
      → OnOk result (new ≡ old ++ in_stmt (kind_of names s))
  in_if_else s test ss ts xs ys between is one other first second rest =
      let blocks = in_block (block_of names xs) ++ in_block (block_of names ys) in
      subst (λ k. OnOk result (new ≡ old ++ in_stmt k)) (sym (seen_if_else names s test ss ts xs ys is one other))
      (both_add result old between new ((Test ∷ in_expr (expr_of names test))) blocks first
      (both_add result between mid new (in_block (block_of names xs)) (in_block (block_of names ys)) second rest))

-- ---- loops

-- the rest behind a list to which some were added
abbrev tail_of : {A : Type 0} → List A → List A
tail_of [] = []
tail_of (x ∷ xs) = xs

pub behind_is : {A B : Type 0} (f : A → B) (old new : List A) (added : List B) → map f new ≡ map f old ++ added → map f (drop (length old) new) ≡ added
behind_is f [] new added h = h
behind_is f (x ∷ old) [] added h = absurd (cc)
behind_is f (x ∷ old) (y ∷ new) added h = behind_is f old new added (ap tail_of h)

pub is_within : {A B : Type 0} (f : A → B) (old new : List A) (added : List B) → map f new ≡ map f old ++ added → length old ≤ length new
is_within f [] new added h = omega arith
is_within f (x ∷ old) [] added h = absurd (cc)
is_within f (x ∷ old) (y ∷ new) added h = let rest = is_within f old new added (ap tail_of h) in omega (arith, rest)

-- the test of a loop, its block, and whether it has an end
pub loop_added : {E : Type 0} (names : List (List ℕ)) (result : Result (Unit {0}) E) (before : ℕ) (test : Expr) (mid after : List code_mention.Mention) (old new block : List Mention) → before ≡ length mid
    → mentions_seen names mid ≡ old → mentions_seen names after ≡ mentions_seen names mid ++ block
    → OnOk result (new ≡ mentions_seen names after ++ if_endless (expr_of names test) (mentions_seen names (drop before after))) → OnOk result (new ≡ old ++ in_loop (expr_of names test) block)
loop_added names (Err e) before test mid after old new block at first second third = tt
loop_added names (Ok x) before test mid after old new block at first second third =
    let rest : mentions_seen names (drop before after) ≡ block = ap (λ (n : ℕ). mentions_seen names (drop n after)) at ∙ behind_is (mention_of names) mid after block second in
    third ∙ ap (λ (l : List Mention). mentions_seen names after ++ if_endless (expr_of names test) l) rest
    ∙ ap (λ (l : List Mention). l ++ if_endless (expr_of names test) block) (second ∙ ap (λ (l : List Mention). l ++ block) first)
    ∙ append_assoc old block (if_endless (expr_of names test) block)

-- ---- targets

-- one more target
pub target_goes_on : (names : List (List ℕ)) (service : Service) (argument : Option Plain) (targets : List Identifier) (i place : ℕ) (d : Identifier) (thing : Option Thing) (old new total : List Mention) → i < length targets
    → thing ≡ thing_at service argument place → new ≡ old ++ Write (name_of names (get_or targets i d)) thing ∷ [] → old ++ in_targets service argument place (map (name_of names) (drop i targets)) ≡ total
    → new ++ in_targets service argument (place + 1) (map (name_of names) (drop (i + 1) targets)) ≡ total
target_goes_on names service argument targets i place d thing old new total within same added h =
    let own = Write (name_of names (get_or targets i d)) (thing_at service argument place) ∷ [] in
    let rest = in_targets service argument (place + 1) (map (name_of names) (drop (i + 1) targets)) in
    adds old new own rest total (added ∙ ap (λ (t : Option Thing). old ++ Write (name_of names (get_or targets i d)) t ∷ []) same)
    (ap (λ (ms : List Mention). old ++ ms) (sym (at_drop_more (λ (ts : List Identifier). in_targets service argument place (map (name_of names) ts)) targets i d within)) ∙ h)

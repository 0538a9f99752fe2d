-- The parts of an accepted program are resolved exactly: names, expressions and statements.
use Rattle.compiling_laws.proofs.Prelude.{◌≡◌, ℕ, pos, Bool, true, nat_eq, List, ◌∷◌, ◌++◌, map, Option, Some, None, refl, sym, ap, ◌∙◌, and_parts, cond-true, list_all, filter_map, cons_option, option_map, MOST_WORK_TICKS, Denotation, ArgumentKind, arguments_of, answer_words, Scope, place_of, within, resolve_expr, resolve_links, resolve_exprs, resolve_argument, resolve_arguments, resolve_stmt, resolve_block, is_between}
use Rattle.std.proofs.Common.{[]}
use Rattle.std.specs.Prelude.{flat_map, is_some}
use Rattle.apex_types.specs.declared.denotation.Denotation.TheVariants as denotation
use Rattle.apex_types.specs.declared.denotation.ObjectKind.{ObjectKind}
use Rattle.apex_types.specs.declared.shape.ArgumentKind.TheVariants as argument
use Rattle.pal_meaning.specs.Program as program
use Rattle.pal_meaning.specs.Syntax as written
use Rattle.pal_meaning.specs.Resolve.{array_place_of, array_size_of, object_number_of, procedure_number_of, value_or_zero}
use Rattle.pal_meaning.specs.WellFormed.{is_scalar, is_array, is_procedure, is_object, is_same_kind, expr_count, fits_expr, fits_links, fits_exprs, fits_argument, fits_arguments, fits_stmt, fits_block, keeps_expr, keeps_links, keeps_exprs, keeps_stmt, keeps_block}
use Rattle.compiling_laws.specs.Resolved.{with_two, with_three, with_four, each, joined, scalar, array_place, array_size, procedure, object_number, resolved_expr, resolved_links, resolved_exprs, resolved_argument, resolved_arguments, resolved_stmt, resolved_block}
use Rattle.compiling_laws.proofs.WellFormedFits.{keeps_within}
use Rattle.compiling_laws.proofs.WellFormedObjects.{one_or_none}

-- ---- parts that are there

pub both : {A B C : Type 0} (f : A → B → C) {a : Option A} {b : Option B} {x : A} {y : B} → a ≡ Some x → b ≡ Some y → with_two f a b ≡ Some (f x y)
both f h k = rw (h, k) refl

three : {A B C D : Type 0} (f : A → B → C → D) {a : Option A} {b : Option B} {c : Option C} {x : A} {y : B} {z : C} → a ≡ Some x → b ≡ Some y → c ≡ Some z → with_three f a b c ≡ Some (f x y z)
three f h k l = rw (h, k, l) refl

pub four : {A B C D E : Type 0} (f : A → B → C → D → E) {a : Option A} {b : Option B} {c : Option C} {d : Option D} {x : A} {y : B} {z : C} {w : D} → a ≡ Some x → b ≡ Some y → c ≡ Some z → d ≡ Some w → with_four f a b c d ≡ Some (f x y z w)
four f h k l m = rw (h, k, l, m) refl

pub each_is : {A B : Type 0} (f : A → Option B) (g : A → B) (test : A → Bool) → ((x : A) → test x ≡ true → f x ≡ Some (g x)) → (xs : List A) → list_all test xs ≡ true → each f xs ≡ Some (map g xs)
each_is f g test is [] h = refl
each_is f g test is (x ∷ xs) h = let parts = and_parts (test x) (list_all test xs) h in both (λ y ys. y ∷ ys) (is x parts.0) (each_is f g test is xs parts.1)

pub flat : {A B : Type 0} (g : A → List B) (xs : List A) → flat_map (λ ys. ys) (map g xs) ≡ flat_map g xs
flat g [] = refl
flat g (x ∷ xs) = ap (λ ys. g x ++ ys) (flat g xs)

joined_is : {A B : Type 0} (f : A → Option (List B)) (g : A → List B) (test : A → Bool) → ((x : A) → test x ≡ true → f x ≡ Some (g x)) → (xs : List A) → list_all test xs ≡ true → joined f xs ≡ Some (flat_map g xs)
joined_is f g test is xs h = ap (option_map (flat_map (λ ys. ys))) (each_is f g test is xs h) ∙ ap Some (flat g xs)

put : {A : Type 0} (o : Option A) (xs : List A) → one_or_none o ++ xs ≡ cons_option o xs
put None xs = refl
put (Some x) xs = refl

picked : {A B : Type 0} (g : A → Option B) (xs : List A) → flat_map (λ x. one_or_none (g x)) xs ≡ filter_map g xs
picked g [] = refl
picked g (x ∷ xs) = ap (λ ys. one_or_none (g x) ++ ys) (picked g xs) ∙ put (g x) (filter_map g xs)

pub picked_is : {A B : Type 0} (f : A → Option (List B)) (g : A → Option B) (test : A → Bool) → ((x : A) → test x ≡ true → f x ≡ Some (one_or_none (g x))) → (xs : List A) → list_all test xs ≡ true → joined f xs ≡ Some (filter_map g xs)
picked_is f g test is xs h = joined_is f (λ x. one_or_none (g x)) test is xs h ∙ ap Some (picked g xs)

-- ---- numbers

number_is : (o : Option ℕ) → is_some o ≡ true → o ≡ Some (value_or_zero o)
number_is None h = absurd cc
number_is (Some n) h = refl

pub between_is : (low limit : ℕ) (o : Option ℕ) → is_between low limit o ≡ true → o ≡ Some (within limit o)
between_is low limit o h = let k = keeps_within low limit o h in k.1 ∙ ap Some (sym k.4)

-- ---- names

scalar_is : (m : Option Denotation) → is_scalar m ≡ true → scalar m ≡ Some (place_of m)
scalar_is (Some (denotation.Scalar place)) h = refl
scalar_is _ h = absurd cc

array_place_is : (m : Option Denotation) → is_array m ≡ true → array_place m ≡ Some (array_place_of m)
array_place_is (Some (denotation.Array place size)) h = refl
array_place_is _ h = absurd cc

array_size_is : (m : Option Denotation) → is_array m ≡ true → array_size m ≡ Some (array_size_of m)
array_size_is (Some (denotation.Array place size)) h = refl
array_size_is _ h = absurd cc

procedure_is : (n : ℕ) (m : Option Denotation) → is_procedure n m ≡ true → procedure n m ≡ Some (procedure_number_of m)
procedure_is n (Some (denotation.Procedure number parameters)) h = cond-true (nat_eq parameters n) (Some number) None h
procedure_is n _ h = absurd cc

object_is : (kind : ObjectKind) (m : Option Denotation) → is_object kind m ≡ true → object_number kind m ≡ Some (object_number_of m)
object_is kind (Some (denotation.Object found number)) h = cond-true (is_same_kind found kind) (Some number) None h
object_is kind _ h = absurd cc

-- ---- expressions and statements

module _ (scope : Scope) where
  mutual
    expr_is : (e : written.Expr) → fits_expr scope e ≡ true → keeps_expr e ≡ true → resolved_expr scope e ≡ Some (resolve_expr scope e)
    expr_is (written.Number value) h k = ap (option_map (λ n. program.Literal (pos n))) (number_is value k)
    expr_is (written.Name name) h k = ap (option_map program.Read) (scalar_is (scope name) h)
    expr_is (written.Element array index) h k =
        let parts = and_parts _ _ h in
        three program.Element (array_place_is (scope array) parts.0) (array_size_is (scope array) parts.0) (expr_is index parts.1 (and_parts _ _ k).1)
    expr_is (written.Apply name arguments) h k =
        let parts = and_parts _ _ h in
        both program.Apply (procedure_is (expr_count arguments) (scope name) parts.0) (exprs_are arguments parts.1 (and_parts _ _ k).1)
    expr_is (written.Parenthesis inside) h k = expr_is inside h k
    expr_is (written.Unary operator operand) h k = ap (option_map (program.Unary operator)) (expr_is operand h k)
    expr_is (written.Chain first rest) h k = let parts = and_parts _ _ h in let kept = and_parts _ _ k in both program.Chain (expr_is first parts.0 kept.0) (links_are rest parts.1 kept.1)

    links_are : (ls : written.Links) → fits_links scope ls ≡ true → keeps_links ls ≡ true → resolved_links scope ls ≡ Some (resolve_links scope ls)
    links_are written.NoLink h k = refl
    links_are (written.MoreLinks operator operand rest) h k =
        let parts = and_parts _ _ h in
        let kept = and_parts _ _ k in
        both (program.MoreLinks operator) (expr_is operand parts.0 kept.0) (links_are rest parts.1 kept.1)

    exprs_are : (es : written.Exprs) → fits_exprs scope es ≡ true → keeps_exprs es ≡ true → resolved_exprs scope es ≡ Some (resolve_exprs scope es)
    exprs_are written.NoExpr h k = refl
    exprs_are (written.MoreExprs first rest) h k = let parts = and_parts _ _ h in let kept = and_parts _ _ k in both program.MoreExprs (expr_is first parts.0 kept.0) (exprs_are rest parts.1 kept.1)

  argument_is : (kind : ArgumentKind) (e : written.Expr) (rest : Option program.Exprs) (more : program.Exprs) → rest ≡ Some more → fits_argument scope kind e ≡ true → keeps_expr e ≡ true
      → resolved_argument scope kind e rest ≡ Some (resolve_argument scope kind e more)
  argument_is argument.Word e rest more is h k = both program.MoreExprs (expr_is e h k) is
  argument_is argument.Array (written.Name name) rest more is h k = three (λ place size more. program.MoreExprs (program.Literal (pos place)) (program.MoreExprs (program.Literal size) more)) (array_place_is (scope name) h) (array_size_is (scope name) h) is
  argument_is (argument.Object kind) (written.Name name) rest more is h k = both (λ number more. program.MoreExprs (program.Literal (pos number)) more) (object_is kind (scope name) h) is
  argument_is _ _ rest more is h k = absurd cc

  arguments_are : (kinds : List ArgumentKind) (es : written.Exprs) → fits_arguments scope kinds es ≡ true → keeps_exprs es ≡ true → resolved_arguments scope kinds es ≡ Some (resolve_arguments scope kinds es)
  arguments_are [] written.NoExpr h k = refl
  arguments_are (kind ∷ kinds) (written.MoreExprs e es) h k =
      let parts = and_parts _ _ h in
      let kept = and_parts _ _ k in
      argument_is kind e (resolved_arguments scope kinds es) (resolve_arguments scope kinds es) (arguments_are kinds es parts.1 kept.1) parts.0 kept.0
  arguments_are _ _ h k = absurd cc

  mutual
    stmt_is : (returns : Bool) (s : written.Stmt) → fits_stmt scope returns s ≡ true → keeps_stmt s ≡ true → resolved_stmt scope s ≡ Some (resolve_stmt scope s)
    stmt_is returns (written.Assign target value) h k = let parts = and_parts _ _ h in both program.Assign (scalar_is (scope target) parts.0) (expr_is value parts.1 (and_parts _ _ k).1)
    stmt_is returns (written.AssignElement array index value) h k =
        let parts = and_parts _ _ h in
        let values = and_parts _ _ parts.1 in
        let kept = and_parts _ _ (and_parts _ _ k).1 in
        four program.AssignElement (array_place_is (scope array) parts.0) (array_size_is (scope array) parts.0) (expr_is index values.0 kept.0) (expr_is value values.1 kept.1)
    stmt_is returns (written.If test block) h k = let parts = and_parts _ _ h in let kept = and_parts _ _ k in both program.If (expr_is test parts.0 kept.0) (block_is returns block parts.1 kept.1)
    stmt_is returns (written.IfElse test block other) h k =
        let parts = and_parts _ _ h in
        let blocks = and_parts _ _ parts.1 in
        let kept = and_parts _ _ k in
        let held = and_parts _ _ kept.1 in
        three program.IfElse (expr_is test parts.0 kept.0) (block_is returns block blocks.0 held.0) (block_is returns other blocks.1 held.1)
    stmt_is returns (written.While test block) h k = let parts = and_parts _ _ h in let kept = and_parts _ _ k in both program.While (expr_is test parts.0 kept.0) (block_is returns block parts.1 kept.1)
    stmt_is returns (written.Work ticks) h k = ap (option_map program.Work) (between_is 1 MOST_WORK_TICKS ticks k)
    stmt_is returns (written.Return value) h k = ap (option_map program.Return) (expr_is value (and_parts _ _ h).1 k)
    stmt_is returns (written.CallService s arguments targets) h k =
        let parts = and_parts (fits_arguments scope (arguments_of s) arguments) _ h in
        let answers = and_parts (nat_eq _ (answer_words s)) (list_all (λ x. is_scalar (scope x)) targets) parts.1 in
        both (program.CallService s) (arguments_are (arguments_of s) arguments parts.0 (and_parts _ _ k).0)
        (each_is (λ x. scalar (scope x)) (λ x. place_of (scope x)) (λ x. is_scalar (scope x)) (λ x. scalar_is (scope x)) targets answers.1)

    pub block_is : (returns : Bool) (b : written.Block) → fits_block scope returns b ≡ true → keeps_block b ≡ true → resolved_block scope b ≡ Some (resolve_block scope b)
    block_is returns written.NoStmt h k = refl
    block_is returns (written.MoreStmts first rest) h k = let parts = and_parts _ _ h in let kept = and_parts _ _ k in both program.MoreStmts (stmt_is returns first parts.0 kept.0) (block_is returns rest parts.1 kept.1)

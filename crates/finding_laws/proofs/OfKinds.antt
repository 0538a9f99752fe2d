-- The rule on kinds: nothing is found if and only if it holds.
use Rattle.std.proofs.Math.Dec.{eqb-suc-suc, eqb-suc-zero, eqb-zero-suc}
use Rattle.finding_laws.proofs.Prelude.{◌≡◌, ℕ, suc, ◌+◌, Bool, ◌&&◌, ◌∷◌, ◌++◌, Option, Some, ◌∙◌, list_all, nat_eq, answer_words, arguments_of, Denotation, PortRow, Service, ArgumentKind, Scope, own_entries, scope_of, expr_count, holds_of_handler, holds_of_procedure, kinds_hold, has_none, body_frame, held, Judge, frame_wrong, found_role, Entry, declaration_entry, own_entry, process_entry, Tally, tallied, no_tally, tally_wrong, Role}
use Rattle.std.proofs.Common.{arith, true, false, List, [], length, map, None, is_none, refl, sym, ap}
use Rattle.apex_types.specs.declared.denotation.Denotation.TheVariants as denotation
use Rattle.apex_types.specs.declared.denotation.ObjectKind.{ObjectKind}
use Rattle.apex_types.specs.declared.shape.ArgumentKind.TheVariants as argument
use Rattle.pal_base.specs.declared.fault.Refusal.TheVariants as rule
use Rattle.pal_meaning.specs.Resolve as meant
use Rattle.pal_meaning.specs.Syntax as written
use Rattle.pal_meaning.specs.WellFormed.{fits_argument, fits_arguments, fits_block, fits_expr, fits_exprs, fits_links, fits_stmt, is_array, is_object, is_procedure, is_scalar, kinds_hold_in_body}
use Rattle.source_findings.specs.Bodies as walk
use Rattle.source_findings.specs.Roles.{fits}
use Rattle.source_findings.specs.declared.roles.Role.TheVariants as role
use Rattle.finding_laws.proofs.Clean.{and_assoc, and_true, fine_all_given, fine_block, fine_declarations, fine_expr, fine_exprs, fine_given, fine_handler, fine_links, fine_name, fine_own, fine_processes, fine_program, fine_row, fine_stack, fine_stmt, fine_targets, fine_words, none_found}
use Rattle.finding_laws.proofs.OfNames.{and_false, both, found_unless}
use Rattle.finding_laws.proofs.OfRoles.{all_are, in_scope, own_are, own_both, role_as, to_role}

-- a judge by the rule on kinds
abbrev judge : ℕ → List Entry → List Entry → Judge
judge period declared own = record { rule = rule.Kind; period = period; declared = declared; own = own }

scalar : (o : Option Denotation) → fits (role_as o) role.Variable ≡ is_scalar o
scalar None = refl
scalar (Some (denotation.Scalar place)) = refl
scalar (Some (denotation.Array place size)) = refl
scalar (Some (denotation.Object kind number)) = refl
scalar (Some (denotation.Procedure number parameters)) = refl

array : (o : Option Denotation) → fits (role_as o) role.Array ≡ is_array o
array None = refl
array (Some (denotation.Scalar place)) = refl
array (Some (denotation.Array place size)) = refl
array (Some (denotation.Object kind number)) = refl
array (Some (denotation.Procedure number parameters)) = refl

procedure : (n : ℕ) (o : Option Denotation) → fits (role_as o) (role.Procedure n) ≡ is_procedure n o
procedure n None = refl
procedure n (Some (denotation.Scalar place)) = refl
procedure n (Some (denotation.Array place size)) = refl
procedure n (Some (denotation.Object kind number)) = refl
procedure n (Some (denotation.Procedure number parameters)) = refl

object : (kind : ObjectKind) (o : Option Denotation) → fits (role_as o) (role.Object kind) ≡ is_object kind o
object kind None = refl
object kind (Some (denotation.Scalar place)) = refl
object kind (Some (denotation.Array place size)) = refl
object kind (Some (denotation.Object found number)) = refl
object kind (Some (denotation.Procedure number parameters)) = refl

suc_eq : (n m : ℕ) → nat_eq (n + 1) (suc m) ≡ nat_eq n m
suc_eq n m = let e : n + 1 ≡ suc n = omega arith in ap (λ k. nat_eq k (suc m)) e ∙ eqb-suc-suc n m

suc_zero : (n : ℕ) → nat_eq (n + 1) 0 ≡ false
suc_zero n = let e : n + 1 ≡ suc n = omega arith in ap (λ k. nat_eq k 0) e ∙ eqb-suc-zero n

first_out : (m g a : Bool) → (m && (g && a)) ≡ (g && (m && a))
first_out true g a = refl
first_out false true a = refl
first_out false false a = refl

paired : (m k a t : Bool) → (m && (k && (a && t))) ≡ ((m && a) && (k && t))
paired true k true t = refl
paired true k false t = and_false k
paired false k a t = refl

-- ---- expressions and statements

module _ (period : ℕ) (declared own : List Entry) (scope : Scope) (means : (name : List ℕ) → found_role (judge period declared own) name ≡ role_as (scope name)) where
  abbrev j : Judge
  j = judge period declared own

  name_is : (wanted : Role) (name : List ℕ) → fine_name j wanted name ≡ fits (role_as (scope name)) wanted
  name_is wanted name = found_unless (fits (found_role j name) wanted) _ ∙ ap (λ r. fits r wanted) (means name)

  scalar_is : (name : List ℕ) → fine_name j role.Variable name ≡ is_scalar (scope name)
  scalar_is name = name_is role.Variable name ∙ scalar (scope name)

  array_is : (name : List ℕ) → fine_name j role.Array name ≡ is_array (scope name)
  array_is name = name_is role.Array name ∙ array (scope name)

  mutual
    expr_is : (e : written.Expr) → fine_expr j e ≡ fits_expr scope e
    expr_is (written.Number value) = refl
    expr_is (written.Name name) = scalar_is name
    expr_is (written.Element array index) = both (array_is array) (expr_is index)
    expr_is (written.Apply name arguments) = both (name_is (role.Procedure (expr_count arguments)) name ∙ procedure (expr_count arguments) (scope name)) (exprs_are arguments)
    expr_is (written.Parenthesis inside) = expr_is inside
    expr_is (written.Unary operator operand) = expr_is operand
    expr_is (written.Chain first rest) = both (expr_is first) (links_are rest)

    links_are : (ls : written.Links) → fine_links j ls ≡ fits_links scope ls
    links_are written.NoLink = refl
    links_are (written.MoreLinks operator operand rest) = both (expr_is operand) (links_are rest)

    exprs_are : (es : written.Exprs) → fine_exprs j es ≡ fits_exprs scope es
    exprs_are written.NoExpr = refl
    exprs_are (written.MoreExprs first rest) = both (expr_is first) (exprs_are rest)

  given_is : (k : ArgumentKind) (e : written.Expr) → fine_given j k e ≡ fits_argument scope k e
  given_is argument.Word e = expr_is e
  given_is argument.Array (written.Name name) = array_is name
  given_is argument.Array (written.Number value) = refl
  given_is argument.Array (written.Element array index) = refl
  given_is argument.Array (written.Apply name arguments) = refl
  given_is argument.Array (written.Parenthesis inside) = refl
  given_is argument.Array (written.Unary operator operand) = refl
  given_is argument.Array (written.Chain first rest) = refl
  given_is (argument.Object kind) (written.Name name) = name_is (role.Object kind) name ∙ object kind (scope name)
  given_is (argument.Object kind) (written.Number value) = refl
  given_is (argument.Object kind) (written.Element array index) = refl
  given_is (argument.Object kind) (written.Apply name arguments) = refl
  given_is (argument.Object kind) (written.Parenthesis inside) = refl
  given_is (argument.Object kind) (written.Unary operator operand) = refl
  given_is (argument.Object kind) (written.Chain first rest) = refl

  -- there are as many arguments as kinds, and each fits
  arguments_are : (ks : List ArgumentKind) (es : written.Exprs) → (nat_eq (expr_count es) (length ks) && fine_all_given j ks es) ≡ fits_arguments scope ks es
  arguments_are [] written.NoExpr = refl
  arguments_are (k ∷ ks) written.NoExpr = ap (λ b. b && true) (eqb-zero-suc (length ks))
  arguments_are [] (written.MoreExprs e es) = ap (λ b. b && (fine_expr j e && fine_all_given j [] es)) (suc_zero (expr_count es))
  arguments_are (k ∷ ks) (written.MoreExprs e es) =
      ap (λ b. b && (fine_given j k e && fine_all_given j ks es)) (suc_eq (expr_count es) (length ks))
      ∙ first_out (nat_eq (expr_count es) (length ks)) (fine_given j k e) (fine_all_given j ks es)
      ∙ both (given_is k e) (arguments_are ks es)

  targets_are : (names : List (List ℕ)) → fine_targets j names ≡ list_all (λ x. is_scalar (scope x)) names
  targets_are [] = refl
  targets_are (name ∷ names) = both (scalar_is name) (targets_are names)

  call_is : (service : Service) (es : written.Exprs) (names : List (List ℕ)) → fine_stmt j true (written.CallService service es names) ≡ fits_stmt scope true (written.CallService service es names)
  call_is service es names =
      let count : Bool = nat_eq (expr_count es) (length (arguments_of service)) in
      let words : Bool = nat_eq (length names) (answer_words service) in
      both (found_unless count _) (ap (λ b. b && (fine_all_given j (arguments_of service) es && fine_targets j names)) (found_unless words _))
      ∙ paired count words (fine_all_given j (arguments_of service) es) (fine_targets j names)
      ∙ both (arguments_are (arguments_of service) es) (ap (λ b. words && b) (targets_are names))

  mutual
    stmt_is : (returns : Bool) (t : written.Stmt) → fine_stmt j returns t ≡ fits_stmt scope returns t
    stmt_is returns (written.Assign target value) = both (scalar_is target) (expr_is value)
    stmt_is returns (written.AssignElement array index value) = both (array_is array) (both (expr_is index) (expr_is value))
    stmt_is returns (written.If test inside) = both (expr_is test) (block_is returns inside)
    stmt_is returns (written.IfElse test inside other) = both (expr_is test) (both (block_is returns inside) (block_is returns other))
    stmt_is returns (written.While test inside) = both (expr_is test) (block_is returns inside)
    stmt_is returns (written.Work ticks) = refl
    stmt_is returns (written.Return value) = both (found_unless returns _) (expr_is value)
    stmt_is returns (written.CallService service es names) = call_is service es names

    block_is : (returns : Bool) (b : written.Block) → fine_block j returns b ≡ fits_block scope returns b
    block_is returns written.NoStmt = refl
    block_is returns (written.MoreStmts first rest) = both (stmt_is returns first) (block_is returns rest)

-- ---- bodies

no_own : (period : ℕ) (declared own before : List Entry) (names : List (List ℕ)) → fine_own (judge period declared own) before names ≡ true
no_own period declared own before [] = refl
no_own period declared own before (x ∷ xs) = no_own period declared own (before ++ own_entry x ∷ []) xs

statements_are : (period : ℕ) (returns : Bool) (declared : List meant.Entry) (names : List (List ℕ)) (b : written.Body)
    → fine_block (judge period (map to_role declared) (walk.with_own (walk.with_own [] names) b.locals)) returns b.block ≡ kinds_hold_in_body declared returns names b
statements_are period returns declared names b =
    let own : List meant.Entry = own_entries 0 (names ++ b.locals) in
    ap (λ es. fine_block (judge period (map to_role declared) es) returns b.block) (sym (own_both [] names b.locals) ∙ own_are 0 [] (names ++ b.locals))
    ∙ block_is period (map to_role declared) (map to_role own) (scope_of own declared) (λ name. in_scope name own declared) returns b.block

body_is : (period : ℕ) (returns : Bool) (declared : List meant.Entry) (names : List (List ℕ)) (b : written.Body)
    → (fine_own (judge period (map to_role declared) []) (walk.with_own [] names) b.locals && fine_block (judge period (map to_role declared) (walk.with_own (walk.with_own [] names) b.locals)) returns b.block) ≡ kinds_hold_in_body declared returns names b
body_is period returns declared names b =
    ap (λ t. t && fine_block (judge period (map to_role declared) (walk.with_own (walk.with_own [] names) b.locals)) returns b.block) (no_own period (map to_role declared) [] (walk.with_own [] names) b.locals)
    ∙ statements_are period returns declared names b

no_frame : (words : ℕ) (stack : Option ℕ) → is_none (frame_wrong rule.Kind words stack) ≡ true
no_frame words None = refl
no_frame words (Some stack) = refl

stack_is : (period : ℕ) (declared : List meant.Entry) (stack : Option ℕ) (b : written.Body) → fine_stack (judge period (map to_role declared) []) stack b ≡ kinds_hold_in_body declared false [] b
stack_is period declared stack b =
    ap (λ t. t && (fine_own (judge period (map to_role declared) []) [] b.locals && fine_block (judge period (map to_role declared) (walk.with_own [] b.locals)) false b.block)) (no_frame (body_frame b) stack)
    ∙ body_is period false declared [] b

handler_is : (period : ℕ) (declared : List meant.Entry) (h : Option written.StackBody) → fine_handler (judge period (map to_role declared) []) h ≡ holds_of_handler (kinds_hold_in_body declared) h
handler_is period declared None = refl
handler_is period declared (Some b) = stack_is period declared b.stack b.body

-- ---- declarations and processes

no_words : (period : ℕ) (declared : List Entry) (ns : List written.Integer) → fine_words (judge period declared []) ns ≡ true
no_words period declared [] = refl
no_words period declared (n ∷ ns) = no_words period declared ns

no_tally_wrong : (t : Tally) (k : written.Kind) → is_none (tally_wrong rule.Kind t k) ≡ true
no_tally_wrong t (written.Variable value) = refl
no_tally_wrong t (written.Array size values) = refl
no_tally_wrong t (written.Semaphore first maximum discipline) = refl
no_tally_wrong t written.Event = refl
no_tally_wrong t (written.Buffer words messages discipline) = refl
no_tally_wrong t (written.Blackboard words) = refl
no_tally_wrong t written.Port = refl
no_tally_wrong t (written.Procedure parameters body) = refl

row_is : (period : ℕ) (declared : List meant.Entry) (k : written.Kind) → fine_row (judge period (map to_role declared) []) k ≡ holds_of_procedure (kinds_hold_in_body declared) k
row_is period declared (written.Variable None) = refl
row_is period declared (written.Variable (Some n)) = refl
row_is period declared (written.Array size values) = no_words period (map to_role declared) values
row_is period declared (written.Semaphore first maximum discipline) = refl
row_is period declared written.Event = refl
row_is period declared (written.Buffer words messages discipline) = refl
row_is period declared (written.Blackboard words) = refl
row_is period declared written.Port = refl
row_is period declared (written.Procedure names b) =
    ap (λ t. t && (fine_own (judge period (map to_role declared) []) (walk.with_own [] names) b.locals && fine_block (judge period (map to_role declared) (walk.with_own (walk.with_own [] names) b.locals)) true b.block)) (no_own period (map to_role declared) [] [] names)
    ∙ body_is period true declared names b

declarations_hold : (period : ℕ) (declared : List meant.Entry) (before : List Entry) (t : Tally) (ds : List written.Declaration)
    → fine_declarations (judge period (map to_role declared) []) before t ds ≡ list_all (λ d. holds_of_procedure (kinds_hold_in_body declared) d.kind) ds
declarations_hold period declared before t [] = refl
declarations_hold period declared before t (d ∷ ds) =
    both (ap (λ b. b && fine_row (judge period (map to_role declared) []) d.kind) (no_tally_wrong (tallied t d.kind) d.kind) ∙ row_is period declared d.kind)
    (declarations_hold period declared (before ++ declaration_entry d ∷ []) (tallied t d.kind) ds)

processes_hold : (period : ℕ) (declared : List meant.Entry) (before : List Entry) (count : ℕ) (ps : List written.Process)
    → fine_processes (judge period (map to_role declared) []) before count ps ≡ list_all (λ q. kinds_hold_in_body declared false [] q.body) ps
processes_hold period declared before count [] = refl
processes_hold period declared before count (p ∷ ps) = both (stack_is period declared p.stack p.body) (processes_hold period declared (before ++ process_entry p ∷ []) (held (count + 1)) ps)

-- ---- the program

last_out : (b i h d : Bool) → (b && (i && (h && d))) ≡ (((i && h) && d) && b)
last_out true i h d = sym (and_assoc i h d) ∙ sym (and_true ((i && h) && d))
last_out false i h d = sym (and_false ((i && h) && d))

pub kinds_found : (ports : List PortRow) (period : ℕ) (text : List ℕ) (p : written.Program) → kinds_hold ports p ≡ has_none (walk.wrongs rule.Kind period text p)
kinds_found ports period text p =
    let declared : List meant.Entry = meant.declared_entries ports p in
    sym (none_found rule.Kind period text p
    ∙ ap (λ es. fine_program (judge period es []) p) (sym (all_are ports p))
    ∙ both (declarations_hold period declared [] no_tally p.declarations)
    (both (stack_is period declared p.init.stack p.init.body) (both (handler_is period declared p.handler) (processes_hold period declared (walk.all_before [] p.declarations) 0 p.processes)))
    ∙ last_out (list_all (λ d. holds_of_procedure (kinds_hold_in_body declared) d.kind) p.declarations) (kinds_hold_in_body declared false [] p.init.body) (holds_of_handler (kinds_hold_in_body declared) p.handler)
    (list_all (λ q. kinds_hold_in_body declared false [] q.body) p.processes))

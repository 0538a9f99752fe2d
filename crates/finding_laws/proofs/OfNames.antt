-- The rule on names: nothing is found if and only if it holds.
use Rattle.finding_laws.proofs.Prelude.{◌≡◌, ℕ, ◌+◌, Bool, cond, ◌&&◌, ◌∷◌, ◌++◌, Option, Some, is_some, ◌∙◌, append_assoc, append-nil, list_all, arguments_of, Denotation, MOST_PROCESSES, Slot, PortRow, ArgumentKind, Counts, Scope, declaration_entries, declared_meaning, find, no_counts, own_entries, process_entries, scope_of, expr_count, holds_of_handler, holds_of_procedure, names_hold, has_none, body_frame, held, Judge, frame_wrong, found_role, number_wrong, Entry, is_nothing, own_entry, role_of, Tally, tallied, no_tally, tally_wrong, What, Role}
use Rattle.std.proofs.Common.{true, false, not, List, [], map, None, is_none, refl, sym, ap}
use Rattle.std.specs.Option.{unwrap_or}
use Rattle.apex_types.specs.declared.denotation.Denotation.TheVariants as denotation
use Rattle.apex_types.specs.declared.denotation.ObjectKind.TheVariants as object
use Rattle.apex_types.specs.declared.shape.ArgumentKind.TheVariants as argument
use Rattle.pal_base.specs.declared.fault.Refusal.TheVariants as rule
use Rattle.pal_meaning.specs.Resolve as meant
use Rattle.pal_meaning.specs.Resolve.{counted, next, slot}
use Rattle.pal_meaning.specs.Syntax as written
use Rattle.pal_meaning.specs.WellFormed.{are_new, holds_of_bodies, knows_block, knows_expr, knows_exprs, knows_links, knows_stmt, names_hold_in_body}
use Rattle.source_findings.specs.Bodies as walk
use Rattle.source_findings.specs.Roles.{or_else}
use Rattle.source_findings.specs.declared.roles.Role.TheVariants as role
use Rattle.finding_laws.proofs.Clean.{and_assoc, and_true, fine_all_given, fine_block, fine_declarations, fine_expr, fine_exprs, fine_given, fine_handler, fine_links, fine_name, fine_named, fine_new, fine_own, fine_processes, fine_program, fine_row, fine_stack, fine_stmt, fine_targets, fine_words, none_found}
use Rattle.finding_laws.proofs.OfRoles.{all_are, before_processes, declaration_is, declarations_are, in_scope, known, next_counts, one_more, own_are, own_both, role_as, same_role, to_role, unknown}

pub both : {a b c d : Bool} → a ≡ b → c ≡ d → (a && c) ≡ (b && d)
both {a} {b} {c} {d} p q = ap (λ x. x && c) p ∙ ap (λ x. b && x) q

-- a judge by the rule on names
abbrev judge : ℕ → List Entry → List Entry → Judge
judge period declared own = record { rule = rule.Name; period = period; declared = declared; own = own }

pub and_false : (a : Bool) → (a && false) ≡ false
and_false true = refl
and_false false = refl

pub found_unless : (b : Bool) (w : What) → is_none (cond {A = Option What} b None (Some w)) ≡ b
found_unless true w = refl
found_unless false w = refl

-- ---- expressions and statements

module _ (period : ℕ) (declared own : List Entry) (scope : Scope) (means : (name : List ℕ) → found_role (judge period declared own) name ≡ role_as (scope name)) where
  abbrev j : Judge
  j = judge period declared own

  name_is : (wanted : Role) (name : List ℕ) → fine_name j wanted name ≡ is_some (scope name)
  name_is wanted name = found_unless (not (is_nothing (found_role j name))) _ ∙ ap (λ r. not (is_nothing r)) (means name) ∙ known (scope name)

  mutual
    expr_is : (e : written.Expr) → fine_expr j e ≡ knows_expr scope e
    expr_is (written.Number value) = refl
    expr_is (written.Name name) = name_is role.Variable name
    expr_is (written.Element array index) = both (name_is role.Array array) (expr_is index)
    expr_is (written.Apply procedure arguments) = both (name_is (role.Procedure (expr_count arguments)) procedure) (exprs_are arguments)
    expr_is (written.Parenthesis inside) = expr_is inside
    expr_is (written.Unary operator operand) = expr_is operand
    expr_is (written.Chain first rest) = both (expr_is first) (links_are rest)

    links_are : (ls : written.Links) → fine_links j ls ≡ knows_links scope ls
    links_are written.NoLink = refl
    links_are (written.MoreLinks operator operand rest) = both (expr_is operand) (links_are rest)

    exprs_are : (es : written.Exprs) → fine_exprs j es ≡ knows_exprs scope es
    exprs_are written.NoExpr = refl
    exprs_are (written.MoreExprs first rest) = both (expr_is first) (exprs_are rest)

  named_is : (wanted : Role) (e : written.Expr) → fine_named j wanted e ≡ knows_expr scope e
  named_is wanted (written.Name name) = name_is wanted name
  named_is wanted (written.Number value) = expr_is (written.Number value)
  named_is wanted (written.Element array index) = expr_is (written.Element array index)
  named_is wanted (written.Apply procedure arguments) = expr_is (written.Apply procedure arguments)
  named_is wanted (written.Parenthesis inside) = expr_is inside
  named_is wanted (written.Unary operator operand) = expr_is operand
  named_is wanted (written.Chain first rest) = expr_is (written.Chain first rest)

  given_is : (k : ArgumentKind) (e : written.Expr) → fine_given j k e ≡ knows_expr scope e
  given_is argument.Word e = expr_is e
  given_is argument.Array e = named_is role.Array e
  given_is (argument.Object kind) e = named_is (role.Object kind) e

  all_given_are : (ks : List ArgumentKind) (es : written.Exprs) → fine_all_given j ks es ≡ knows_exprs scope es
  all_given_are ks written.NoExpr = refl
  all_given_are [] (written.MoreExprs e es) = both (expr_is e) (all_given_are [] es)
  all_given_are (k ∷ ks) (written.MoreExprs e es) = both (given_is k e) (all_given_are ks es)

  targets_are : (names : List (List ℕ)) → fine_targets j names ≡ list_all (λ x. is_some (scope x)) names
  targets_are [] = refl
  targets_are (name ∷ names) = both (name_is role.Variable name) (targets_are names)

  mutual
    stmt_is : (returns : Bool) (t : written.Stmt) → fine_stmt j returns t ≡ knows_stmt scope t
    stmt_is returns (written.Assign target value) = both (name_is role.Variable target) (expr_is value)
    stmt_is returns (written.AssignElement array index value) = both (name_is role.Array array) (both (expr_is index) (expr_is value))
    stmt_is returns (written.If test inside) = both (expr_is test) (block_is returns inside)
    stmt_is returns (written.IfElse test inside other) = both (expr_is test) (both (block_is returns inside) (block_is returns other))
    stmt_is returns (written.While test inside) = both (expr_is test) (block_is returns inside)
    stmt_is returns (written.Work ticks) = refl
    stmt_is returns (written.Return value) = expr_is value
    stmt_is returns (written.CallService service es names) = both (all_given_are (arguments_of service) es) (targets_are names)

    block_is : (returns : Bool) (b : written.Block) → fine_block j returns b ≡ knows_block scope b
    block_is returns written.NoStmt = refl
    block_is returns (written.MoreStmts first rest) = both (stmt_is returns first) (block_is returns rest)

-- ---- bodies

new_flags : (own declared : Option Denotation) → is_nothing (or_else (role_as own) (role_as declared)) ≡ (not (is_some declared) && not (is_some own))
new_flags None declared = unknown declared ∙ sym (and_true (not (is_some declared)))
new_flags (Some (denotation.Scalar place)) declared = sym (and_false (not (is_some declared)))
new_flags (Some (denotation.Array place size)) declared = sym (and_false (not (is_some declared)))
new_flags (Some (denotation.Object kind number)) declared = sym (and_false (not (is_some declared)))
new_flags (Some (denotation.Procedure number parameters)) declared = sym (and_false (not (is_some declared)))

new_is : (period : ℕ) (name : List ℕ) (own declared : List meant.Entry) → fine_new (judge period (map to_role declared) (map to_role own)) name ≡ (not (is_some (find name declared)) && not (is_some (find name own)))
new_is period name own declared =
    found_unless (is_nothing (found_role (judge period (map to_role declared) (map to_role own)) name)) _
    ∙ ap (λ r. is_nothing (or_else r (role_of name (map to_role declared)))) (same_role name own)
    ∙ ap (λ r. is_nothing (or_else (role_as (find name own)) r)) (same_role name declared)
    ∙ new_flags (find name own) (find name declared)

own_is : (period place : ℕ) (other : List Entry) (declared before : List meant.Entry) (names : List (List ℕ))
    → fine_own (judge period (map to_role declared) other) (map to_role before) names ≡ are_new declared before (own_entries place names)
own_is period place other declared before [] = refl
own_is period place other declared before (x ∷ xs) =
    let e : meant.Entry = record { name = x; meaning = denotation.Scalar (Slot (slot place)) } in
    both (new_is period x before declared)
    (ap (λ es. fine_own (judge period (map to_role declared) other) es xs) (one_more before e) ∙ own_is period (place + 1) other declared (before ++ e ∷ []) xs)

own_append : (j : Judge) (before : List Entry) (xs ys : List (List ℕ)) → fine_own j before (xs ++ ys) ≡ (fine_own j before xs && fine_own j (walk.with_own before xs) ys)
own_append j before [] ys = refl
own_append j before (x ∷ xs) ys =
    ap (λ b. fine_new (walk.within j before) x && b) (own_append j (before ++ own_entry x ∷ []) xs ys)
    ∙ sym (and_assoc (fine_new (walk.within j before) x) (fine_own j (before ++ own_entry x ∷ []) xs) (fine_own j (walk.with_own (before ++ own_entry x ∷ []) xs) ys))

-- the statements of a body with these parameters
statements_are : (period : ℕ) (returns : Bool) (declared : List meant.Entry) (names : List (List ℕ)) (b : written.Body)
    → fine_block (judge period (map to_role declared) (walk.with_own (walk.with_own [] names) b.locals)) returns b.block ≡ knows_block (scope_of (own_entries 0 (names ++ b.locals)) declared) b.block
statements_are period returns declared names b =
    let own : List meant.Entry = own_entries 0 (names ++ b.locals) in
    ap (λ es. fine_block (judge period (map to_role declared) es) returns b.block) (sym (own_both [] names b.locals) ∙ own_are 0 [] (names ++ b.locals))
    ∙ block_is period (map to_role declared) (map to_role own) (scope_of own declared) (λ name. in_scope name own declared) returns b.block

-- the parameters, the locals and the statements
body_is : (period : ℕ) (returns : Bool) (declared : List meant.Entry) (names : List (List ℕ)) (b : written.Body)
    → (fine_own (judge period (map to_role declared) []) [] names && (fine_own (judge period (map to_role declared) []) (walk.with_own [] names) b.locals
    && fine_block (judge period (map to_role declared) (walk.with_own (walk.with_own [] names) b.locals)) returns b.block)) ≡ names_hold_in_body declared names b
body_is period returns declared names b =
    let j : Judge = judge period (map to_role declared) [] in
    sym (and_assoc (fine_own j [] names) (fine_own j (walk.with_own [] names) b.locals) (fine_block (judge period (map to_role declared) (walk.with_own (walk.with_own [] names) b.locals)) returns b.block))
    ∙ both (sym (own_append j [] names b.locals) ∙ own_is period 0 [] declared [] (names ++ b.locals)) (statements_are period returns declared names b)

no_frame : (words : ℕ) (stack : Option ℕ) → is_none (frame_wrong rule.Name words stack) ≡ true
no_frame words None = refl
no_frame words (Some stack) = refl

stack_is : (period : ℕ) (declared : List meant.Entry) (stack : Option ℕ) (b : written.Body) → fine_stack (judge period (map to_role declared) []) stack b ≡ names_hold_in_body declared [] b
stack_is period declared stack b =
    ap (λ t. t && (fine_own (judge period (map to_role declared) []) [] b.locals && fine_block (judge period (map to_role declared) (walk.with_own [] b.locals)) false b.block)) (no_frame (body_frame b) stack)
    ∙ body_is period false declared [] b

handler_is : (period : ℕ) (declared : List meant.Entry) (h : Option written.StackBody) → fine_handler (judge period (map to_role declared) []) h ≡ holds_of_handler (λ returns names b. names_hold_in_body declared names b) h
handler_is period declared None = refl
handler_is period declared (Some b) = stack_is period declared b.stack b.body

-- ---- declarations

no_words : (j : Judge) (ns : List written.Integer) → j.rule ≡ rule.Name → fine_words j ns ≡ true
no_words j [] h = refl
no_words j (n ∷ ns) h = ap (λ r. is_none (number_wrong r n.magnitude) && fine_words j ns) h ∙ no_words j ns h

no_tally_wrong : (t : Tally) (k : written.Kind) → is_none (tally_wrong rule.Name t k) ≡ true
no_tally_wrong t (written.Variable value) = refl
no_tally_wrong t (written.Array size values) = refl
no_tally_wrong t (written.Semaphore first maximum discipline) = refl
no_tally_wrong t written.Event = refl
no_tally_wrong t (written.Buffer words messages discipline) = refl
no_tally_wrong t (written.Blackboard words) = refl
no_tally_wrong t written.Port = refl
no_tally_wrong t (written.Procedure parameters body) = refl

row_is : (period : ℕ) (declared : List meant.Entry) (k : written.Kind) → fine_row (judge period (map to_role declared) []) k ≡ holds_of_procedure (λ returns names b. names_hold_in_body declared names b) k
row_is period declared (written.Variable None) = refl
row_is period declared (written.Variable (Some n)) = refl
row_is period declared (written.Array size values) = no_words (judge period (map to_role declared) []) values refl
row_is period declared (written.Semaphore first maximum discipline) = refl
row_is period declared written.Event = refl
row_is period declared (written.Buffer words messages discipline) = refl
row_is period declared (written.Blackboard words) = refl
row_is period declared written.Port = refl
row_is period declared (written.Procedure names b) = body_is period true declared names b

swapped : (a b c d : Bool) → ((a && b) && (c && d)) ≡ ((a && c) && (b && d))
swapped true true c d = refl
swapped true false true d = refl
swapped true false false d = refl
swapped false b c d = refl

abbrev holds_of : List meant.Entry → written.Declaration → Bool
holds_of declared d = holds_of_procedure (λ returns names b. names_hold_in_body declared names b) d.kind

declarations_hold : (ports : List PortRow) (period : ℕ) (declared before : List meant.Entry) (c : Counts) (t : Tally) (ds : List written.Declaration)
    → fine_declarations (judge period (map to_role declared) []) (map to_role before) t ds ≡ (are_new [] before (declaration_entries ports c ds) && list_all (holds_of declared) ds)
declarations_hold ports period declared before c t [] = refl
declarations_hold ports period declared before c t (d ∷ ds) =
    let j : Judge = judge period (map to_role declared) [] in
    let e : meant.Entry = record { name = d.name; meaning = declared_meaning ports c d.name d.kind } in
    both
    (ap (λ b. b && (fine_new (walk.among j (map to_role before)) d.name && fine_row j d.kind)) (no_tally_wrong (tallied t d.kind) d.kind)
    ∙ both (declared_new period d.name before) (row_is period declared d.kind))
    (ap (λ es. fine_declarations j es (tallied t d.kind) ds) (ap (λ x. map to_role before ++ x ∷ []) (sym (declaration_is ports c d)) ∙ one_more before e)
    ∙ declarations_hold ports period declared (before ++ e ∷ []) (next_counts c d) (tallied t d.kind) ds)
    ∙ swapped (not (is_some (find d.name before))) (holds_of declared d) (are_new [] (before ++ e ∷ []) (declaration_entries ports (next_counts c d) ds)) (list_all (holds_of declared) ds)
  where
    declared_new : (period : ℕ) (name : List ℕ) (before : List meant.Entry) → fine_new (judge period (map to_role before) []) name ≡ not (is_some (find name before))
    declared_new period name before = new_is period name [] before ∙ and_true (not (is_some (find name before)))

processes_hold : (period : ℕ) (declared before : List meant.Entry) (count place : ℕ) (ps : List written.Process)
    → fine_processes (judge period (map to_role declared) []) (map to_role before) count ps ≡ (are_new [] before (process_entries place ps) && list_all (λ q. names_hold_in_body declared [] q.body) ps)
processes_hold period declared before count place [] = refl
processes_hold period declared before count place (p ∷ ps) =
    let j : Judge = judge period (map to_role declared) [] in
    let e : meant.Entry = record { name = p.name; meaning = denotation.Object object.Process (next MOST_PROCESSES place) } in
    let behind : ℕ = unwrap_or (counted MOST_PROCESSES place 1) place in
    both
    (both (new_is period p.name [] before ∙ and_true (not (is_some (find p.name before)))) (stack_is period declared p.stack p.body))
    (ap (λ es. fine_processes j es (held (count + 1)) ps) (one_more before e) ∙ processes_hold period declared (before ++ e ∷ []) (held (count + 1)) behind ps)
    ∙ swapped (not (is_some (find p.name before))) (names_hold_in_body declared [] p.body) (are_new [] (before ++ e ∷ []) (process_entries behind ps)) (list_all (λ q. names_hold_in_body declared [] q.body) ps)

-- ---- the program

new_append : (declared before xs ys : List meant.Entry) → are_new declared before (xs ++ ys) ≡ (are_new declared before xs && are_new declared (before ++ xs) ys)
new_append declared before [] ys = ap (λ es. are_new declared es ys) (sym (append-nil before))
new_append declared before (e ∷ es) ys =
    let new : Bool = not (is_some (find e.name declared)) && not (is_some (find e.name before)) in
    ap (λ b. new && b) (new_append declared (before ++ e ∷ []) es ys)
    ∙ sym (and_assoc new (are_new declared (before ++ e ∷ []) es) (are_new declared ((before ++ e ∷ []) ++ es) ys))
    ∙ ap (λ l. (new && are_new declared (before ++ e ∷ []) es) && are_new declared l ys) (append_assoc before (e ∷ []) es)

arranged : (a b i h c d : Bool) → ((a && b) && (i && (h && (c && d)))) ≡ ((a && c) && (((i && h) && d) && b))
arranged true true true true c d = ap (λ x. c && x) (sym (and_true d))
arranged true true true false true d = refl
arranged true true true false false d = refl
arranged true true false h true d = refl
arranged true true false h false d = refl
arranged true false i h true d = sym (and_false ((i && h) && d))
arranged true false i h false d = refl
arranged false b i h c d = refl

pub names_found : (ports : List PortRow) (period : ℕ) (text : List ℕ) (p : written.Program) → names_hold ports p ≡ has_none (walk.wrongs rule.Name period text p)
names_found ports period text p =
    let declared : List meant.Entry = meant.declared_entries ports p in
    let ds : List meant.Entry = declaration_entries ports no_counts p.declarations in
    let j : Judge = judge period (map to_role declared) [] in
    sym (none_found rule.Name period text p
    ∙ ap (λ es. fine_program (judge period es []) p) (sym (all_are ports p))
    ∙ both (declarations_hold ports period declared [] no_counts no_tally p.declarations)
    (both (stack_is period declared p.init.stack p.init.body) (both (handler_is period declared p.handler)
    (ap (λ es. fine_processes j es 0 p.processes) (before_processes [] p.declarations ∙ sym (declarations_are ports no_counts p.declarations))
    ∙ processes_hold period declared ds 0 0 p.processes)))
    ∙ arranged (are_new [] [] ds) (list_all (holds_of declared) p.declarations) (names_hold_in_body declared [] p.init.body)
    (holds_of_handler (λ returns names b. names_hold_in_body declared names b) p.handler) (are_new [] ds (process_entries 0 p.processes)) (list_all (λ q. names_hold_in_body declared [] q.body) p.processes)
    ∙ ap (λ b. b && holds_of_bodies (λ returns names body. names_hold_in_body declared names body) p) (sym (new_append [] [] ds (process_entries 0 p.processes))))

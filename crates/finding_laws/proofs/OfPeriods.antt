-- The rule on periods: nothing is found if and only if it holds.
use Rattle.finding_laws.proofs.Prelude.{◌≡◌, ℕ, ◌+◌, Bool, cond, ◌&&◌, ◌∷◌, ◌++◌, Option, Some, ◌∙◌, list_all, ◌%◌, nat_eq, nat_lt, arguments_of, ArgumentKind, periods_hold, has_none, body_frame, held, Judge, frame_wrong, odd, Entry, declaration_entry, own_entry, process_entry, Tally, counted, no_tally, tally_wrong, Role}
use Rattle.std.proofs.Common.{true, false, List, [], None, is_none, refl, sym}
use Rattle.apex_types.specs.declared.shape.ArgumentKind.TheVariants as argument
use Rattle.pal_base.specs.declared.fault.Refusal.TheVariants as rule
use Rattle.pal_meaning.specs.Syntax as written
use Rattle.pal_meaning.specs.WellFormed.{is_written_multiple, keeps_period}
use Rattle.source_findings.specs.Bodies as walk
use Rattle.source_findings.specs.Roles.{declared_entries}
use Rattle.source_findings.specs.declared.roles.Role.TheVariants as role
use Rattle.finding_laws.proofs.Clean.{fine_all_given, fine_block, fine_declarations, fine_expr, fine_exprs, fine_given, fine_handler, fine_links, fine_named, fine_own, fine_processes, fine_row, fine_stack, fine_stmt, fine_targets, fine_words, none_found}
use Rattle.finding_laws.proofs.OfNames.{both, found_unless}

module _ (period : ℕ) (declared own : List Entry) where
  -- a judge by the rule on periods
  abbrev j : Judge
  j = record { rule = rule.Period; period = period; declared = declared; own = own }

  mutual
    expr_is : (e : written.Expr) → fine_expr j e ≡ true
    expr_is (written.Number value) = refl
    expr_is (written.Name name) = refl
    expr_is (written.Element array index) = expr_is index
    expr_is (written.Apply procedure arguments) = exprs_are arguments
    expr_is (written.Parenthesis inside) = expr_is inside
    expr_is (written.Unary operator operand) = expr_is operand
    expr_is (written.Chain first rest) = both (expr_is first) (links_are rest)

    links_are : (ls : written.Links) → fine_links j ls ≡ true
    links_are written.NoLink = refl
    links_are (written.MoreLinks operator operand rest) = both (expr_is operand) (links_are rest)

    exprs_are : (es : written.Exprs) → fine_exprs j es ≡ true
    exprs_are written.NoExpr = refl
    exprs_are (written.MoreExprs first rest) = both (expr_is first) (exprs_are rest)

  named_is : (wanted : Role) (e : written.Expr) → fine_named j wanted e ≡ true
  named_is wanted (written.Name name) = refl
  named_is wanted (written.Number value) = refl
  named_is wanted (written.Element array index) = expr_is index
  named_is wanted (written.Apply procedure arguments) = exprs_are arguments
  named_is wanted (written.Parenthesis inside) = expr_is inside
  named_is wanted (written.Unary operator operand) = expr_is operand
  named_is wanted (written.Chain first rest) = expr_is (written.Chain first rest)

  given_is : (k : ArgumentKind) (e : written.Expr) → fine_given j k e ≡ true
  given_is argument.Word e = expr_is e
  given_is argument.Array e = named_is role.Array e
  given_is (argument.Object kind) e = named_is (role.Object kind) e

  all_given_are : (ks : List ArgumentKind) (es : written.Exprs) → fine_all_given j ks es ≡ true
  all_given_are ks written.NoExpr = refl
  all_given_are [] (written.MoreExprs e es) = both (expr_is e) (all_given_are [] es)
  all_given_are (k ∷ ks) (written.MoreExprs e es) = both (given_is k e) (all_given_are ks es)

  targets_are : (names : List (List ℕ)) → fine_targets j names ≡ true
  targets_are [] = refl
  targets_are (name ∷ names) = targets_are names

  mutual
    stmt_is : (returns : Bool) (t : written.Stmt) → fine_stmt j returns t ≡ true
    stmt_is returns (written.Assign target value) = expr_is value
    stmt_is returns (written.AssignElement array index value) = both (expr_is index) (expr_is value)
    stmt_is returns (written.If test inside) = both (expr_is test) (block_is returns inside)
    stmt_is returns (written.IfElse test inside other) = both (expr_is test) (both (block_is returns inside) (block_is returns other))
    stmt_is returns (written.While test inside) = both (expr_is test) (block_is returns inside)
    stmt_is returns (written.Work ticks) = refl
    stmt_is returns (written.Return value) = expr_is value
    stmt_is returns (written.CallService service es names) = both (all_given_are (arguments_of service) es) (targets_are names)

    block_is : (returns : Bool) (b : written.Block) → fine_block j returns b ≡ true
    block_is returns written.NoStmt = refl
    block_is returns (written.MoreStmts first rest) = both (stmt_is returns first) (block_is returns rest)

  own_is : (before : List Entry) (names : List (List ℕ)) → fine_own j before names ≡ true
  own_is before [] = refl
  own_is before (x ∷ xs) = own_is (before ++ own_entry x ∷ []) xs

  words_are : (ns : List written.Integer) → fine_words j ns ≡ true
  words_are [] = refl
  words_are (n ∷ ns) = words_are ns

no_frame : (words : ℕ) (stack : Option ℕ) → is_none (frame_wrong rule.Period words stack) ≡ true
no_frame words None = refl
no_frame words (Some stack) = refl

no_tally_wrong : (t : Tally) (k : written.Kind) → is_none (tally_wrong rule.Period t k) ≡ true
no_tally_wrong t (written.Variable value) = refl
no_tally_wrong t (written.Array size values) = refl
no_tally_wrong t (written.Semaphore first maximum discipline) = refl
no_tally_wrong t written.Event = refl
no_tally_wrong t (written.Buffer words messages discipline) = refl
no_tally_wrong t (written.Blackboard words) = refl
no_tally_wrong t written.Port = refl
no_tally_wrong t (written.Procedure parameters body) = refl

module _ (period : ℕ) (declared : List Entry) where
  abbrev i : Judge
  i = record { rule = rule.Period; period = period; declared = declared; own = [] }

  stack_is : (stack : Option ℕ) (b : written.Body) → fine_stack i stack b ≡ true
  stack_is stack b = both (no_frame (body_frame b) stack) (both (own_is period declared [] [] b.locals) (block_is period declared (walk.with_own [] b.locals) false b.block))

  handler_is : (h : Option written.StackBody) → fine_handler i h ≡ true
  handler_is None = refl
  handler_is (Some b) = stack_is b.stack b.body

  row_is : (k : written.Kind) → fine_row i k ≡ true
  row_is (written.Variable None) = refl
  row_is (written.Variable (Some n)) = refl
  row_is (written.Array size values) = words_are period declared [] values
  row_is (written.Semaphore first maximum discipline) = refl
  row_is written.Event = refl
  row_is (written.Buffer words messages discipline) = refl
  row_is (written.Blackboard words) = refl
  row_is written.Port = refl
  row_is (written.Procedure names b) =
      both (own_is period declared [] [] names) (both (own_is period declared [] (walk.with_own [] names) b.locals) (block_is period declared (walk.with_own (walk.with_own [] names) b.locals) true b.block))

  declarations_are : (before : List Entry) (t : Tally) (ds : List written.Declaration) → fine_declarations i before t ds ≡ true
  declarations_are before t [] = refl
  declarations_are before t (d ∷ ds) = both (both (no_tally_wrong (counted t d.kind) d.kind) (row_is d.kind)) (declarations_are (before ++ declaration_entry d ∷ []) (counted t d.kind) ds)

  odd_is : (n : written.Integer) → is_none (odd period n.negative n.magnitude) ≡ (cond n.negative true (is_written_multiple period n.magnitude))
  odd_is n = by n.negative n.magnitude
    where
      by : (b : Bool) (m : Option ℕ) → is_none (odd period b m) ≡ cond b true (is_written_multiple period m)
      by true m = refl
      by false None = refl
      by false (Some m) = found_unless (nat_lt 0 period && nat_eq (m % period) 0) _

  both_true : (a b : Bool) → b ≡ true → (a && b) ≡ a
  both_true true b h = h
  both_true false b h = refl

  processes_are : (before : List Entry) (count : ℕ) (ps : List written.Process) → fine_processes i before count ps ≡ list_all (keeps_period period) ps
  processes_are before count [] = refl
  processes_are before count (p ∷ ps) =
      both (both_true (is_none (odd period p.period.negative p.period.magnitude)) (fine_stack i p.stack p.body) (stack_is p.stack p.body) ∙ odd_is p.period)
      (processes_are (before ++ process_entry p ∷ []) (held (count + 1)) ps)

pub periods_found : (period : ℕ) (text : List ℕ) (p : written.Program) → periods_hold period p ≡ has_none (walk.wrongs rule.Period period text p)
periods_found period text p =
    let declared : List Entry = declared_entries p in
    sym (none_found rule.Period period text p
    ∙ both (declarations_are period declared [] no_tally p.declarations)
    (both (stack_is period declared p.init.stack p.init.body) (both (handler_is period declared p.handler) (processes_are period declared (walk.all_before [] p.declarations) 0 p.processes))))

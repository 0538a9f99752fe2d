-- The walk through the words of expressions and statements. The tree says what each word is.
use Rattle.std.specs.Prelude.{ℕ, Bool, true, false, List, [], ◌∷◌, length, Option}
use Rattle.apex_types.specs.ServiceShape.{arguments_of}
use Rattle.apex_types.specs.Limits.{MOST_WORK_TICKS}
use Rattle.apex_types.specs.declared.service.Service.{Service}
use Rattle.apex_types.specs.declared.shape.ArgumentKind.{ArgumentKind}
use Rattle.apex_types.specs.declared.shape.ArgumentKind.TheVariants as argument
use Rattle.pal_base.specs.declared.fault.Refusal.{Refusal}
use Rattle.pal_meaning.specs.Syntax as written
use Rattle.pal_meaning.specs.WellFormed.{expr_count}
use Rattle.source_findings.specs.Judged.{Judge, arguments_wrong, name_wrong, no_name_wrong, number_wrong, outside_wrong, return_wrong, targets_wrong}
use Rattle.source_findings.specs.What.{State, judged, noted, step}
use Rattle.source_findings.specs.declared.finding.Thing.TheVariants as thing
use Rattle.source_findings.specs.declared.roles.Role.{Role}
use Rattle.source_findings.specs.declared.roles.Role.TheVariants as role

-- after a comma; there is none before the first
abbrev pub comma : Bool → State → State
comma true s = s
comma false s = step s

-- a name that is used, and what is wanted there; and the state after it
abbrev pub used_here : Judge → Role → List ℕ → State → State
used_here j wanted name s = noted (name_wrong j name wanted) s

abbrev pub used : Judge → Role → List ℕ → State → State
used j wanted name s = step (used_here j wanted name s)

-- after an expression
abbrev mutual
  pub expr : Judge → written.Expr → State → State
  expr j (written.Number value) s = judged (number_wrong j.rule value) s
  expr j (written.Name name) s = used j role.Variable name s
  expr j (written.Element array index) s = step (expr j index (step (used j role.Array array s)))
  expr j (written.Apply procedure arguments) s = step (exprs j arguments true (step (used j (role.Procedure (expr_count arguments)) procedure s)))
  expr j (written.Parenthesis inside) s = step (expr j inside (step s))
  expr j (written.Unary operator operand) s = expr j operand (step s)
  expr j (written.Chain first rest) s = links j rest (expr j first s)

  pub links : Judge → written.Links → State → State
  links j written.NoLink s = s
  links j (written.MoreLinks operator operand rest) s = links j rest (expr j operand (step s))

  pub exprs : Judge → written.Exprs → Bool → State → State
  exprs j written.NoExpr first s = s
  exprs j (written.MoreExprs e es) first s = exprs j es false (expr j e (comma first s))

-- after a name and an expression in brackets
abbrev pub element : Judge → List ℕ → written.Expr → State → State
element j array index s = step (expr j index (step (used j role.Array array s)))

-- after the name of a procedure and its arguments
abbrev pub apply : Judge → List ℕ → written.Exprs → State → State
apply j procedure arguments s = step (exprs j arguments true (step (used j (role.Procedure (expr_count arguments)) procedure s)))

-- an expression where the name of something is wanted
abbrev pub no_name : Judge → Role → written.Expr → State → State
no_name j wanted e s = expr j e (noted (no_name_wrong j.rule wanted) s)

-- an argument of a service
abbrev pub named : Judge → Role → written.Expr → State → State
named j wanted (written.Name name) s = used j wanted name s
named j wanted e s = no_name j wanted e s

abbrev pub given : Judge → ArgumentKind → written.Expr → State → State
given j argument.Word e s = expr j e s
given j argument.Array e s = named j role.Array e s
given j (argument.Object kind) e s = named j (role.Object kind) e s

-- the arguments of a service; those beyond the ones that it takes are expressions
abbrev pub all_given : Judge → List ArgumentKind → written.Exprs → Bool → State → State
all_given j ks written.NoExpr first s = s
all_given j [] (written.MoreExprs e es) first s = all_given j [] es false (expr j e (comma first s))
all_given j (k ∷ ks) (written.MoreExprs e es) first s = all_given j ks es false (given j k e (comma first s))

-- the targets of a service, each after an arrow or a comma
abbrev pub targets : Judge → List (List ℕ) → State → State
targets j [] s = s
targets j (name ∷ names) s = targets j names (used j role.Variable name (step s))

-- the name of a service, at which the numbers of its arguments and targets are judged
abbrev pub asked : Refusal → Service → written.Exprs → List (List ℕ) → State → State
asked rule service es names s = judged (targets_wrong rule service (length names)) (noted (arguments_wrong rule service (expr_count es)) s)

-- a service, with its arguments and its targets, but for the semicolon
abbrev pub service_call : Judge → Service → written.Exprs → List (List ℕ) → State → State
service_call j service es names s =
    targets j names (step (all_given j (arguments_of service) es true (step (asked j.rule service es names s))))

abbrev pub work : Refusal → Option ℕ → State → State
work rule ticks s = judged (outside_wrong rule thing.Work 1 MOST_WORK_TICKS ticks) (step s)

-- after a statement, before the semicolon or the brace that ends it; only the body of a procedure may return
abbrev mutual
  pub stmt : Judge → Bool → written.Stmt → State → State
  stmt j returns (written.Assign target value) s = expr j value (step (used j role.Variable target s))
  stmt j returns (written.AssignElement array index value) s = expr j value (step (element j array index s))
  stmt j returns (written.If test inside) s = block j returns inside (step (expr j test (step s)))
  stmt j returns (written.IfElse test inside other) s = block j returns other (step (step (step (block j returns inside (step (expr j test (step s)))))))
  stmt j returns (written.While test inside) s = block j returns inside (step (expr j test (step s)))
  stmt j returns (written.Work ticks) s = work j.rule ticks s
  stmt j returns (written.Return value) s = expr j value (judged (return_wrong j.rule returns) s)
  stmt j returns (written.CallService service arguments names) s = service_call j service arguments names s

  pub block : Judge → Bool → written.Block → State → State
  block j returns written.NoStmt s = s
  block j returns (written.MoreStmts first rest) s = block j returns rest (step (stmt j returns first s))

-- after `if` or `while`, a test and an opening brace
abbrev pub tested : Judge → written.Expr → State → State
tested j test s = step (expr j test (step s))

-- after the brace that closes a branch, `else`, and the statements in braces, before the closing brace
abbrev pub otherwise : Judge → Bool → written.Block → State → State
otherwise j returns inside s = block j returns inside (step (step (step s)))

-- The words of stack that a body needs, computed from the program as it is written. A number beyond 64 bits becomes the greatest of 64 bits.
use Rattle.std.specs.Prelude.{ℕ, ◌+◌, max, min, List, ◌∷◌, length}
use Rattle.apex_types.specs.ServiceShape.{answer_words, arguments_of}
use Rattle.apex_types.specs.Limits.{MOST_LOCALS, MOST_PARAMETERS}
use Rattle.apex_types.specs.declared.service.Service.{Service}
use Rattle.apex_types.specs.declared.shape.ArgumentKind.{ArgumentKind}
use Rattle.apex_types.specs.declared.shape.ArgumentKind.TheVariants as argument
use Rattle.pal_meaning.specs.Resolve.{count_within}
use Rattle.pal_meaning.specs.Syntax as written

abbrev pub held : ℕ → ℕ
held number = min number 18446744073709551615

-- the greatest number of operands that wait at the same time
abbrev mutual
  pub expr_operands : written.Expr → ℕ
  expr_operands (written.Number value) = 1
  expr_operands (written.Name name) = 1
  expr_operands (written.Element array index) = expr_operands index
  expr_operands (written.Apply procedure arguments) = max 1 (exprs_operands arguments)
  expr_operands (written.Parenthesis inside) = expr_operands inside
  expr_operands (written.Unary operator operand) = expr_operands operand
  expr_operands (written.Chain first rest) = max (expr_operands first) (links_operands rest)

  pub links_operands : written.Links → ℕ
  links_operands written.NoLink = 0
  links_operands (written.MoreLinks operator operand rest) = max (1 + expr_operands operand) (links_operands rest)

  -- an argument waits while those after it are evaluated
  pub exprs_operands : written.Exprs → ℕ
  exprs_operands written.NoExpr = 0
  exprs_operands (written.MoreExprs first rest) = max (expr_operands first) (1 + exprs_operands rest)

-- an argument of a service, given the operands of those after it: an array is two operands, its place and its size; any other name is one
abbrev pub argument_operands : ArgumentKind → written.Expr → ℕ → ℕ
argument_operands argument.Word e rest = max (expr_operands e) (1 + rest)
argument_operands argument.Array e rest = max 1 (1 + max 1 (1 + rest))
argument_operands (argument.Object kind) e rest = max 1 (1 + rest)

abbrev pub arguments_operands : List ArgumentKind → written.Exprs → ℕ
arguments_operands (k ∷ ks) (written.MoreExprs e es) = argument_operands k e (arguments_operands ks es)
arguments_operands ks es = 0

abbrev pub service_operands : Service → written.Exprs → ℕ
service_operands service es = max (answer_words service) (arguments_operands (arguments_of service) es)

abbrev mutual
  pub stmt_operands : written.Stmt → ℕ
  stmt_operands (written.Assign target value) = expr_operands value
  stmt_operands (written.AssignElement array index value) = max (expr_operands index) (1 + expr_operands value)
  stmt_operands (written.If test block) = max (expr_operands test) (block_operands block)
  stmt_operands (written.IfElse test block other) = max (expr_operands test) (max (block_operands block) (block_operands other))
  stmt_operands (written.While test block) = max (expr_operands test) (block_operands block)
  stmt_operands (written.Work ticks) = 0
  stmt_operands (written.Return value) = expr_operands value
  stmt_operands (written.CallService service arguments targets) = service_operands service arguments

  pub block_operands : written.Block → ℕ
  block_operands written.NoStmt = 0
  block_operands (written.MoreStmts first rest) = max (stmt_operands first) (block_operands rest)

-- the frame of a body that is no procedure's: its locals, its operands, and two words for its caller
abbrev pub body_frame : written.Body → ℕ
body_frame b = held (count_within MOST_LOCALS (length b.locals) + block_operands b.block + 2)

-- the frame of a procedure: its parameters too, and the 0 with which it closes is an operand
abbrev pub procedure_frame : List (List ℕ) → written.Body → ℕ
procedure_frame parameters b = held (count_within MOST_PARAMETERS (length parameters) + count_within MOST_LOCALS (length b.locals) + max 1 (block_operands b.block) + 2)

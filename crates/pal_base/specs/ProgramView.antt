-- A program with its names resolved, as the definitions see the value in the code.
use Rattle.std.specs.Prelude.{List, [], ◌∷◌, map}
use Rattle.std.specs.Option.{option_map}
use Rattle.pal_base.specs.declared.program.Expr as code_expr
use Rattle.pal_base.specs.declared.program.Link as code_link
use Rattle.pal_base.specs.declared.program.Stmt as code_stmt
use Rattle.pal_base.specs.declared.program.Body as code_body
use Rattle.pal_base.specs.declared.program.Procedure as code_procedure
use Rattle.pal_base.specs.declared.program.Process as code_process
use Rattle.pal_base.specs.declared.program.Program as code_program
use Rattle.pal_meaning.specs.Program as tree

-- an expression; the rows are those of its arguments and of its operators with their operands
abbrev mutual
  pub expr_of : code_expr.Expr → tree.Expr
  expr_of (code_expr.Literal value) = tree.Literal value
  expr_of (code_expr.Read place) = tree.Read place
  expr_of (code_expr.Element' place size p index) = tree.Element place size (expr_of index)
  expr_of (code_expr.Unary' operator p operand) = tree.Unary operator (expr_of operand)
  expr_of (code_expr.Chain' p first shape links) = tree.Chain (expr_of first) (link_row links)
  expr_of (code_expr.Apply' procedure shape arguments) = tree.Apply procedure (expr_row arguments)

  pub expr_row : {m : _} → code_expr.Row_of-Expr m → tree.Exprs
  expr_row code_expr.end_of-Expr = tree.NoExpr
  expr_row (code_expr.more_of-Expr e es) = tree.MoreExprs (expr_of e) (expr_row es)

  pub link_row : {m : _} → code_expr.Row_of-Link m → tree.Links
  link_row code_expr.end_of-Link = tree.NoLink
  link_row (code_expr.more_of-Link operator e ls) = tree.MoreLinks operator (expr_of e) (link_row ls)

abbrev pub exprs_of : List code_expr.Expr → tree.Exprs
exprs_of [] = tree.NoExpr
exprs_of (e ∷ es) = tree.MoreExprs (expr_of e) (exprs_of es)

abbrev pub links_of : List code_link.Link → tree.Links
links_of [] = tree.NoLink
links_of (l ∷ ls) = tree.MoreLinks l.operator (expr_of l.operand) (links_of ls)

-- a statement; the row is that of a block
abbrev mutual
  pub stmt_of : code_stmt.Stmt → tree.Stmt
  stmt_of (code_stmt.Assign place value) = tree.Assign place (expr_of value)
  stmt_of (code_stmt.AssignElement place size index value) = tree.AssignElement place size (expr_of index) (expr_of value)
  stmt_of (code_stmt.If' test shape ss) = tree.If (expr_of test) (stmt_row ss)
  stmt_of (code_stmt.IfElse' test shape ss other ts) = tree.IfElse (expr_of test) (stmt_row ss) (stmt_row ts)
  stmt_of (code_stmt.While' test shape ss) = tree.While (expr_of test) (stmt_row ss)
  stmt_of (code_stmt.Work ticks) = tree.Work ticks
  stmt_of (code_stmt.Return value) = tree.Return (expr_of value)
  stmt_of (code_stmt.CallService service arguments targets) = tree.CallService service (exprs_of arguments.items) targets.items

  pub stmt_row : {m : _} → code_stmt.Row_of-Stmt m → tree.Block
  stmt_row code_stmt.end_of-Stmt = tree.NoStmt
  stmt_row (code_stmt.more_of-Stmt s ss) = tree.MoreStmts (stmt_of s) (stmt_row ss)

abbrev pub block_of : List code_stmt.Stmt → tree.Block
block_of [] = tree.NoStmt
block_of (s ∷ ss) = tree.MoreStmts (stmt_of s) (block_of ss)

abbrev pub body_of : code_body.Body → tree.Body
body_of b = record { stack = b.stack; locals = b.locals; block = block_of b.block.items }

abbrev pub procedure_of : code_procedure.Procedure → tree.Procedure
procedure_of p = record { parameters = p.parameters; locals = p.locals; block = block_of p.block.items }

abbrev pub process_of : code_process.Process → tree.Process
process_of p = record { name = p.name; priority = p.priority.0; period = p.period; capacity = p.capacity; body = body_of p.body }

abbrev pub program_of : code_program.Program → tree.Program
program_of p = record {
  initial = p.initial.items;
  semaphores = p.semaphores.items;
  events = p.events;
  buffers = p.buffers.items;
  blackboards = p.blackboards.items;
  procedures = map procedure_of p.procedures.items;
  init = body_of p.init;
  handler = option_map body_of p.handler;
  processes = map process_of p.processes.items;
}

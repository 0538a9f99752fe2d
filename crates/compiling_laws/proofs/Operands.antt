-- The number of operands that wait together is at most the number of instructions, plus six for the
-- words of a reply.
use Rattle.compiling_laws.proofs.Prelude.{◌+◌, ◌≤◌, Service, answer_words, Expr, Links, Exprs, Stmt, Block, Literal, Read, Element, Unary, Chain, Apply, NoLink, MoreLinks, NoExpr, MoreExprs, Assign, AssignElement, If, IfElse, While, Work, Return, CallService, NoStmt, MoreStmts, size_of_expr, size_of_links, size_of_exprs, size_of_stmt, size_of_block, operands_of_expr, operands_of_links, operands_of_exprs, operands_of_stmt, operands_of_block}
use Rattle.std.proofs.Common.{arith}
use Rattle.apex_types.specs.declared.service.Service.TheVariants as service

answer_few : (s : Service) → answer_words s ≤ 7
answer_few service.GetPartitionStatus = omega arith
answer_few _ = omega arith

pub expr_some : (e : Expr) → 1 ≤ size_of_expr e
expr_some (Literal v) = omega arith
expr_some (Read place) = omega arith
expr_some (Element place size index) = omega arith
expr_some (Unary operator operand) = omega arith
expr_some (Chain first rest) = omega (arith, expr_some first)
expr_some (Apply procedure arguments) = omega arith

mutual
  expr_operands : (e : Expr) → operands_of_expr e ≤ size_of_expr e
  expr_operands (Literal v) = omega arith
  expr_operands (Read place) = omega arith
  expr_operands (Element place size index) = omega (arith, expr_operands index)
  expr_operands (Unary operator operand) = omega (arith, expr_operands operand)
  expr_operands (Chain first rest) = omega (arith, expr_operands first, links_operands rest)
  expr_operands (Apply procedure arguments) = omega (arith, exprs_operands arguments)

  links_operands : (ls : Links) → operands_of_links ls ≤ size_of_links ls
  links_operands NoLink = omega arith
  links_operands (MoreLinks operator operand rest) = omega (arith, expr_operands operand, links_operands rest)

  exprs_operands : (es : Exprs) → operands_of_exprs es ≤ size_of_exprs es
  exprs_operands NoExpr = omega arith
  exprs_operands (MoreExprs first rest) = omega (arith, expr_operands first, exprs_operands rest, expr_some first)

mutual
  stmt_operands : (s : Stmt) → operands_of_stmt s ≤ size_of_stmt s + 6
  stmt_operands (Assign place value) = omega (arith, expr_operands value)
  stmt_operands (AssignElement place size index value) = omega (arith, expr_operands index, expr_operands value)
  stmt_operands (If test block) = omega (arith, expr_operands test, block_operands block)
  stmt_operands (IfElse test block other) = omega (arith, expr_operands test, block_operands block, block_operands other)
  stmt_operands (While test block) = omega (arith, expr_operands test, block_operands block)
  stmt_operands (Work ticks) = omega arith
  stmt_operands (Return value) = omega (arith, expr_operands value)
  stmt_operands (CallService service arguments targets) = omega (arith, exprs_operands arguments, answer_few service)

  pub block_operands : (b : Block) → operands_of_block b ≤ size_of_block b + 6
  block_operands NoStmt = omega arith
  block_operands (MoreStmts first rest) = omega (arith, stmt_operands first, block_operands rest)

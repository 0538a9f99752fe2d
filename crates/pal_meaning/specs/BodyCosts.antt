-- The cost of a body in ticks, loops counted once: what `mb cost` reports.
use Rattle.std.specs.Prelude.{ℕ, List, ◌+◌, [], ◌∷◌, ◌++◌, map}
use Rattle.std.specs.List.{sum}
use Rattle.apex_types.specs.declared.cost.Costs.{Costs}
use Rattle.apex_types.specs.ServiceShape.{cost_of_service}
use Rattle.engine_meaning.specs.Operators.{cost_of_binary}
pub use Rattle.pal_meaning.specs.Program.{size_of_body, size_of_procedure, frame_of_body, frame_of_procedure}
use Rattle.pal_meaning.specs.Program.{Expr, Exprs, Links, Stmt, Block, Procedure, Body, Literal, Read, Element, Unary, Chain, Apply, NoLink, MoreLinks, NoExpr, MoreExprs, Assign, AssignElement, If, IfElse, While, Work, Return, CallService, NoStmt, MoreStmts}

-- The cost of a construct does not depend on the constructs around it.

-- the costs of the constructs of an expression, in the order in which they take effect
abbrev mutual
  pub costs_of_expr : Costs → Expr → List ℕ
  costs_of_expr costs (Literal value) = costs.literal.ticks ∷ []
  costs_of_expr costs (Read place) = costs.scalar.ticks ∷ []
  costs_of_expr costs (Element place size index) = costs_of_expr costs index ++ (costs.array.ticks ∷ [])
  costs_of_expr costs (Unary operator operand) = costs_of_expr costs operand ++ (costs.logic.ticks ∷ [])
  costs_of_expr costs (Chain first rest) = costs_of_expr costs first ++ costs_of_links costs rest
  costs_of_expr costs (Apply procedure arguments) = costs_of_exprs costs arguments ++ (costs.call.ticks ∷ [])

  pub costs_of_links : Costs → Links → List ℕ
  costs_of_links costs NoLink = []
  costs_of_links costs (MoreLinks operator operand rest) = costs_of_expr costs operand ++ (cost_of_binary costs operator ∷ costs_of_links costs rest)

  pub costs_of_exprs : Costs → Exprs → List ℕ
  costs_of_exprs costs NoExpr = []
  costs_of_exprs costs (MoreExprs first rest) = costs_of_expr costs first ++ costs_of_exprs costs rest

-- The same for a statement. A service costs by its kind, and writing a target as much as a scalar.
abbrev mutual
  pub costs_of_stmt : Costs → Stmt → List ℕ
  costs_of_stmt costs (Assign place value) = costs_of_expr costs value ++ (costs.scalar.ticks ∷ [])
  costs_of_stmt costs (AssignElement place size index value) = costs_of_expr costs index ++ costs_of_expr costs value ++ (costs.array.ticks ∷ [])
  costs_of_stmt costs (If test then) = costs_of_expr costs test ++ (costs.branch.ticks ∷ costs_of_block costs then)
  costs_of_stmt costs (IfElse test then other) = costs_of_expr costs test ++ (costs.branch.ticks ∷ costs_of_block costs then) ++ (costs.jump.ticks ∷ costs_of_block costs other)
  costs_of_stmt costs (While test block) = costs_of_expr costs test ++ (costs.branch.ticks ∷ costs_of_block costs block) ++ (costs.jump.ticks ∷ [])
  costs_of_stmt costs (Work ticks) = ticks ∷ []
  costs_of_stmt costs (Return value) = costs_of_expr costs value ++ (costs.ret.ticks ∷ [])
  costs_of_stmt costs (CallService service arguments targets) = costs_of_exprs costs arguments ++ (cost_of_service costs service ∷ map (λ _. costs.scalar.ticks) targets)

  pub costs_of_block : Costs → Block → List ℕ
  costs_of_block costs NoStmt = []
  costs_of_block costs (MoreStmts first rest) = costs_of_stmt costs first ++ costs_of_block costs rest

-- a procedure closes with a literal 0 and a return
abbrev pub costs_of_procedure : Costs → Procedure → List ℕ
costs_of_procedure costs p = costs_of_block costs p.block ++ (costs.literal.ticks ∷ costs.ret.ticks ∷ [])

abbrev pub costs_of_body : Costs → Body → List ℕ
costs_of_body costs b = costs_of_block costs b.block ++ (costs.end.ticks ∷ [])

-- the sum of the costs
abbrev pub cost_of_procedure : Costs → Procedure → ℕ
cost_of_procedure costs p = sum (costs_of_procedure costs p)

abbrev pub cost_of_body : Costs → Body → ℕ
cost_of_body costs b = sum (costs_of_body costs b)

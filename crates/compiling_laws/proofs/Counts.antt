-- Each construct has one cost, so there are as many costs as constructs.
use Rattle.compiling_laws.proofs.Prelude.{◌≡◌, ◌∷◌, ◌++◌, length, map, refl, length-append, length-map, Costs, cost_of_binary, cost_of_service, Procedure, Body, Expr, Links, Exprs, Stmt, Block, Literal, Read, Element, Unary, Chain, Apply, NoLink, MoreLinks, NoExpr, MoreExprs, Assign, AssignElement, If, IfElse, While, Work, Return, CallService, NoStmt, MoreStmts, size_of_expr, size_of_links, size_of_exprs, size_of_stmt, size_of_block, size_of_procedure, size_of_body, costs_of_expr, costs_of_links, costs_of_exprs, costs_of_stmt, costs_of_block, costs_of_procedure, costs_of_body}
use Rattle.std.proofs.Common.{[], arith}

module _ (costs : Costs) where
  mutual
    expr_counts : (e : Expr) → length (costs_of_expr costs e) ≡ size_of_expr e
    expr_counts (Literal value) = refl
    expr_counts (Read place) = refl
    expr_counts (Element place size index) = omega (arith, length-append (costs_of_expr costs index) (costs.array.ticks ∷ []), expr_counts index)
    expr_counts (Unary operator operand) = omega (arith, length-append (costs_of_expr costs operand) (costs.logic.ticks ∷ []), expr_counts operand)
    expr_counts (Chain first rest) = omega (arith, length-append (costs_of_expr costs first) (costs_of_links costs rest), expr_counts first, links_counts rest)
    expr_counts (Apply procedure arguments) = omega (arith, length-append (costs_of_exprs costs arguments) (costs.call.ticks ∷ []), exprs_counts arguments)

    links_counts : (ls : Links) → length (costs_of_links costs ls) ≡ size_of_links ls
    links_counts NoLink = refl
    links_counts (MoreLinks operator operand rest) = omega (arith, length-append (costs_of_expr costs operand) (cost_of_binary costs operator ∷ costs_of_links costs rest), expr_counts operand, links_counts rest)

    exprs_counts : (es : Exprs) → length (costs_of_exprs costs es) ≡ size_of_exprs es
    exprs_counts NoExpr = refl
    exprs_counts (MoreExprs first rest) = omega (arith, length-append (costs_of_expr costs first) (costs_of_exprs costs rest), expr_counts first, exprs_counts rest)

  mutual
    stmt_counts : (s : Stmt) → length (costs_of_stmt costs s) ≡ size_of_stmt s
    stmt_counts (Assign place value) = omega (arith, length-append (costs_of_expr costs value) (costs.scalar.ticks ∷ []), expr_counts value)
    stmt_counts (AssignElement place size index value) =
        omega (arith, length-append (costs_of_expr costs index ++ costs_of_expr costs value) (costs.array.ticks ∷ []), length-append (costs_of_expr costs index) (costs_of_expr costs value), expr_counts index, expr_counts value)
    stmt_counts (If test block) = omega (arith, length-append (costs_of_expr costs test) (costs.branch.ticks ∷ costs_of_block costs block), expr_counts test, block_counts block)
    stmt_counts (IfElse test block other) =
        let front = costs.branch.ticks ∷ costs_of_block costs block in
        omega (arith, length-append (costs_of_expr costs test ++ front) (costs.jump.ticks ∷ costs_of_block costs other), length-append (costs_of_expr costs test) front, expr_counts test, block_counts block, block_counts other)
    stmt_counts (While test block) =
        let front = costs.branch.ticks ∷ costs_of_block costs block in
        omega (arith, length-append (costs_of_expr costs test ++ front) (costs.jump.ticks ∷ []), length-append (costs_of_expr costs test) front, expr_counts test, block_counts block)
    stmt_counts (Work ticks) = refl
    stmt_counts (Return value) = omega (arith, length-append (costs_of_expr costs value) (costs.ret.ticks ∷ []), expr_counts value)
    stmt_counts (CallService service arguments targets) =
        omega (arith, length-append (costs_of_exprs costs arguments) (cost_of_service costs service ∷ map (λ _. costs.scalar.ticks) targets), length-map targets (λ _. costs.scalar.ticks), exprs_counts arguments)

    block_counts : (b : Block) → length (costs_of_block costs b) ≡ size_of_block b
    block_counts NoStmt = refl
    block_counts (MoreStmts first rest) = omega (arith, length-append (costs_of_stmt costs first) (costs_of_block costs rest), stmt_counts first, block_counts rest)

  pub procedure_counts : (p : Procedure) → length (costs_of_procedure costs p) ≡ size_of_procedure p
  procedure_counts p = omega (arith, length-append (costs_of_block costs p.block) (costs.literal.ticks ∷ costs.ret.ticks ∷ []), block_counts p.block)

  pub body_counts : (b : Body) → length (costs_of_body costs b) ≡ size_of_body b
  body_counts b = omega (arith, length-append (costs_of_block costs b.block) (costs.end.ticks ∷ []), block_counts b.block)

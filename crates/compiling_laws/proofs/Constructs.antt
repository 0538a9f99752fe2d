-- A list of parts unfolds into its simple constructs, each once; their costs are the counted ones.
use Rattle.compiling_laws.proofs.Prelude.{◌≡◌, pos, List, ◌∷◌, ◌++◌, map, refl, sym, ap, ◌∙◌, append_assoc, Costs, Place, Procedure, Body, Expr, Links, Exprs, Stmt, Block, Literal, Read, Element, Unary, Chain, Apply, NoLink, MoreLinks, NoExpr, MoreExprs, Assign, AssignElement, If, IfElse, While, Work, Return, CallService, NoStmt, MoreStmts, Part, Evaluate, Execute, Do, Simple, Value, ReadElement, OperateOne, OperateTwo, Open, WriteScalar, WriteElement, Choose, ChooseElse, Repeat, ReturnValue, Ask, EndBody, Front, links_then, exprs_then, block_then, targets_then, front_of_expr, front_of_exprs, front_of_stmt, front_of, cost_of_simple, parts_of_body, parts_of_procedure, costs_of_expr, costs_of_links, costs_of_exprs, costs_of_stmt, costs_of_block, costs_of_procedure, costs_of_body}
use Rattle.std.proofs.Common.{[]}
use Rattle.std.proofs.lemmas.List.{map-append}
use Rattle.compiling_laws.specs.Constructs.{constructs_of_expr, constructs_of_links, constructs_of_exprs, constructs_of_stmt, constructs_of_block, with_held, constructs_of}

links_constructs : (ls : Links) (r : List Part) → constructs_of (links_then ls r) ≡ constructs_of_links ls ++ constructs_of r
links_constructs NoLink r = refl
links_constructs (MoreLinks operator e ls) r = ap (λ xs. constructs_of_expr e ++ (OperateTwo operator ∷ xs)) (links_constructs ls r) ∙ simp append_assoc

exprs_constructs : (es : Exprs) (r : List Part) → constructs_of (exprs_then es r) ≡ constructs_of_exprs es ++ constructs_of r
exprs_constructs NoExpr r = refl
exprs_constructs (MoreExprs e es) r = ap (λ xs. constructs_of_expr e ++ xs) (exprs_constructs es r) ∙ simp append_assoc

block_constructs : (b : Block) (r : List Part) → constructs_of (block_then b r) ≡ constructs_of_block b ++ constructs_of r
block_constructs NoStmt r = refl
block_constructs (MoreStmts s b) r = ap (λ xs. constructs_of_stmt s ++ xs) (block_constructs b r) ∙ simp append_assoc

targets_constructs : (ts : List Place) (r : List Part) → constructs_of (targets_then ts r) ≡ map WriteScalar ts ++ constructs_of r
targets_constructs [] r = refl
targets_constructs (t ∷ ts) r = ap (λ xs. WriteScalar t ∷ xs) (targets_constructs ts r)

-- the constructs of the unfolded front and of the parts after it
abbrev unfolded : Front → List Simple
unfolded f = with_held f.construct ++ constructs_of f.rest

mutual
  expr_unfolds : (e : Expr) (r : List Part) → unfolded (front_of_expr e r) ≡ constructs_of_expr e ++ constructs_of r
  expr_unfolds (Literal v) r = refl
  expr_unfolds (Read place) r = refl
  expr_unfolds (Element place size index) r = expr_unfolds index (Do (ReadElement place size) ∷ r) ∙ simp append_assoc
  expr_unfolds (Unary operator e) r = expr_unfolds e (Do (OperateOne operator) ∷ r) ∙ simp append_assoc
  expr_unfolds (Chain e ls) r = expr_unfolds e (links_then ls r) ∙ ap (λ xs. constructs_of_expr e ++ xs) (links_constructs ls r) ∙ simp append_assoc
  expr_unfolds (Apply f es) r = exprs_unfold es (Open f) r ∙ simp append_assoc

  exprs_unfold : (es : Exprs) (c : Simple) (r : List Part) → unfolded (front_of_exprs es c r) ≡ constructs_of_exprs es ++ (with_held c ++ constructs_of r)
  exprs_unfold NoExpr c r = refl
  exprs_unfold (MoreExprs e es) c r = expr_unfolds e (exprs_then es (Do c ∷ r)) ∙ ap (λ xs. constructs_of_expr e ++ xs) (exprs_constructs es (Do c ∷ r)) ∙ simp append_assoc

stmt_unfolds : (s : Stmt) (r : List Part) → unfolded (front_of_stmt s r) ≡ constructs_of_stmt s ++ constructs_of r
stmt_unfolds (Assign place e) r = expr_unfolds e (Do (WriteScalar place) ∷ r) ∙ simp append_assoc
stmt_unfolds (AssignElement place size index e) r = expr_unfolds index (Evaluate e ∷ Do (WriteElement place size) ∷ r) ∙ simp append_assoc
stmt_unfolds (If test block) r = expr_unfolds test (Do (Choose block) ∷ r) ∙ simp append_assoc
stmt_unfolds (IfElse test block other) r = expr_unfolds test (Do (ChooseElse block other) ∷ r) ∙ simp append_assoc
stmt_unfolds (While test block) r = expr_unfolds test (Do (Repeat test block) ∷ r) ∙ simp append_assoc
stmt_unfolds (Work ticks) r = refl
stmt_unfolds (Return e) r = expr_unfolds e (Do ReturnValue ∷ r) ∙ simp append_assoc
stmt_unfolds (CallService service es ts) r = exprs_unfold es (Ask service) (targets_then ts r) ∙ ap (λ xs. constructs_of_exprs es ++ (Ask service ∷ xs)) (targets_constructs ts r) ∙ simp append_assoc

pub part_unfolds : (part : Part) (rest : List Part) → constructs_of (part ∷ rest) ≡ with_held (front_of (part ∷ rest)).construct ++ constructs_of (front_of (part ∷ rest)).rest
part_unfolds (Evaluate e) rest = sym (expr_unfolds e rest)
part_unfolds (Execute s) rest = sym (stmt_unfolds s rest)
part_unfolds (Do c) rest = refl

-- their costs
module _ (costs : Costs) where
  mutual
    expr_costs : (e : Expr) → costs_of_expr costs e ≡ map (cost_of_simple costs) (constructs_of_expr e)
    expr_costs (Literal v) = refl
    expr_costs (Read place) = refl
    expr_costs (Element place size index) = simp (expr_costs index, map-append)
    expr_costs (Unary operator e) = simp (expr_costs e, map-append)
    expr_costs (Chain e ls) = simp (expr_costs e, links_costs ls, map-append)
    expr_costs (Apply f es) = simp (exprs_costs es, map-append)

    links_costs : (ls : Links) → costs_of_links costs ls ≡ map (cost_of_simple costs) (constructs_of_links ls)
    links_costs NoLink = refl
    links_costs (MoreLinks operator e ls) = simp (expr_costs e, links_costs ls, map-append)

    exprs_costs : (es : Exprs) → costs_of_exprs costs es ≡ map (cost_of_simple costs) (constructs_of_exprs es)
    exprs_costs NoExpr = refl
    exprs_costs (MoreExprs e es) = simp (expr_costs e, exprs_costs es, map-append)

  targets_costs : (ts : List Place) → map (λ _. costs.scalar.ticks) ts ≡ map (cost_of_simple costs) (map WriteScalar ts)
  targets_costs [] = refl
  targets_costs (t ∷ ts) = ap (λ xs. costs.scalar.ticks ∷ xs) (targets_costs ts)

  mutual
    stmt_costs : (s : Stmt) → costs_of_stmt costs s ≡ map (cost_of_simple costs) (constructs_of_stmt s)
    stmt_costs (Assign place e) = simp (expr_costs e, map-append)
    stmt_costs (AssignElement place size index e) = simp (expr_costs index, expr_costs e, map-append)
    stmt_costs (If test block) = simp (expr_costs test, block_costs block, map-append)
    stmt_costs (IfElse test block other) = simp (expr_costs test, block_costs block, block_costs other, map-append, append_assoc)
    stmt_costs (While test block) = simp (expr_costs test, block_costs block, map-append, append_assoc)
    stmt_costs (Work ticks) = refl
    stmt_costs (Return e) = simp (expr_costs e, map-append)
    stmt_costs (CallService service es ts) = simp (exprs_costs es, targets_costs ts, map-append)

    block_costs : (b : Block) → costs_of_block costs b ≡ map (cost_of_simple costs) (constructs_of_block b)
    block_costs NoStmt = refl
    block_costs (MoreStmts s b) = simp (stmt_costs s, block_costs b, map-append)

  pub body_costs : (b : Body) → costs_of_body costs b ≡ map (cost_of_simple costs) (constructs_of (parts_of_body b))
  body_costs b = simp (block_constructs b.block (Do EndBody ∷ []), block_costs b.block, map-append)

  pub procedure_costs : (p : Procedure) → costs_of_procedure costs p ≡ map (cost_of_simple costs) (constructs_of (parts_of_procedure p))
  procedure_costs p = simp (block_constructs p.block (Do (Value (pos 0)) ∷ Do ReturnValue ∷ []), block_costs p.block, map-append)

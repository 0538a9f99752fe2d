-- The numbers that calls in a program give to some services.
use Rattle.std.specs.Prelude.{ℤ, Bool, true, false}
use Rattle.apex_types.specs.declared.service.Service.{Service}
use Rattle.pal_meaning.specs.Program.{Exprs, Stmt, Block, Literal, NoExpr, MoreExprs, If, IfElse, While, CallService, NoStmt, MoreStmts}

-- the only argument is a number as it is written, and this holds of it
abbrev pub IsNumber : (ℤ → Type 0) → Exprs → Type 0
IsNumber Fits (MoreExprs (Literal value) NoExpr) = Fits value
IsNumber Fits _ = ⊥

-- so it is, if the service is one of some
abbrev pub CallFits : Bool → (ℤ → Type 0) → Exprs → Type 0
CallFits true Fits arguments = IsNumber Fits arguments
CallFits false Fits arguments = Unit {0}

-- so it is at each call of these services in a statement, and in a block
abbrev mutual
  pub StmtFits : (Service → Bool) → (ℤ → Type 0) → Stmt → Type 0
  StmtFits wanted Fits (If test then) = BlockFits wanted Fits then
  StmtFits wanted Fits (IfElse test then other) = BlockFits wanted Fits then × BlockFits wanted Fits other
  StmtFits wanted Fits (While test block) = BlockFits wanted Fits block
  StmtFits wanted Fits (CallService service arguments targets) = CallFits (wanted service) Fits arguments
  StmtFits wanted Fits _ = Unit {0}

  pub BlockFits : (Service → Bool) → (ℤ → Type 0) → Block → Type 0
  BlockFits wanted Fits NoStmt = Unit {0}
  BlockFits wanted Fits (MoreStmts first rest) = StmtFits wanted Fits first × BlockFits wanted Fits rest

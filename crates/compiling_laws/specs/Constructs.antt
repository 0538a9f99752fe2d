-- The simple constructs of a program's parts, each once, in the order in which they are written. A
-- branch holds the constructs of its blocks, and the jump after or before them.
use Rattle.std.specs.Prelude.{List, [], ◌∷◌, ◌++◌, map}
use Rattle.pal_meaning.specs.Program.{Expr, Links, Exprs, Stmt, Block}
use Rattle.pal_meaning.specs.Program.{Literal, Read, Element, Unary, Chain, Apply, NoLink, MoreLinks, NoExpr, MoreExprs}
use Rattle.pal_meaning.specs.Program.{Assign, AssignElement, If, IfElse, While, Work, Return, CallService, NoStmt, MoreStmts}
use Rattle.pal_meaning.specs.SourceControl.{Part, Evaluate, Execute, Do, Simple, Value, ReadScalar, ReadElement, OperateOne, OperateTwo, Open, WriteScalar, WriteElement, Choose, ChooseElse, Repeat, Leave, GoBack, Spend, ReturnValue, Ask}

abbrev mutual
  pub constructs_of_expr : Expr → List Simple
  constructs_of_expr (Literal value) = Value value ∷ []
  constructs_of_expr (Read place) = ReadScalar place ∷ []
  constructs_of_expr (Element place size index) = constructs_of_expr index ++ (ReadElement place size ∷ [])
  constructs_of_expr (Unary operator operand) = constructs_of_expr operand ++ (OperateOne operator ∷ [])
  constructs_of_expr (Chain first rest) = constructs_of_expr first ++ constructs_of_links rest
  constructs_of_expr (Apply procedure arguments) = constructs_of_exprs arguments ++ (Open procedure ∷ [])

  pub constructs_of_links : Links → List Simple
  constructs_of_links NoLink = []
  constructs_of_links (MoreLinks operator operand rest) = constructs_of_expr operand ++ (OperateTwo operator ∷ constructs_of_links rest)

  pub constructs_of_exprs : Exprs → List Simple
  constructs_of_exprs NoExpr = []
  constructs_of_exprs (MoreExprs first rest) = constructs_of_expr first ++ constructs_of_exprs rest

abbrev mutual
  pub constructs_of_stmt : Stmt → List Simple
  constructs_of_stmt (Assign place value) = constructs_of_expr value ++ (WriteScalar place ∷ [])
  constructs_of_stmt (AssignElement place size index value) = constructs_of_expr index ++ constructs_of_expr value ++ (WriteElement place size ∷ [])
  constructs_of_stmt (If test block) = constructs_of_expr test ++ (Choose block ∷ constructs_of_block block)
  constructs_of_stmt (IfElse test block other) = constructs_of_expr test ++ (ChooseElse block other ∷ constructs_of_block block ++ (Leave ∷ constructs_of_block other))
  constructs_of_stmt (While test block) = constructs_of_expr test ++ (Repeat test block ∷ constructs_of_block block ++ (GoBack test block ∷ []))
  constructs_of_stmt (Work ticks) = Spend ticks ∷ []
  constructs_of_stmt (Return value) = constructs_of_expr value ++ (ReturnValue ∷ [])
  constructs_of_stmt (CallService service arguments targets) = constructs_of_exprs arguments ++ (Ask service ∷ map WriteScalar targets)

  pub constructs_of_block : Block → List Simple
  constructs_of_block NoStmt = []
  constructs_of_block (MoreStmts first rest) = constructs_of_stmt first ++ constructs_of_block rest

-- a construct, and what it holds
abbrev pub with_held : Simple → List Simple
with_held (Choose block) = Choose block ∷ constructs_of_block block
with_held (ChooseElse block other) = ChooseElse block other ∷ constructs_of_block block ++ (Leave ∷ constructs_of_block other)
with_held (Repeat test block) = Repeat test block ∷ constructs_of_block block ++ (GoBack test block ∷ [])
with_held construct = construct ∷ []

-- the simple constructs of the parts to do
abbrev pub constructs_of : List Part → List Simple
constructs_of [] = []
constructs_of (Evaluate expr ∷ rest) = constructs_of_expr expr ++ constructs_of rest
constructs_of (Execute stmt ∷ rest) = constructs_of_stmt stmt ++ constructs_of rest
constructs_of (Do construct ∷ rest) = with_held construct ++ constructs_of rest

-- A program with its names resolved; the number of its constructs, and the words that a body takes of its stack.
use Rattle.std.specs.Prelude.{ℕ, ℤ, List, Option, ◌+◌, length, Some, None, max}
use Rattle.apex_types.specs.declared.instruction.BinaryOperator.{BinaryOperator}
use Rattle.apex_types.specs.declared.instruction.UnaryOperator.{UnaryOperator}
use Rattle.apex_types.specs.declared.place.Place.{Place}
use Rattle.apex_types.specs.declared.row.SemaphoreRow.{SemaphoreRow}
use Rattle.apex_types.specs.declared.row.BufferRow.{BufferRow}
use Rattle.apex_types.specs.declared.row.BlackboardRow.{BlackboardRow}
use Rattle.apex_types.specs.declared.service.Service.{Service}
use Rattle.std.specs.List.{sum_by}
use Rattle.apex_types.specs.ServiceShape.{answer_words}

-- A partition's program with its names resolved: scalars to places, arrays to the place of their
-- first word and their size, objects, processes and procedures to numbers.

-- An expression. A chain is a first operand, then operators with their right operands, which act
-- from left to right.
mutual
  pub data Expr : Type 0 where
    Literal : (value : ℤ) → Expr
    Read : (place : Place) → Expr
    Element : (place : ℕ) (size : ℤ) (index : Expr) → Expr
    Unary : (operator : UnaryOperator) (operand : Expr) → Expr
    Chain : (first : Expr) (rest : Links) → Expr
    Apply : (procedure : ℕ) (arguments : Exprs) → Expr

  pub data Links : Type 0 where
    NoLink : Links
    MoreLinks : (operator : BinaryOperator) (operand : Expr) (rest : Links) → Links

  pub data Exprs : Type 0 where
    NoExpr : Exprs
    MoreExprs : (first : Expr) (rest : Exprs) → Exprs

-- A statement. Among the arguments of a service a name is the literal of its number, an array the
-- two literals of its place and its size.
mutual
  pub data Stmt : Type 0 where
    Assign : (place : Place) (value : Expr) → Stmt
    AssignElement : (place : ℕ) (size : ℤ) (index value : Expr) → Stmt
    If : (test : Expr) (then : Block) → Stmt
    IfElse : (test : Expr) (then other : Block) → Stmt
    While : (test : Expr) (block : Block) → Stmt
    Work : (ticks : ℕ) → Stmt
    Return : (value : Expr) → Stmt
    CallService : (service : Service) (arguments : Exprs) (targets : List Place) → Stmt

  pub data Block : Type 0 where
    NoStmt : Block
    MoreStmts : (first : Stmt) (rest : Block) → Block

pub record Procedure : Type 0 where
  pub parameters : ℕ
  pub locals : ℕ
  pub block : Block

-- the body of INIT, of the handler or of a process, and the words of its stack
pub record Body : Type 0 where
  pub stack : ℕ
  pub locals : ℕ
  pub block : Block

-- without a period a process is aperiodic, without a time capacity it has no deadline
pub record Process : Type 0 where
  pub name : List ℕ
  pub priority : ℕ
  pub period : Option ℕ
  pub capacity : Option ℕ
  pub body : Body

pub record Program : Type 0 where
  pub initial : List ℤ
  pub semaphores : List SemaphoreRow
  pub events : ℕ
  pub buffers : List BufferRow
  pub blackboards : List BlackboardRow
  pub procedures : List Procedure
  pub init : Body
  pub handler : Option Body
  pub processes : List Process

-- The number of a program's instructions, and the words of stack that a body needs. Each construct is one instruction.

-- the number of constructs, which is the number of instructions
abbrev mutual
  pub size_of_expr : Expr → ℕ
  size_of_expr (Literal value) = 1
  size_of_expr (Read place) = 1
  size_of_expr (Element place size index) = size_of_expr index + 1
  size_of_expr (Unary operator operand) = size_of_expr operand + 1
  size_of_expr (Chain first rest) = size_of_expr first + size_of_links rest
  size_of_expr (Apply procedure arguments) = size_of_exprs arguments + 1

  pub size_of_links : Links → ℕ
  size_of_links NoLink = 0
  size_of_links (MoreLinks operator operand rest) = size_of_expr operand + 1 + size_of_links rest

  pub size_of_exprs : Exprs → ℕ
  size_of_exprs NoExpr = 0
  size_of_exprs (MoreExprs first rest) = size_of_expr first + size_of_exprs rest

abbrev mutual
  pub size_of_stmt : Stmt → ℕ
  size_of_stmt (Assign place value) = size_of_expr value + 1
  size_of_stmt (AssignElement place size index value) = size_of_expr index + size_of_expr value + 1
  size_of_stmt (If test then) = size_of_expr test + 1 + size_of_block then
  size_of_stmt (IfElse test then other) = size_of_expr test + 1 + size_of_block then + 1 + size_of_block other
  size_of_stmt (While test block) = size_of_expr test + 1 + size_of_block block + 1
  size_of_stmt (Work ticks) = 1
  size_of_stmt (Return value) = size_of_expr value + 1
  size_of_stmt (CallService service arguments targets) = size_of_exprs arguments + 1 + length targets

  pub size_of_block : Block → ℕ
  size_of_block NoStmt = 0
  size_of_block (MoreStmts first rest) = size_of_stmt first + size_of_block rest

abbrev pub size_of_procedure : Procedure → ℕ
size_of_procedure p = size_of_block p.block + 2

abbrev pub size_of_body : Body → ℕ
size_of_body b = size_of_block b.block + 1

abbrev pub size_of_handler : Option Body → ℕ
size_of_handler None = 0
size_of_handler (Some b) = size_of_body b

abbrev pub size_of_process : Process → ℕ
size_of_process p = size_of_body p.body

-- the number of instructions of a program
abbrev pub size_of : Program → ℕ
size_of p = size_of_body p.init + size_of_handler p.handler + sum_by size_of_process p.processes + sum_by size_of_procedure p.procedures

-- the most operands of an expression that wait together: an argument waits while those after it
-- are evaluated, and the result of a call is an operand
abbrev mutual
  pub operands_of_expr : Expr → ℕ
  operands_of_expr (Literal value) = 1
  operands_of_expr (Read place) = 1
  operands_of_expr (Element place size index) = operands_of_expr index
  operands_of_expr (Unary operator operand) = operands_of_expr operand
  operands_of_expr (Chain first rest) = max (operands_of_expr first) (operands_of_links rest)
  operands_of_expr (Apply procedure arguments) = max 1 (operands_of_exprs arguments)

  pub operands_of_links : Links → ℕ
  operands_of_links NoLink = 0
  operands_of_links (MoreLinks operator operand rest) = max (1 + operands_of_expr operand) (operands_of_links rest)

  pub operands_of_exprs : Exprs → ℕ
  operands_of_exprs NoExpr = 0
  operands_of_exprs (MoreExprs first rest) = max (operands_of_expr first) (1 + operands_of_exprs rest)

abbrev mutual
  pub operands_of_stmt : Stmt → ℕ
  operands_of_stmt (Assign place value) = operands_of_expr value
  operands_of_stmt (AssignElement place size index value) = max (operands_of_expr index) (1 + operands_of_expr value)
  operands_of_stmt (If test then) = max (operands_of_expr test) (operands_of_block then)
  operands_of_stmt (IfElse test then other) = max (operands_of_expr test) (max (operands_of_block then) (operands_of_block other))
  operands_of_stmt (While test block) = max (operands_of_expr test) (operands_of_block block)
  operands_of_stmt (Work ticks) = 0
  operands_of_stmt (Return value) = operands_of_expr value
  operands_of_stmt (CallService service arguments targets) = max (answer_words service) (operands_of_exprs arguments)

  pub operands_of_block : Block → ℕ
  operands_of_block NoStmt = 0
  operands_of_block (MoreStmts first rest) = max (operands_of_stmt first) (operands_of_block rest)

-- The words of stack of a body: its parameters, its locals, its operands (the 0 with which a
-- procedure closes is one), and two for the place and the frame of its caller.
abbrev pub frame_of_procedure : Procedure → ℕ
frame_of_procedure p = p.parameters + p.locals + max 1 (operands_of_block p.block) + 2

abbrev pub frame_of_body : Body → ℕ
frame_of_body b = b.locals + operands_of_block b.block + 2

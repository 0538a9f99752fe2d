-- A program as it is written. A name is the list of its bytes. A number is its value, or none if that
-- is above 2^63 - 1. Parentheses are kept in the tree.
use Rattle.std.specs.Prelude.{ℕ, List, Option, Bool}
use Rattle.apex_types.specs.declared.instruction.BinaryOperator.{BinaryOperator}
use Rattle.apex_types.specs.declared.instruction.UnaryOperator.{UnaryOperator}
use Rattle.apex_types.specs.declared.codes.Discipline.{Discipline}
use Rattle.apex_types.specs.declared.service.Service.{Service}

-- An expression. A chain is a first operand, then operators of one rank with their right operands.
mutual
  pub data Expr : Type 0 where
    Number : (value : Option ℕ) → Expr
    Name : (name : List ℕ) → Expr
    Element : (array : List ℕ) (index : Expr) → Expr
    Apply : (procedure : List ℕ) (arguments : Exprs) → Expr
    Parenthesis : (inside : Expr) → Expr
    Unary : (operator : UnaryOperator) (operand : Expr) → Expr
    Chain : (first : Expr) (rest : Links) → Expr

  pub data Links : Type 0 where
    NoLink : Links
    MoreLinks : (operator : BinaryOperator) (operand : Expr) (rest : Links) → Links

  pub data Exprs : Type 0 where
    NoExpr : Exprs
    MoreExprs : (first : Expr) (rest : Exprs) → Exprs

-- A statement.
mutual
  pub data Stmt : Type 0 where
    Assign : (target : List ℕ) (value : Expr) → Stmt
    AssignElement : (array : List ℕ) (index value : Expr) → Stmt
    If : (test : Expr) (then : Block) → Stmt
    IfElse : (test : Expr) (then other : Block) → Stmt
    While : (test : Expr) (block : Block) → Stmt
    Work : (ticks : Option ℕ) → Stmt
    Return : (value : Expr) → Stmt
    CallService : (service : Service) (arguments : Exprs) (targets : List (List ℕ)) → Stmt

  pub data Block : Type 0 where
    NoStmt : Block
    MoreStmts : (first : Stmt) (rest : Block) → Block

-- a number that may have a minus sign before it
pub record Integer : Type 0 where
  pub negative : Bool
  pub magnitude : Option ℕ

-- a body: its locals, then its statements
pub record Body : Type 0 where
  pub locals : List (List ℕ)
  pub block : Block

-- the kind of a declared name; an array without first values has none
pub data Kind : Type 0 where
  Variable : (value : Option Integer) → Kind
  Array : (size : Option ℕ) (values : List Integer) → Kind
  Semaphore : (first maximum : Option ℕ) (discipline : Discipline) → Kind
  Event : Kind
  Buffer : (words messages : Option ℕ) (discipline : Discipline) → Kind
  Blackboard : (words : Option ℕ) → Kind
  Port : Kind
  Procedure : (parameters : List (List ℕ)) (body : Body) → Kind

pub record Declaration : Type 0 where
  pub name : List ℕ
  pub kind : Kind

-- the body of INIT or of the handler, and the words of its stack
pub record StackBody : Type 0 where
  pub stack : Option ℕ
  pub body : Body

pub record Process : Type 0 where
  pub name : List ℕ
  pub priority : Option ℕ
  pub period : Integer
  pub capacity : Integer
  pub stack : Option ℕ
  pub body : Body

pub record Program : Type 0 where
  pub declarations : List Declaration
  pub init : StackBody
  pub handler : Option StackBody
  pub processes : List Process

-- The bounds of a checked program on which its compiled code depends.
use Rattle.std.specs.Prelude.{◌≡◌, ℕ, ◌+◌, ◌≤◌, ◌<◌, Bool, true, false, List, [], ◌∷◌, Option, Some, None, length, slice_get, option_map}
use Rattle.apex_types.specs.Limits.{MOST_INSTRUCTIONS, MOST_STACK_WORDS, MOST_WORK_TICKS}
use Rattle.apex_types.specs.declared.place.Place.{Place}
use Rattle.apex_types.specs.declared.place.Place.TheVariants.{Data, Slot}
use Rattle.pal_meaning.specs.Program.{Program, Procedure, Body, Process, Expr, Links, Exprs, Stmt, Block}
use Rattle.pal_meaning.specs.Program.{Literal, Read, Element, Unary, Chain, Apply, NoLink, MoreLinks, NoExpr, MoreExprs}
use Rattle.pal_meaning.specs.Program.{Assign, AssignElement, If, IfElse, While, Work, Return, CallService, NoStmt, MoreStmts}
use Rattle.apex_types.specs.ServiceShape.{argument_words, answer_words}
use Rattle.pal_meaning.specs.Program.{size_of, frame_of_procedure, frame_of_body}
use Rattle.compiling_laws.specs.CompiledCode.{slots_of}

abbrev pub count_of : Exprs → ℕ
count_of NoExpr = 0
count_of (MoreExprs first rest) = count_of rest + 1

-- a local is one of the body's slots
abbrev pub IsPlaceWithin : ℕ → Place → Type 0
IsPlaceWithin slots (Data x) = Unit {0}
IsPlaceWithin slots (Slot x) = x < slots

abbrev pub ArePlacesWithin : ℕ → List Place → Type 0
ArePlacesWithin slots [] = Unit {0}
ArePlacesWithin slots (place ∷ places) = IsPlaceWithin slots place × ArePlacesWithin slots places

-- there is a procedure of this number, and it has this many parameters
abbrev pub HasParameters : List Procedure → ℕ → ℕ → Type 0
HasParameters procedures f n = option_map (λ (p : Procedure). p.parameters) (slice_get procedures f) ≡ Some n

-- in a body with this many slots: locals are slots, and a call has as many arguments as its procedure
-- has parameters
abbrev mutual
  pub FitsExpr : List Procedure → ℕ → Expr → Type 0
  FitsExpr procedures slots (Literal value) = Unit {0}
  FitsExpr procedures slots (Read place) = IsPlaceWithin slots place
  FitsExpr procedures slots (Element place size index) = FitsExpr procedures slots index
  FitsExpr procedures slots (Unary operator operand) = FitsExpr procedures slots operand
  FitsExpr procedures slots (Chain first rest) = FitsExpr procedures slots first × FitsLinks procedures slots rest
  FitsExpr procedures slots (Apply procedure arguments) = HasParameters procedures procedure (count_of arguments) × FitsExprs procedures slots arguments

  pub FitsLinks : List Procedure → ℕ → Links → Type 0
  FitsLinks procedures slots NoLink = Unit {0}
  FitsLinks procedures slots (MoreLinks operator operand rest) = FitsExpr procedures slots operand × FitsLinks procedures slots rest

  pub FitsExprs : List Procedure → ℕ → Exprs → Type 0
  FitsExprs procedures slots NoExpr = Unit {0}
  FitsExprs procedures slots (MoreExprs first rest) = FitsExpr procedures slots first × FitsExprs procedures slots rest

-- the ticks of one work
abbrev pub IsWork : ℕ → Type 0
IsWork ticks = (1 ≤ ticks) × (ticks ≤ MOST_WORK_TICKS)

-- the same for statements; only procedures have a return, and a service has as many arguments and
-- targets as its row says
abbrev mutual
  pub FitsStmt : List Procedure → ℕ → Bool → Stmt → Type 0
  FitsStmt procedures slots returns (Assign place value) = IsPlaceWithin slots place × FitsExpr procedures slots value
  FitsStmt procedures slots returns (AssignElement place size index value) = FitsExpr procedures slots index × FitsExpr procedures slots value
  FitsStmt procedures slots returns (If test block) = FitsExpr procedures slots test × FitsBlock procedures slots returns block
  FitsStmt procedures slots returns (IfElse test block other) = FitsExpr procedures slots test × FitsBlock procedures slots returns block × FitsBlock procedures slots returns other
  FitsStmt procedures slots returns (While test block) = FitsExpr procedures slots test × FitsBlock procedures slots returns block
  FitsStmt procedures slots returns (Work ticks) = IsWork ticks
  FitsStmt procedures slots returns (Return value) = (returns ≡ true) × FitsExpr procedures slots value
  FitsStmt procedures slots returns (CallService service arguments targets) = FitsExprs procedures slots arguments × (count_of arguments ≡ argument_words service) × (length targets ≡ answer_words service) × ArePlacesWithin slots targets

  pub FitsBlock : List Procedure → ℕ → Bool → Block → Type 0
  FitsBlock procedures slots returns NoStmt = Unit {0}
  FitsBlock procedures slots returns (MoreStmts first rest) = FitsStmt procedures slots returns first × FitsBlock procedures slots returns rest

pub record FitsProcedure (procedures : List Procedure) (p : Procedure) : Type 0 where
  pub block : FitsBlock procedures (slots_of p) true p.block
  pub frame : frame_of_procedure p ≤ MOST_STACK_WORDS

-- the body of INIT, of the handler or of a process: its frame is within its stack
pub record FitsBody (procedures : List Procedure) (b : Body) : Type 0 where
  pub block : FitsBlock procedures b.locals false b.block
  pub frame : frame_of_body b ≤ b.stack

abbrev pub FitsHandler : List Procedure → Option Body → Type 0
FitsHandler procedures None = Unit {0}
FitsHandler procedures (Some b) = FitsBody procedures b

-- a program whose compiled code behaves exactly like it
pub record Fits (program : Program) : Type 0 where
  pub init : FitsBody program.procedures program.init
  pub handler : FitsHandler program.procedures program.handler
  pub processes : (i : ℕ) (p : Process) → slice_get program.processes i ≡ Some p → FitsBody program.procedures p.body
  pub procedures : (f : ℕ) (p : Procedure) → slice_get program.procedures f ≡ Some p → FitsProcedure program.procedures p
  pub size : size_of program ≤ MOST_INSTRUCTIONS

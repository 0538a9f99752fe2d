-- The parts that a process still has to do on the source, and the effect of one tick. A compound
-- construct unfolds into its parts without a tick; a simple construct takes the ticks of its cost
-- and has its one effect in the last of them, on the data as it is then.
use Rattle.std.specs.Prelude.{ℕ, zero, suc, ◌+◌, ℤ, pos, List, [], ◌∷◌, ◌++◌, Option, Some, None, length, take, drop, reverse, replicate, map, slice_get, slice_set, nat_eq, nat_lt, nat_le, if◌then◌else◌}
use Rattle.apex_types.specs.declared.codes.ErrorKind.{ErrorKind}
use Rattle.apex_types.specs.declared.codes.ErrorKind.TheVariants as error
use Rattle.apex_types.specs.declared.instruction.BinaryOperator.{BinaryOperator}
use Rattle.apex_types.specs.declared.instruction.UnaryOperator.{UnaryOperator}
use Rattle.apex_types.specs.declared.identity.Runner.{Runner}
use Rattle.apex_types.specs.declared.place.Place.{Place}
use Rattle.apex_types.specs.declared.place.Place.TheVariants.{Data, Slot}
use Rattle.apex_types.specs.declared.service.Service.{Service}
use Rattle.apex_types.specs.declared.service.Call.{Call}
use Rattle.pal_meaning.specs.Program.{Program, Procedure, Body, Process, Expr, Links, Exprs, Stmt, Block, Literal, Read, Element, Unary, Chain, Apply, NoLink, MoreLinks, NoExpr, MoreExprs, Assign, AssignElement, If, IfElse, While, Work, Return, CallService, NoStmt, MoreStmts, frame_of_procedure}
use Rattle.engine_meaning.specs.Operators.{apply_binary, apply_unary, is_zero, element_at, cost_of_binary, has_array_within}
use Rattle.apex_types.specs.ServiceShape.{argument_words, answer_words, cost_of_service}
use Rattle.apex_types.specs.ServiceCalls.{call_of, array_of}
use Rattle.engine_meaning.specs.Engine.{Engine, Ticked, Asks, Nothing, Calls, Faults, Ends, body_at}
use Rattle.apex_types.specs.declared.cost.Costs.{Costs}

-- A simple construct. `Choose`, `ChooseElse` and `Repeat` are the branches of if and while, `Leave`
-- leaves a then part that has an else, `GoBack` goes back to the test of a while.
pub data Simple : Type 0 where
  Value : (value : ℤ) → Simple
  ReadScalar : (place : Place) → Simple
  ReadElement : (place : ℕ) (size : ℤ) → Simple
  OperateOne : (operator : UnaryOperator) → Simple
  OperateTwo : (operator : BinaryOperator) → Simple
  Open : (procedure : ℕ) → Simple
  WriteScalar : (place : Place) → Simple
  WriteElement : (place : ℕ) (size : ℤ) → Simple
  Choose : (block : Block) → Simple
  ChooseElse : (block other : Block) → Simple
  Repeat : (test : Expr) (block : Block) → Simple
  Leave : Simple
  GoBack : (test : Expr) (block : Block) → Simple
  Spend : (ticks : ℕ) → Simple
  ReturnValue : Simple
  Ask : (service : Service) → Simple
  EndBody : Simple

-- a part that is still to do
pub data Part : Type 0 where
  Evaluate : (expr : Expr) → Part
  Execute : (stmt : Stmt) → Part
  Do : (construct : Simple) → Part

-- an open call that waits for the call that it made: the parts to do after that, its values, the
-- last one first, and its slots
pub record OpenCall : Type 0 where
  pub parts : List Part
  pub values : List ℤ
  pub slots : List ℤ

-- The parts that the running body still has to do, its values, the last one first, and its slots;
-- the calls that wait, the last one first; the ticks spent on the front construct; the words of a
-- reply that it awaits, 0 for none; and the words of stack of the process.
pub record SourceControl : Type 0 where
  pub parts : List Part
  pub values : List ℤ
  pub slots : List ℤ
  pub callers : List OpenCall
  pub spent : ℕ
  pub awaits : ℕ
  pub stack : ℕ

-- the front construct, and the parts to do after it
pub record Front : Type 0 where
  pub construct : Simple
  pub rest : List Part

abbrev pub front : Simple → List Part → Front
front construct rest = record { construct = construct; rest = rest }

abbrev pub links_then : Links → List Part → List Part
links_then NoLink rest = rest
links_then (MoreLinks operator operand links) rest = Evaluate operand ∷ Do (OperateTwo operator) ∷ links_then links rest

abbrev pub exprs_then : Exprs → List Part → List Part
exprs_then NoExpr rest = rest
exprs_then (MoreExprs expr exprs) rest = Evaluate expr ∷ exprs_then exprs rest

abbrev pub block_then : Block → List Part → List Part
block_then NoStmt rest = rest
block_then (MoreStmts stmt block) rest = Execute stmt ∷ block_then block rest

-- the targets of a service take the words of its reply from the left
abbrev pub targets_then : List Place → List Part → List Part
targets_then [] rest = rest
targets_then (place ∷ places) rest = Do (WriteScalar place) ∷ targets_then places rest

-- how a compound construct unfolds, down to its first simple one
abbrev mutual
  pub front_of_expr : Expr → List Part → Front
  front_of_expr (Literal value) rest = front (Value value) rest
  front_of_expr (Read place) rest = front (ReadScalar place) rest
  front_of_expr (Element place size index) rest = front_of_expr index (Do (ReadElement place size) ∷ rest)
  front_of_expr (Unary operator operand) rest = front_of_expr operand (Do (OperateOne operator) ∷ rest)
  front_of_expr (Chain first links) rest = front_of_expr first (links_then links rest)
  front_of_expr (Apply procedure arguments) rest = front_of_exprs arguments (Open procedure) rest

  pub front_of_exprs : Exprs → Simple → List Part → Front
  front_of_exprs NoExpr construct rest = front construct rest
  front_of_exprs (MoreExprs expr exprs) construct rest = front_of_expr expr (exprs_then exprs (Do construct ∷ rest))

abbrev pub front_of_stmt : Stmt → List Part → Front
front_of_stmt (Assign place value) rest = front_of_expr value (Do (WriteScalar place) ∷ rest)
front_of_stmt (AssignElement place size index value) rest = front_of_expr index (Evaluate value ∷ Do (WriteElement place size) ∷ rest)
front_of_stmt (If test block) rest = front_of_expr test (Do (Choose block) ∷ rest)
front_of_stmt (IfElse test block other) rest = front_of_expr test (Do (ChooseElse block other) ∷ rest)
front_of_stmt (While test block) rest = front_of_expr test (Do (Repeat test block) ∷ rest)
front_of_stmt (Work ticks) rest = front (Spend ticks) rest
front_of_stmt (Return value) rest = front_of_expr value (Do ReturnValue ∷ rest)
front_of_stmt (CallService service arguments targets) rest = front_of_exprs arguments (Ask service) (targets_then targets rest)

-- if nothing is to do, the body is at its end
abbrev pub front_of : List Part → Front
front_of [] = front EndBody []
front_of (Evaluate expr ∷ rest) = front_of_expr expr rest
front_of (Execute stmt ∷ rest) = front_of_stmt stmt rest
front_of (Do construct ∷ rest) = front construct rest

-- the ticks of a simple construct
abbrev pub cost_of_simple : Costs → Simple → ℕ
cost_of_simple costs (Value value) = costs.literal.ticks
cost_of_simple costs (ReadScalar place) = costs.scalar.ticks
cost_of_simple costs (ReadElement place size) = costs.array.ticks
cost_of_simple costs (OperateOne operator) = costs.logic.ticks
cost_of_simple costs (OperateTwo operator) = cost_of_binary costs operator
cost_of_simple costs (Open procedure) = costs.call.ticks
cost_of_simple costs (WriteScalar place) = costs.scalar.ticks
cost_of_simple costs (WriteElement place size) = costs.array.ticks
cost_of_simple costs (Choose block) = costs.branch.ticks
cost_of_simple costs (ChooseElse block other) = costs.branch.ticks
cost_of_simple costs (Repeat test block) = costs.branch.ticks
cost_of_simple costs Leave = costs.jump.ticks
cost_of_simple costs (GoBack test block) = costs.jump.ticks
cost_of_simple costs (Spend ticks) = ticks
cost_of_simple costs ReturnValue = costs.ret.ticks
cost_of_simple costs (Ask service) = cost_of_service costs service
cost_of_simple costs EndBody = costs.end.ticks

-- the words of stack that open calls take: each its slots, 2 and its values that wait
abbrev pub taken : List OpenCall → ℕ
taken [] = 0
taken (call ∷ calls) = taken calls + length call.slots + 2 + length call.values

-- The control after a tick that continued: the parts to do, and the values.
abbrev pub moves : SourceControl → List Part → List ℤ → SourceControl
moves c rest values = record { parts = rest; values = values; slots = c.slots; callers = c.callers; spent = 0; awaits = 0; stack = c.stack }

abbrev pub goes_on : SourceControl → List Part → List ℤ → List ℤ → Ticked SourceControl
goes_on c rest values words = record { control = moves c rest values; words = words; asks = Nothing }

-- A fault and an end leave the control as it is.
abbrev pub stays : SourceControl → List ℤ → Asks → Ticked SourceControl
stays c words asks = record { control = c; words = words; asks = asks }

-- continues with one more value, or raises `error` if there is no value
abbrev pub value_or : ErrorKind → Option ℤ → SourceControl → List Part → List ℤ → List ℤ → Ticked SourceControl
value_or error None c rest values words = stays c words (Faults error)
value_or error (Some v) c rest values words = goes_on c rest (v ∷ values) words

-- the word at a place of a list, if the place is within the list
abbrev pub word_at : List ℤ → Option ℕ → Option ℤ
word_at words None = None
word_at words (Some place) = slice_get words place

-- words with the word at a place changed, if the place is within them
abbrev pub write_at : List ℤ → Option ℕ → ℤ → Option (List ℤ)
write_at words None v = None
write_at words (Some place) v = if nat_lt place (length words) then Some (slice_set words place v) else None

-- continues with the data as written, or raises a memory violation if the place is outside the data
abbrev pub writes : Option (List ℤ) → SourceControl → List Part → List ℤ → List ℤ → Ticked SourceControl
writes None c rest values words = stays c words (Faults error.MemoryViolation)
writes (Some written) c rest values words = goes_on c rest values written

-- continues with the slots of the running body as written, or raises a memory violation
abbrev pub writes_slot : Option (List ℤ) → SourceControl → List Part → List ℤ → List ℤ → Ticked SourceControl
writes_slot None c rest values words = stays c words (Faults error.MemoryViolation)
writes_slot (Some slots) c rest values words = record { control = record { parts = rest; values = values; slots = slots; callers = c.callers; spent = 0; awaits = 0; stack = c.stack }; words = words; asks = Nothing }

-- the parts of a procedure: its block, then `return 0`
abbrev pub parts_of_procedure : Procedure → List Part
parts_of_procedure p = block_then p.block (Do (Value (pos 0)) ∷ Do ReturnValue ∷ [])

-- A call opens where its place and its frame are within the stack: its parameters are the values
-- passed to it, which the caller no longer has, and its locals are 0.
abbrev pub opens : Option Procedure → SourceControl → List Part → List ℤ → List ℤ → Ticked SourceControl
opens None c rest values words = stays c words (Faults error.IllegalRequest)
opens (Some p) c rest values words =
    let caller : OpenCall = record { parts = rest; values = drop p.parameters values; slots = c.slots } in
    let callers = caller ∷ c.callers in
    if nat_le (taken callers + frame_of_procedure p) c.stack
    then record {
      control = record { parts = parts_of_procedure p; values = []; slots = reverse (take p.parameters values) ++ replicate p.locals (pos 0); callers = callers; spent = 0; awaits = 0; stack = c.stack };
      words = words;
      asks = Nothing;
    }
    else stays c words (Faults error.StackOverflow)

-- a call gives its value back to its caller
abbrev pub gives_back : List OpenCall → ℤ → SourceControl → List ℤ → Ticked SourceControl
gives_back [] v c words = stays c words (Faults error.MemoryViolation)
gives_back (caller ∷ callers) v c words = record { control = record { parts = caller.parts; values = v ∷ caller.values; slots = caller.slots; callers = callers; spent = 0; awaits = 0; stack = c.stack }; words = words; asks = Nothing }

-- A service is asked with its values as arguments, the first one evaluated first; an array among
-- them that is not within the data is a memory violation. The control then awaits the reply.
abbrev pub asks_service : Service → Call → SourceControl → List Part → List ℤ → List ℤ → Ticked SourceControl
asks_service service call c rest values words =
    if has_array_within (length words) (array_of call)
    then record { control = record { parts = rest; values = values; slots = c.slots; callers = c.callers; spent = 0; awaits = answer_words service; stack = c.stack }; words = words; asks = Calls call }
    else stays c words (Faults error.MemoryViolation)

-- The effect of a simple construct, given the parts to do after it and the values. The last line is
-- a construct that finds too few values, which a program with its names resolved never has.
abbrev pub effect : Program → Simple → List Part → SourceControl → List ℤ → List ℤ → Ticked SourceControl
effect program (Value v) rest c values words = goes_on c rest (v ∷ values) words
effect program (ReadScalar (Data x)) rest c values words = value_or error.MemoryViolation (slice_get words x) c rest values words
effect program (ReadScalar (Slot x)) rest c values words = value_or error.MemoryViolation (slice_get c.slots x) c rest values words
effect program (ReadElement place size) rest c (i ∷ values) words = value_or error.MemoryViolation (word_at words (element_at words place size i)) c rest values words
effect program (OperateOne operator) rest c (a ∷ values) words = value_or error.NumericError (apply_unary operator a) c rest values words
effect program (OperateTwo operator) rest c (b ∷ a ∷ values) words = value_or error.NumericError (apply_binary operator a b) c rest values words
effect program (Open procedure) rest c values words = opens (slice_get program.procedures procedure) c rest values words
effect program (WriteScalar (Data x)) rest c (v ∷ values) words = writes (write_at words (Some x) v) c rest values words
effect program (WriteScalar (Slot x)) rest c (v ∷ values) words = writes_slot (write_at c.slots (Some x) v) c rest values words
effect program (WriteElement place size) rest c (v ∷ i ∷ values) words = writes (write_at words (element_at words place size i) v) c rest values words
effect program (Choose block) rest c (v ∷ values) words = goes_on c (if is_zero v then rest else block_then block rest) values words
effect program (ChooseElse block other) rest c (v ∷ values) words = goes_on c (if is_zero v then block_then other rest else block_then block (Do Leave ∷ rest)) values words
effect program (Repeat test block) rest c (v ∷ values) words = goes_on c (if is_zero v then rest else block_then block (Do (GoBack test block) ∷ rest)) values words
effect program Leave rest c values words = goes_on c rest values words
effect program (GoBack test block) rest c values words = goes_on c (Execute (While test block) ∷ rest) values words
effect program (Spend ticks) rest c values words = goes_on c rest values words
effect program ReturnValue rest c (v ∷ values) words = gives_back c.callers v c words
effect program (Ask service) rest c values words = asks_service service (call_of service (reverse (take (argument_words service) values))) c rest (drop (argument_words service) values) words
effect program EndBody rest c values words = stays c words Ends
effect program _ rest c values words = stays c words (Faults error.IllegalRequest)

-- one more tick is spent on the front construct
abbrev pub counts : SourceControl → List ℤ → Ticked SourceControl
counts c words = record { control = record { parts = c.parts; values = c.values; slots = c.slots; callers = c.callers; spent = c.spent + 1; awaits = c.awaits; stack = c.stack }; words = words; asks = Nothing }

abbrev pub tick_at : Costs → Program → Front → SourceControl → List ℤ → Ticked SourceControl
tick_at costs program f c words = if nat_lt (c.spent + 1) (cost_of_simple costs f.construct) then counts c words else effect program f.construct f.rest c c.values words

-- While a reply is awaited, a tick changes nothing. Below the cost of the front construct it is
-- counted; at the cost the effect happens once.
abbrev pub tick_awaiting : Costs → Program → ℕ → SourceControl → List ℤ → Ticked SourceControl
tick_awaiting costs program zero c words = tick_at costs program (front_of c.parts) c words
tick_awaiting costs program (suc n) c words = stays c words Nothing

abbrev pub source_tick : Costs → Program → SourceControl → List ℤ → Ticked SourceControl
source_tick costs program c words = tick_awaiting costs program c.awaits c words

-- The words of a reply become values, the code as the last one; a reply of another length than
-- the awaited one changes nothing.
abbrev pub source_reply : SourceControl → List ℤ → SourceControl
source_reply c answer = if nat_eq (length answer) c.awaits then record { parts = c.parts; values = answer ++ c.values; slots = c.slots; callers = c.callers; spent = c.spent; awaits = 0; stack = c.stack } else c

abbrev pub body_of_process : Process → Body
body_of_process p = p.body

abbrev pub source_body : Program → Runner → Body
source_body program p = body_at program.init program.handler (map body_of_process program.processes) p

-- the parts of the body of INIT, of the handler or of a process: its block, then its end
abbrev pub parts_of_body : Body → List Part
parts_of_body b = block_then b.block (Do EndBody ∷ [])

abbrev pub source_start : Body → SourceControl
source_start b = record { parts = parts_of_body b; values = []; slots = replicate b.locals (pos 0); callers = []; spent = 0; awaits = 0; stack = b.stack }

-- the engine of a program's source, with the costs of its constructs
abbrev pub source_engine : Costs → Program → Engine SourceControl
source_engine costs program = record {
  start = λ p. source_start (source_body program p);
  tick = source_tick costs program;
  reply = source_reply;
}

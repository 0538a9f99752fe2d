-- The code that a program is compiled to. Each construct is one instruction, in the order in which
-- the constructs take effect. The bodies follow one another: INIT, the handler, the
-- processes and the procedures, each in the order of declaration.
use Rattle.std.specs.Prelude.{ℕ, ◌+◌, pos, List, [], ◌∷◌, ◌++◌, Option, Some, None, map}
use Rattle.std.specs.List.{sum_by}
use Rattle.std.specs.Option.{option_map}
use Rattle.apex_types.specs.declared.instruction.Instr.{Instr}
use Rattle.apex_types.specs.declared.instruction.Instr.TheVariants as instr
use Rattle.apex_types.specs.declared.place.Place.{Place}
use Rattle.apex_types.specs.declared.place.Place.TheVariants.{Data, Slot}
use Rattle.apex_types.specs.declared.row.RoutineRow.{RoutineRow}
use Rattle.apex_types.specs.declared.row.ProcessRow.{ProcessRow}
use Rattle.apex_types.specs.declared.row.BodyRow.{BodyRow}
use Rattle.pal_meaning.specs.Program.{Program, Procedure, Body, Process, Expr, Links, Exprs, Stmt, Block}
use Rattle.pal_meaning.specs.Program.{Literal, Read, Element, Unary, Chain, Apply, NoLink, MoreLinks, NoExpr, MoreExprs}
use Rattle.pal_meaning.specs.Program.{Assign, AssignElement, If, IfElse, While, Work, Return, CallService, NoStmt, MoreStmts}
use Rattle.apex_types.specs.ServiceShape.{number_of}
use Rattle.pal_meaning.specs.Program.{size_of_expr, size_of_stmt, size_of_block, size_of_procedure, size_of_body, size_of_handler, size_of_process, frame_of_procedure, frame_of_body}
use Rattle.machine_meaning.specs.Instructions.{bytes_of}
use Rattle.machine_meaning.specs.Section.{Section}

abbrev pub load : Place → Instr
load (Data x) = instr.LoadData x
load (Slot x) = instr.LoadLocal x

abbrev pub store : Place → Instr
store (Data x) = instr.StoreData x
store (Slot x) = instr.StoreLocal x

abbrev mutual
  pub expr_code : Expr → List Instr
  expr_code (Literal value) = instr.Push value ∷ []
  expr_code (Read place) = load place ∷ []
  expr_code (Element place size index) = expr_code index ++ (instr.LoadElement place size ∷ [])
  expr_code (Unary operator operand) = expr_code operand ++ (instr.Unary operator ∷ [])
  expr_code (Chain first rest) = expr_code first ++ links_code rest
  expr_code (Apply procedure arguments) = exprs_code arguments ++ (instr.Call procedure ∷ [])

  pub links_code : Links → List Instr
  links_code NoLink = []
  links_code (MoreLinks operator operand rest) = expr_code operand ++ (instr.Binary operator ∷ links_code rest)

  pub exprs_code : Exprs → List Instr
  exprs_code NoExpr = []
  exprs_code (MoreExprs first rest) = expr_code first ++ exprs_code rest

-- A statement at a place of the code, in a body with this many slots. If the test is 0, an if jumps
-- past its block; with an else its block ends with a jump past the other. A while ends with a jump
-- back to its test.
abbrev mutual
  pub stmt_code : ℕ → ℕ → Stmt → List Instr
  stmt_code slots at (Assign place value) = expr_code value ++ (store place ∷ [])
  stmt_code slots at (AssignElement place size index value) = expr_code index ++ expr_code value ++ (instr.StoreElement place size ∷ [])
  stmt_code slots at (If test block) =
      let inside = at + size_of_expr test + 1 in
      expr_code test ++ (instr.JumpIfZero (inside + size_of_block block) ∷ block_code slots inside block)
  stmt_code slots at (IfElse test block other) =
      let inside = at + size_of_expr test + 1 in
      let behind = inside + size_of_block block + 1 in
      expr_code test ++ (instr.JumpIfZero behind ∷ block_code slots inside block) ++ (instr.Jump (behind + size_of_block other) ∷ block_code slots behind other)
  stmt_code slots at (While test block) =
      let inside = at + size_of_expr test + 1 in
      expr_code test ++ (instr.JumpIfZero (inside + size_of_block block + 1) ∷ block_code slots inside block) ++ (instr.Jump at ∷ [])
  stmt_code slots at (Work ticks) = instr.Work (pos ticks) ∷ []
  stmt_code slots at (Return value) = expr_code value ++ (instr.Return slots ∷ [])
  stmt_code slots at (CallService service arguments targets) = exprs_code arguments ++ (instr.Service (number_of service) ∷ map store targets)

  pub block_code : ℕ → ℕ → Block → List Instr
  block_code slots at NoStmt = []
  block_code slots at (MoreStmts first rest) = stmt_code slots at first ++ block_code slots (at + size_of_stmt first) rest

-- the slots of a procedure: its parameters and its locals
abbrev pub slots_of : Procedure → ℕ
slots_of p = p.parameters + p.locals

abbrev pub procedure_code : ℕ → Procedure → List Instr
procedure_code at p = block_code (slots_of p) at p.block ++ (instr.Push (pos 0) ∷ instr.Return (slots_of p) ∷ [])

abbrev pub body_code : ℕ → Body → List Instr
body_code at b = block_code b.locals at b.block ++ (instr.End ∷ [])

abbrev pub handler_code : ℕ → Option Body → List Instr
handler_code at None = []
handler_code at (Some b) = body_code at b

-- bodies one after the other from a place on
abbrev pub processes_code : ℕ → List Process → List Instr
processes_code at [] = []
processes_code at (p ∷ ps) = body_code at p.body ++ processes_code (at + size_of_process p) ps

abbrev pub procedures_code : ℕ → List Procedure → List Instr
procedures_code at [] = []
procedures_code at (p ∷ ps) = procedure_code at p ++ procedures_code (at + size_of_procedure p) ps

-- the places where the handler, the processes and the procedures begin
abbrev pub handler_place : Program → ℕ
handler_place p = size_of_body p.init

abbrev pub processes_place : Program → ℕ
processes_place p = handler_place p + size_of_handler p.handler

abbrev pub procedures_place : Program → ℕ
procedures_place p = processes_place p + sum_by size_of_process p.processes

-- the instructions of a program
abbrev pub code_of : Program → List Instr
code_of p = body_code 0 p.init ++ handler_code (handler_place p) p.handler ++ processes_code (processes_place p) p.processes ++ procedures_code (procedures_place p) p.procedures

abbrev pub body_row : ℕ → Body → BodyRow
body_row at b = record { stack = b.stack; entry = at; slots = b.locals; frame = frame_of_body b }

abbrev pub process_row : ℕ → Process → ProcessRow
process_row at p = record { name = p.name; priority = record { 0 = p.priority }; period = p.period; capacity = p.capacity; body = body_row at p.body }

abbrev pub process_rows : ℕ → List Process → List ProcessRow
process_rows at [] = []
process_rows at (p ∷ ps) = process_row at p ∷ process_rows (at + size_of_process p) ps

abbrev pub routine_row : ℕ → Procedure → RoutineRow
routine_row at p = record { entry = at; parameters = p.parameters; slots = slots_of p; frame = frame_of_procedure p }

-- routines are numbered from 0 in the order of declaration
abbrev pub routine_rows : ℕ → List Procedure → List RoutineRow
routine_rows at [] = []
routine_rows at (p ∷ ps) = routine_row at p ∷ routine_rows (at + size_of_procedure p) ps

-- The section of a program in an image: its data and objects as they are declared, its bodies with
-- their first instructions, slots and frames, and its code as bytes.
abbrev pub section_of : Program → Section
section_of p = record {
  initial = p.initial;
  semaphores = p.semaphores;
  events = p.events;
  buffers = p.buffers;
  blackboards = p.blackboards;
  routines = routine_rows (procedures_place p) p.procedures;
  processes = process_rows (processes_place p) p.processes;
  init = body_row 0 p.init;
  handler = option_map (body_row (handler_place p)) p.handler;
  code = map bytes_of (code_of p);
}

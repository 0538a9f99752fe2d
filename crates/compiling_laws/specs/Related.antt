-- When the control of a process on the source and its control on the processor are the same to
-- everyone outside: the code from pc on does what is still to do, the operands are the values, the
-- saved words are the open calls, and as many ticks are spent. Nothing is said of the data, so that
-- it holds while others change them.
use Rattle.std.specs.Prelude.{◌≡◌, ℕ, ◌+◌, ◌-◌, ◌≤◌, ◌<◌, ℤ, pos, Bool, true, List, [], ◌∷◌, ◌++◌, Option, Some, map, length, slice_get}
use Rattle.apex_types.specs.Limits.{MOST_INSTRUCTIONS}
use Rattle.apex_types.specs.declared.cost.Costs.{Costs}
use Rattle.apex_types.specs.declared.instruction.Instr.{Instr}
use Rattle.apex_types.specs.declared.instruction.Instr.TheVariants as instr
use Rattle.apex_types.specs.declared.identity.Runner.{Runner}
use Rattle.pal_meaning.specs.Program.{Program, Procedure, Expr, Stmt, Block, While}
use Rattle.apex_types.specs.ServiceShape.{number_of, argument_words, answer_words}
use Rattle.pal_meaning.specs.Program.{size_of_expr, size_of_stmt, size_of_block, operands_of_expr, operands_of_stmt, operands_of_block}
use Rattle.compiling_laws.specs.Fits.{FitsExpr, FitsStmt, FitsBlock, IsPlaceWithin, IsWork}
use Rattle.compiling_laws.specs.CompiledCode.{load, store, expr_code, stmt_code, block_code, code_of, section_of}
use Rattle.pal_meaning.specs.SourceControl.{SourceControl, OpenCall, Part, Evaluate, Execute, Do, Value, ReadScalar, ReadElement, OperateOne, OperateTwo, Open, WriteScalar, WriteElement, Choose, ChooseElse, Repeat, Leave, GoBack, Spend, ReturnValue, Ask, EndBody, taken, source_engine}
use Rattle.engine_meaning.specs.Engine.{body_at}
use Rattle.machine_meaning.specs.MachineControl.{MachineControl, machine_engine}
use Rattle.engine_meaning.specs.Simulates.{Simulates}
use Rattle.machine_meaning.specs.Instructions.{reading}
use Rattle.machine_meaning.specs.Section.{Section}
use Rattle.apex_types.specs.declared.row.BodyRow.{BodyRow}
use Rattle.apex_types.specs.declared.row.ProcessRow.{ProcessRow}

-- a partition's code as the processor reads it: none where the bytes are no instruction
abbrev pub Code : Type 0
Code = List (Option Instr)

-- the instruction at a place of the code
abbrev pub Fetches : Code → ℕ → Instr → Type 0
Fetches code pc i = slice_get code pc ≡ Some (Some i)

-- instructions one after the other from a place on
abbrev pub HasAt : Code → ℕ → List Instr → Type 0
HasAt code pc [] = Unit {0}
HasAt code pc (i ∷ is) = Fetches code pc i × HasAt code (pc + 1) is

-- the limits of a body: its slots, the number of values that may wait, and whether it may return
pub record Limits : Type 0 where
  pub slots : ℕ
  pub room : ℕ
  pub returns : Bool

-- The code of an expression, a statement or a block is at pc; it fits its body, and its values
-- have room while n values wait.
pub record ExprAt (code : Code) (procedures : List Procedure) (k : Limits) (pc n : ℕ) (e : Expr) : Type 0 where
  pub has : HasAt code pc (expr_code e)
  pub fits : FitsExpr procedures k.slots e
  pub room : n + operands_of_expr e ≤ k.room

pub record StmtAt (code : Code) (procedures : List Procedure) (k : Limits) (pc n : ℕ) (s : Stmt) : Type 0 where
  pub has : HasAt code pc (stmt_code k.slots pc s)
  pub fits : FitsStmt procedures k.slots k.returns s
  pub room : n + operands_of_stmt s ≤ k.room

pub record BlockAt (code : Code) (procedures : List Procedure) (k : Limits) (pc n : ℕ) (b : Block) : Type 0 where
  pub has : HasAt code pc (block_code k.slots pc b)
  pub fits : FitsBlock procedures k.slots k.returns b
  pub room : n + operands_of_block b ≤ k.room

-- a jump back to a while, which ends right after that jump
abbrev pub GoesBack : Code → List Procedure → Limits → ℕ → ℕ → Expr → Block → Type 0
GoesBack code ps k pc n test block = (a : ℕ) × Fetches code pc (instr.Jump a) × StmtAt code ps k a n (While test block) × (a + size_of_stmt (While test block) ≡ pc + 1)

-- The code at pc does what is still to do, where n values wait, in a body with these limits.
abbrev pub Goes : Code → List Procedure → Limits → ℕ → ℕ → List Part → Type 0
Goes code ps k pc n [] = ⊥
Goes code ps k pc n (Evaluate e ∷ r) = ExprAt code ps k pc n e × Goes code ps k (pc + size_of_expr e) (n + 1) r
Goes code ps k pc n (Execute s ∷ r) = StmtAt code ps k pc n s × Goes code ps k (pc + size_of_stmt s) n r
Goes code ps k pc n (Do (Value v) ∷ r) = Fetches code pc (instr.Push v) × (n < k.room) × Goes code ps k (pc + 1) (n + 1) r
Goes code ps k pc n (Do (ReadScalar place) ∷ r) = Fetches code pc (load place) × IsPlaceWithin k.slots place × (n < k.room) × Goes code ps k (pc + 1) (n + 1) r
Goes code ps k pc n (Do (ReadElement place size) ∷ r) = Fetches code pc (instr.LoadElement place size) × (1 ≤ n) × Goes code ps k (pc + 1) n r
Goes code ps k pc n (Do (OperateOne operator) ∷ r) = Fetches code pc (instr.Unary operator) × (1 ≤ n) × Goes code ps k (pc + 1) n r
Goes code ps k pc n (Do (OperateTwo operator) ∷ r) = Fetches code pc (instr.Binary operator) × (2 ≤ n) × Goes code ps k (pc + 1) (n - 1) r
Goes code ps k pc n (Do (Open f) ∷ r) = Fetches code pc (instr.Call f) × ((p : Procedure) × (slice_get ps f ≡ Some p) × (p.parameters ≤ n) × (n - p.parameters < k.room) × Goes code ps k (pc + 1) (n - p.parameters + 1) r)
Goes code ps k pc n (Do (WriteScalar place) ∷ r) = Fetches code pc (store place) × IsPlaceWithin k.slots place × (1 ≤ n) × Goes code ps k (pc + 1) (n - 1) r
Goes code ps k pc n (Do (WriteElement place size) ∷ r) = Fetches code pc (instr.StoreElement place size) × (2 ≤ n) × Goes code ps k (pc + 1) (n - 2) r
Goes code ps k pc n (Do (Choose block) ∷ r) =
    let inside = pc + 1 in
    let behind = inside + size_of_block block in
    Fetches code pc (instr.JumpIfZero behind) × (1 ≤ n) × BlockAt code ps k inside (n - 1) block × Goes code ps k behind (n - 1) r
Goes code ps k pc n (Do (ChooseElse block other) ∷ r) =
    let inside = pc + 1 in
    let behind = inside + size_of_block block + 1 in
    let after = behind + size_of_block other in
    Fetches code pc (instr.JumpIfZero behind) × (1 ≤ n) × BlockAt code ps k inside (n - 1) block × Fetches code (inside + size_of_block block) (instr.Jump after) × BlockAt code ps k behind (n - 1) other × Goes code ps k after (n - 1) r
Goes code ps k pc n (Do (Repeat test block) ∷ r) =
    let inside = pc + 1 in
    let last = inside + size_of_block block in
    Fetches code pc (instr.JumpIfZero (last + 1)) × (1 ≤ n) × BlockAt code ps k inside (n - 1) block × GoesBack code ps k last (n - 1) test block × Goes code ps k (last + 1) (n - 1) r
Goes code ps k pc n (Do Leave ∷ r) = (a : ℕ) × Fetches code pc (instr.Jump a) × Goes code ps k a n r
Goes code ps k pc n (Do (GoBack test block) ∷ r) = GoesBack code ps k pc n test block × Goes code ps k (pc + 1) n r
Goes code ps k pc n (Do (Spend ticks) ∷ r) = Fetches code pc (instr.Work (pos ticks)) × IsWork ticks × Goes code ps k (pc + 1) n r
Goes code ps k pc n (Do ReturnValue ∷ r) = Fetches code pc (instr.Return k.slots) × (1 ≤ n) × (k.returns ≡ true)
Goes code ps k pc n (Do (Ask service) ∷ r) = Fetches code pc (instr.Service (number_of service)) × (argument_words service ≤ n) × (n - argument_words service + answer_words service ≤ k.room) × Goes code ps k (pc + 1) (n - argument_words service + answer_words service) r
Goes code ps k pc n (Do EndBody ∷ r) = Fetches code pc instr.End

-- a call that waits, the instruction at which it continues, and the limits of its body
pub record Laid : Type 0 where
  pub call : OpenCall
  pub back : ℕ
  pub limits : Limits

abbrev pub calls_of : List Laid → List OpenCall
calls_of [] = []
calls_of (l ∷ ls) = l.call ∷ calls_of ls

-- the words of a list before others, the last one first
abbrev pub onto : List ℤ → List ℤ → List ℤ
onto [] rest = rest
onto (w ∷ ws) rest = onto ws (w ∷ rest)

-- the two words after the slots of a body: the instruction and the frame of its caller
abbrev pub saved : List Laid → List ℤ
saved [] = pos 0 ∷ pos 0 ∷ []
saved (l ∷ ls) = pos l.back ∷ pos (taken (calls_of ls)) ∷ []

-- the words of the calls that wait: the slots, the saved words and the values of each
abbrev pub below : List Laid → List ℤ
below [] = []
below (l ∷ ls) = (below ls ++ (l.call.slots ++ saved ls)) ++ onto l.call.values []

-- a body in progress: its slots, its frame within the stack, and a caller where it may return
abbrev pub HasCaller : Bool → List Laid → Type 0
HasCaller true [] = ⊥
HasCaller _ _ = Unit {0}

pub record InProgress (stack : ℕ) (k : Limits) (callers : List Laid) (words : List ℤ) : Type 0 where
  pub slots : length words ≡ k.slots
  pub frame : taken (calls_of callers) + k.slots + 2 + k.room ≤ stack
  pub caller : HasCaller k.returns callers

-- each waiting call continues with the value that it is given
abbrev pub Waiting : Code → List Procedure → ℕ → List Laid → Type 0
Waiting code ps stack [] = Unit {0}
Waiting code ps stack (l ∷ ls) = Goes code ps l.limits l.back (length l.call.values + 1) l.call.parts × (l.back ≤ MOST_INSTRUCTIONS) × (length l.call.values < l.limits.room) × InProgress stack l.limits ls l.call.slots × Waiting code ps stack ls

pub record Keeps (code : Code) (procedures : List Procedure) (c : SourceControl) (m : MachineControl) : Type 0 where
  pub laid : List Laid
  pub limits : Limits
  pub junk : List ℤ
  pub goes : Goes code procedures limits m.pc (length c.values + c.awaits) c.parts
  pub body : InProgress c.stack limits laid c.slots
  pub waiting : Waiting code procedures c.stack laid
  pub callers : c.callers ≡ calls_of laid
  pub fp : m.fp ≡ taken (calls_of laid)
  pub sp : m.sp ≡ taken (calls_of laid) + length c.slots + 2 + length c.values
  pub stack : m.stack ≡ (below laid ++ (c.slots ++ saved laid)) ++ onto c.values junk
  pub size : length m.stack ≡ c.stack
  pub answer : m.sp + c.awaits ≤ c.stack
  pub spent : c.spent ≡ m.spent
  pub awaits : c.awaits ≡ m.awaits

-- the body of a number in an image's section
abbrev pub row_of_process : ProcessRow → BodyRow
row_of_process p = p.body

abbrev pub body_row_at : Section → Runner → BodyRow
body_row_at s p = body_at s.init s.handler (map row_of_process s.processes) p

-- Compilation is correct: where each instruction is what its bytes read as, the processor over the
-- section of a program that fits cannot be distinguished from the program's source, whatever both cost.
abbrev pub CompiledCorrectly : Program → Type 0
CompiledCorrectly program =
    let section = section_of program in
    let code = map reading section.code in
    code ≡ map Some (code_of program) → (costs : Costs) → Simulates (Keeps code program.procedures) (source_engine costs program) (machine_engine costs code section.routines (body_row_at section))

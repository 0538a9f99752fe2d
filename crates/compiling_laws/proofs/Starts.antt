-- The code of a program contains its bodies, and a started body is the same on both sides.
use Rattle.compiling_laws.proofs.Prelude.{◌≡◌, ℕ, suc, ◌+◌, ◌-◌, ◌≤◌, ◌<◌, pos, false, List, ◌∷◌, ◌++◌, length, map, replicate, Option, Some, None, refl, sym, ap, ◌∙◌, subst, length-append, max, slice_get, length-map, length-replicate, MOST_INSTRUCTIONS, Costs, RoutineRow, Runner, Program, Procedure, Body, Process, size_of, size_of_block, size_of_process, size_of_procedure, operands_of_block, Fits, FitsBody, FitsHandler, FitsProcedure, block_code, body_code, handler_code, processes_code, procedure_code, procedures_code, slots_of, code_of, handler_place, processes_place, procedures_place, body_row, routine_row, routine_rows, process_rows, section_of, Do, Value, ReturnValue, EndBody, parts_of_procedure, parts_of_body, Simulates, Code, HasAt, Limits, Goes, Keeps}
use Rattle.std.proofs.Common.{zero, [], arith}
use Rattle.std.specs.Prelude.{get_or}
use Rattle.std.specs.Option.{option_map}
use Rattle.apex_types.specs.declared.instruction.Instr.TheVariants as instr
use Rattle.apex_types.specs.declared.row.BodyRow.{BodyRow}
use Rattle.apex_types.specs.declared.identity.Runner.TheVariants as runner
use Rattle.pal_meaning.specs.SourceControl.{source_start, source_body, body_of_process, source_engine}
use Rattle.engine_meaning.specs.Engine.{or_init}
use Rattle.machine_meaning.specs.MachineControl.{machine_start, machine_engine}
use Rattle.machine_meaning.specs.Instructions.{reading}
use Rattle.compiling_laws.specs.Related.{row_of_process, body_row_at, CompiledCorrectly}
use Rattle.compiling_laws.proofs.Sizes.{block_size, body_size, handler_size, processes_size, procedure_size, code_size}
use Rattle.compiling_laws.proofs.Placed.{has_front, has_back, has_list}
use Rattle.compiling_laws.proofs.Front.{block_goes}
use Rattle.compiling_laws.proofs.Ticks.{limits_of, Stands, Placed, keeps_tick, keeps_reply}

-- a procedure's code does what is to do in it
procedure_goes : (code : Code) (ps : List Procedure) (p : Procedure) (at : ℕ) → FitsProcedure ps p → HasAt code at (procedure_code at p) → Goes code ps (limits_of p) at 0 (parts_of_procedure p)
procedure_goes code ps p at fits has =
    let block = block_code (slots_of p) at p.block in
    let end = instr.Push (pos 0) ∷ instr.Return (slots_of p) ∷ [] in
    let back = has_back code at (size_of_block p.block) block end (block_size p.block (slots_of p) at) has in
    let room : 0 + operands_of_block p.block ≤ max 1 (operands_of_block p.block) = omega arith in
    let one : 0 < max 1 (operands_of_block p.block) = omega arith in
    block_goes code ps (limits_of p) p.block (Do (Value (pos 0)) ∷ Do ReturnValue ∷ []) at 0 (record { has = has_front code at block end has; fits = fits.block; room = room }) (back.0, one, (back.1.0, omega arith, refl))

abbrev limits_of_body : Body → Limits
limits_of_body b = record { slots = b.locals; room = operands_of_block b.block; returns = false }

body_goes : (code : Code) (ps : List Procedure) (b : Body) (at : ℕ) → FitsBody ps b → HasAt code at (body_code at b) → Goes code ps (limits_of_body b) at 0 (parts_of_body b)
body_goes code ps b at fits has =
    let block = block_code b.locals at b.block in
    let end = instr.End ∷ [] in
    let back = has_back code at (size_of_block b.block) block end (block_size b.block b.locals at) has in
    let room : 0 + operands_of_block b.block ≤ operands_of_block b.block = omega arith in
    block_goes code ps (limits_of_body b) b.block (Do EndBody ∷ []) at 0 (record { has = has_front code at block end has; fits = fits.block; room = room }) back.0

-- words of 0 are slots of 0 and the words after them
zeros_split : (a b : ℕ) → replicate (a + b) (pos 0) ≡ replicate a (pos 0) ++ replicate b (pos 0)
zeros_split zero b = let e : 0 + b ≡ b = omega arith in ap (λ n. replicate n (pos 0)) e
zeros_split (suc a) b = let e : suc a + b ≡ suc (a + b) = omega arith in ap (λ n. replicate n (pos 0)) e ∙ ap (λ l. pos 0 ∷ l) (zeros_split a b)

body_starts : (code : Code) (ps : List Procedure) (b : Body) (at : ℕ) → FitsBody ps b → HasAt code at (body_code at b) → Keeps code ps (source_start b) (machine_start (body_row at b))
body_starts code ps b at fits has =
    let frame = fits.frame in
    let n = b.stack - (b.locals + 2) in
    let split : b.stack ≡ b.locals + 2 + n = omega arith in
    let long = length-replicate b.locals (pos 0) in
    let stack : replicate b.stack (pos 0) ≡ (replicate b.locals (pos 0) ++ (pos 0 ∷ pos 0 ∷ [])) ++ replicate n (pos 0) =
    ap (λ q. replicate q (pos 0)) split ∙ zeros_split (b.locals + 2) n ∙ ap (λ l. l ++ replicate n (pos 0)) (zeros_split b.locals 2) in
    let place : b.locals + 2 ≡ 0 + length (replicate b.locals (pos 0)) + 2 + 0 = omega arith in
    let fits_frame : 0 + b.locals + 2 + operands_of_block b.block ≤ b.stack = omega arith in
    let answer : b.locals + 2 + 0 ≤ b.stack = omega arith in
    record {
      laid = [];
      limits = limits_of_body b;
      junk = replicate n (pos 0);
      goes = body_goes code ps b at fits has;
      body = record { slots = long; frame = fits_frame; caller = tt };
      waiting = tt;
      callers = refl;
      fp = refl;
      sp = place;
      stack = stack;
      size = length-replicate b.stack (pos 0);
      answer = answer;
      spent = refl;
      awaits = refl;
    }

-- each procedure is where its row says
procedures_placed : (code : Code) (all ps : List Procedure) (at : ℕ) → ((f : ℕ) (p : Procedure) → slice_get ps f ≡ Some p → FitsProcedure all p) → HasAt code at (procedures_code at ps) → (f : ℕ) (p : Procedure) → slice_get ps f ≡ Some p → (r : RoutineRow) × (slice_get (routine_rows at ps) f ≡ Some r) × Stands code all p r
procedures_placed code all [] at fits has f p e = absurd (cc)
procedures_placed code all (q ∷ ps) at fits has zero p e =
    let same : q ≡ p = ap (λ o. or_init q o) e in
    let stands : Stands code all q (routine_row at q) = record { parameters = refl; slots = refl; frame = refl; goes = procedure_goes code all q at (fits zero q refl) (has_front code at (procedure_code at q) (procedures_code (at + size_of_procedure q) ps) has) } in
    subst (λ d. (r : RoutineRow) × (Some (routine_row at q) ≡ Some r) × Stands code all d r) same (routine_row at q, refl, stands)
procedures_placed code all (q ∷ ps) at fits has (suc f) p e =
    procedures_placed code all ps (at + size_of_procedure q) (λ g r h. fits (suc g) r h) (has_back code at (size_of_procedure q) (procedure_code at q) (procedures_code (at + size_of_procedure q) ps) (procedure_size q at) has) f p e

handler_starts : (code : Code) (all : List Procedure) (init : Body) (row : BodyRow) (h : Option Body) (at : ℕ) → FitsHandler all h → HasAt code at (handler_code at h) → Keeps code all (source_start init) (machine_start row) → Keeps code all (source_start (or_init init h)) (machine_start (or_init row (option_map (body_row at) h)))
handler_starts code all init row None at fits has k = k
handler_starts code all init row (Some b) at fits has k = body_starts code all b at fits has

process_starts : (code : Code) (all : List Procedure) (init : Body) (row : BodyRow) (ps : List Process) (at n : ℕ) → ((i : ℕ) (p : Process) → slice_get ps i ≡ Some p → FitsBody all p.body) → HasAt code at (processes_code at ps) → Keeps code all (source_start init) (machine_start row) → Keeps code all (source_start (get_or (map body_of_process ps) n init)) (machine_start (get_or (map row_of_process (process_rows at ps)) n row))
process_starts code all init row [] at n fits has k = k
process_starts code all init row (p ∷ ps) at zero fits has k = body_starts code all p.body at (fits zero p refl) (has_front code at (body_code at p.body) (processes_code (at + size_of_process p) ps) has)
process_starts code all init row (p ∷ ps) at (suc n) fits has k =
    process_starts code all init row ps (at + size_of_process p) n (λ i q e. fits (suc i) q e) (has_back code at (size_of_process p) (body_code at p.body) (processes_code (at + size_of_process p) ps) (body_size p.body at) has) k

-- the four parts of a program's code
pub record Parts (code : Code) (p : Program) : Type 0 where
  pub init : HasAt code 0 (body_code 0 p.init)
  pub handler : HasAt code (handler_place p) (handler_code (handler_place p) p.handler)
  pub processes : HasAt code (processes_place p) (processes_code (processes_place p) p.processes)
  pub procedures : HasAt code (procedures_place p) (procedures_code (procedures_place p) p.procedures)

parts : (code : Code) (p : Program) → HasAt code 0 (code_of p) → Parts code p
parts code p has =
    let init = body_code 0 p.init in
    let h = handler_code (handler_place p) p.handler in
    let ps = processes_code (processes_place p) p.processes in
    let rs = procedures_code (procedures_place p) p.procedures in
    let two : length (init ++ h) ≡ processes_place p = omega (arith, length-append init h, body_size p.init 0, handler_size p.handler (handler_place p)) in
    let three : length ((init ++ h) ++ ps) ≡ procedures_place p = omega (arith, length-append (init ++ h) ps, length-append init h, body_size p.init 0, handler_size p.handler (handler_place p), processes_size p.processes (processes_place p)) in
    let front_three = has_front code 0 ((init ++ h) ++ ps) rs has in
    let front_two = has_front code 0 (init ++ h) ps front_three in
    let at_h : 0 + handler_place p ≡ handler_place p = omega arith in
    let at_ps : 0 + processes_place p ≡ processes_place p = omega arith in
    let at_rs : 0 + procedures_place p ≡ procedures_place p = omega arith in
    record {
      init = has_front code 0 init h front_two;
      handler = subst (λ a. HasAt code a h) at_h (has_back code 0 (handler_place p) init h (body_size p.init 0) front_two);
      processes = subst (λ a. HasAt code a ps) at_ps (has_back code 0 (processes_place p) (init ++ h) ps two front_three);
      procedures = subst (λ a. HasAt code a rs) at_rs (has_back code 0 (procedures_place p) ((init ++ h) ++ ps) rs three has);
    }

starts_by : (code : Code) (program : Program) → Fits program → Parts code program → (p : Runner) → Keeps code program.procedures (source_start (source_body program p)) (machine_start (body_row_at (section_of program) p))
starts_by code program fits has runner.Init = body_starts code program.procedures program.init 0 fits.init has.init
starts_by code program fits has runner.Handler =
    handler_starts code program.procedures program.init (body_row 0 program.init) program.handler (handler_place program) fits.handler has.handler (body_starts code program.procedures program.init 0 fits.init has.init)
starts_by code program fits has (runner.Process p) =
    process_starts code program.procedures program.init (body_row 0 program.init) program.processes (processes_place program) p.0 fits.processes has.processes (body_starts code program.procedures program.init 0 fits.init has.init)

append_nothing : (xs : Code) → xs ++ [] ≡ xs
append_nothing [] = refl
append_nothing (x ∷ xs) = ap (λ l. x ∷ l) (append_nothing xs)

pub correct_over : (program : Program) → Fits program → (code : Code) → code ≡ map Some (code_of program) → (costs : Costs) → Simulates (Keeps code program.procedures) (source_engine costs program) (machine_engine costs code (section_of program).routines (body_row_at (section_of program)))
correct_over program fits code e costs =
    let whole : map Some (code_of program) ++ [] ≡ code = append_nothing (map Some (code_of program)) ∙ sym e in
    let has : HasAt code 0 (code_of program) = subst (λ d. HasAt d 0 (code_of program)) whole (has_list [] [] (code_of program)) in
    let all = parts code program has in
    let size = fits.size in
    let long : length code ≡ size_of program = ap length e ∙ length-map (code_of program) (λ i. Some i) ∙ code_size program in
    let short : length code ≤ MOST_INSTRUCTIONS = omega arith in
    let placed : Placed code program (section_of program).routines = record { short = short; routine = procedures_placed code program.procedures program.procedures (procedures_place program) fits.procedures all.procedures } in
    record {
      start = starts_by code program fits all;
      tick = λ c m words k. keeps_tick costs code program (section_of program).routines placed c m words k;
      reply = λ c m answer k. keeps_reply code program.procedures c m answer k;
    }

pub compiled_correctly : (program : Program) → Fits program → CompiledCorrectly program
compiled_correctly program fits = λ e costs. correct_over program fits (map reading (section_of program).code) e costs

-- Pieces of code that were written one after the other are the code of the whole.
use Rattle.std.proofs.Common.{◌≡◌, ℕ, suc, ◌+◌, ◌≤◌, ◌<◌, get_or, drop-cons, List, [], ◌∷◌, ◌++◌, length, map, drop, sym, ap, ◌∙◌, arith, append_assoc, length-append}
use Rattle.apex_types.specs.declared.limits.TheConstants.{MOST_INSTRUCTIONS}
use Rattle.apex_types.specs.declared.instruction.Instr.{Instr}
use Rattle.apex_types.specs.declared.instruction.Instr.TheVariants.{Jump, JumpIfZero}
use Rattle.pal_meaning.specs.Program.{Expr, Stmt, Block, If, IfElse, While, MoreStmts, NoStmt}
use Rattle.pal_meaning.specs.Program.{size_of_expr, size_of_stmt, size_of_block, size_of_procedure, size_of_process}
use Rattle.compiling_laws.specs.CompiledCode.{expr_code, stmt_code, block_code, body_code, procedure_code, processes_code, procedures_code, routine_row, routine_rows, process_row, process_rows}
use Rattle.compiling_laws.proofs.Sizes.{stmt_size, block_size, body_size, procedure_size}
use Rattle.std.proofs.lemmas.List.Sums.{sum_by-cons}
use Rattle.std.specs.List.{sum_by}
use Rattle.machine_meaning.specs.Instructions.{bytes_of, reading}
use Rattle.apex_types.specs.declared.row.RoutineRow.{RoutineRow}
use Rattle.apex_types.specs.declared.row.ProcessRow.{ProcessRow}
use Rattle.pal_meaning.specs.Program.{Procedure, Process}
use Rattle.std.specs.Prelude.{Option, Some, Result, Ok, Err, OnOk}
use Rattle.std.proofs.lemmas.List.{drop_all, map-append}

flat_if : (o e : List Instr) (j : Instr) (b : List Instr) → ((o ++ e) ++ j ∷ []) ++ b ≡ o ++ (e ++ j ∷ b)
flat_if o e j b = simp append_assoc

flat_two : (o e : List Instr) (j : Instr) (b : List Instr) (i : Instr) (c : List Instr) → ((((o ++ e) ++ j ∷ []) ++ b) ++ i ∷ []) ++ c ≡ o ++ ((e ++ j ∷ b) ++ i ∷ c)
flat_two o e j b i c = simp append_assoc

flat_while : (o e : List Instr) (j : Instr) (b : List Instr) (i : Instr) → (((o ++ e) ++ j ∷ []) ++ b) ++ i ∷ [] ≡ o ++ ((e ++ j ∷ b) ++ i ∷ [])
flat_while o e j b i = simp append_assoc

pub if_emitted : (old c1 c2 c3 : List Instr) (slots t n : ℕ) (test : Expr) (block : Block) → c1 ≡ old ++ expr_code test → c2 ≡ c1 ++ JumpIfZero t ∷ [] → c3 ≡ c2 ++ block_code slots n block → t ≡ length old + size_of_expr test + 1 + size_of_block block → n ≡ length old + size_of_expr test + 1 → c3 ≡ old ++ stmt_code slots (length old) (If test block)
if_emitted old c1 c2 c3 slots t n test block e1 e2 e3 et en =
    e3 ∙ ap (λ c. c ++ block_code slots n block) (e2 ∙ ap (λ c. c ++ JumpIfZero t ∷ []) e1)
    ∙ ap (λ m. ((old ++ expr_code test) ++ JumpIfZero t ∷ []) ++ block_code slots m block) en
    ∙ ap (λ u. ((old ++ expr_code test) ++ JumpIfZero u ∷ []) ++ block_code slots (length old + size_of_expr test + 1) block) et
    ∙ flat_if old (expr_code test) (JumpIfZero (length old + size_of_expr test + 1 + size_of_block block)) (block_code slots (length old + size_of_expr test + 1) block)

pub if_else_emitted : (old c1 c2 c3 c4 c5 : List Instr) (slots t u n m : ℕ) (test : Expr) (block other : Block) → c1 ≡ old ++ expr_code test → c2 ≡ c1 ++ JumpIfZero t ∷ [] → c3 ≡ c2 ++ block_code slots n block → c4 ≡ c3 ++ Jump u ∷ [] → c5 ≡ c4 ++ block_code slots m other → n ≡ length old + size_of_expr test + 1 → t ≡ length old + size_of_expr test + 1 + size_of_block block + 1 → m ≡ length old + size_of_expr test + 1 + size_of_block block + 1 → u ≡ length old + size_of_expr test + 1 + size_of_block block + 1 + size_of_block other → c5 ≡ old ++ stmt_code slots (length old) (IfElse test block other)
if_else_emitted old c1 c2 c3 c4 c5 slots t u n m test block other e1 e2 e3 e4 e5 en et em eu =
    let e = expr_code test in
    let inside = length old + size_of_expr test + 1 in
    let behind = inside + size_of_block block + 1 in
    e5 ∙ ap (λ c. c ++ block_code slots m other) (e4 ∙ ap (λ c. c ++ Jump u ∷ []) (e3 ∙ ap (λ c. c ++ block_code slots n block) (e2 ∙ ap (λ c. c ++ JumpIfZero t ∷ []) e1)))
    ∙ ap (λ k. ((((old ++ e) ++ JumpIfZero t ∷ []) ++ block_code slots k block) ++ Jump u ∷ []) ++ block_code slots m other) en
    ∙ ap (λ k. ((((old ++ e) ++ JumpIfZero k ∷ []) ++ block_code slots inside block) ++ Jump u ∷ []) ++ block_code slots m other) et
    ∙ ap (λ k. ((((old ++ e) ++ JumpIfZero behind ∷ []) ++ block_code slots inside block) ++ Jump u ∷ []) ++ block_code slots k other) em
    ∙ ap (λ k. ((((old ++ e) ++ JumpIfZero behind ∷ []) ++ block_code slots inside block) ++ Jump k ∷ []) ++ block_code slots behind other) eu
    ∙ flat_two old e (JumpIfZero behind) (block_code slots inside block) (Jump (behind + size_of_block other)) (block_code slots behind other)

pub while_emitted : (old c1 c2 c3 c4 : List Instr) (slots t u n : ℕ) (test : Expr) (block : Block) → c1 ≡ old ++ expr_code test → c2 ≡ c1 ++ JumpIfZero t ∷ [] → c3 ≡ c2 ++ block_code slots n block → c4 ≡ c3 ++ Jump u ∷ [] → n ≡ length old + size_of_expr test + 1 → t ≡ length old + size_of_expr test + 1 + size_of_block block + 1 → u ≡ length old → c4 ≡ old ++ stmt_code slots (length old) (While test block)
while_emitted old c1 c2 c3 c4 slots t u n test block e1 e2 e3 e4 en et eu =
    let e = expr_code test in
    let inside = length old + size_of_expr test + 1 in
    e4 ∙ ap (λ c. c ++ Jump u ∷ []) (e3 ∙ ap (λ c. c ++ block_code slots n block) (e2 ∙ ap (λ c. c ++ JumpIfZero t ∷ []) e1))
    ∙ ap (λ k. (((old ++ e) ++ JumpIfZero t ∷ []) ++ block_code slots k block) ++ Jump u ∷ []) en
    ∙ ap (λ k. (((old ++ e) ++ JumpIfZero k ∷ []) ++ block_code slots inside block) ++ Jump u ∷ []) et
    ∙ ap (λ k. (((old ++ e) ++ JumpIfZero (inside + size_of_block block + 1) ∷ []) ++ block_code slots inside block) ++ Jump k ∷ []) eu
    ∙ flat_while old e (JumpIfZero (inside + size_of_block block + 1)) (block_code slots inside block) (Jump (length old))

pub on_ok : {T E : Type 0} {P Q : Type 0} (r : Result T E) → (P → Q) → OnOk r P → OnOk r Q
on_ok (Ok v) f h = f h
on_ok (Err e) f h = tt

-- one statement of a block
pub block_step : (c1 c2 x : List Instr) (slots : ℕ) (s : Stmt) (rest all : Block) → all ≡ MoreStmts s rest → c1 ++ block_code slots (length c1) all ≡ x → length c1 + size_of_block all ≤ MOST_INSTRUCTIONS → c2 ≡ c1 ++ stmt_code slots (length c1) s → (c2 ++ block_code slots (length c2) rest ≡ x) × (length c2 + size_of_block rest ≤ MOST_INSTRUCTIONS)
block_step c1 c2 x slots s rest all e same fits written =
    let long : length c2 ≡ length c1 + size_of_stmt s = ap length written ∙ length-append c1 (stmt_code slots (length c1) s) ∙ ap (λ n. length c1 + n) (stmt_size s slots (length c1)) in
    let whole : size_of_block all ≡ size_of_stmt s + size_of_block rest = ap size_of_block e in
    let left : length c2 + size_of_block rest ≤ MOST_INSTRUCTIONS = omega arith in
    (ap (λ n. c2 ++ block_code slots n rest) long ∙ ap (λ c. c ++ block_code slots (length c1 + size_of_stmt s) rest) written ∙ append_assoc c1 (stmt_code slots (length c1) s) (block_code slots (length c1 + size_of_stmt s) rest) ∙ ap (λ b. c1 ++ block_code slots (length c1) b) (sym e) ∙ same, left)

pub block_done : (c1 c0 : List Instr) (slots n : ℕ) (rest all : Block) → rest ≡ NoStmt → c1 ++ block_code slots n rest ≡ c0 ++ block_code slots (length c0) all → length c1 ≡ length c0 + size_of_block all
block_done c1 c0 slots n rest all e same =
    let none : length (block_code slots n rest) ≡ 0 = ap (λ b. length (block_code slots n b)) e in
    let both = ap length same in
    omega (arith, length-append c1 (block_code slots n rest), length-append c0 (block_code slots (length c0) all), block_size all slots (length c0))

pub none_left : {X : Type 0} (xs : List X) (i : ℕ) → length xs ≤ i → drop i xs ≡ []
none_left xs i h = drop_all i xs h

pub next_index : (i : ℕ) → suc i ≡ i + 1
next_index i = omega arith

-- one procedure, and one process, with their rows
pub procedure_step : (c1 c2 x : List Instr) (r1 r2 y : List RoutineRow) (row : RoutineRow) (p : Procedure) (rest all : List Procedure) → all ≡ p ∷ rest → c1 ++ procedures_code (length c1) all ≡ x → r1 ++ routine_rows (length c1) all ≡ y → length c1 + sum_by size_of_procedure all ≤ MOST_INSTRUCTIONS → c2 ≡ c1 ++ procedure_code (length c1) p → row ≡ routine_row (length c1) p → r2 ≡ r1 ++ row ∷ [] → (c2 ++ procedures_code (length c2) rest ≡ x) × (r2 ++ routine_rows (length c2) rest ≡ y) × (length c2 + sum_by size_of_procedure rest ≤ MOST_INSTRUCTIONS)
procedure_step c1 c2 x r1 r2 y row p rest all e same rows fits written is added =
    let at = length c1 + size_of_procedure p in
    let long : length c2 ≡ at = ap length written ∙ length-append c1 (procedure_code (length c1) p) ∙ ap (λ n. length c1 + n) (procedure_size p (length c1)) in
    let whole = ap (λ l. sum_by size_of_procedure l) e in
    let left : length c2 + sum_by size_of_procedure rest ≤ MOST_INSTRUCTIONS = omega (arith, sum_by-cons size_of_procedure p rest) in (
      ap (λ n. c2 ++ procedures_code n rest) long ∙ ap (λ c. c ++ procedures_code at rest) written ∙ append_assoc c1 (procedure_code (length c1) p) (procedures_code at rest) ∙ ap (λ l. c1 ++ procedures_code (length c1) l) (sym e) ∙ same,
      ap (λ n. r2 ++ routine_rows n rest) long ∙ ap (λ r. r ++ routine_rows at rest) (added ∙ ap (λ w. r1 ++ w ∷ []) is) ∙ append_assoc r1 (routine_row (length c1) p ∷ []) (routine_rows at rest) ∙ ap (λ l. r1 ++ routine_rows (length c1) l) (sym e) ∙ rows,
      left,
    )

pub process_step : (c1 c2 x : List Instr) (r1 r2 y : List ProcessRow) (row : ProcessRow) (p : Process) (rest all : List Process) → all ≡ p ∷ rest → c1 ++ processes_code (length c1) all ≡ x → r1 ++ process_rows (length c1) all ≡ y → length c1 + sum_by size_of_process all ≤ MOST_INSTRUCTIONS → c2 ≡ c1 ++ body_code (length c1) p.body → row ≡ process_row (length c1) p → r2 ≡ r1 ++ row ∷ [] → (c2 ++ processes_code (length c2) rest ≡ x) × (r2 ++ process_rows (length c2) rest ≡ y) × (length c2 + sum_by size_of_process rest ≤ MOST_INSTRUCTIONS)
process_step c1 c2 x r1 r2 y row p rest all e same rows fits written is added =
    let at = length c1 + size_of_process p in
    let long : length c2 ≡ at = ap length written ∙ length-append c1 (body_code (length c1) p.body) ∙ ap (λ n. length c1 + n) (body_size p.body (length c1)) in
    let whole = ap (λ l. sum_by size_of_process l) e in
    let left : length c2 + sum_by size_of_process rest ≤ MOST_INSTRUCTIONS = omega (arith, sum_by-cons size_of_process p rest) in (
      ap (λ n. c2 ++ processes_code n rest) long ∙ ap (λ c. c ++ processes_code at rest) written ∙ append_assoc c1 (body_code (length c1) p.body) (processes_code at rest) ∙ ap (λ l. c1 ++ processes_code (length c1) l) (sym e) ∙ same,
      ap (λ n. r2 ++ process_rows n rest) long ∙ ap (λ r. r ++ process_rows at rest) (added ∙ ap (λ w. r1 ++ w ∷ []) is) ∙ append_assoc r1 (process_row (length c1) p ∷ []) (process_rows at rest) ∙ ap (λ l. r1 ++ process_rows (length c1) l) (sym e) ∙ rows,
      left,
    )

-- one instruction more as bytes
pub encode_step : (b1 b2 : List (List ℕ)) (e : List ℕ) (x : Instr) (rest all : List Instr) (y : List (List ℕ)) → e ≡ bytes_of x → all ≡ x ∷ rest → b1 ++ map bytes_of all ≡ y → b2 ≡ b1 ++ e ∷ [] → b2 ++ map bytes_of rest ≡ y
encode_step b1 b2 e x rest all y is list same added =
    ap (λ b. b ++ map bytes_of rest) (added ∙ ap (λ w. b1 ++ w ∷ []) is) ∙ append_assoc b1 (bytes_of x ∷ []) (map bytes_of rest) ∙ ap (λ l. b1 ++ map bytes_of l) (sym list) ∙ same

pub encode_at : (xs : List Instr) (i : ℕ) (d : Instr) (b1 b2 : List (List ℕ)) (e : List ℕ) (y : List (List ℕ)) → e ≡ bytes_of (get_or xs i d) → i < length xs → b1 ++ map bytes_of (drop i xs) ≡ y → b2 ≡ b1 ++ e ∷ [] → b2 ++ map bytes_of (drop (i + 1) xs) ≡ y
encode_at xs i d b1 b2 e y is lt same added = encode_step b1 b2 e (get_or xs i d) (drop (i + 1) xs) (drop i xs) y is (drop-cons xs i d lt ∙ ap (λ j. get_or xs i d ∷ drop j xs) (next_index i)) same added

-- one instruction more as bytes that are read as it
pub read_step : (b1 b2 : List (List ℕ)) (e : List ℕ) (x : Instr) (rest all : List Instr) (y : List (Option Instr)) → reading e ≡ Some x → all ≡ x ∷ rest → map reading b1 ++ map Some all ≡ y → b2 ≡ b1 ++ e ∷ [] → map reading b2 ++ map Some rest ≡ y
read_step b1 b2 e x rest all y is list same added =
    ap (λ b. map reading b ++ map Some rest) added ∙ ap (λ l. l ++ map Some rest) (map-append reading b1 (e ∷ [])) ∙ ap (λ o. (map reading b1 ++ o ∷ []) ++ map Some rest) is ∙ append_assoc (map reading b1) (Some x ∷ []) (map Some rest) ∙ ap (λ l. map reading b1 ++ map Some l) (sym list) ∙ same

pub read_at : (xs : List Instr) (i : ℕ) (d : Instr) (b1 b2 : List (List ℕ)) (e : List ℕ) (y : List (Option Instr)) → reading e ≡ Some (get_or xs i d) → i < length xs → map reading b1 ++ map Some (drop i xs) ≡ y → b2 ≡ b1 ++ e ∷ [] → map reading b2 ++ map Some (drop (i + 1) xs) ≡ y
read_at xs i d b1 b2 e y is lt same added = read_step b1 b2 e (get_or xs i d) (drop (i + 1) xs) (drop i xs) y is (drop-cons xs i d lt ∙ ap (λ j. get_or xs i d ∷ drop j xs) (next_index i)) same added

-- The section of an accepted program is lawful in an image.
use Rattle.compiling_laws.proofs.Prelude.{◌≡◌, ℕ, suc, ◌+◌, ◌≤◌, ◌^◌, Bool, true, false, cond, nat_eq, List, ◌∷◌, ◌++◌, length, map, Option, Some, None, Ok, refl, sym, ap, ◌∙◌, subst, append_assoc, slice_get, nat_le, nat_lt, filter_map, option_map, bytes_eq, FitsSigned, w64, list_all, sum_by, AllByRecursion, All, and_parts, leb-true, cond_both, cond-true, lt-ltb, length-map, sum_by-cons, third_limits, LEAST_STACK_WORDS, MOST_INSTRUCTIONS, MOST_LOCALS, MOST_PARAMETERS, MOST_PROCESSES, MOST_STACK_WORDS, is_name, Denotation, RoutineRow, PortRow, Instr, size_of, size_of_handler, size_of_process, size_of_procedure, code_of, handler_place, processes_place, procedures_place, body_row, process_rows, routine_row, routine_rows, section_of, Fits, FitsBody, FitsHandler, FitsProcedure, no_counts, Entry, find, declaration_entries, process_entries, within, count_within, resolve_body, resolve_stack_body, resolve_process, procedure_of, resolve, verdict, names_hold, limits_hold, periods_hold, is_between, keeps_stack_body, keeps_process, keeps_handler, keeps_counts, keeps_declaration, each_beside}
use Rattle.std.proofs.Common.{◌%◌, [], arith}
use Rattle.std.specs.Prelude.{is_some}
use Rattle.std.proofs.lemmas.Bool.{and_from, not-true, or_from}
use Rattle.std.proofs.lemmas.List.{append-nil}
use Rattle.std.proofs.lemmas.List.Folds.{list_any-append}
use Rattle.apex_types.specs.declared.limits.TheConstants.{GREATEST_PRIORITY, INSTRUCTION_BYTES, MOST_TICKS}
use Rattle.apex_types.specs.declared.row.ProcessRow.{ProcessRow}
use Rattle.pal_meaning.specs.Program as program
use Rattle.pal_meaning.specs.Syntax as written
use Rattle.compiling_laws.specs.CompiledCode.{process_row}
use Rattle.machine_meaning.specs.Instructions.{bytes_of}
use Rattle.machine_meaning.specs.ImageReading.{is_process, is_infinite_or_multiple, handler_enters}
use Rattle.machine_meaning.specs.ImageSpelling.{bodies_in}
use Rattle.machine_meaning.specs.ImageLimits.{EachBeside, IsRoutine, IsBody, IsDuration, IsProcess, IsHandler, AreBodies, IsCode, IsSection}
use Rattle.pal_meaning.specs.Resolve.{declared_entries}
use Rattle.pal_meaning.specs.WellFormed.{are_new, keeps_period, is_written_multiple}
use Rattle.compiling_laws.proofs.Sizes.{code_size}
use Rattle.compiling_laws.proofs.WellFormedFits.{accepted, keeps_within, well_formed_fits}
use Rattle.compiling_laws.proofs.WellFormedObjects.{one_or_none, each_option, all_totals, objects_lawful}

count_small : (limit n : ℕ) → count_within limit n ≤ limit
count_small limit n = cond_both (nat_le n limit) n 0 (λ x. x ≤ limit) (λ e. leb-true n limit e) (λ e. omega arith)

each_of_places : {A : Type 0} (P : A → Type 0) (xs : List A) → ((i : ℕ) (x : A) → slice_get xs i ≡ Some x → P x) → AllByRecursion P xs
each_of_places P [] h = tt
each_of_places P (x ∷ xs) h = (h 0 x refl, each_of_places P xs (λ i y e. h (suc i) y e))

-- ---- procedures

record IsSmall (p : program.Procedure) : Type 0 where
  parameters : p.parameters ≤ MOST_PARAMETERS
  locals : p.locals ≤ MOST_LOCALS

procedure_small : (declared : List Entry) (k : written.Kind) → AllByRecursion IsSmall (one_or_none (procedure_of declared k))
procedure_small declared (written.Variable value) = tt
procedure_small declared (written.Array size values) = tt
procedure_small declared (written.Semaphore first maximum discipline) = tt
procedure_small declared written.Event = tt
procedure_small declared (written.Buffer words messages discipline) = tt
procedure_small declared (written.Blackboard words) = tt
procedure_small declared written.Port = tt
procedure_small declared (written.Procedure parameters b) = (record { parameters = count_small MOST_PARAMETERS (length parameters); locals = count_small MOST_LOCALS (length b.locals) }, tt)

procedures_small : (declared : List Entry) (ds : List written.Declaration) → AllByRecursion IsSmall (filter_map (λ (d : written.Declaration). procedure_of declared d.kind) ds)
procedures_small declared [] = tt
procedures_small declared (d ∷ ds) = each_option IsSmall (procedure_of declared d.kind) _ (procedure_small declared d.kind) (procedures_small declared ds)

routine_is : (all : List program.Procedure) (at : ℕ) (p : program.Procedure) → IsSmall p → FitsProcedure all p → at ≤ MOST_INSTRUCTIONS → IsRoutine (routine_row at p)
routine_is all at p small fits room = record {
  entry = omega arith;
  parameters = record { least = omega arith; most = small.parameters };
  slots = record { least = omega arith; most = omega (arith, small.parameters, small.locals) };
  frame = record { least = omega arith; most = fits.frame };
}

routines_are : (all : List program.Procedure) (at : ℕ) (ps : List program.Procedure) → AllByRecursion IsSmall ps → AllByRecursion (FitsProcedure all) ps → at + sum_by size_of_procedure ps ≤ MOST_INSTRUCTIONS → AllByRecursion IsRoutine (routine_rows at ps)
routines_are all at [] small fits room = tt
routines_are all at (p ∷ ps) small fits room =
    let more = sum_by-cons size_of_procedure p ps in
    (routine_is all at p small.0 fits.0 (omega arith), routines_are all (at + size_of_procedure p) ps small.1 fits.1 (omega arith))

routines_enter : (at total : ℕ) (ps : List program.Procedure) → at + sum_by size_of_procedure ps ≤ total → list_all (λ (row : RoutineRow). nat_lt row.entry total) (routine_rows at ps) ≡ true
routines_enter at total [] room = refl
routines_enter at total (p ∷ ps) room =
    let more = sum_by-cons size_of_procedure p ps in
    and_from (nat_lt at total) _ (lt-ltb at total (omega arith)) (routines_enter (at + size_of_procedure p) total ps (omega arith))

routine_count : (at : ℕ) (ps : List program.Procedure) → length (routine_rows at ps) ≡ length ps
routine_count at [] = refl
routine_count at (p ∷ ps) = ap suc (routine_count (at + size_of_procedure p) ps)

-- ---- bodies

body_is : (declared : List Entry) (procedures : List program.Procedure) (at : ℕ) (stack : Option ℕ) (b : written.Body) → FitsBody procedures (resolve_body declared stack b) → is_between LEAST_STACK_WORDS MOST_STACK_WORDS stack ≡ true → at ≤ MOST_INSTRUCTIONS → IsBody (body_row at (resolve_body declared stack b))
body_is declared procedures at stack b fits held room =
    let k = keeps_within LEAST_STACK_WORDS MOST_STACK_WORDS stack held in
    let few = count_small MOST_LOCALS (length b.locals) in
    record {
      stack = record { least = omega (arith, k.4, k.2); most = omega (arith, k.4, k.3) };
      entry = omega arith;
      slots = record { least = omega arith; most = omega arith };
      frame = record { least = omega arith; most = fits.frame };
    }

stack_between : (declared : List Entry) (stack : Option ℕ) (b : written.Body) → keeps_stack_body declared stack b ≡ true → is_between LEAST_STACK_WORDS MOST_STACK_WORDS stack ≡ true
stack_between declared stack b h = (and_parts (is_between LEAST_STACK_WORDS MOST_STACK_WORDS stack) _ (and_parts _ _ h).0).0

handler_is : (declared : List Entry) (procedures : List program.Procedure) (at : ℕ) (h : Option written.StackBody) → FitsHandler procedures (option_map (resolve_stack_body declared) h) → keeps_handler declared h ≡ true → at ≤ MOST_INSTRUCTIONS
    → IsHandler (option_map (body_row at) (option_map (resolve_stack_body declared) h))
handler_is declared procedures at None fits keeps room = tt
handler_is declared procedures at (Some b) fits keeps room = body_is declared procedures at b.stack b.body fits (stack_between declared b.stack b.body keeps) room

handler_enters_within : (at total : ℕ) (h : Option program.Body) → at + size_of_handler h ≤ total → handler_enters total (option_map (body_row at) h) ≡ true
handler_enters_within at total None room = refl
handler_enters_within at total (Some b) room = lt-ltb at total (omega arith)

-- ---- processes

duration_is : (negative : Bool) (m : Option ℕ) → cond negative (is_between 1 1 m) (is_between 1 MOST_TICKS m) ≡ true → IsDuration (cond negative None (Some (within MOST_TICKS m)))
duration_is true m h = tt
duration_is false m h = let k = keeps_within 1 MOST_TICKS m h in record { least = omega (arith, k.4, k.2); most = omega (arith, k.4, k.3) }

multiple_is : (unit : ℕ) (negative : Bool) (m : Option ℕ) → cond negative (is_between 1 1 m) (is_between 1 MOST_TICKS m) ≡ true → cond negative true (is_written_multiple unit m) ≡ true → is_infinite_or_multiple unit (cond negative None (Some (within MOST_TICKS m))) ≡ true
multiple_is unit true m h k = refl
multiple_is unit false None h k = absurd cc
multiple_is unit false (Some n) h k =
    let parts = and_parts (nat_le 1 n) (nat_le n MOST_TICKS) h in
    let is : within MOST_TICKS (Some n) ≡ n = cond-true (nat_le n MOST_TICKS) n 0 parts.1 in
    ap (λ x. nat_eq (x % unit) 0) is ∙ (and_parts (nat_lt 0 unit) (nat_eq (n % unit) 0) k).1

-- a name of no entry is the name of no row
abbrev Covers : List Entry → List ProcessRow → Type 0
Covers entries rows = (name : List ℕ) → is_some (find name entries) ≡ false → is_process rows name ≡ false

no_match : (b : Bool) (m : Denotation) → is_some (cond b (Some m) None) ≡ false → b ≡ false
no_match true m h = absurd cc
no_match false m h = refl

not_first : (b : Bool) (m : Denotation) (o p : Option Denotation) (Q : Type 0) → (is_some o ≡ false → (is_some p ≡ false) × Q) → is_some (cond b (Some m) o) ≡ false → (is_some (cond b (Some m) p) ≡ false) × Q
not_first true m o p Q rest h = absurd cc
not_first false m o p Q rest h = rest h

none_before : (name : List ℕ) (xs : List Entry) (e : Entry) → is_some (find name (xs ++ e ∷ [])) ≡ false → (is_some (find name xs) ≡ false) × (bytes_eq e.name name ≡ false)
none_before name [] e h = (refl, no_match (bytes_eq e.name name) e.meaning h)
none_before name (x ∷ xs) e h = not_first (bytes_eq x.name name) x.meaning (find name (xs ++ e ∷ [])) (find name xs) (bytes_eq e.name name ≡ false) (none_before name xs e) h

covers_more : (entries : List Entry) (rows : List ProcessRow) (e : Entry) (row : ProcessRow) → e.name ≡ row.name → Covers entries rows → Covers (entries ++ e ∷ []) (rows ++ row ∷ [])
covers_more entries rows e row same covers name h =
    let parts = none_before name entries e h in
    let last : bytes_eq row.name name ≡ false = ap (λ n. bytes_eq n name) (sym same) ∙ parts.1 in
    list_any-append (λ (r : ProcessRow). bytes_eq r.name name) rows (row ∷ []) ∙ or_from (is_process rows name) _ (covers name parts.0) (or_from (bytes_eq row.name name) false last refl)

new_behind : (before xs ys : List Entry) → are_new [] before (xs ++ ys) ≡ true → are_new [] (before ++ xs) ys ≡ true
new_behind before [] ys h = subst (λ (b : List Entry). are_new [] b ys ≡ true) (sym (append-nil before)) h
new_behind before (x ∷ xs) ys h =
    let rest = new_behind (before ++ x ∷ []) xs ys (and_parts _ (are_new [] (before ++ x ∷ []) (xs ++ ys)) h).1 in
    subst (λ (b : List Entry). are_new [] b ys ≡ true) (append_assoc before (x ∷ []) xs) rest

module _ (unit : ℕ) (declared : List Entry) (procedures : List program.Procedure) where
  process_is : (at : ℕ) (rows : List ProcessRow) (q : written.Process) → FitsBody procedures (resolve_body declared q.stack q.body) → keeps_process declared q ≡ true → keeps_period unit q ≡ true → is_process rows q.name ≡ false → at ≤ MOST_INSTRUCTIONS
      → IsProcess unit rows (process_row at (resolve_process declared q))
  process_is at rows q fits keeps period fresh room =
      let k1 = and_parts _ (keeps_stack_body declared q.stack q.body) keeps in
      let k2 = and_parts _ _ k1.0 in
      let k3 = and_parts _ _ k2.0 in
      let k4 = and_parts (is_name q.name) (is_between 1 GREATEST_PRIORITY q.priority) k3.0 in
      let priority = keeps_within 1 GREATEST_PRIORITY q.priority k4.1 in
      record {
        name = k4.0;
        fresh = fresh;
        priority = record { least = omega (arith, priority.4, priority.2); most = omega (arith, priority.4, priority.3) };
        period = duration_is q.period.negative q.period.magnitude k3.1;
        multiple = multiple_is unit q.period.negative q.period.magnitude k3.1 period;
        capacity = duration_is q.capacity.negative q.capacity.magnitude k2.1;
        body = body_is declared procedures at q.stack q.body fits (stack_between declared q.stack q.body k1.1) room;
      }

  processes_are : (at count : ℕ) (entries : List Entry) (rows : List ProcessRow) (qs : List written.Process) → Covers entries rows → are_new [] entries (process_entries count qs) ≡ true → AllByRecursion (λ (q : program.Process). FitsBody procedures q.body) (map (resolve_process declared) qs) → list_all (keeps_process declared) qs ≡ true → list_all (keeps_period unit) qs ≡ true
      → at + sum_by size_of_process (map (resolve_process declared) qs) ≤ MOST_INSTRUCTIONS → EachBeside (IsProcess unit) rows (process_rows at (map (resolve_process declared) qs))
  processes_are at count entries rows [] covers new fits keeps periods room = tt
  processes_are at count entries rows (q ∷ qs) covers new fits keeps periods room =
      let r = resolve_process declared q in
      let more = sum_by-cons size_of_process r (map (resolve_process declared) qs) in
      let n = and_parts _ _ new in
      let k = and_parts (keeps_process declared q) (list_all (keeps_process declared) qs) keeps in
      let p = and_parts (keeps_period unit q) (list_all (keeps_period unit) qs) periods in
      let fresh : is_process rows q.name ≡ false = covers q.name (not-true (is_some (find q.name entries)) n.0) in
      let still = covers_more entries rows _ (process_row at r) refl covers in
      (process_is at rows q fits.0 k.0 p.0 fresh (omega arith), processes_are (at + size_of_process r) _ _ (rows ++ process_row at r ∷ []) qs still n.1 fits.1 k.1 p.1 (omega arith))

processes_enter : (at total : ℕ) (ps : List program.Process) → at + sum_by size_of_process ps ≤ total → list_all (λ (row : ProcessRow). nat_lt row.body.entry total) (process_rows at ps) ≡ true
processes_enter at total [] room = refl
processes_enter at total (p ∷ ps) room =
    let more = sum_by-cons size_of_process p ps in
    and_from (nat_lt at total) _ (lt-ltb at total (omega arith)) (processes_enter (at + size_of_process p) total ps (omega arith))

process_count : (at : ℕ) (ps : List program.Process) → length (process_rows at ps) ≡ length ps
process_count at [] = refl
process_count at (p ∷ ps) = ap suc (process_count (at + size_of_process p) ps)

-- ---- the code

sixteen_bytes : (is : List Instr) → AllByRecursion (λ bytes. length bytes ≡ INSTRUCTION_BYTES) (map bytes_of is)
sixteen_bytes [] = tt
sixteen_bytes (i ∷ is) = (refl, sixteen_bytes is)

-- ---- the section

bodies_lawful : (ports : List PortRow) (period : ℕ) (p : written.Program) → names_hold ports p ≡ true → limits_hold ports p ≡ true → periods_hold period p ≡ true → Fits (resolve ports p) → AreBodies third_limits period (bodies_in (section_of (resolve ports p)))
bodies_lawful ports period p names limits periods fits =
    let r = resolve ports p in
    let declared = declared_entries ports p in
    let l1 = and_parts _ _ limits in
    let l2 = and_parts _ _ l1.0 in
    let l3 = and_parts _ _ l2.0 in
    let l4 = and_parts _ _ l3.0 in
    let l5 = and_parts (keeps_counts no_counts p.declarations) (list_all (keeps_declaration declared) p.declarations) l4.0 in
    let t = all_totals declared p.declarations l5.0 l5.1 in
    let small = fits.size in
    let few : length p.processes ≤ MOST_PROCESSES = leb-true (length p.processes) MOST_PROCESSES l1.1 in
    let before = declaration_entries ports no_counts p.declarations in
    let new = new_behind [] before (process_entries 0 p.processes) (and_parts _ _ names).0 in
    record {
      routine_count = record { least = omega arith; most = omega (arith, t.procedures, routine_count (procedures_place r) r.procedures) };
      routines = each_beside IsRoutine [] _ (routines_are r.procedures (procedures_place r) r.procedures (procedures_small declared p.declarations) (each_of_places (FitsProcedure r.procedures) r.procedures fits.procedures) (omega (arith, small)));
      process_count = record { least = omega arith; most = omega (arith, few, process_count (processes_place r) r.processes, length-map p.processes (resolve_process declared)) };
      processes = processes_are period declared r.procedures (processes_place r) 0 before [] p.processes (λ name h. refl) new (each_of_places (λ (q : program.Process). FitsBody r.procedures q.body) r.processes fits.processes) l2.1 periods (omega (arith, small));
      init = body_is declared r.procedures 0 p.init.stack p.init.body fits.init (stack_between declared p.init.stack p.init.body l4.1) (omega arith);
      handler = handler_is declared r.procedures (handler_place r) p.handler fits.handler l3.1 (omega (arith, small));
    }

code_lawful : (r : program.Program) → size_of r ≤ MOST_INSTRUCTIONS → IsCode (bodies_in (section_of r)) (section_of r).code
code_lawful r small =
    let total = length (section_of r).code in
    let size : total ≡ size_of r = length-map (code_of r) bytes_of ∙ code_size r in
    let init : nat_lt 0 total ≡ true = lt-ltb 0 total (omega (arith, size)) in
    let handler = handler_enters_within (handler_place r) total r.handler (omega (arith, size)) in
    let processes = processes_enter (processes_place r) total r.processes (omega (arith, size)) in
    let routines = routines_enter (procedures_place r) total r.procedures (omega (arith, size)) in
    record {
      count = record { least = omega (arith, size); most = omega (arith, size) };
      entries = and_from _ _ (and_from _ _ (and_from _ _ routines processes) init) handler;
      instructions = each_beside (λ bytes. length bytes ≡ INSTRUCTION_BYTES) [] _ (sixteen_bytes (code_of r));
    }

section_lawful : (ports : List PortRow) (period : ℕ) (p : written.Program) → names_hold ports p ≡ true → limits_hold ports p ≡ true → periods_hold period p ≡ true → All (FitsSigned w64) (resolve ports p).initial → Fits (resolve ports p) → IsSection third_limits period (section_of (resolve ports p))
section_lawful ports period p names limits periods words fits =
    let l1 = and_parts _ _ limits in
    let l2 = and_parts _ _ l1.0 in
    let l3 = and_parts _ _ l2.0 in
    let l4 = and_parts _ _ l3.0 in
    let l5 = and_parts _ _ l4.0 in
    record {
      objects = objects_lawful ports p l5.0 l5.1 words;
      bodies = bodies_lawful ports period p names limits periods fits;
      code = code_lawful (resolve ports p) fits.size;
    }

-- The section of an accepted program whose data are words, if its code is not too long.
pub accepted_section : (ports : List PortRow) (period : ℕ) (p : written.Program) (r : program.Program) → verdict ports period p ≡ Ok r → size_of r ≤ MOST_INSTRUCTIONS → All (FitsSigned w64) r.initial → IsSection third_limits period (section_of r)
accepted_section ports period p r h small words =
    let a = accepted ports period p r h in
    let fits = well_formed_fits ports period p r h small in
    let back = sym a.is in
    subst (λ (q : program.Program). IsSection third_limits period (section_of q)) a.is
    (section_lawful ports period p a.names a.limits a.periods (subst (λ (q : program.Program). All (FitsSigned w64) q.initial) back words) (subst Fits back fits))

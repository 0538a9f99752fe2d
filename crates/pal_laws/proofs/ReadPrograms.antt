-- A program that is written is read as it.
use Rattle.std.proofs.Common.{◌-◌, ◌≡◌, ℕ, Bool, true, false, List, [], ◌∷◌, length, Option, Some, None, Ok, Err, refl, sym, ap, ◌∙◌}
use Rattle.std.specs.Prelude.{codes}
use Rattle.apex_types.specs.declared.limits.TheConstants.{MOST_LEVELS}
use Rattle.apex_types.specs.declared.codes.Discipline.{Discipline}
use Rattle.apex_types.specs.declared.codes.Discipline.TheVariants as discipline
use Rattle.pal_meaning.specs.Grammar.{Word, Name, Number, Mark}
use Rattle.pal_laws.specs.GrammarReading.{Answer, Turn, ◌>>=◌, each, until, expect, name_at, number_at, integer_at, discipline_at, repeat, names_at, statements_at, local_at, locals_at, body_at, declared, first_value_at, variable_at, integers_at, first_values_at, array_at, semaphore_at, event_at, buffer_at, blackboard_at, port_at, parameters_at, procedure_at, declaration_at, declarations_at, stack_body_at, handler_at, process_at, processes_at, program_at}
use Rattle.pal_meaning.specs.Grammar.{integer_words, all_words, names_words, block_words, local_words, body_words, discipline_word, first_words, values_words, kind_words, declaration_words, stack_body_words, handler_words, process_words, program_words, IsBody, IsKind, Each, IsHandler, IsProgram, IsWritten}
use Rattle.pal_meaning.specs.Syntax as tree
use Rattle.pal_laws.proofs.Longer.{integer_longer, local_longer, declaration_longer, process_longer}
use Rattle.pal_laws.proofs.ReadSteps.{then_reads, other_way, repeat_reads, Any, any_all}
use Rattle.pal_laws.proofs.ReadStatements.{names_read, block_start, statements_read}

-- numbers
signed_reads : (negative : Bool) (magnitude : Option ℕ) (rest : List Word) →
    integer_at (integer_words (record { negative = negative; magnitude = magnitude }) rest) ≡ Ok (record { negative = negative; magnitude = magnitude }, rest)
unfolding integer_at expect number_at
signed_reads true magnitude rest = refl
signed_reads false magnitude rest = refl

integer_reads : (n : tree.Integer) (rest : List Word) → integer_at (integer_words n rest) ≡ Ok (n, rest)
integer_reads n rest = signed_reads n.negative n.magnitude rest

no_semicolon : (negative : Bool) (magnitude : Option ℕ) (rest : List Word) → expect (codes ";") (integer_words (record { negative = negative; magnitude = magnitude }) rest) ≡ Err (length (integer_words (record { negative = negative; magnitude = magnitude }) rest))
unfolding expect
no_semicolon true magnitude rest = refl
no_semicolon false magnitude rest = refl

abbrev integer_turn : Turn tree.Integer
integer_turn ws = until (expect (codes ";") ws) (integer_at ws)

integer_turn_reads : (n : tree.Integer) (ws : List Word) → integer_turn (integer_words n ws) ≡ Ok (Some (n, ws))
integer_turn_reads n ws =
    ap (λ o. until o (integer_at (integer_words n ws))) (no_semicolon n.negative n.magnitude ws)
    ∙ ap (λ o. o >>= λ x. Ok (Some x)) (integer_reads n ws)

integer_turn_ends : (rest : List Word) → integer_turn (Mark (codes ";") ∷ rest) ≡ Ok None
unfolding expect
integer_turn_ends rest = refl

integers_read : (n : tree.Integer) (ns : List tree.Integer) (rest : List Word) → integers_at (all_words integer_words (n ∷ ns) (Mark (codes ";") ∷ rest)) ≡ Ok (n ∷ ns, rest)
unfolding integers_at expect
integers_read n ns rest =
    let after = all_words integer_words ns (Mark (codes ";") ∷ rest) in
    then_reads (integer_at (integer_words n after)) _ _ _ (integer_reads n after)
    (then_reads (repeat integer_turn after) _ _ _ (repeat_reads Any integer_words integer_turn ns (Mark (codes ";") ∷ rest) (λ m ws so. integer_turn_reads m ws) integer_longer (any_all ns) (integer_turn_ends rest)) refl)

-- bodies
abbrev local_turn : Turn (List ℕ)
local_turn ws = each (expect (codes "local") ws) local_at

local_turn_reads : (x : List ℕ) (ws : List Word) → local_turn (local_words x ws) ≡ Ok (Some (x, ws))
unfolding local_at name_at expect
local_turn_reads x ws = refl

locals_read : (xs : List (List ℕ)) (rest : List Word) → expect (codes "local") rest ≡ Err (length rest) → locals_at (all_words local_words xs rest) ≡ Ok (xs, rest)
unfolding locals_at
locals_read xs rest none = repeat_reads Any local_words local_turn xs rest (λ x ws so. local_turn_reads x ws) local_longer (any_all xs) (ap (λ o. each o local_at) none)

body_reads : (b : tree.Body) (rest : List Word) → IsBody b → body_at (body_words b rest) ≡ Ok (b, rest)
unfolding body_at expect
body_reads b rest is =
    let block = block_words b.block (Mark (codes "}") ∷ rest) in
    then_reads (locals_at (all_words local_words b.locals block)) _ _ _ (locals_read b.locals block (block_start b.block (codes "local") rest (refl, refl, refl, refl) refl))
    (then_reads (statements_at (MOST_LEVELS - 1) block) _ _ _ (statements_read b.block (MOST_LEVELS - 1) rest is) refl)

-- declarations
first_value_reads : (value : Option tree.Integer) (rest : List Word) → first_value_at (first_words value (Mark (codes ";") ∷ rest)) ≡ Ok (value, Mark (codes ";") ∷ rest)
unfolding first_value_at expect
first_value_reads None rest = refl
first_value_reads (Some n) rest = then_reads (integer_at (integer_words n (Mark (codes ";") ∷ rest))) _ _ _ (integer_reads n (Mark (codes ";") ∷ rest)) refl

variable_reads : (x : List ℕ) (value : Option tree.Integer) (rest : List Word) → variable_at (Name x ∷ first_words value (Mark (codes ";") ∷ rest)) ≡ Ok (declared x (tree.Variable value), rest)
unfolding variable_at name_at expect
variable_reads x value rest = then_reads (first_value_at (first_words value (Mark (codes ";") ∷ rest))) _ _ _ (first_value_reads value rest) refl

array_reads : (x : List ℕ) (size : Option ℕ) (values : List tree.Integer) (rest : List Word) →
    array_at (Name x ∷ Mark (codes "[") ∷ Number size ∷ Mark (codes "]") ∷ values_words values (Mark (codes ";") ∷ rest)) ≡ Ok (declared x (tree.Array size values), rest)
unfolding array_at first_values_at name_at number_at expect
array_reads x size [] rest = refl
array_reads x size (n ∷ ns) rest = then_reads (integers_at (all_words integer_words (n ∷ ns) (Mark (codes ";") ∷ rest))) _ _ _ (integers_read n ns rest) refl

semaphore_reads : (x : List ℕ) (first maximum : Option ℕ) (d : Discipline) (rest : List Word) →
    semaphore_at (Name x ∷ Number first ∷ Number maximum ∷ Mark (discipline_word d) ∷ Mark (codes ";") ∷ rest) ≡ Ok (declared x (tree.Semaphore first maximum d), rest)
unfolding semaphore_at discipline_at name_at number_at expect
semaphore_reads x first maximum discipline.Fifo rest = refl
semaphore_reads x first maximum discipline.Priority rest = refl

buffer_reads : (x : List ℕ) (words messages : Option ℕ) (d : Discipline) (rest : List Word) →
    buffer_at (Name x ∷ Number words ∷ Number messages ∷ Mark (discipline_word d) ∷ Mark (codes ";") ∷ rest) ≡ Ok (declared x (tree.Buffer words messages d), rest)
unfolding buffer_at discipline_at name_at number_at expect
buffer_reads x words messages discipline.Fifo rest = refl
buffer_reads x words messages discipline.Priority rest = refl

no_comma : (rest : List Word) → expect (codes ",") (Mark (codes ")") ∷ rest) ≡ Err (length (Mark (codes ")") ∷ rest))
unfolding expect
no_comma rest = refl

parameters_read : (xs : List (List ℕ)) (rest : List Word) → parameters_at (names_words xs (Mark (codes ")") ∷ rest)) ≡ Ok (xs, rest)
unfolding parameters_at expect
parameters_read [] rest = refl
parameters_read (x ∷ xs) rest = then_reads (names_at (names_words (x ∷ xs) (Mark (codes ")") ∷ rest))) _ _ _ (names_read x xs (Mark (codes ")") ∷ rest) (no_comma rest)) refl

procedure_reads : (x : List ℕ) (xs : List (List ℕ)) (b : tree.Body) (rest : List Word) → IsBody b →
    procedure_at (Name x ∷ Mark (codes "(") ∷ names_words xs (Mark (codes ")") ∷ body_words b rest)) ≡ Ok (declared x (tree.Procedure xs b), rest)
unfolding procedure_at name_at expect
procedure_reads x xs b rest is =
    then_reads (parameters_at (names_words xs (Mark (codes ")") ∷ body_words b rest))) _ _ _ (parameters_read xs (body_words b rest))
    (then_reads (body_at (body_words b rest)) _ _ _ (body_reads b rest is) refl)

kind_reads : (x : List ℕ) (kind : tree.Kind) (rest : List Word) → IsKind kind → declaration_at (kind_words x kind rest) ≡ Ok (declared x kind, rest)
unfolding declaration_at event_at blackboard_at port_at name_at number_at expect
kind_reads x (tree.Variable value) rest is = variable_reads x value rest
kind_reads x (tree.Array size values) rest is = array_reads x size values rest
kind_reads x (tree.Semaphore first maximum d) rest is = semaphore_reads x first maximum d rest
kind_reads x tree.Event rest is = refl
kind_reads x (tree.Buffer words messages d) rest is = buffer_reads x words messages d rest
kind_reads x (tree.Blackboard words) rest is = refl
kind_reads x tree.Port rest is = refl
kind_reads x (tree.Procedure xs b) rest is = procedure_reads x xs b rest is

no_init : (x : List ℕ) (kind : tree.Kind) (rest : List Word) → expect (codes "init") (kind_words x kind rest) ≡ Err (length (kind_words x kind rest))
unfolding expect
no_init x (tree.Variable value) rest = refl
no_init x (tree.Array size values) rest = refl
no_init x (tree.Semaphore first maximum d) rest = refl
no_init x tree.Event rest = refl
no_init x (tree.Buffer words messages d) rest = refl
no_init x (tree.Blackboard words) rest = refl
no_init x tree.Port rest = refl
no_init x (tree.Procedure xs b) rest = refl

abbrev declaration_turn : Turn tree.Declaration
declaration_turn ws = until (expect (codes "init") ws) (declaration_at ws)

abbrev IsDeclared : tree.Declaration → Type 0
IsDeclared d = IsKind d.kind

declaration_turn_reads : (d : tree.Declaration) (ws : List Word) → IsDeclared d → declaration_turn (declaration_words d ws) ≡ Ok (Some (d, ws))
declaration_turn_reads d ws is =
    ap (λ o. until o (declaration_at (declaration_words d ws))) (no_init d.name d.kind ws)
    ∙ ap (λ o. o >>= λ x. Ok (Some x)) (kind_reads d.name d.kind ws is)

declaration_turn_ends : (rest : List Word) → declaration_turn (Mark (codes "init") ∷ rest) ≡ Ok None
unfolding expect
declaration_turn_ends rest = refl

declarations_read : (ds : List tree.Declaration) (rest : List Word) → Each IsDeclared ds → declarations_at (all_words declaration_words ds (Mark (codes "init") ∷ rest)) ≡ Ok (ds, Mark (codes "init") ∷ rest)
unfolding declarations_at
declarations_read ds rest all = repeat_reads IsDeclared declaration_words declaration_turn ds (Mark (codes "init") ∷ rest) declaration_turn_reads declaration_longer all (declaration_turn_ends rest)

-- INIT and the handler
init_reads : (b : tree.StackBody) (rest : List Word) → IsBody b.body → stack_body_at (codes "init") (stack_body_words (codes "init") b rest) ≡ Ok (b, rest)
unfolding stack_body_at expect number_at
init_reads b rest is = then_reads (body_at (body_words b.body rest)) _ _ _ (body_reads b.body rest is) refl

handler_body_reads : (b : tree.StackBody) (rest : List Word) → IsBody b.body → stack_body_at (codes "handler") (stack_body_words (codes "handler") b rest) ≡ Ok (b, rest)
unfolding stack_body_at expect number_at
handler_body_reads b rest is = then_reads (body_at (body_words b.body rest)) _ _ _ (body_reads b.body rest is) refl

handler_reads : (h : Option tree.StackBody) (rest : List Word) → IsHandler h → expect (codes "handler") rest ≡ Err (length rest) → handler_at (handler_words h rest) ≡ Ok (h, rest)
unfolding handler_at expect
handler_reads None rest is none = other_way (expect (codes "handler") rest) _ _ _ _ none refl
handler_reads (Some b) rest is none = then_reads (stack_body_at (codes "handler") (stack_body_words (codes "handler") b rest)) _ _ _ (handler_body_reads b rest is) refl

-- processes
abbrev process_turn : Turn tree.Process
process_turn ws = each (expect (codes "process") ws) process_at

abbrev IsProcess : tree.Process → Type 0
IsProcess p = IsBody p.body

process_turn_reads : (p : tree.Process) (ws : List Word) → IsProcess p → process_turn (process_words p ws) ≡ Ok (Some (p, ws))
unfolding process_at name_at number_at expect
process_turn_reads p ws is =
    let last = Mark (codes "stack") ∷ Number p.stack ∷ body_words p.body ws in
    let capacity = integer_words p.capacity last in
    then_reads (process_at (Name p.name ∷ Mark (codes "priority") ∷ Number p.priority ∷ Mark (codes "period") ∷ integer_words p.period (Mark (codes "capacity") ∷ capacity))) _ _ _
    (then_reads (integer_at (integer_words p.period (Mark (codes "capacity") ∷ capacity))) _ _ _ (integer_reads p.period (Mark (codes "capacity") ∷ capacity))
    (then_reads (integer_at capacity) _ _ _ (integer_reads p.capacity last)
    (then_reads (body_at (body_words p.body ws)) _ _ _ (body_reads p.body ws is) refl))) refl

process_turn_ends : process_turn [] ≡ Ok None
unfolding expect
process_turn_ends = refl

processes_read : (ps : List tree.Process) → Each IsProcess ps → processes_at (all_words process_words ps []) ≡ Ok (ps, [])
unfolding processes_at
processes_read ps all = repeat_reads IsProcess process_words process_turn ps [] process_turn_reads process_longer all process_turn_ends

no_handler : (ps : List tree.Process) → expect (codes "handler") (all_words process_words ps []) ≡ Err (length (all_words process_words ps []))
unfolding expect
no_handler [] = refl
no_handler (p ∷ ps) = refl

-- programs
program_reads : (p : tree.Program) → IsProgram p → program_at (program_words p) ≡ Ok p
unfolding program_at program_words
program_reads p is =
    let processes = all_words process_words p.processes [] in
    let handler = handler_words p.handler processes in
    let init = stack_body_words (codes "init") p.init handler in
    then_reads (declarations_at (all_words declaration_words p.declarations init)) _ _ _ (declarations_read p.declarations (Mark (codes "stack") ∷ Number p.init.stack ∷ body_words p.init.body handler) is.0)
    (then_reads (stack_body_at (codes "init") init) _ _ _ (init_reads p.init handler is.1)
    (then_reads (handler_at handler) _ _ _ (handler_reads p.handler processes is.2 (no_handler p.processes))
    (then_reads (processes_at processes) _ _ _ (processes_read p.processes is.3) refl)))

-- the other direction of `program_is_written`, and that a program is the only one of its words
pub written_is_read : (ws : List Word) (p : tree.Program) → IsWritten ws p → program_at ws ≡ Ok p
written_is_read ws p h = ap program_at h.1 ∙ program_reads p h.0

program_or : tree.Program → Answer tree.Program → tree.Program
program_or p (Err left) = p
program_or p (Ok q) = q

pub written_once : (ws : List Word) (p q : tree.Program) → IsWritten ws p → IsWritten ws q → p ≡ q
unfolding program_or
written_once ws p q h k = ap (program_or p) (sym (written_is_read ws p h) ∙ written_is_read ws q k)

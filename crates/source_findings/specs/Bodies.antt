-- The walk through a program: its declarations, INIT, the handler and the processes.
use Rattle.std.specs.Prelude.{ℕ, ◌+◌, Bool, true, false, nat_le, if◌then◌else◌, List, [], ◌∷◌, ◌++◌, length, Option, Some, None}
use Rattle.apex_types.specs.Limits.{GREATEST_PRIORITY, LEAST_STACK_WORDS, MOST_DEPTH, MOST_LOCALS, MOST_PARAMETERS, MOST_PROCESSES, MOST_SEMAPHORE_VALUE, MOST_STACK_WORDS, MOST_WORDS}
use Rattle.pal_base.specs.declared.fault.Refusal.{Refusal}
use Rattle.pal_meaning.specs.Lines.{from_word}
use Rattle.pal_meaning.specs.Syntax as written
use Rattle.source_findings.specs.Frames.{body_frame, held, procedure_frame}
use Rattle.source_findings.specs.Judged.{Judge, by_limit, capacity_wrong, frame_wrong, many_wrong, new_wrong, number_wrong, outside_wrong, period_wrong, unless}
use Rattle.source_findings.specs.Roles.{Entry, declaration_entry, declared_entries, own_entry, process_entry}
use Rattle.source_findings.specs.Tally.{Tally, counted, no_tally, tally_wrong}
use Rattle.source_findings.specs.Walk.{block, comma}
use Rattle.source_findings.specs.What.{State, What, Outside, TooLarge, TooMany, Wrong, judged, noted, step}
use Rattle.source_findings.specs.declared.finding.Many.TheVariants as many
use Rattle.source_findings.specs.declared.finding.Thing.TheVariants as thing

-- a judge that knows these parameters and locals, or these declared names
abbrev pub within : Judge → List Entry → Judge
within j own = record j { own = own }

abbrev pub among : Judge → List Entry → Judge
among j declared = record j { declared = declared }

-- ---- bodies

-- a name that is a parameter or a local, given those before it
abbrev pub own_name : Judge → List Entry → List ℕ → State → State
own_name j before name s = judged (new_wrong (within j before) name) s

-- the parameters of a procedure, given those before them
abbrev pub parameters : Judge → List Entry → List (List ℕ) → Bool → State → State
parameters j before [] first s = s
parameters j before (name ∷ names) first s = parameters j (before ++ own_entry name ∷ []) names false (own_name j before name (comma first s))

-- the locals of a body, given the parameters and the locals before them
abbrev pub locals : Judge → List Entry → List (List ℕ) → State → State
locals j before [] s = s
locals j before (name ∷ names) s = locals j (before ++ own_entry name ∷ []) names (step (own_name j before name (step s)))

-- parameters or locals added after others
abbrev pub with_own : List Entry → List (List ℕ) → List Entry
with_own before [] = before
with_own before (name ∷ names) = with_own (before ++ own_entry name ∷ []) names

-- a body after its opening brace
abbrev pub inside : Judge → Bool → List Entry → written.Body → State → State
inside j returns before b s = step (block (within j (with_own before b.locals)) returns b.block (locals j before b.locals s))

-- a body, at whose brace its frame and the number of its locals are judged
abbrev pub body : Judge → Bool → List Entry → Option What → written.Body → State → State
body j returns before frame b s = inside j returns before b (judged (many_wrong j.rule many.Locals (length b.locals) MOST_LOCALS) (noted frame s))

-- a stack, and the body for which it is
abbrev pub stack_and_body : Judge → Option ℕ → written.Body → State → State
stack_and_body j stack b s = body j false [] (frame_wrong j.rule (body_frame b) stack) b (judged (outside_wrong j.rule thing.Stack LEAST_STACK_WORDS MOST_STACK_WORDS stack) (step s))

-- INIT or the handler
abbrev pub stack_body : Judge → written.StackBody → State → State
stack_body j b s = stack_and_body j b.stack b.body (step s)

abbrev pub handler : Judge → Option written.StackBody → State → State
handler j None s = s
handler j (Some b) s = stack_body j b s

-- ---- declarations

-- a number, with or without a minus sign, at which something may be wrong
abbrev pub signed : Option What → written.Integer → State → State
signed what n s = if n.negative then step (judged what s) else judged what s

abbrev pub word : Judge → written.Integer → State → State
word j n s = signed (number_wrong j.rule n.magnitude) n s

abbrev pub words : Judge → List written.Integer → State → State
words j [] s = s
words j (n ∷ ns) s = words j ns (word j n s)

-- first values after `=`, if there are any
abbrev pub first_value : Judge → Option written.Integer → State → State
first_value j None s = s
first_value j (Some n) s = word j n (step s)

abbrev pub first_values : Judge → List written.Integer → State → State
first_values j [] s = s
first_values j (n ∷ ns) s = words j (n ∷ ns) (step s)

-- the size of an array, and how many first values it has
abbrev pub size_wrong : ℕ → Option ℕ → Option What
size_wrong values None = Some TooLarge
size_wrong values (Some size) = unless (nat_le values size) (TooMany many.Values values size)

-- the first value of a semaphore; a maximum above 2^63 - 1 has its own finding
abbrev pub first_wrong : Option ℕ → Option ℕ → Option What
first_wrong None maximum = Some TooLarge
first_wrong (Some first) None = None
first_wrong (Some first) (Some maximum) = unless (nat_le first maximum) (Outside thing.First first 0 maximum)

-- a procedure after its name
abbrev pub procedure : Judge → List (List ℕ) → written.Body → State → State
procedure j names b s =
    body j true (with_own [] names) (many_wrong j.rule many.FrameWords (procedure_frame names b) MOST_STACK_WORDS) b
    (step (parameters j [] names true (judged (many_wrong j.rule many.Parameters (length names) MOST_PARAMETERS) s)))

-- the numbers of a semaphore, a buffer and a blackboard
abbrev pub semaphore : Refusal → Option ℕ → Option ℕ → State → State
semaphore rule first maximum s = judged (outside_wrong rule thing.Maximum 1 MOST_SEMAPHORE_VALUE maximum) (judged (by_limit rule (first_wrong first maximum)) s)

abbrev pub blackboard : Refusal → Option ℕ → State → State
blackboard rule size s = judged (outside_wrong rule thing.Words 1 MOST_WORDS size) s

abbrev pub buffer : Refusal → Option ℕ → Option ℕ → State → State
buffer rule size messages s = judged (outside_wrong rule thing.Messages 1 MOST_DEPTH messages) (blackboard rule size s)

-- the size of an array in brackets, and its first values
abbrev pub array : Judge → Option ℕ → List written.Integer → State → State
array j size values s = first_values j values (step (judged (by_limit j.rule (size_wrong (length values) size)) (step s)))

-- what follows the name of a declaration that is no procedure, up to the semicolon
abbrev pub row : Judge → written.Kind → State → State
row j (written.Variable value) s = first_value j value s
row j (written.Array size values) s = array j size values s
row j (written.Semaphore first maximum discipline) s = step (semaphore j.rule first maximum s)
row j written.Event s = s
row j (written.Buffer size messages discipline) s = step (buffer j.rule size messages s)
row j (written.Blackboard size) s = blackboard j.rule size s
row j written.Port s = s
row j (written.Procedure names b) s = s

-- what follows the name of a declaration
abbrev pub kind : Judge → written.Kind → State → State
kind j (written.Procedure names b) s = procedure j names b s
kind j k s = step (row j k s)

-- a name that is declared, given those before it
abbrev pub declared_name : Judge → List Entry → List ℕ → State → State
declared_name j before name s = judged (new_wrong (among j before) name) s

-- a declaration, given those before it and how many there are up to it
abbrev pub declaration : Judge → List Entry → Tally → written.Declaration → State → State
declaration j before tally d s = kind j d.kind (declared_name j before d.name (judged (tally_wrong j.rule tally d.kind) s))

abbrev pub declarations : Judge → List Entry → Tally → List written.Declaration → State → State
declarations j before tally [] s = s
declarations j before tally (d ∷ ds) s = declarations j (before ++ declaration_entry d ∷ []) (counted tally d.kind) ds (declaration j before (counted tally d.kind) d s)

-- ---- processes

-- the words of a process before its stack, given the names before it and its number among the processes
abbrev pub process_row : Judge → List Entry → ℕ → written.Process → State → State
process_row j before number p s =
    signed (capacity_wrong j.rule p.capacity) p.capacity (step
    (signed (period_wrong j.rule j.period p.period) p.period (step
    (judged (outside_wrong j.rule thing.Priority 1 GREATEST_PRIORITY p.priority) (step
    (declared_name j before p.name (judged (many_wrong j.rule many.Processes number MOST_PROCESSES) s)))))))

abbrev pub process : Judge → List Entry → ℕ → written.Process → State → State
process j before number p s = stack_and_body j p.stack p.body (process_row j before number p s)

abbrev pub processes : Judge → List Entry → ℕ → List written.Process → State → State
processes j before count [] s = s
processes j before count (p ∷ ps) s = processes j (before ++ process_entry p ∷ []) (held (count + 1)) ps (process j before (held (count + 1)) p s)

-- ---- the program

abbrev pub all_before : List Entry → List written.Declaration → List Entry
all_before before [] = before
all_before before (d ∷ ds) = all_before (before ++ declaration_entry d ∷ []) ds

abbrev pub program : Judge → written.Program → State → State
program j p s = processes j (all_before [] p.declarations) 0 p.processes (handler j p.handler (stack_body j p.init (declarations j [] no_tally p.declarations s)))

-- the judge of a program, by this rule, for a partition of this period
abbrev pub judge_of : Refusal → ℕ → written.Program → Judge
judge_of rule period p = record { rule = rule; period = period; declared = declared_entries p; own = [] }

-- what is wrong with a program of this text by a rule, in the order of the text
abbrev pub wrongs : Refusal → ℕ → List ℕ → written.Program → List Wrong
wrongs rule period text p = (program (judge_of rule period p) p (record { text = from_word 0 text; found = [] })).found

-- The rows that show a partition's state by the names of its source: its variables, arrays and objects, and where each of
-- its runners is.
use Rattle.std.specs.Prelude.{ℕ, zero, suc, ◌+◌, ◌-◌, ℤ, pos, negsuc, nat_eq, nat_le, Bool, true, false, if◌then◌else◌, List, [], ◌∷◌, ◌++◌, length, take, drop, flat_map, codes, Option, Some, None, option_map, slice_get}
use Rattle.apex_types.specs.Line.{subject_text}
use Rattle.apex_types.specs.declared.denotation.Denotation.{Denotation}
use Rattle.apex_types.specs.declared.denotation.Denotation.TheVariants as denotation
use Rattle.apex_types.specs.declared.denotation.ObjectKind.{ObjectKind}
use Rattle.apex_types.specs.declared.denotation.ObjectKind.TheVariants as object
use Rattle.apex_types.specs.declared.place.Place.TheVariants.{Data, Slot}
use Rattle.apex_types.specs.declared.process.ProcessStatus.{ProcessStatus}
use Rattle.apex_types.specs.declared.row.PortRow.{PortRow}
use Rattle.apex_types.specs.declared.row.RoutineRow.{RoutineRow}
use Rattle.finding_lines.specs.Texts.{column_of, line_of}
use Rattle.kernel_meaning.specs.Partition.{Member, control_at}
use Rattle.machine_meaning.specs.Image.{Item}
use Rattle.machine_meaning.specs.MachineControl.{MachineControl, code_limit, saved_within}
use Rattle.pal_meaning.specs.Resolve.{Entry, declaration_entries, no_counts}
use Rattle.pal_meaning.specs.Syntax as written
use Rattle.state_rows.specs.Rows.{Value, Nothing, Count, Signed, Row}
use Rattle.state_rows.specs.States.{field, number, placed, row, word, word_rows}

-- The source of a partition: its text, the program that this is, and for each instruction of the code how many bytes of the text are
-- left from the first word on of the statement that it comes from.
pub record Source : Type 0 where
  pub text : List ℕ
  pub tree : written.Program
  pub places : List ℕ

-- a count, if there is one
abbrev pub count_or_none : Option ℕ → Value
count_or_none None = Nothing
count_or_none (Some n) = Count n

-- a word, if it is there
abbrev pub signed_or_none : Option ℤ → Value
signed_or_none None = Nothing
signed_or_none (Some w) = Signed w

-- ---- the declared names, in the order of the source

abbrev pub kind_word : ObjectKind → List ℕ
kind_word object.Semaphore = codes "semaphore"
kind_word object.Event = codes "event"
kind_word object.Buffer = codes "buffer"
kind_word object.Blackboard = codes "blackboard"
kind_word object.Port = codes "port"
kind_word object.Process = codes "process"

-- the words of an array of this size, whose first one has this place
abbrev pub array_in : List ℤ → ℕ → ℤ → List ℤ
array_in words place (pos size) = take size (drop place words)
array_in words place (negsuc _) = []

-- a variable with its value, an array with its values, or an object with its number; nothing for a procedure
abbrev pub meaning_rows : List ℕ → List ℤ → List ℕ → Denotation → List Row
meaning_rows partition words name (denotation.Scalar (Data place)) =
    row partition (word (codes "variable") name ∷ field (codes "value") (signed_or_none (slice_get words place)) ∷ []) ∷ []
meaning_rows partition words name (denotation.Scalar (Slot place)) = []
meaning_rows partition words name (denotation.Array place size) =
    word_rows partition (codes "array") (word (codes "name") name ∷ []) (array_in words place size)
meaning_rows partition words name (denotation.Object kind n) = row partition (word (codes "object") name ∷ number (kind_word kind) n ∷ []) ∷ []
meaning_rows partition words name (denotation.Procedure n parameters) = []

abbrev pub entry_rows : List ℕ → List ℤ → Entry → List Row
entry_rows partition words e = meaning_rows partition words e.name e.meaning

abbrev pub entries_rows : List ℕ → List ℤ → List Entry → List Row
entries_rows partition words entries = flat_map (entry_rows partition words) entries

abbrev pub declared_rows : List ℕ → List PortRow → List ℤ → List written.Declaration → List Row
declared_rows partition ports words declarations = entries_rows partition words (declaration_entries ports no_counts declarations)

-- ---- where a runner is

-- a body by its name, with the names of its parameters and of its locals
pub record BodyNames : Type 0 where
  pub name : List ℕ
  pub parameters : List (List ℕ)
  pub locals : List (List ℕ)

-- an instruction, and the first word of the frame of its body
pub record Frame : Type 0 where
  pub pc : ℕ
  pub fp : ℕ

-- what the frames of a runner are read from: the names of its own body, the source, the routines that its procedures are in the
-- code, and the words of its stack
pub record Chain : Type 0 where
  pub partition : List ℕ
  pub own : BodyNames
  pub source : Source
  pub routines : List RoutineRow
  pub stack : List ℤ

-- How many routines begin at an instruction or before it. They are in the order of their numbers, and after all other bodies:
-- the instruction is in the last of them, or in the own body of its runner if there is none.
abbrev pub begun_at : List RoutineRow → ℕ → ℕ
begun_at [] pc = 0
begun_at (r ∷ rs) pc = if nat_le r.entry pc then suc (begun_at rs pc) else 0

abbrev pub is_procedure : written.Kind → Bool
is_procedure (written.Procedure parameters body) = true
is_procedure _ = false

-- the declaration of the procedure with a number
abbrev pub procedure_at : ℕ → List written.Declaration → Option written.Declaration
procedure_at n [] = None
procedure_at n (d ∷ ds) = if is_procedure d.kind then (if nat_eq n 0 then Some d else procedure_at (n - 1) ds) else procedure_at n ds

abbrev pub names_of_kind : List ℕ → written.Kind → BodyNames
names_of_kind name (written.Procedure parameters body) = record { name = name; parameters = parameters; locals = body.locals }
names_of_kind name _ = record { name = name; parameters = []; locals = [] }

abbrev pub names_or : BodyNames → Option written.Declaration → BodyNames
names_or own None = own
names_or own (Some d) = names_of_kind d.name d.kind

-- the body in which so many routines have begun
abbrev pub body_after : Chain → ℕ → BodyNames
body_after c zero = c.own
body_after c (suc n) = names_or c.own (procedure_at n c.source.tree.declarations)

abbrev pub body_at : Chain → ℕ → BodyNames
body_at c pc = body_after c (begun_at c.routines pc)

-- the line and the column where so many bytes of a text are left
abbrev pub position : List ℕ → ℕ → ℕ × ℕ
position text left = let before = take (length text - left) text in (line_of before, column_of before)

-- those of the statement that an instruction comes from
abbrev pub position_at : Source → ℕ → Option (ℕ × ℕ)
position_at s pc = option_map (position s.text) (slice_get s.places pc)

-- the row of a frame, where the frames are counted from the innermost one on
abbrev pub frame_row : Chain → ℕ → ℕ → BodyNames → Row
frame_row c place pc b =
    let at = position_at c.source pc in
    row c.partition
    (number (codes "frame") place
    ∷ word (codes "process") c.own.name
    ∷ word (codes "body") b.name
    ∷ number (codes "pc") pc
    ∷ field (codes "line") (count_or_none (option_map (λ p. p.0) at))
    ∷ field (codes "column") (count_or_none (option_map (λ p. p.1) at))
    ∷ [])

-- a parameter or local of a frame, with its value
abbrev pub local_row : Chain → ℕ → List ℕ → Option ℤ → Row
local_row c place name value =
    row c.partition
    (word (codes "local") name
    ∷ number (codes "frame") place
    ∷ word (codes "process") c.own.name
    ∷ field (codes "value") (signed_or_none value)
    ∷ [])

-- the same by its place among these words
abbrev pub slot_rows : Chain → ℕ → List ℤ → ℕ → List ℕ → List Row
slot_rows c place words slot name = local_row c place name (slice_get words slot) ∷ []

-- the parameters are in the first words of a frame, and the locals after them
abbrev pub body_rows : Chain → ℕ → ℕ → List ℤ → BodyNames → List Row
body_rows c place pc words b =
    frame_row c place pc b
    ∷ placed (slot_rows c place words) b.parameters
    ++ placed (slot_rows c place (drop (length b.parameters) words)) b.locals

abbrev pub frame_rows : Chain → ℕ → Frame → List Row
frame_rows c place f = body_rows c place f.pc (drop f.fp c.stack) (body_at c f.pc)

-- the frame to which a routine would return: its call is the instruction before the saved one
abbrev pub saved_frame : Option ℕ → Option ℕ → Option Frame
saved_frame None fp = None
saved_frame (Some zero) fp = None
saved_frame (Some (suc pc)) fp = option_map (λ fp. record { pc = pc; fp = fp }) fp

-- a routine saves two words after its parameters and locals
abbrev pub caller_of : ℕ → List ℤ → Option RoutineRow → Option Frame
caller_of fp words None = None
caller_of fp words (Some r) = saved_frame (saved_within code_limit (slice_get words r.slots)) (saved_within fp (slice_get words (r.slots + 1)))

-- the last of so many routines
abbrev pub last_of : List RoutineRow → ℕ → Option RoutineRow
last_of routines zero = None
last_of routines (suc n) = slice_get routines n

-- the frame that called a frame; none for the own body of a runner
abbrev pub caller : Chain → Frame → Option Frame
caller c f = caller_of f.fp (drop f.fp c.stack) (last_of c.routines (begun_at c.routines f.pc))

-- the rows of a frame and of those that called it, at most so many frames
abbrev pub frames_from : Chain → (most place : ℕ) → Option Frame → List Row
frames_from c zero place f = []
frames_from c (suc most) place None = []
frames_from c (suc most) place (Some f) = frame_rows c place f ++ frames_from c most (place + 1) (caller c f)

-- the rows of all frames: not more than its stack has words
abbrev pub chain_rows : Chain → Frame → List Row
chain_rows c f = frames_from c (length c.stack) 0 (Some f)

-- ---- the whole

abbrev pub locals_of_handler : Option written.StackBody → List (List ℕ)
locals_of_handler None = []
locals_of_handler (Some b) = b.body.locals

abbrev pub locals_of_process : Option written.Process → List (List ℕ)
locals_of_process None = []
locals_of_process (Some p) = p.body.locals

-- the locals of the own body of the runner with a place
abbrev pub own_locals : written.Program → ℕ → List (List ℕ)
own_locals t zero = t.init.body.locals
own_locals t (suc zero) = locals_of_handler t.handler
own_locals t (suc (suc place)) = locals_of_process (slice_get t.processes place)

abbrev pub chain_of : List ℕ → List RoutineRow → Source → List ℕ → ℕ → List ℤ → Chain
chain_of partition routines s who place stack = record {
  partition = partition;
  own = record { name = who; parameters = []; locals = own_locals s.tree place };
  source = s;
  routines = routines;
  stack = stack;
}

abbrev pub chain_rows_on : List ℕ → List RoutineRow → Source → List ℕ → ℕ → MachineControl → List Row
chain_rows_on partition routines s who place c = chain_rows (chain_of partition routines s who place c.stack) (record { pc = c.pc; fp = c.fp })

abbrev pub chain_rows_if : List ℕ → List RoutineRow → Source → List ℕ → ℕ → Option MachineControl → List Row
chain_rows_if partition routines s who place None = []
chain_rows_if partition routines s who place (Some c) = chain_rows_on partition routines s who place c

abbrev pub runner_names : List ℕ → List RoutineRow → Source → List (Option MachineControl) → ℕ → ProcessStatus → List Row
runner_names partition routines s controls place r = chain_rows_if partition routines s (subject_text r.who) place (control_at controls place)

abbrev pub names_of_world : List ℕ → List PortRow → List RoutineRow → Source → List ℤ → List (Option MachineControl) → List ProcessStatus → List Row
names_of_world partition ports routines s words controls rows =
    declared_rows partition ports words s.tree.declarations ++ placed (runner_names partition routines s controls) rows

-- the rows with names of a partition with this source
abbrev pub named_rows : Item → Source → Member MachineControl → List Row
named_rows i s x =
    let w = x.world in
    names_of_world w.kernel.fixed.name i.partition.ports i.section.routines s w.words w.controls w.kernel.processes.rows

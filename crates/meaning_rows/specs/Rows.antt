-- The parts that the worked rows of the tests share: their tables, and the ways from texts to the
-- text of a trace, over the sources and over the image.
use Rattle.std.specs.Prelude.{ℕ, ℤ, pos, zero, suc, ◌+◌, true, false, List, [], ◌∷◌, ◌++◌, flat_map, map, Option, Some, None, Result, Ok, Err, option_map, unwrap_or, replicate, codes}
use Rattle.toml.specs.Parse.{parse_document}
use Rattle.apex_types.specs.Costs.{written_costs}
use Rattle.apex_types.specs.Line.{text_of}
use Rattle.apex_types.specs.declared.version.ImageVersion.TheVariants.{First, Third}
use Rattle.apex_types.specs.declared.codes.ErrorKind.{ErrorKind}
use Rattle.apex_types.specs.declared.codes.ModuleAction.TheVariants as of_module
use Rattle.apex_types.specs.declared.codes.PartitionAction.TheVariants.{Ignore}
use Rattle.apex_types.specs.declared.event.Event.{Event}
use Rattle.apex_types.specs.declared.event.EventKind.{EventKind}
use Rattle.apex_types.specs.declared.event.EventKind.TheVariants as event
use Rattle.apex_types.specs.declared.identity.At.{At}
use Rattle.apex_types.specs.declared.row.HealthTable.{HealthTable}
use Rattle.apex_types.specs.declared.row.RoutineRow.{RoutineRow}
use Rattle.apex_types.specs.declared.row.WindowRow.{WindowRow}
use Rattle.compiling_laws.specs.CompiledCode.{section_of}
use Rattle.pal_meaning.specs.Program.{size_of_body, size_of_procedure, frame_of_body, frame_of_procedure}
use Rattle.pal_meaning.specs.BodyCosts.{cost_of_body, cost_of_procedure}
use Rattle.pal_meaning.specs.Grammar.{words_of}
use Rattle.pal_laws.specs.GrammarReading.{program_at}
use Rattle.pal_meaning.specs.Syntax as written
use Rattle.module_meaning.specs.Table.{Partition, Table}
use Rattle.machine_meaning.specs.Image.{Item, Image}
use Rattle.machine_meaning.specs.ImageReading.{Fault, image_at}
use Rattle.machine_meaning.specs.ImageSpelling.{u32, i64, spelling}
use Rattle.pal_meaning.specs.Program.{Program, Body, Procedure}
use Rattle.module_meaning.specs.TableRules.{Refusal}
use Rattle.module_meaning.specs.TableRules as table_rules
use Rattle.module_meaning.specs.SourceMeaning.{source_trace}
use Rattle.machine_meaning.specs.MachineMeaning.{machine_trace}
use Rattle.kernel_meaning.specs.Windows.{Schedule, tick_from}
use Rattle.pal_meaning.specs.WellFormed.{Refused, ByName, ByKind, ByLimit, ByPeriod, verdict}

-- every error is ignored
abbrev pub ignoring : HealthTable
ignoring = record {
  deadline_missed = Ignore;
  application_error = Ignore;
  numeric_error = Ignore;
  illegal_request = Ignore;
  stack_overflow = Ignore;
  memory_violation = Ignore;
  hardware_fault = Ignore;
}

-- a partition without ports that ignores every error
abbrev pub plain_partition : List ℕ → ℕ → ℕ → Partition
plain_partition name period duration = record { name = name; period = period; duration = duration; health = ignoring; ports = [] }

-- a release window of a partition
abbrev pub release_window : ℕ → ℕ → ℕ → WindowRow
release_window partition offset length = record { partition = record { 0 = partition }; offset = offset; length = length; release = true }

-- a table without channels
abbrev pub plain_table : ℕ → List Partition → List WindowRow → Table
plain_table frame partitions windows = record { schedule = record { frame = frame; windows = windows }; fault = of_module.Ignore; costs = written_costs; partitions = partitions; channels = [] }

-- a major frame of 16 ticks of two partitions of which the first has two windows
abbrev pub split_schedule : Schedule
split_schedule = record { frame = 16; windows = release_window 1 0 4 ∷ release_window 2 4 8 ∷ release_window 1 12 4 ∷ [] }

-- a frame of 10 ticks, some of them of no partition, and a window that is no release
abbrev pub sparse_schedule : Schedule
sparse_schedule = record { frame = 10; windows = release_window 1 1 3 ∷ release_window 2 4 2 ∷ (record { partition = record { 0 = 1 }; offset = 7; length = 2; release = false }) ∷ [] }

-- `n` ticks, from tick `t`
abbrev pub ticks_from : ℕ → ℕ → List ℕ
ticks_from t zero = []
ticks_from t (suc n) = t ∷ ticks_from (t + 1) n

-- `n` ticks, from an origin
abbrev pub at_ticks : ℕ → ℕ → List At
at_ticks origin n = map (tick_from origin) (ticks_from origin n)

-- one partition that has the whole of each frame
abbrev pub single_table : List ℕ → ℕ → Table
single_table name frame = plain_table frame (plain_partition name frame frame ∷ []) (release_window 1 0 frame ∷ [])

-- lines, each with its line feed
abbrev pub lines : List (List ℕ) → List ℕ
lines texts = flat_map (λ text. text ++ 10 ∷ []) texts

-- the next step, if the step before has a result
infixl 10 ◌>>=◌
abbrev ◌>>=◌ : {A B : Type 0} → Option A → (A → Option B) → Option B
(Some x) >>= f = f x
None >>= f = None

-- the tree of a source, if it has one
abbrev if_read : Result written.Program ℕ → Option written.Program
if_read (Ok program) = Some program
if_read (Err left) = None

abbrev tree_of : List ℕ → Option written.Program
tree_of source = if_read (program_at (words_of source))

-- the program that a partition's source is accepted as
abbrev pub if_accepted : Result Program Refused → Option Program
if_accepted (Ok program) = Some program
if_accepted (Err refused) = None

abbrev pub program_of : Partition → List ℕ → Option Program
program_of p source = tree_of source >>= λ tree. if_accepted (verdict p.ports p.period tree)

-- the number of the refusal of a source for a partition, 2 where it has no tree, 0 where it is accepted
abbrev pub number_of_verdict : Result Program Refused → ℕ
number_of_verdict (Ok program) = 0
number_of_verdict (Err ByName) = 3
number_of_verdict (Err ByKind) = 4
number_of_verdict (Err ByLimit) = 5
number_of_verdict (Err ByPeriod) = 6

abbrev pub refusal_number : Partition → List ℕ → ℕ
refusal_number p source = unwrap_or (option_map (λ tree. number_of_verdict (verdict p.ports p.period tree)) (tree_of source)) 2

-- the numbers of each body of a program: its instructions, the words of its frame, and the sum of
-- its costs
abbrev pub body_costs : Body → ℕ × ℕ × ℕ
body_costs b = (size_of_body b, frame_of_body b, cost_of_body written_costs b)

abbrev pub procedure_costs : Procedure → ℕ × ℕ × ℕ
procedure_costs p = (size_of_procedure p, frame_of_procedure p, cost_of_procedure written_costs p)

abbrev pub handler_costs : Option Body → List (ℕ × ℕ × ℕ)
handler_costs None = []
handler_costs (Some b) = body_costs b ∷ []

-- INIT, the handler, the processes and the procedures
abbrev pub costs_of : Program → List (ℕ × ℕ × ℕ)
costs_of p = body_costs p.init ∷ handler_costs p.handler ++ map (λ q. body_costs q.body) p.processes ++ map procedure_costs p.procedures

-- the programs of the partitions, in order
abbrev pub programs_of : List Partition → List (List ℕ) → Option (List Program)
programs_of [] [] = Some []
programs_of (p ∷ ps) (s ∷ ss) = program_of p s >>= λ program. programs_of ps ss >>= λ programs. Some (program ∷ programs)
programs_of _ _ = None

-- the text of the trace of `n` ticks of the sources, if all are accepted
abbrev pub text_of_sources : Table → List (List ℕ) → ℕ → Option (List ℕ)
text_of_sources t sources n = option_map (λ programs. text_of (source_trace t programs [] n)) (programs_of t.partitions sources)

-- the same from the text of the table
abbrev pub verdict_of_table : List ℕ → Option (Result Table Refusal)
verdict_of_table text = option_map table_rules.verdict (parse_document text)

-- the number of the rule that the text of a table breaks, 1 where it is no document, 0 where it breaks none
abbrev pub rule_number : Result Table Refusal → ℕ
rule_number (Ok table) = 0
rule_number (Err table_rules.Shape) = 2
rule_number (Err table_rules.Limit) = 3
rule_number (Err table_rules.Name) = 4
rule_number (Err table_rules.Overlap) = 5
rule_number (Err table_rules.Period) = 6
rule_number (Err table_rules.Duration) = 7
rule_number (Err table_rules.Release) = 8
rule_number (Err table_rules.Ends) = 9
rule_number (Err table_rules.Health) = 10

abbrev pub refused_table : List ℕ → ℕ
refused_table text = unwrap_or (option_map rule_number (verdict_of_table text)) 1

abbrev pub if_table : Result Table Refusal → Option Table
if_table (Ok table) = Some table
if_table (Err refusal) = None

abbrev pub text_of_module : List ℕ → List (List ℕ) → ℕ → Option (List ℕ)
text_of_module text sources n = verdict_of_table text >>= λ judged. if_table judged >>= λ t. text_of_sources t sources n

-- the image of a table with the programs of its partitions
abbrev pub items_of : List Partition → List Program → List Item
items_of [] programs = []
items_of (p ∷ ps) [] = []
items_of (p ∷ ps) (q ∷ qs) = record { partition = p; section = section_of q } ∷ items_of ps qs

abbrev pub image_of : Table → List Program → Image
image_of t programs = record { schedule = t.schedule; fault = t.fault; version = Third t.costs; items = items_of t.partitions programs; channels = t.channels }

-- the text of the trace of `n` ticks of that image
abbrev pub text_of_built : Table → List (List ℕ) → ℕ → Option (List ℕ)
text_of_built t sources n = option_map (λ programs. text_of (machine_trace (image_of t programs) [] n)) (programs_of t.partitions sources)

-- the bytes of that image
abbrev pub image_of_sources : Table → List (List ℕ) → Option (List ℕ)
image_of_sources t sources = option_map (λ programs. spelling (image_of t programs)) (programs_of t.partitions sources)

-- the text of the trace of `n` ticks of an image, if the bytes are an image
abbrev pub text_of_read : Result Image Fault → ℕ → Option (List ℕ)
text_of_read (Ok image) n = Some (text_of (machine_trace image [] n))
text_of_read (Err fault) n = None

abbrev pub text_of_image : List ℕ → ℕ → Option (List ℕ)
text_of_image bytes n = text_of_read (image_at bytes) n

-- ---- literal code

-- the sixteen bytes of an opcode with its fields x and v
abbrev pub coded : ℕ → ℕ → ℤ → List ℕ
coded opcode x v = u32 opcode ++ u32 x ++ i64 v

-- only INIT, on a stack of 16 words, with these routines, this code and four words of data
abbrev pub code_image : List RoutineRow → List (List ℕ) → Image
code_image routines code = record {
  schedule = record { frame = 128; windows = release_window 1 0 128 ∷ [] };
  fault = of_module.Ignore;
  version = First;
  items = record {
    partition = plain_partition (codes "a") 128 128;
    section = record {
      initial = replicate 4 (pos 0);
      semaphores = [];
      events = 0;
      buffers = [];
      blackboards = [];
      routines = routines;
      processes = [];
      init = record { stack = 16; entry = 0; slots = 0; frame = 2 };
      handler = None;
      code = code;
    };
  } ∷ [];
  channels = [];
}

-- the tick of the first error of a trace, and the error
abbrev pub error_of : ℕ → EventKind → Option (ℕ × ErrorKind)
error_of t (event.Error error who response) = Some (t, error)
error_of t _ = None

abbrev pub or_else : Option (ℕ × ErrorKind) → Option (ℕ × ErrorKind) → Option (ℕ × ErrorKind)
or_else (Some found) other = Some found
or_else None other = other

abbrev pub first_error : List Event → Option (ℕ × ErrorKind)
first_error [] = None
first_error (e ∷ es) = or_else (error_of e.tick.0 e.kind) (first_error es)

-- the first error of some code within 40 ticks
abbrev pub error_of_code : List RoutineRow → List (List ℕ) → Option (ℕ × ErrorKind)
error_of_code routines code = first_error (machine_trace (code_image routines code) [] 40)

-- ---- images, byte by byte: of the smallest source, of a process that reports, and of one that calls
-- itself too deep

abbrev pub smallest_image : List ℕ
smallest_image =
    65 ∷ 80 ∷ 54 ∷ 53 ∷ 51 ∷ 73 ∷ 77 ∷ 71 ∷ 3 ∷ 0 ∷ 128 ∷ 0 ∷ 0 ∷ 0 ∷ 0 ∷ 1 ∷ 0 ∷ 1 ∷ 0 ∷ 2 ∷ 0 ∷ 1 ∷ 0 ∷ 2 ∷
    0 ∷ 4 ∷ 0 ∷ 1 ∷ 0 ∷ 1 ∷ 0 ∷ 1 ∷ 0 ∷ 3 ∷ 0 ∷ 2 ∷ 0 ∷ 8 ∷ 0 ∷ 6 ∷ 0 ∷ 4 ∷ 0 ∷ 4 ∷ 0 ∷ 1 ∷ 0 ∷ 0 ∷
    0 ∷ 1 ∷ 97 ∷ 128 ∷ 0 ∷ 0 ∷ 0 ∷ 128 ∷ 0 ∷ 0 ∷ 0 ∷ 0 ∷ 0 ∷ 0 ∷ 0 ∷ 0 ∷ 0 ∷ 0 ∷ 0 ∷ 0 ∷ 0 ∷ 0 ∷ 0 ∷ 0 ∷
    0 ∷ 0 ∷ 0 ∷ 0 ∷ 0 ∷ 0 ∷ 0 ∷ 0 ∷ 0 ∷ 0 ∷ 0 ∷ 0 ∷ 0 ∷ 0 ∷ 0 ∷ 0 ∷ 0 ∷ 0 ∷ 0 ∷ 0 ∷ 0 ∷ 0 ∷ 0 ∷ 16 ∷
    0 ∷ 0 ∷ 0 ∷ 0 ∷ 0 ∷ 1 ∷ 0 ∷ 4 ∷ 0 ∷ 0 ∷ 0 ∷ 0 ∷ 4 ∷ 0 ∷ 0 ∷ 0 ∷ 1 ∷ 0 ∷ 0 ∷ 0 ∷ 0 ∷ 0 ∷ 0 ∷ 0 ∷
    3 ∷ 0 ∷ 0 ∷ 0 ∷ 0 ∷ 0 ∷ 0 ∷ 0 ∷ 28 ∷ 0 ∷ 0 ∷ 0 ∷ 2 ∷ 0 ∷ 0 ∷ 0 ∷ 0 ∷ 0 ∷ 0 ∷ 0 ∷ 0 ∷ 0 ∷ 0 ∷ 0 ∷
    5 ∷ 0 ∷ 0 ∷ 0 ∷ 0 ∷ 0 ∷ 0 ∷ 0 ∷ 0 ∷ 0 ∷ 0 ∷ 0 ∷ 0 ∷ 0 ∷ 0 ∷ 0 ∷ 29 ∷ 0 ∷ 0 ∷ 0 ∷ 0 ∷ 0 ∷ 0 ∷ 0 ∷
    0 ∷ 0 ∷ 0 ∷ 0 ∷ 0 ∷ 0 ∷ 0 ∷ 0 ∷ 1 ∷ 0 ∷ 0 ∷ 0 ∷ 1 ∷ 0 ∷ 0 ∷ 0 ∷ 0 ∷ 128 ∷ 0 ∷ 0 ∷ 0 ∷ 1 ∷ 0 ∷ 0 ∷
    0 ∷ 0 ∷
    []

abbrev pub reporting_image : List ℕ
reporting_image =
    65 ∷ 80 ∷ 54 ∷ 53 ∷ 51 ∷ 73 ∷ 77 ∷ 71 ∷ 3 ∷ 0 ∷ 128 ∷ 0 ∷ 0 ∷ 0 ∷ 0 ∷ 1 ∷ 0 ∷ 1 ∷ 0 ∷ 2 ∷ 0 ∷ 1 ∷ 0 ∷ 2 ∷
    0 ∷ 4 ∷ 0 ∷ 1 ∷ 0 ∷ 1 ∷ 0 ∷ 1 ∷ 0 ∷ 3 ∷ 0 ∷ 2 ∷ 0 ∷ 8 ∷ 0 ∷ 6 ∷ 0 ∷ 4 ∷ 0 ∷ 4 ∷ 0 ∷ 1 ∷ 0 ∷ 0 ∷
    0 ∷ 1 ∷ 97 ∷ 128 ∷ 0 ∷ 0 ∷ 0 ∷ 128 ∷ 0 ∷ 0 ∷ 0 ∷ 0 ∷ 0 ∷ 0 ∷ 0 ∷ 0 ∷ 0 ∷ 0 ∷ 0 ∷ 0 ∷ 0 ∷ 0 ∷ 2 ∷ 0 ∷
    0 ∷ 0 ∷ 0 ∷ 0 ∷ 0 ∷ 0 ∷ 0 ∷ 0 ∷ 0 ∷ 0 ∷ 0 ∷ 0 ∷ 0 ∷ 0 ∷ 0 ∷ 0 ∷ 0 ∷ 0 ∷ 0 ∷ 0 ∷ 0 ∷ 0 ∷ 0 ∷ 0 ∷
    0 ∷ 0 ∷ 0 ∷ 0 ∷ 0 ∷ 0 ∷ 0 ∷ 0 ∷ 0 ∷ 0 ∷ 0 ∷ 1 ∷ 0 ∷ 0 ∷ 0 ∷ 1 ∷ 112 ∷ 5 ∷ 255 ∷ 255 ∷ 255 ∷ 255 ∷ 255 ∷ 255 ∷
    255 ∷ 255 ∷ 255 ∷ 255 ∷ 255 ∷ 255 ∷ 255 ∷ 255 ∷ 255 ∷ 255 ∷ 16 ∷ 0 ∷ 11 ∷ 0 ∷ 0 ∷ 0 ∷ 2 ∷ 0 ∷ 7 ∷ 0 ∷ 0 ∷ 0 ∷ 16 ∷ 0 ∷
    0 ∷ 0 ∷ 0 ∷ 0 ∷ 2 ∷ 0 ∷ 6 ∷ 0 ∷ 0 ∷ 0 ∷ 0 ∷ 27 ∷ 0 ∷ 0 ∷ 0 ∷ 1 ∷ 0 ∷ 0 ∷ 0 ∷ 0 ∷ 0 ∷ 0 ∷ 0 ∷ 1 ∷
    0 ∷ 0 ∷ 0 ∷ 0 ∷ 0 ∷ 0 ∷ 0 ∷ 28 ∷ 0 ∷ 0 ∷ 0 ∷ 5 ∷ 0 ∷ 0 ∷ 0 ∷ 0 ∷ 0 ∷ 0 ∷ 0 ∷ 0 ∷ 0 ∷ 0 ∷ 0 ∷ 5 ∷
    0 ∷ 0 ∷ 0 ∷ 0 ∷ 0 ∷ 0 ∷ 0 ∷ 0 ∷ 0 ∷ 0 ∷ 0 ∷ 0 ∷ 0 ∷ 0 ∷ 0 ∷ 5 ∷ 0 ∷ 0 ∷ 0 ∷ 1 ∷ 0 ∷ 0 ∷ 0 ∷ 0 ∷
    0 ∷ 0 ∷ 0 ∷ 0 ∷ 0 ∷ 0 ∷ 0 ∷ 4 ∷ 0 ∷ 0 ∷ 0 ∷ 1 ∷ 0 ∷ 0 ∷ 0 ∷ 0 ∷ 0 ∷ 0 ∷ 0 ∷ 0 ∷ 0 ∷ 0 ∷ 0 ∷ 28 ∷
    0 ∷ 0 ∷ 0 ∷ 12 ∷ 0 ∷ 0 ∷ 0 ∷ 0 ∷ 0 ∷ 0 ∷ 0 ∷ 0 ∷ 0 ∷ 0 ∷ 0 ∷ 5 ∷ 0 ∷ 0 ∷ 0 ∷ 0 ∷ 0 ∷ 0 ∷ 0 ∷ 0 ∷
    0 ∷ 0 ∷ 0 ∷ 0 ∷ 0 ∷ 0 ∷ 0 ∷ 1 ∷ 0 ∷ 0 ∷ 0 ∷ 0 ∷ 0 ∷ 0 ∷ 0 ∷ 3 ∷ 0 ∷ 0 ∷ 0 ∷ 0 ∷ 0 ∷ 0 ∷ 0 ∷ 28 ∷
    0 ∷ 0 ∷ 0 ∷ 2 ∷ 0 ∷ 0 ∷ 0 ∷ 0 ∷ 0 ∷ 0 ∷ 0 ∷ 0 ∷ 0 ∷ 0 ∷ 0 ∷ 5 ∷ 0 ∷ 0 ∷ 0 ∷ 0 ∷ 0 ∷ 0 ∷ 0 ∷ 0 ∷
    0 ∷ 0 ∷ 0 ∷ 0 ∷ 0 ∷ 0 ∷ 0 ∷ 29 ∷ 0 ∷ 0 ∷ 0 ∷ 0 ∷ 0 ∷ 0 ∷ 0 ∷ 0 ∷ 0 ∷ 0 ∷ 0 ∷ 0 ∷ 0 ∷ 0 ∷ 0 ∷ 27 ∷
    0 ∷ 0 ∷ 0 ∷ 0 ∷ 0 ∷ 0 ∷ 0 ∷ 3 ∷ 0 ∷ 0 ∷ 0 ∷ 0 ∷ 0 ∷ 0 ∷ 0 ∷ 28 ∷ 0 ∷ 0 ∷ 0 ∷ 19 ∷ 0 ∷ 0 ∷ 0 ∷ 0 ∷
    0 ∷ 0 ∷ 0 ∷ 0 ∷ 0 ∷ 0 ∷ 0 ∷ 5 ∷ 0 ∷ 0 ∷ 0 ∷ 0 ∷ 0 ∷ 0 ∷ 0 ∷ 0 ∷ 0 ∷ 0 ∷ 0 ∷ 0 ∷ 0 ∷ 0 ∷ 0 ∷ 5 ∷
    0 ∷ 0 ∷ 0 ∷ 1 ∷ 0 ∷ 0 ∷ 0 ∷ 0 ∷ 0 ∷ 0 ∷ 0 ∷ 0 ∷ 0 ∷ 0 ∷ 0 ∷ 1 ∷ 0 ∷ 0 ∷ 0 ∷ 0 ∷ 0 ∷ 0 ∷ 0 ∷ 0 ∷
    0 ∷ 0 ∷ 0 ∷ 0 ∷ 0 ∷ 0 ∷ 0 ∷ 4 ∷ 0 ∷ 0 ∷ 0 ∷ 1 ∷ 0 ∷ 0 ∷ 0 ∷ 0 ∷ 0 ∷ 0 ∷ 0 ∷ 0 ∷ 0 ∷ 0 ∷ 0 ∷ 7 ∷
    0 ∷ 0 ∷ 0 ∷ 0 ∷ 0 ∷ 0 ∷ 0 ∷ 2 ∷ 0 ∷ 0 ∷ 0 ∷ 0 ∷ 0 ∷ 0 ∷ 0 ∷ 1 ∷ 0 ∷ 0 ∷ 0 ∷ 0 ∷ 0 ∷ 0 ∷ 0 ∷ 1 ∷
    0 ∷ 0 ∷ 0 ∷ 0 ∷ 0 ∷ 0 ∷ 0 ∷ 1 ∷ 0 ∷ 0 ∷ 0 ∷ 0 ∷ 0 ∷ 0 ∷ 0 ∷ 7 ∷ 0 ∷ 0 ∷ 0 ∷ 0 ∷ 0 ∷ 0 ∷ 0 ∷ 7 ∷
    0 ∷ 0 ∷ 0 ∷ 0 ∷ 0 ∷ 0 ∷ 0 ∷ 2 ∷ 0 ∷ 0 ∷ 0 ∷ 0 ∷ 0 ∷ 0 ∷ 0 ∷ 1 ∷ 0 ∷ 0 ∷ 0 ∷ 0 ∷ 0 ∷ 0 ∷ 0 ∷ 0 ∷
    0 ∷ 0 ∷ 0 ∷ 0 ∷ 0 ∷ 0 ∷ 0 ∷ 1 ∷ 0 ∷ 0 ∷ 0 ∷ 0 ∷ 0 ∷ 0 ∷ 0 ∷ 2 ∷ 0 ∷ 0 ∷ 0 ∷ 0 ∷ 0 ∷ 0 ∷ 0 ∷ 1 ∷
    0 ∷ 0 ∷ 0 ∷ 0 ∷ 0 ∷ 0 ∷ 0 ∷ 2 ∷ 0 ∷ 0 ∷ 0 ∷ 0 ∷ 0 ∷ 0 ∷ 0 ∷ 28 ∷ 0 ∷ 0 ∷ 0 ∷ 54 ∷ 0 ∷ 0 ∷ 0 ∷ 0 ∷
    0 ∷ 0 ∷ 0 ∷ 0 ∷ 0 ∷ 0 ∷ 0 ∷ 5 ∷ 0 ∷ 0 ∷ 0 ∷ 0 ∷ 0 ∷ 0 ∷ 0 ∷ 0 ∷ 0 ∷ 0 ∷ 0 ∷ 0 ∷ 0 ∷ 0 ∷ 0 ∷ 29 ∷
    0 ∷ 0 ∷ 0 ∷ 0 ∷ 0 ∷ 0 ∷ 0 ∷ 0 ∷ 0 ∷ 0 ∷ 0 ∷ 0 ∷ 0 ∷ 0 ∷ 0 ∷ 1 ∷ 0 ∷ 0 ∷ 0 ∷ 1 ∷ 0 ∷ 0 ∷ 0 ∷ 0 ∷
    128 ∷ 0 ∷ 0 ∷ 0 ∷ 1 ∷ 0 ∷ 0 ∷ 0 ∷ 0 ∷
    []

abbrev pub recursive_image : List ℕ
recursive_image =
    65 ∷ 80 ∷ 54 ∷ 53 ∷ 51 ∷ 73 ∷ 77 ∷ 71 ∷ 3 ∷ 0 ∷ 128 ∷ 0 ∷ 0 ∷ 0 ∷ 0 ∷ 1 ∷ 0 ∷ 1 ∷ 0 ∷ 2 ∷ 0 ∷ 1 ∷ 0 ∷ 2 ∷
    0 ∷ 4 ∷ 0 ∷ 1 ∷ 0 ∷ 1 ∷ 0 ∷ 1 ∷ 0 ∷ 3 ∷ 0 ∷ 2 ∷ 0 ∷ 8 ∷ 0 ∷ 6 ∷ 0 ∷ 4 ∷ 0 ∷ 4 ∷ 0 ∷ 1 ∷ 0 ∷ 0 ∷
    0 ∷ 1 ∷ 97 ∷ 128 ∷ 0 ∷ 0 ∷ 0 ∷ 128 ∷ 0 ∷ 0 ∷ 0 ∷ 0 ∷ 0 ∷ 0 ∷ 0 ∷ 0 ∷ 0 ∷ 0 ∷ 0 ∷ 0 ∷ 0 ∷ 0 ∷ 0 ∷ 0 ∷
    0 ∷ 0 ∷ 0 ∷ 0 ∷ 0 ∷ 0 ∷ 0 ∷ 0 ∷ 0 ∷ 0 ∷ 0 ∷ 0 ∷ 0 ∷ 0 ∷ 0 ∷ 1 ∷ 0 ∷ 0 ∷ 0 ∷ 15 ∷ 0 ∷ 0 ∷ 0 ∷ 1 ∷
    1 ∷ 0 ∷ 5 ∷ 0 ∷ 0 ∷ 0 ∷ 1 ∷ 0 ∷ 0 ∷ 0 ∷ 1 ∷ 112 ∷ 5 ∷ 255 ∷ 255 ∷ 255 ∷ 255 ∷ 255 ∷ 255 ∷ 255 ∷ 255 ∷ 255 ∷ 255 ∷ 255 ∷
    255 ∷ 255 ∷ 255 ∷ 255 ∷ 255 ∷ 17 ∷ 0 ∷ 11 ∷ 0 ∷ 0 ∷ 0 ∷ 1 ∷ 0 ∷ 4 ∷ 0 ∷ 0 ∷ 0 ∷ 16 ∷ 0 ∷ 0 ∷ 0 ∷ 0 ∷ 0 ∷ 2 ∷
    0 ∷ 6 ∷ 0 ∷ 0 ∷ 0 ∷ 0 ∷ 22 ∷ 0 ∷ 0 ∷ 0 ∷ 1 ∷ 0 ∷ 0 ∷ 0 ∷ 0 ∷ 0 ∷ 0 ∷ 0 ∷ 1 ∷ 0 ∷ 0 ∷ 0 ∷ 0 ∷ 0 ∷
    0 ∷ 0 ∷ 28 ∷ 0 ∷ 0 ∷ 0 ∷ 5 ∷ 0 ∷ 0 ∷ 0 ∷ 0 ∷ 0 ∷ 0 ∷ 0 ∷ 0 ∷ 0 ∷ 0 ∷ 0 ∷ 5 ∷ 0 ∷ 0 ∷ 0 ∷ 0 ∷ 0 ∷
    0 ∷ 0 ∷ 0 ∷ 0 ∷ 0 ∷ 0 ∷ 0 ∷ 0 ∷ 0 ∷ 0 ∷ 5 ∷ 0 ∷ 0 ∷ 0 ∷ 1 ∷ 0 ∷ 0 ∷ 0 ∷ 0 ∷ 0 ∷ 0 ∷ 0 ∷ 0 ∷ 0 ∷
    0 ∷ 0 ∷ 4 ∷ 0 ∷ 0 ∷ 0 ∷ 1 ∷ 0 ∷ 0 ∷ 0 ∷ 0 ∷ 0 ∷ 0 ∷ 0 ∷ 0 ∷ 0 ∷ 0 ∷ 0 ∷ 28 ∷ 0 ∷ 0 ∷ 0 ∷ 12 ∷ 0 ∷
    0 ∷ 0 ∷ 0 ∷ 0 ∷ 0 ∷ 0 ∷ 0 ∷ 0 ∷ 0 ∷ 0 ∷ 5 ∷ 0 ∷ 0 ∷ 0 ∷ 0 ∷ 0 ∷ 0 ∷ 0 ∷ 0 ∷ 0 ∷ 0 ∷ 0 ∷ 0 ∷ 0 ∷
    0 ∷ 0 ∷ 1 ∷ 0 ∷ 0 ∷ 0 ∷ 0 ∷ 0 ∷ 0 ∷ 0 ∷ 3 ∷ 0 ∷ 0 ∷ 0 ∷ 0 ∷ 0 ∷ 0 ∷ 0 ∷ 28 ∷ 0 ∷ 0 ∷ 0 ∷ 2 ∷ 0 ∷
    0 ∷ 0 ∷ 0 ∷ 0 ∷ 0 ∷ 0 ∷ 0 ∷ 0 ∷ 0 ∷ 0 ∷ 5 ∷ 0 ∷ 0 ∷ 0 ∷ 0 ∷ 0 ∷ 0 ∷ 0 ∷ 0 ∷ 0 ∷ 0 ∷ 0 ∷ 0 ∷ 0 ∷
    0 ∷ 0 ∷ 29 ∷ 0 ∷ 0 ∷ 0 ∷ 0 ∷ 0 ∷ 0 ∷ 0 ∷ 0 ∷ 0 ∷ 0 ∷ 0 ∷ 0 ∷ 0 ∷ 0 ∷ 0 ∷ 1 ∷ 0 ∷ 0 ∷ 0 ∷ 0 ∷ 0 ∷
    0 ∷ 0 ∷ 0 ∷ 0 ∷ 0 ∷ 0 ∷ 0 ∷ 0 ∷ 0 ∷ 0 ∷ 25 ∷ 0 ∷ 0 ∷ 0 ∷ 0 ∷ 0 ∷ 0 ∷ 0 ∷ 0 ∷ 0 ∷ 0 ∷ 0 ∷ 0 ∷ 0 ∷
    0 ∷ 0 ∷ 5 ∷ 0 ∷ 0 ∷ 0 ∷ 0 ∷ 0 ∷ 0 ∷ 0 ∷ 0 ∷ 0 ∷ 0 ∷ 0 ∷ 0 ∷ 0 ∷ 0 ∷ 0 ∷ 29 ∷ 0 ∷ 0 ∷ 0 ∷ 0 ∷ 0 ∷
    0 ∷ 0 ∷ 0 ∷ 0 ∷ 0 ∷ 0 ∷ 0 ∷ 0 ∷ 0 ∷ 0 ∷ 4 ∷ 0 ∷ 0 ∷ 0 ∷ 0 ∷ 0 ∷ 0 ∷ 0 ∷ 0 ∷ 0 ∷ 0 ∷ 0 ∷ 0 ∷ 0 ∷
    0 ∷ 0 ∷ 1 ∷ 0 ∷ 0 ∷ 0 ∷ 0 ∷ 0 ∷ 0 ∷ 0 ∷ 1 ∷ 0 ∷ 0 ∷ 0 ∷ 0 ∷ 0 ∷ 0 ∷ 0 ∷ 8 ∷ 0 ∷ 0 ∷ 0 ∷ 0 ∷ 0 ∷
    0 ∷ 0 ∷ 0 ∷ 0 ∷ 0 ∷ 0 ∷ 0 ∷ 0 ∷ 0 ∷ 0 ∷ 25 ∷ 0 ∷ 0 ∷ 0 ∷ 0 ∷ 0 ∷ 0 ∷ 0 ∷ 0 ∷ 0 ∷ 0 ∷ 0 ∷ 0 ∷ 0 ∷
    0 ∷ 0 ∷ 26 ∷ 0 ∷ 0 ∷ 0 ∷ 1 ∷ 0 ∷ 0 ∷ 0 ∷ 0 ∷ 0 ∷ 0 ∷ 0 ∷ 0 ∷ 0 ∷ 0 ∷ 0 ∷ 1 ∷ 0 ∷ 0 ∷ 0 ∷ 0 ∷ 0 ∷
    0 ∷ 0 ∷ 0 ∷ 0 ∷ 0 ∷ 0 ∷ 0 ∷ 0 ∷ 0 ∷ 0 ∷ 26 ∷ 0 ∷ 0 ∷ 0 ∷ 1 ∷ 0 ∷ 0 ∷ 0 ∷ 0 ∷ 0 ∷ 0 ∷ 0 ∷ 0 ∷ 0 ∷
    0 ∷ 0 ∷ 1 ∷ 0 ∷ 0 ∷ 0 ∷ 1 ∷ 0 ∷ 0 ∷ 0 ∷ 0 ∷ 128 ∷ 0 ∷ 0 ∷ 0 ∷ 1 ∷ 0 ∷ 0 ∷ 0 ∷ 0 ∷
    []

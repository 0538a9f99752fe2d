-- The report of a refusal: its line and, on request, an explanation after it.
use Rattle.std.specs.Prelude.{◌≡◌, ℕ, Bool, true, false, List, [], ◌∷◌, ◌++◌, if◌then◌else◌, Option, Some, None, Result, Err, string_bytes}
use Rattle.std.specs.Str.{bytes_eq}
use Rattle.command_words.specs.declared.failure.Failure.{Failure}
use Rattle.command_words.specs.declared.failure.Failure.TheVariants.{Refused}
use Rattle.finding_lines.specs.Lines.{rule_line}
use Rattle.finding_lines.specs.Reports.{Form, Report, json, plain}
use Rattle.image.specs.declared.fault.ImageFault.{ImageFault}
use Rattle.module_meaning.specs.Table.{Partition, Table}
use Rattle.command_line.specs.Explanation.{explanation, IsLengthExplanation, IsSourceExplanation, IsTableExplanation}
use Rattle.command_line.specs.Files.{IsDeviceExplanation, IsImageExplanation, IsReplayExplanation}
use Rattle.command_line.specs.Sentences.{command_sentence, device_sentence, file_sentence, image_sentence, replay_sentence, source_sentence, table_sentence, write_sentence}
use Rattle.command_line.specs.declared.explanations.sentences.CommandFault.{CommandFault}
use Rattle.command_line.specs.declared.explanations.sentences.CommandFault.TheVariants as command
use Rattle.module_meaning.specs.Accepted.{IsTable}
use Rattle.module.specs.Costs.{AreCosts}
use Rattle.module.specs.Lines.{build_line, inputs_line, run_line}
use Rattle.module.specs.declared.costing.PartitionCosts.{PartitionCosts}
use Rattle.module.specs.declared.fault.BuildFault.{BuildFault}
use Rattle.module.specs.declared.fault.BuildFault.TheVariants as build
use Rattle.module.specs.declared.inputs_fault.InputsFault.{InputsFault}
use Rattle.module.specs.declared.inputs_fault.InputsFault.TheVariants as inputs
use Rattle.module.specs.declared.fault.RunFault.{RunFault}
use Rattle.module.specs.declared.fault.RunFault.TheVariants as run
use Rattle.pal.specs.declared.report.BodyCost.{BodyCost}
use Rattle.pal_base.specs.declared.fault.PalFault.{PalFault}
use Rattle.command_line.specs.Lines.{line_of, rule_of}
use Rattle.command_line.specs.declared.explaining.Style.{Style}
use Rattle.command_line.specs.declared.explaining.Style.TheVariants as styled
use Rattle.command_line.specs.declared.outcome.Outcome.{Outcome}
use Rattle.command_line.specs.declared.explaining.RunFiles.{RunFiles}
use Rattle.command_line.specs.declared.explaining.CostedFile.{CostedFile}
use Rattle.command_line.specs.declared.explaining.SourceFile.{SourceFile}
use Rattle.command_line.specs.declared.explaining.Note.{Note}
use Rattle.command_line.specs.declared.explaining.Note.TheVariants.{Unwanted, Wanted, Explained}
use Rattle.command_line.specs.declared.refusal.Refusal.{Refusal}
use Rattle.streams.specs.declared.names.Reason.{Reason}
use Rattle.command_line.specs.declared.refusal.Refusal.TheVariants.{Build, Run, Replay, Inputs, File, LongTable, Memory, Write}

abbrev pub build_sentence : BuildFault → List ℕ
build_sentence (build.Table fault) = table_sentence fault
build_sentence build.Sources = command_sentence command.Sources
build_sentence (build.Pal name fault) = source_sentence fault.refusal
build_sentence (build.Compile name fault) = command_sentence command.Compile
build_sentence build.Memory = command_sentence command.Memory

abbrev pub run_sentence : RunFault → List ℕ
run_sentence run.Ticks = command_sentence command.Ticks
run_sentence (run.Image fault) = image_sentence fault
run_sentence run.Partition = command_sentence command.Partition
run_sentence (run.Device fault) = device_sentence fault
run_sentence run.Memory = command_sentence command.Memory
run_sentence run.Write = command_sentence command.Write
run_sentence run.Failed = command_sentence command.Write

-- a replay has a text with its own rules
abbrev pub sentence_of_replay : RunFault → List ℕ
sentence_of_replay (run.Device fault) = replay_sentence fault
sentence_of_replay fault = run_sentence fault

abbrev pub inputs_sentence : InputsFault → List ℕ
inputs_sentence inputs.Ticks = command_sentence command.Ticks
inputs_sentence (inputs.Image fault) = image_sentence fault
inputs_sentence inputs.Partition = command_sentence command.Partition
inputs_sentence (inputs.Device fault) = device_sentence fault
inputs_sentence inputs.Memory = command_sentence command.Memory
inputs_sentence inputs.TooMany = command_sentence command.Inputs
inputs_sentence inputs.Write = command_sentence command.Write

-- the sentence of the rule
abbrev pub sentence_of : Refusal → List ℕ
sentence_of (Build fault) = build_sentence fault
sentence_of (Run fault) = run_sentence fault
sentence_of (Replay fault) = sentence_of_replay fault
sentence_of (Inputs fault) = inputs_sentence fault
sentence_of (File name reason) = file_sentence reason
sentence_of (LongTable name) = command_sentence command.LongTable
sentence_of Memory = command_sentence command.Memory
sentence_of Write = command_sentence command.Write

-- Only the line, or the line and its explanation: what was noted, with what else is wrong, or else the sentence.
abbrev pub told_text : Bool → Refusal → Note → List ℕ
told_text false r note = line_of r ++ 10 ∷ []
told_text true r Unwanted = line_of r ++ 10 ∷ sentence_of r ++ 10 ∷ []
told_text true r (Wanted style) = line_of r ++ 10 ∷ sentence_of r ++ 10 ∷ []
told_text true r (Explained text more) = line_of r ++ 10 ∷ string_bytes text ++ string_bytes more

-- ---- how a refusal is explained

-- the form of findings by a rule
abbrev pub form_in : Style → List ℕ → Form
form_in styled.Plain rule = plain
form_in styled.Json rule = json rule

abbrev pub report_in : Style → List ℕ → List ℕ → Report
report_in style rule file = record { file = file; form = form_in style rule }

-- the object of a refusal without a finding: what its line says, with a sentence as advice
abbrev pub object_with : Refusal → List ℕ → List ℕ
object_with r sentence = rule_line (rule_of r) (rule_of r) sentence

-- the same with the sentence of the rule
abbrev pub object_of : Refusal → List ℕ
object_of r = object_with r (sentence_of r)

-- If objects were wanted and none is noted, there may be that of the refusal.
abbrev pub IsObjectOf : Refusal → Note → Note → Type 0
IsObjectOf r (Wanted styled.Json) (Explained text more) = string_bytes text ≡ object_of r
IsObjectOf r old new = new ≡ old

abbrev pub IsCompleted : Result Outcome (Failure Refusal) → Note → Note → Type 0
IsCompleted (Err (Refused r)) old new = IsObjectOf r old new
IsCompleted outcome old new = new ≡ old

-- standard output took no more bytes
abbrev pub is_of_write : Refusal → Bool
is_of_write (Run run.Write) = true
is_of_write (Replay run.Write) = true
is_of_write (Inputs inputs.Write) = true
is_of_write Write = true
is_of_write r = false

-- why it took no more, in a style
abbrev pub write_text : Style → Refusal → Reason → List ℕ
write_text styled.Plain r reason = write_sentence reason ++ 10 ∷ []
write_text styled.Json r reason = object_with r (write_sentence reason)

-- If an explanation was wanted and none is noted, that may be why standard output took no more bytes.
abbrev pub IsReasonOf : Refusal → Reason → Note → Note → Type 0
IsReasonOf r reason (Wanted style) (Explained text more) = (is_of_write r ≡ true) × (string_bytes text ≡ write_text style r reason)
IsReasonOf r reason old new = new ≡ old

abbrev pub HasReason : Result Outcome (Failure Refusal) → Reason → Note → Note → Type 0
HasReason (Err (Refused r)) reason old new = IsReasonOf r reason old new
HasReason outcome reason old new = new ≡ old

-- the sentence of a rule, or nothing for objects, which have none
abbrev pub sentence_in : Style → CommandFault → List ℕ
sentence_in style fault = explanation (form_in style []) (command_sentence fault) []

-- ---- the note on a refused source or table

-- a source: the name of its file, its text, and the period of its partition
pub record Source : Type 0 where
  pub file : List ℕ
  pub text : List ℕ
  pub period : ℕ

abbrev pub report_on : Form → List ℕ → Report
report_on form file = record { file = file; form = form }

abbrev pub source_file : SourceFile → Source
source_file s = record { file = s.file.now; text = s.text.now; period = s.period }

-- the source of the partition of this name, with one source for each partition
abbrev pub source_of : List Partition → List (List ℕ) → List (List ℕ) → List ℕ → Option Source
source_of (row ∷ rows) (file ∷ files) (text ∷ texts) name =
    if bytes_eq row.name name then Some (record { file = file; text = text; period = row.period }) else source_of rows files texts name
source_of _ _ _ name = None

-- with this table the text explains the refusal of the source of the partition of this name
abbrev pub IsExplainedWith : Form → Table → List (List ℕ) → List (List ℕ) → List ℕ → PalFault → List ℕ → Type 0
IsExplainedWith form t files sources name fault text =
    (source : Source) × (source_of t.partitions files sources name ≡ Some source) × IsSourceExplanation (report_on form source.file) source.period source.text fault.refusal text

-- the text explains it with the table of this text, which is accepted
abbrev pub IsExplained : Form → List ℕ → List (List ℕ) → List (List ℕ) → List ℕ → PalFault → List ℕ → Type 0
IsExplained form table files sources name fault text = (t : Table) × IsTable table t × IsExplainedWith form t files sources name fault text

-- a source: the name of its file, its text, and the costs of the bodies of its program
pub record Costed : Type 0 where
  pub file : List ℕ
  pub text : List ℕ
  pub bodies : List BodyCost

abbrev pub costed_file : CostedFile → Costed
costed_file c = record { file = c.file.now; text = c.text.now; bodies = c.bodies.now }

-- the source of the partition of this name, with one source for the costs of each partition
abbrev pub costed_of : List PartitionCosts → List (List ℕ) → List (List ℕ) → List ℕ → Option Costed
costed_of (row ∷ rows) (file ∷ files) (text ∷ texts) name =
    if bytes_eq row.partition name then Some (record { file = file; text = text; bodies = row.bodies.items }) else costed_of rows files texts name
costed_of _ _ _ name = None

-- with these costs the text explains that the program of the partition of this name is too long
abbrev pub IsLengthExplainedWith : Form → List PartitionCosts → List (List ℕ) → List (List ℕ) → List ℕ → List ℕ → Type 0
IsLengthExplainedWith form costs files sources name text =
    (c : Costed) × (costed_of costs files sources name ≡ Some c) × IsLengthExplanation (report_on form c.file) c.text c.bodies text

-- the text explains it with the costs of the table and the sources, which are accepted
abbrev pub IsLengthExplained : Form → List ℕ → List (List ℕ) → List (List ℕ) → List ℕ → List ℕ → Type 0
IsLengthExplained form table files sources name text = (costs : List PartitionCosts) × AreCosts table sources costs × IsLengthExplainedWith form costs files sources name text

-- the text explains the refusal of a table, which is that of this file, or of the source of the partition that the fault names
abbrev pub IsNoted : Style → List ℕ → List ℕ → List (List ℕ) → List (List ℕ) → BuildFault → List ℕ → Type 0
IsNoted style file table files sources (build.Table fault) text = IsTableExplanation (report_in style (build_line (build.Table fault)) file) table fault text
IsNoted style file table files sources (build.Pal name fault) text = IsExplained (form_in style (build_line (build.Pal name fault))) table files sources name fault text
IsNoted style file table files sources (build.Compile name fault) text = IsLengthExplained (form_in style (build_line (build.Compile name fault))) table files sources name text
IsNoted style file table files sources build.Sources text = text ≡ sentence_in style command.Sources
IsNoted style file table files sources fault text = ⊥

-- This explanation may be noted, where one is wanted in a style.
abbrev pub IsNotedAs : Style → List ℕ → Note → Type 0
IsNotedAs style text (Explained told more) = string_bytes told ≡ text
IsNotedAs style text note = note ≡ Wanted style

-- If an explanation was wanted, the refused table or source may be explained.
abbrev pub IsNoteOf : List ℕ → List ℕ → List (List ℕ) → List (List ℕ) → BuildFault → Note → Note → Type 0
IsNoteOf file table files sources fault (Wanted style) (Explained text more) = IsNoted style file table files sources fault (string_bytes text)
IsNoteOf file table files sources fault old new = new ≡ old

-- ---- the note on a refused image, device text or replay text

-- the files of a run: the image and the text, each with its name
pub record Files : Type 0 where
  pub image_name : List ℕ
  pub image : List ℕ
  pub text_name : List ℕ
  pub text : List ℕ

abbrev pub files_of : RunFiles → Files
files_of f = record { image_name = f.image_name.now; image = f.image.now; text_name = f.text_name.now; text = f.text.now }

-- If an explanation was wanted in a style, there may be one of which this is so.
abbrev pub IsNotedBy : (Style → List ℕ → Type 0) → Note → Note → Type 0
IsNotedBy is (Wanted style) (Explained text more) = is style (string_bytes text)
IsNotedBy is old new = new ≡ old

-- the text explains the refusal of the image
abbrev pub IsOfImage : Style → List ℕ → List ℕ → ImageFault → List ℕ → Type 0
IsOfImage style file bytes fault text = IsImageExplanation (report_in style (run_line (run.Image fault)) file) bytes fault text

-- that of the image or of the device text
abbrev pub IsOfRun : Style → Files → RunFault → List ℕ → Type 0
IsOfRun style f (run.Image fault) text = IsOfImage style f.image_name f.image fault text
IsOfRun style f (run.Device fault) text = IsDeviceExplanation (report_in style (run_line (run.Device fault)) f.text_name) f.image f.text fault text
IsOfRun style f fault text = ⊥

-- that of the image or of the text of the replay of this partition
abbrev pub IsOfReplay : Style → Files → List ℕ → RunFault → List ℕ → Type 0
IsOfReplay style f partition (run.Image fault) text = IsOfImage style f.image_name f.image fault text
IsOfReplay style f partition (run.Device fault) text = IsReplayExplanation (report_in style (run_line (run.Device fault)) f.text_name) f.image partition f.text fault text
IsOfReplay style f partition run.Partition text = text ≡ sentence_in style command.Partition
IsOfReplay style f partition fault text = ⊥

abbrev pub IsOfInputs : Style → Files → InputsFault → List ℕ → Type 0
IsOfInputs style f (inputs.Image fault) text = IsOfImage style f.image_name f.image fault text
IsOfInputs style f (inputs.Device fault) text = IsDeviceExplanation (report_in style (inputs_line (inputs.Device fault)) f.text_name) f.image f.text fault text
IsOfInputs style f inputs.Partition text = text ≡ sentence_in style command.Partition
IsOfInputs style f fault text = ⊥

-- The effect of a command that is done.
use Rattle.std.specs.Prelude.{◌≡◌, ◌≤◌, ◌<◌, ℕ, Bool, true, false, not, List, [], ◌∷◌, ◌++◌, length, Option, Some, None, Result, Ok, Err, codes}
use Rattle.std.specs.Fmt.{decimal}
use Rattle.std.specs.Io.KnownBytes.{Appends}
use Rattle.std.specs.Str.Parse.{IsNumeral, digits_value}
use Rattle.apex_types.specs.Limits.{MOST_TICKS}
use Rattle.machine_meaning.specs.Image.{Image}
use Rattle.machine_meaning.specs.ImageReading.{Fault, image_at}
use Rattle.pal_meaning.specs.Syntax as written
use Rattle.command_line.specs.Code.{code_text}
use Rattle.command_line.specs.Costs.{costs_text}
use Rattle.module.specs.Building.{IsImageOf}
use Rattle.module.specs.Costs.{AreCosts}
use Rattle.module.specs.Promises.{Means}
use Rattle.module.specs.NamedStates.{NamedStates, sources_of}
use Rattle.module.specs.Replays.{Replays}
use Rattle.module.specs.Runs.{Runs}
use Rattle.module.specs.States.{Every, Last, Moments, States, Wanted}
use Rattle.module.specs.Telling.{Tells}
use Rattle.module.specs.Upgrades.{IsUpgraded}
use Rattle.module.specs.declared.costing.PartitionCosts.{PartitionCosts}
use Rattle.module.specs.declared.fault.BuildAndRunFault.{BuildAndRunFault}
use Rattle.module.specs.declared.inputs_fault.InputsFault.{InputsFault}
use Rattle.module.specs.declared.fault.RunFault.{RunFault}
use Rattle.state_rows.specs.Named.{Source}
use Rattle.streams.specs.Contents.{Contents, Holds, HoldAll, Spares}
use Rattle.streams.specs.Reads.{IsUnread, Reads}
use Rattle.text_beginnings.specs.declared.beginning.TheConstants.{MOST_TABLE_BYTES}
use Rattle.command_line.specs.Stops.{RunsUntil}
use Rattle.command_line.specs.Orders.{Order, First, Check, Build, Run, Replay, Inputs, ShowState, ShowNames, Cost, Dis, Upgrade, Load, Lint, Dashed}
use Rattle.command_line.specs.Loading.{AreLoaded, IsLoadOfText, IsTextOf, Shown}
use Rattle.command_line.specs.Linting.{AreFound, AreTrees, IsReadModule}
use Rattle.command_line.specs.declared.linting.ReadModule.{ReadModule}
use Rattle.command_line.specs.Outcomes.{is_remarkable}
use Rattle.command_line.specs.declared.outcome.Outcome.{Outcome}
use Rattle.command_line.specs.declared.outcome.Outcome.TheVariants.{Usual, Remarkable}
use Rattle.lint.specs.Sentences.{findings_text, have_findings}
use Rattle.lint.specs.declared.report.PartitionFindings.{PartitionFindings}
use Rattle.command_line.specs.States.{State}
use Rattle.command_line.specs.declared.first_run.TheConstants.{SOURCE, TABLE, TICKS}

-- ---- the texts that are named

-- A table, in the file of this name: the whole text. It is read if it has at most this many bytes.
abbrev pub IsTableIn : Option Contents → List ℕ → List ℕ → Type 0
IsTableIn files name text = Holds files name text × (length text ≤ MOST_TABLE_BYTES)

-- The file of this name is longer than a table that is read.
abbrev pub IsLongTable : Option Contents → List ℕ → Type 0
IsLongTable files name = (text : List ℕ) × Holds files name text × (MOST_TABLE_BYTES < length text)

-- The texts of a module, in the files of these names.
pub record Texts (files : Option Contents) (table : List ℕ) (sources : List (List ℕ)) : Type 0 where
  pub table_text : List ℕ
  pub source_texts : List (List ℕ)
  pub in_table : IsTableIn files table table_text
  pub in_sources : HoldAll files sources source_texts

-- the files of these names were read one after another, if it is known which files were read
abbrev pub AreRead : List (List ℕ) → Reads → Reads → Type 0
AreRead names None new = Unit {0}
AreRead names (Some old) None = ⊥
AreRead names (Some old) (Some new) = new ≡ old ++ names

-- They are accepted, and this is their image.
pub record IsBuilt (files : Option Contents) (table : List ℕ) (sources : List (List ℕ)) (image : List ℕ) : Type 0 where
  pub texts : Texts files table sources
  pub built : IsImageOf texts.table_text texts.source_texts image

-- They are accepted, and their bodies cost this.
pub record AreCosted (files : Option Contents) (table : List ℕ) (sources : List (List ℕ)) (costs : List PartitionCosts) : Type 0 where
  pub texts : Texts files table sources
  pub costed : AreCosts texts.table_text texts.source_texts costs

-- They are accepted, and this is what the code holds of them.
pub record IsModuleIn (files : Option Contents) (table : List ℕ) (sources : List (List ℕ)) (m : ReadModule) : Type 0 where
  pub texts : Texts files table sources
  pub read : IsReadModule texts.table_text texts.source_texts m

-- They are accepted, and this is found of them.
pub record AreFoundIn (files : Option Contents) (table : List ℕ) (sources : List (List ℕ)) (found : List PartitionFindings) : Type 0 where
  pub texts : Texts files table sources
  pub of_texts : AreFound texts.table_text texts.source_texts found

-- This is shown of a table; of a table with its sources, all of them accepted.
abbrev pub IsLoadIn : Option Contents → List ℕ → List (List ℕ) → Shown → Type 0
IsLoadIn files table [] shown = (text : List ℕ) × IsTableIn files table text × IsLoadOfText text shown
IsLoadIn files table (source ∷ sources) shown = (texts : Texts files table (source ∷ sources)) × AreLoaded texts.table_text texts.source_texts shown

-- This image, in the file of this name.
pub record IsImageIn (files : Option Contents) (name : List ℕ) (image : Image) : Type 0 where
  pub image_bytes : List ℕ
  pub in_image : Holds files name image_bytes
  pub loaded : image_at image_bytes ≡ Ok image

-- An image, in the file of this name, is that of these bytes once it is upgraded.
pub record IsUpgradedIn (files : Option Contents) (name : List ℕ) (bytes : List ℕ) : Type 0 where
  pub image_bytes : List ℕ
  pub in_image : Holds files name image_bytes
  pub upgraded : IsUpgraded image_bytes bytes

-- An image and a text of inputs from outside, in the files of these names.
pub record ImageAndText (files : Option Contents) (image text : List ℕ) : Type 0 where
  pub image_bytes : List ℕ
  pub text_bytes : List ℕ
  pub in_image : Holds files image image_bytes
  pub in_text : Holds files text text_bytes

-- A table and its sources are accepted, with this image, and the sources are the texts of programs.
pub record IsBuiltWith (table : List ℕ) (sources : List (List ℕ)) (image : List ℕ) (made : List Source) : Type 0 where
  pub built : IsImageOf table sources image
  pub trees : List written.Program
  pub are_trees : AreTrees sources trees
  pub of_trees : made ≡ sources_of sources trees

-- The same of texts in files.
pub record IsBuiltIn (files : Option Contents) (table : List ℕ) (sources : List (List ℕ)) (image : List ℕ) (made : List Source) : Type 0 where
  pub texts : Texts files table sources
  pub of_texts : IsBuiltWith texts.table_text texts.source_texts image made

-- A module that is built and a text of inputs from outside, in the files of these names.
pub record ModuleAndText (files : Option Contents) (table : List ℕ) (sources : List (List ℕ)) (text : List ℕ) : Type 0 where
  pub image : List ℕ
  pub made : List Source
  pub built : IsBuiltIn files table sources image made
  pub text_bytes : List ℕ
  pub in_text : Holds files text text_bytes

-- ---- what is written

abbrev pub accepted_text : List ℕ
accepted_text = codes "accepted" ++ 10 ∷ []

-- the line with the length of the image
abbrev pub size_text : ℕ → List ℕ
size_text n = codes "built " ++ decimal n ++ codes " bytes" ++ 10 ∷ []

-- the line with the length of an upgraded image
abbrev pub upgraded_text : ℕ → List ℕ
upgraded_text n = codes "upgraded " ++ decimal n ++ codes " bytes" ++ 10 ∷ []

abbrev pub is_ok : {E : Type 0} → Result (Unit {0}) E
is_ok = Ok tt

-- The output of a run of n ticks with this result. If it waits for a line with some words, it ends with
-- the first tick that has one; if none comes, that is remarkable.
abbrev pub IsTraced : Result Image Fault → List ℕ → List (List ℕ) → ℕ → Option (List ℕ) → Option (List ℕ) → Result Outcome RunFault → Type 0
IsTraced read devices [] n old new (Ok Usual) = Runs read devices n old new is_ok
IsTraced read devices [] n old new (Ok Remarkable) = ⊥
IsTraced read devices [] n old new (Err fault) = Runs read devices n old new (Err fault)
IsTraced read devices (word ∷ words) n old new (Ok Usual) = RunsUntil read devices (word ∷ words) n old new (Ok true)
IsTraced read devices (word ∷ words) n old new (Ok Remarkable) = RunsUntil read devices (word ∷ words) n old new (Ok false)
IsTraced read devices (word ∷ words) n old new (Err fault) = RunsUntil read devices (word ∷ words) n old new (Err fault)

-- the same of an image and a device text in files
abbrev pub IsRunOf : {files : Option Contents} {image devices : List ℕ} → ImageAndText files image devices → List (List ℕ) → ℕ → Option (List ℕ) → Option (List ℕ) → Result Outcome RunFault → Type 0
IsRunOf given until n old new answer = IsTraced (image_at given.image_bytes) given.text_bytes until n old new answer

-- the output of a replay of a partition for n ticks with this result
abbrev pub IsReplayOf : {files : Option Contents} {image inputs : List ℕ} → ImageAndText files image inputs → List ℕ → ℕ → Option (List ℕ) → Option (List ℕ) → Result (Unit {0}) RunFault → Type 0
IsReplayOf given partition n old new answer = Replays (image_at given.image_bytes) partition given.text_bytes n old new answer

-- the output, with this result, of the inputs that n ticks of a run bring a partition
abbrev pub AreInputsOf : {files : Option Contents} {image devices : List ℕ} → ImageAndText files image devices → List ℕ → ℕ → Option (List ℕ) → Option (List ℕ) → Result (Unit {0}) InputsFault → Type 0
AreInputsOf given partition n old new answer = Tells (image_at given.image_bytes) partition given.text_bytes n old new answer

-- the output, with this result, of the wanted states of a run of n ticks
abbrev pub IsStateOf : {files : Option Contents} {image devices : List ℕ} → ImageAndText files image devices → Wanted → ℕ → Option (List ℕ) → Option (List ℕ) → Result Bool RunFault → Type 0
IsStateOf given wanted n old new answer = States (image_at given.image_bytes) given.text_bytes n wanted old new answer

-- the same with the names of the sources
abbrev pub IsNamedStateOf : {files : Option Contents} {table : List ℕ} {sources : List (List ℕ)} {devices : List ℕ} → ModuleAndText files table sources devices → Wanted → ℕ → Option (List ℕ) → Option (List ℕ) → Result (Unit {0}) RunFault → Type 0
IsNamedStateOf given wanted n old new answer = NamedStates (image_at given.image) given.text_bytes n wanted given.made old new answer

-- the output of the run of the stored module with this result
abbrev pub IsFirstRun : Option (List ℕ) → Option (List ℕ) → Result (Unit {0}) BuildAndRunFault → Type 0
IsFirstRun old new answer = Means TABLE.now (SOURCE.now ∷ []) [] TICKS old new answer

-- ---- the commands

-- an image was run for n ticks, or to a line with some words
abbrev pub IsRunDone : List ℕ → List ℕ → List (List ℕ) → ℕ → Outcome → State → State → Type 0
IsRunDone image devices until n outcome before after =
    (after.files ≡ before.files) × (given : ImageAndText before.files image devices) × IsRunOf given until n before.out.taken after.out.taken (Ok outcome)

-- a partition of an image was replayed for n ticks
abbrev pub IsReplayDone : List ℕ → List ℕ → List ℕ → ℕ → State → State → Type 0
IsReplayDone image partition inputs n before after =
    (after.files ≡ before.files) × (given : ImageAndText before.files image inputs) × IsReplayOf given partition n before.out.taken after.out.taken is_ok

-- the inputs were written that n ticks of a run bring a partition
abbrev pub AreInputsDone : List ℕ → List ℕ → List ℕ → ℕ → State → State → Type 0
AreInputsDone image partition devices n before after =
    (after.files ≡ before.files) × (given : ImageAndText before.files image devices) × AreInputsOf given partition n before.out.taken after.out.taken is_ok

-- the states were written that are wanted of a run of n ticks; if there is none, that is remarkable
abbrev pub IsStateDone : List ℕ → List ℕ → Wanted → ℕ → Outcome → State → State → Type 0
IsStateDone image devices wanted n outcome before after =
    (after.files ≡ before.files) × (given : ImageAndText before.files image devices)
    × IsStateOf given wanted n before.out.taken after.out.taken (Ok (not (is_remarkable outcome)))

-- ticks between states are given, if at all, as a number in digits, from 1 to 2^40, and no words of a row are given with it
abbrev pub IsSpacing : Option (List ℕ) → Moments → Type 0
IsSpacing None moments = Unit {0}
IsSpacing (Some word) (Every k) = IsNumeral 10 word × (0 < k) × (k ≤ MOST_TICKS)
IsSpacing (Some word) moments = ⊥

-- only the last state is shown with the names of sources: no ticks between states are given, and no words of a row
abbrev pub AreOnlyLast : Moments → Type 0
AreOnlyLast Last = Unit {0}
AreOnlyLast moments = ⊥

-- the words of `mb state` that are numbers are right
abbrev pub AreStateNumbers : List ℕ → Option (List ℕ) → Wanted → Type 0
AreStateNumbers tick every wanted = IsNumeral 10 tick × IsSpacing every wanted.moments

abbrev pub AreNamedNumbers : List ℕ → Wanted → Type 0
AreNamedNumbers tick wanted = IsNumeral 10 tick × AreOnlyLast wanted.moments

-- the state was written that a module has before tick n, with the names of its sources
abbrev pub IsNamedStateDone : List ℕ → List (List ℕ) → List ℕ → Wanted → ℕ → State → State → Type 0
IsNamedStateDone table sources devices wanted n before after =
    (after.files ≡ before.files)
    × (given : ModuleAndText before.files table sources devices) × IsNamedStateOf given wanted n before.out.taken after.out.taken is_ok

-- An image was built and written as the file of this name, and no other file was touched. This file is none of those that were
-- read by then, the table and the sources among them.
pub record IsImageWritten (table : List ℕ) (sources : List (List ℕ)) (name image : List ℕ) (before after : State) : Type 0 where
  pub built : IsBuilt before.files table sources image
  pub held : Holds after.files name image
  pub others : Spares name before.files after.files
  pub read : AreRead (table ∷ sources) before.reads after.reads
  pub unread : IsUnread name after.reads

-- the findings of a module were written, if there are any
abbrev pub IsLinted : Bool → List ℕ → List (List ℕ) → State → State → Type 0
IsLinted any table sources before after =
    (after.files ≡ before.files)
    × (found : List PartitionFindings) × AreFoundIn before.files table sources found × (have_findings found ≡ any) × Appends before.out.taken after.out.taken (findings_text found)

abbrev pub IsDone : Order → State → State → Type 0
IsDone First before after = (after.files ≡ before.files) × IsFirstRun before.out.taken after.out.taken is_ok
IsDone (Check table sources) before after =
    (after.files ≡ before.files) × ((image : List ℕ) × IsBuilt before.files table sources image) × Appends before.out.taken after.out.taken accepted_text
IsDone (Build table name sources) before after =
    (image : List ℕ) × IsImageWritten table sources name image before after × Appends before.out.taken after.out.taken (size_text (length image))
IsDone (Run image devices ticks until) before after = IsNumeral 10 ticks × IsRunDone image devices until (digits_value 10 ticks) Usual before after
IsDone (Replay image partition inputs ticks) before after = IsNumeral 10 ticks × IsReplayDone image partition inputs (digits_value 10 ticks) before after
IsDone (Inputs image partition devices ticks) before after = IsNumeral 10 ticks × AreInputsDone image partition devices (digits_value 10 ticks) before after
IsDone (ShowState image devices tick every wanted) before after = AreStateNumbers tick every wanted × IsStateDone image devices wanted (digits_value 10 tick) Usual before after
IsDone (ShowNames table sources devices tick wanted) before after = AreNamedNumbers tick wanted × IsNamedStateDone table sources devices wanted (digits_value 10 tick) before after
IsDone (Cost table sources) before after =
    (after.files ≡ before.files) × (costs : List PartitionCosts) × AreCosted before.files table sources costs × Appends before.out.taken after.out.taken (costs_text costs)
IsDone (Dis name) before after =
    (after.files ≡ before.files) × (image : Image) × IsImageIn before.files name image × Appends before.out.taken after.out.taken (code_text image)
IsDone (Load form table sources) before after =
    (after.files ≡ before.files) × (shown : Shown) × IsLoadIn before.files table sources shown
    × (text : List ℕ) × IsTextOf form text × Appends before.out.taken after.out.taken text
IsDone (Upgrade old new) before after =
    (bytes : List ℕ) × IsUpgradedIn before.files old bytes × Holds after.files new bytes × Spares new before.files after.files
    × Appends before.out.taken after.out.taken (upgraded_text (length bytes))
IsDone (Lint table sources) before after = IsLinted false table sources before after
IsDone Dashed before after = ⊥

-- with status 3 something is found, or what is waited for has not come
abbrev pub IsRemarkable : Order → State → State → Type 0
IsRemarkable (Lint table sources) before after = IsLinted true table sources before after
IsRemarkable (Run image devices ticks until) before after = IsNumeral 10 ticks × IsRunDone image devices until (digits_value 10 ticks) Remarkable before after
IsRemarkable (ShowState image devices tick every wanted) before after = AreStateNumbers tick every wanted × IsStateDone image devices wanted (digits_value 10 tick) Remarkable before after
IsRemarkable order before after = ⊥

abbrev pub IsDoneWith : Outcome → Order → State → State → Type 0
IsDoneWith Usual order before after = IsDone order before after
IsDoneWith Remarkable order before after = IsRemarkable order before after

-- Why a command is refused, and the state after that.
use Rattle.std.specs.Prelude.{◌≡◌, ◌⊎◌, ℕ, List, [], ◌∷◌, ◌++◌, Option, Err, string_bytes}
use Rattle.std.specs.Str.Parse.{IsNumeral, digits_value}
use Rattle.streams.specs.States.{HasFailed, Seen}
use Rattle.apex_types.specs.Line.{TakesBeginning}
use Rattle.machine_meaning.specs.Image.{Image}
use Rattle.machine_meaning.specs.ImageReading.{image_at}
use Rattle.command_line.specs.Code.{code_text}
use Rattle.command_line.specs.Costs.{costs_text}
use Rattle.module.specs.Refusals.{IsRefusal}
use Rattle.module.specs.Costs.{IsCostRefusal}
use Rattle.module.specs.Running as promises
use Rattle.module.specs.States.{Wanted}
use Rattle.module.specs.declared.costing.PartitionCosts.{PartitionCosts}
use Rattle.module.specs.declared.fault.BuildAndRunFault.{BuildAndRunFault}
use Rattle.module.specs.declared.fault.BuildAndRunFault.TheVariants as both
use Rattle.module.specs.declared.inputs_fault.InputsFault.{InputsFault}
use Rattle.module.specs.declared.inputs_fault.InputsFault.TheVariants as input_faults
use Rattle.module.specs.declared.fault.RunFault.{RunFault}
use Rattle.module.specs.declared.fault.RunFault.TheVariants as faults
use Rattle.streams.specs.Contents.{Contents, Holds, Spares}
use Rattle.command_line.specs.Done.{Texts, IsTableIn, IsLongTable, IsBuilt, AreCosted, AreFoundIn, IsLoadIn, IsImageIn, IsImageWritten, IsUpgradedIn, ImageAndText, IsRunOf, IsRunDone, IsReplayOf, IsReplayDone, AreInputsOf, AreInputsDone, IsStateOf, IsStateDone, AreStateNumbers, ModuleAndText, IsNamedStateOf, IsNamedStateDone, AreNamedNumbers, IsFirstRun, is_ok}
use Rattle.command_line.specs.Orders.{Order, First as first, Check as check, Build as build, Run as run, Replay as replay, Inputs as inputs, ShowState as show_state, ShowNames as show_names, Cost as cost, Dis as dis, Upgrade as upgrade, Load as load, Lint as lint, Dashed as dashed}
use Rattle.command_line.specs.Loading.{IsRefusedTable, Shown}
use Rattle.lint.specs.Sentences.{findings_text}
use Rattle.lint.specs.declared.report.PartitionFindings.{PartitionFindings}
use Rattle.command_line.specs.States.{IsSilent, IsUntouched, State}
use Rattle.command_line.specs.declared.outcome.Outcome.{Outcome}
use Rattle.command_line.specs.declared.refusal.Refusal.{Refusal}
use Rattle.command_line.specs.declared.refusal.Refusal.TheVariants.{Build, Run, Replay, Inputs, File, LongTable, Memory, Write}

abbrev pub refusal_of_both : BuildAndRunFault → Refusal
refusal_of_both (both.Build fault) = Build fault
refusal_of_both (both.Run fault) = Run fault

-- the file of this name was not read or not written, or memory ran out
abbrev pub IsRefusalOfFile : List ℕ → Refusal → Type 0
IsRefusalOfFile name (File shown reason) = string_bytes shown ≡ name
IsRefusalOfFile name Memory = Unit {0}
IsRefusalOfFile name _ = ⊥

-- ---- the steps of a command

-- the first of these files that is not read is that of this name; those before it are read
abbrev pub IsFirstUnread : Option Contents → List (List ℕ) → List ℕ → Type 0
IsFirstUnread files [] name = ⊥
IsFirstUnread files (next ∷ rest) name = (name ≡ next) ⊎ (((text : List ℕ) × Holds files next text) × IsFirstUnread files rest name)

-- why no image is built of the texts in these files
abbrev pub IsNotBuilt : Option Contents → List ℕ → List (List ℕ) → Refusal → Type 0
IsNotBuilt files table sources (File name reason) = IsFirstUnread files (table ∷ sources) (string_bytes name)
IsNotBuilt files table sources (LongTable name) = (string_bytes name ≡ table) × IsLongTable files table
IsNotBuilt files table sources (Build fault) = (texts : Texts files table sources) × IsRefusal texts.table_text texts.source_texts fault
IsNotBuilt files table sources Memory = Unit {0}
IsNotBuilt files table sources _ = ⊥

-- why no costs are found of the texts in these files
abbrev pub IsNotCosted : Option Contents → List ℕ → List (List ℕ) → Refusal → Type 0
IsNotCosted files table sources (File name reason) = IsFirstUnread files (table ∷ sources) (string_bytes name)
IsNotCosted files table sources (LongTable name) = (string_bytes name ≡ table) × IsLongTable files table
IsNotCosted files table sources (Build fault) = (texts : Texts files table sources) × IsCostRefusal texts.table_text texts.source_texts fault
IsNotCosted files table sources Memory = Unit {0}
IsNotCosted files table sources _ = ⊥

-- why no table is taken of the file of this name
abbrev pub IsNoTableIn : Option Contents → List ℕ → Refusal → Type 0
IsNoTableIn files name (File shown reason) = string_bytes shown ≡ name
IsNoTableIn files name (LongTable shown) = (string_bytes shown ≡ name) × IsLongTable files name
IsNoTableIn files name (Build fault) = (text : List ℕ) × IsTableIn files name text × IsRefusedTable text (Build fault)
IsNoTableIn files name Memory = Unit {0}
IsNoTableIn files name _ = ⊥

-- why there is no load of the table, and of the sources if any are named
abbrev pub IsNotLoadedFrom : Option Contents → List ℕ → List (List ℕ) → Refusal → Type 0
IsNotLoadedFrom files table [] r = IsNoTableIn files table r
IsNotLoadedFrom files table (source ∷ sources) r = IsNotCosted files table (source ∷ sources) r

-- why no image is loaded of the file of this name
abbrev pub IsNotLoaded : Option Contents → List ℕ → Refusal → Type 0
IsNotLoaded files name (File shown reason) = string_bytes shown ≡ name
IsNotLoaded files name (Run fault) = (bytes : List ℕ) × Holds files name bytes × promises.IsRefused (image_at bytes) fault
IsNotLoaded files name Memory = Unit {0}
IsNotLoaded files name _ = ⊥

-- an image is built, which is not written
abbrev pub IsNotWritten : List ℕ → List (List ℕ) → List ℕ → State → State → Refusal → Type 0
IsNotWritten table sources name before after r =
    ((image : List ℕ) × IsBuilt before.files table sources image) × Spares name before.files after.files × IsRefusalOfFile name r

-- an image is upgraded, which is not written
abbrev pub IsUpgradeNotWritten : List ℕ → List ℕ → State → State → Refusal → Type 0
IsUpgradeNotWritten old new before after r =
    ((bytes : List ℕ) × IsUpgradedIn before.files old bytes) × Spares new before.files after.files × IsRefusalOfFile new r

-- ---- the commands; memory may run out at every step

-- standard output failed if and only if the run or the replay says so
abbrev pub HasFailedBy : RunFault → Seen → Seen → Type 0
HasFailedBy faults.Write old new = HasFailed old new
HasFailedBy _ old new = new.failures ≡ old.failures

-- the same for the inputs that a run brings
abbrev pub HasFailedByInputs : InputsFault → Seen → Seen → Type 0
HasFailedByInputs input_faults.Write old new = HasFailed old new
HasFailedByInputs _ old new = new.failures ≡ old.failures

abbrev pub HasFailedByBoth : BuildAndRunFault → Seen → Seen → Type 0
HasFailedByBoth (both.Build fault) old new = new.failures ≡ old.failures
HasFailedByBoth (both.Run fault) old new = HasFailedBy fault old new

abbrev pub IsCheckRefused : List ℕ → List (List ℕ) → State → State → Refusal → Type 0
IsCheckRefused table sources before after Write = HasFailed before.out after.out × (after.files ≡ before.files) × ((image : List ℕ) × IsBuilt before.files table sources image)
IsCheckRefused table sources before after r = IsUntouched before after × IsNotBuilt before.files table sources r

abbrev pub IsBuildRefused : List ℕ → List ℕ → List (List ℕ) → State → State → Refusal → Type 0
IsBuildRefused table name sources before after Write =
    HasFailed before.out after.out × ((image : List ℕ) × IsImageWritten table sources name image before after)
IsBuildRefused table name sources before after r =
    IsSilent before.out after.out
    × (((after.files ≡ before.files) × IsNotBuilt before.files table sources r) ⊎ IsNotWritten table sources name before after r)

-- why a run of n ticks, or to a line with some words, is refused
abbrev pub IsRunRefused : List ℕ → List ℕ → List (List ℕ) → ℕ → State → State → Refusal → Type 0
IsRunRefused image devices until n before after (File name reason) = IsUntouched before after × IsFirstUnread before.files (image ∷ devices ∷ []) (string_bytes name)
IsRunRefused image devices until n before after (Run fault) =
    HasFailedBy fault before.out after.out × (after.files ≡ before.files)
    × (given : ImageAndText before.files image devices) × IsRunOf given until n before.out.taken after.out.taken (Err fault)
IsRunRefused image devices until n before after Memory = IsUntouched before after
IsRunRefused image devices until n before after Write = HasFailed before.out after.out × (outcome : Outcome) × IsRunDone image devices until n outcome before after
IsRunRefused image devices until n before after _ = ⊥

-- why a replay of a partition for n ticks is refused
abbrev pub IsReplayRefused : List ℕ → List ℕ → List ℕ → ℕ → State → State → Refusal → Type 0
IsReplayRefused image partition text n before after (File name reason) = IsUntouched before after × IsFirstUnread before.files (image ∷ text ∷ []) (string_bytes name)
IsReplayRefused image partition text n before after (Replay fault) =
    HasFailedBy fault before.out after.out × (after.files ≡ before.files)
    × (given : ImageAndText before.files image text) × IsReplayOf given partition n before.out.taken after.out.taken (Err fault)
IsReplayRefused image partition text n before after Memory = IsUntouched before after
IsReplayRefused image partition text n before after Write = HasFailed before.out after.out × IsReplayDone image partition text n before after
IsReplayRefused image partition text n before after _ = ⊥

-- why the inputs that n ticks of a run bring a partition are refused
abbrev pub AreInputsRefused : List ℕ → List ℕ → List ℕ → ℕ → State → State → Refusal → Type 0
AreInputsRefused image partition devices n before after (File name reason) = IsUntouched before after × IsFirstUnread before.files (image ∷ devices ∷ []) (string_bytes name)
AreInputsRefused image partition devices n before after (Inputs fault) =
    HasFailedByInputs fault before.out after.out × (after.files ≡ before.files)
    × (given : ImageAndText before.files image devices) × AreInputsOf given partition n before.out.taken after.out.taken (Err fault)
AreInputsRefused image partition devices n before after Memory = IsUntouched before after
AreInputsRefused image partition devices n before after Write = HasFailed before.out after.out × AreInputsDone image partition devices n before after
AreInputsRefused image partition devices n before after _ = ⊥

-- why the wanted states of a run of n ticks are refused
abbrev pub IsStateRefused : List ℕ → List ℕ → Wanted → ℕ → State → State → Refusal → Type 0
IsStateRefused image devices wanted n before after (File name reason) = IsUntouched before after × IsFirstUnread before.files (image ∷ devices ∷ []) (string_bytes name)
IsStateRefused image devices wanted n before after (Run fault) =
    HasFailedBy fault before.out after.out × (after.files ≡ before.files)
    × (given : ImageAndText before.files image devices) × IsStateOf given wanted n before.out.taken after.out.taken (Err fault)
IsStateRefused image devices wanted n before after Memory = IsUntouched before after
IsStateRefused image devices wanted n before after Write = HasFailed before.out after.out × (outcome : Outcome) × IsStateDone image devices wanted n outcome before after
IsStateRefused image devices wanted n before after _ = ⊥

-- why the state before tick n with the names of the sources is refused
abbrev pub IsNamedStateRefused : List ℕ → List (List ℕ) → List ℕ → Wanted → ℕ → State → State → Refusal → Type 0
IsNamedStateRefused table sources devices wanted n before after (File name reason) =
    IsUntouched before after × IsFirstUnread before.files (table ∷ sources ++ devices ∷ []) (string_bytes name)
IsNamedStateRefused table sources devices wanted n before after (LongTable name) = IsUntouched before after × IsNotBuilt before.files table sources (LongTable name)
IsNamedStateRefused table sources devices wanted n before after (Build fault) = IsUntouched before after × IsNotBuilt before.files table sources (Build fault)
IsNamedStateRefused table sources devices wanted n before after (Run fault) =
    HasFailedBy fault before.out after.out × (after.files ≡ before.files)
    × (given : ModuleAndText before.files table sources devices) × IsNamedStateOf given wanted n before.out.taken after.out.taken (Err fault)
IsNamedStateRefused table sources devices wanted n before after Memory = IsUntouched before after
IsNamedStateRefused table sources devices wanted n before after Write = HasFailed before.out after.out × IsNamedStateDone table sources devices wanted n before after
IsNamedStateRefused table sources devices wanted n before after _ = ⊥

-- why the run of the stored module is refused, over standard output
abbrev pub IsStoredRefused : Seen → Seen → Refusal → Type 0
IsStoredRefused old new (Build fault) = (new.failures ≡ old.failures) × IsFirstRun old.taken new.taken (Err (both.Build fault))
IsStoredRefused old new (Run fault) = HasFailedBy fault old new × IsFirstRun old.taken new.taken (Err (both.Run fault))
IsStoredRefused old new Memory = IsSilent old new
IsStoredRefused old new Write = HasFailed old new × IsFirstRun old.taken new.taken is_ok
IsStoredRefused old new _ = ⊥

-- if standard output took no more, it has a beginning of the listing
abbrev pub IsCostRefused : List ℕ → List (List ℕ) → State → State → Refusal → Type 0
IsCostRefused table sources before after Write =
    HasFailed before.out after.out × (after.files ≡ before.files)
    × (costs : List PartitionCosts) × AreCosted before.files table sources costs × TakesBeginning before.out.taken after.out.taken (costs_text costs)
IsCostRefused table sources before after r = IsUntouched before after × IsNotCosted before.files table sources r

abbrev pub IsLoadRefused : List ℕ → List (List ℕ) → State → State → Refusal → Type 0
IsLoadRefused table sources before after Write =
    HasFailed before.out after.out × (after.files ≡ before.files) × ((shown : Shown) × IsLoadIn before.files table sources shown)
IsLoadRefused table sources before after r = IsUntouched before after × IsNotLoadedFrom before.files table sources r

abbrev pub IsLintRefused : List ℕ → List (List ℕ) → State → State → Refusal → Type 0
IsLintRefused table sources before after Write =
    HasFailed before.out after.out × (after.files ≡ before.files)
    × (found : List PartitionFindings) × AreFoundIn before.files table sources found × TakesBeginning before.out.taken after.out.taken (findings_text found)
IsLintRefused table sources before after r = IsUntouched before after × IsNotCosted before.files table sources r

abbrev pub IsDisRefused : List ℕ → State → State → Refusal → Type 0
IsDisRefused name before after Write =
    HasFailed before.out after.out × (after.files ≡ before.files)
    × (image : Image) × IsImageIn before.files name image × TakesBeginning before.out.taken after.out.taken (code_text image)
IsDisRefused name before after r = IsUntouched before after × IsNotLoaded before.files name r

abbrev pub IsUpgradeRefused : List ℕ → List ℕ → State → State → Refusal → Type 0
IsUpgradeRefused old new before after Write =
    HasFailed before.out after.out × (bytes : List ℕ) × IsUpgradedIn before.files old bytes × Holds after.files new bytes × Spares new before.files after.files
IsUpgradeRefused old new before after r =
    IsSilent before.out after.out
    × (((after.files ≡ before.files) × IsNotLoaded before.files old r) ⊎ IsUpgradeNotWritten old new before after r)

abbrev pub IsRefused : Order → State → State → Refusal → Type 0
IsRefused first before after r = (after.files ≡ before.files) × IsStoredRefused before.out after.out r
IsRefused (check table sources) before after r = IsCheckRefused table sources before after r
IsRefused (build table image sources) before after r = IsBuildRefused table image sources before after r
IsRefused (cost table sources) before after r = IsCostRefused table sources before after r
IsRefused (load form table sources) before after r = IsLoadRefused table sources before after r
IsRefused (lint table sources) before after r = IsLintRefused table sources before after r
IsRefused (dis image) before after r = IsDisRefused image before after r
IsRefused (upgrade old new) before after r = IsUpgradeRefused old new before after r
IsRefused (run image devices ticks until) before after r =
    (IsNumeral 10 ticks ⊎ (r ≡ Memory)) × IsRunRefused image devices until (digits_value 10 ticks) before after r
IsRefused (replay image partition text ticks) before after r =
    (IsNumeral 10 ticks ⊎ (r ≡ Memory)) × IsReplayRefused image partition text (digits_value 10 ticks) before after r
IsRefused (inputs image partition devices ticks) before after r =
    (IsNumeral 10 ticks ⊎ (r ≡ Memory)) × AreInputsRefused image partition devices (digits_value 10 ticks) before after r
IsRefused (show_state image devices tick every wanted) before after r =
    (AreStateNumbers tick every wanted ⊎ (r ≡ Memory)) × IsStateRefused image devices wanted (digits_value 10 tick) before after r
IsRefused (show_names table sources devices tick wanted) before after r =
    (AreNamedNumbers tick wanted ⊎ (r ≡ Memory)) × IsNamedStateRefused table sources devices wanted (digits_value 10 tick) before after r
IsRefused dashed before after r = IsUntouched before after × (r ≡ Memory)

-- ---- the words

-- a word for ticks is not written in digits, or gives no number of ticks between states, or a word is only `-`
abbrev pub HasWrongWord : Order → Type 0
HasWrongWord (run image devices ticks until) = IsNumeral 10 ticks → ⊥
HasWrongWord (replay image partition text ticks) = IsNumeral 10 ticks → ⊥
HasWrongWord (inputs image partition devices ticks) = IsNumeral 10 ticks → ⊥
HasWrongWord (show_state image devices tick every wanted) = AreStateNumbers tick every wanted → ⊥
HasWrongWord (show_names table sources devices tick wanted) = AreNamedNumbers tick wanted → ⊥
HasWrongWord dashed = Unit {0}
HasWrongWord _ = ⊥

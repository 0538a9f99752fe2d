-- The promise of writing states: those of an image's module before ticks.
use Rattle.std.specs.Prelude.{◌≡◌, ◌⊎◌, ◌<◌, ◌≤◌, ◌+◌, ◌/◌, ℕ, zero, suc, Bool, true, false, List, [], ◌∷◌, ◌++◌, Option, Some, None, Result, Ok, Err, option_map}
use Rattle.std.specs.Io.KnownBytes.{Appends}
use Rattle.apex_types.specs.Limits.{MOST_TICKS}
use Rattle.apex_types.specs.Line.{TakesBeginning}
use Rattle.apex_types.specs.declared.device.DeviceLine.{DeviceLine}
use Rattle.isolation.specs.Replays.{numbered}
use Rattle.kernel_meaning.specs.Partition.{Member}
use Rattle.machine_meaning.specs.Image.{Image, Item}
use Rattle.machine_meaning.specs.ImageReading.{Fault}
use Rattle.machine_meaning.specs.MachineControl.{MachineControl}
use Rattle.machine_meaning.specs.MachineMeaning.{machine_module}
use Rattle.module_meaning.specs.Standing.{Standing, at_first, elapse}
use Rattle.module_meaning.specs.Table.{at_number}
use Rattle.state_rows.specs.Rows.{Row, rows_in}
use Rattle.state_rows.specs.States.{member_rows, module_rows, state_rows}
use Rattle.state_rows.specs.declared.row.Form.{Form}
use Rattle.state_rows.specs.declared.row.Form.TheVariants as form
use Rattle.module.specs.Asked.{asked_rows, has_row}
use Rattle.module.specs.Replays.{LacksPartition}
use Rattle.module.specs.Runs.{IsRun, IsDeviceRefusal, IsImageRefusal}
use Rattle.module.specs.declared.fault.RunFault.{RunFault}
use Rattle.module.specs.declared.fault.RunFault.TheVariants.{Ticks, Image as NoImage, Partition as NoPartition, Device, Memory, Write, Failed}

-- The module of an image before tick n, with these device lines: after n ticks. Before tick 0 no partition has started.
abbrev pub state_before : Image → List DeviceLine → ℕ → Standing MachineControl
state_before image lines n = let m = machine_module image in (elapse m.plan lines n (at_first m.members)).state

-- some rows of a partition, from its item and its member; none if one of them is missing
abbrev pub rows_of_both : (Item → Member MachineControl → List Row) → Option Item → Option (Member MachineControl) → List Row
rows_of_both rows (Some item) (Some x) = rows item x
rows_of_both rows _ _ = []

-- the rows of the module before tick n, and of all partitions or of only the one with a number
abbrev pub rows_of : Option ℕ → Image → ℕ → Standing MachineControl → List Row
rows_of None image n s = state_rows image n s
rows_of (Some number) image n s = module_rows image n s.origin ++ rows_of_both member_rows (at_number image.items number) (at_number s.members number)

-- Before which ticks of a run of n ticks the state is wanted: only before the last, n; before 0, k, 2k and so on, up to n; or before
-- the first in whose state a row of a partition begins with some words.
pub data Moments : Type 0 where
  Last : Moments
  Every : (k : ℕ) → Moments
  First : (words : List (List ℕ)) → Moments

-- What is wanted of a run: the states before some ticks, with their rows in this form; if a partition is named, only the rows of the
-- module and of this partition.
pub record Wanted : Type 0 where
  pub form : Form
  pub partition : Option (List ℕ)
  pub moments : Moments

-- the wanted rows of the state before tick n; none if there is no partition of that name
abbrev pub wanted_rows : Option (List ℕ) → Image → ℕ → Standing MachineControl → Option (List Row)
wanted_rows None image n s = Some (rows_of None image n s)
wanted_rows (Some name) image n s = option_map (λ found. rows_of (Some found.0) image n s) (numbered image name)

-- the text of the state of an image's module before tick n
abbrev pub IsStateText : Wanted → Image → List DeviceLine → ℕ → List ℕ → Type 0
IsStateText wanted image lines n text =
    (rows : List Row) × (wanted_rows wanted.partition image n (state_before image lines n) ≡ Some rows) × (text ≡ rows_in wanted.form rows)

-- so many ticks from t on, each k after the one before
abbrev pub spaced : (k t count : ℕ) → List ℕ
spaced k t zero = []
spaced k t (suc count) = t ∷ spaced k (t + k) count

-- the ticks 0, k, 2k and so on, up to n
abbrev pub every : (k n : ℕ) → List ℕ
every k n = spaced k 0 (suc (n / k))

-- the texts of the states before these ticks, one after another
abbrev pub AreStateTexts : Wanted → Image → List DeviceLine → List ℕ → List ℕ → Type 0
AreStateTexts wanted image lines [] text = text ≡ []
AreStateTexts wanted image lines (t ∷ ticks) text =
    (first : List ℕ) × (rest : List ℕ) × IsStateText wanted image lines t first × AreStateTexts wanted image lines ticks rest × (text ≡ first ++ rest)

-- some rows of all partitions
abbrev pub rows_of_all : (Item → Member MachineControl → List Row) → List Item → List (Member MachineControl) → List Row
rows_of_all rows (item ∷ items) (x ∷ xs) = rows item x ++ rows_of_all rows items xs
rows_of_all rows _ _ = []

-- the rows that are looked at for one with these words: of the partitions, or of only the one with a number
abbrev pub watched_of : List (List ℕ) → Option ℕ → Image → Standing MachineControl → List Row
watched_of words None image s = rows_of_all (asked_rows words) image.items s.members
watched_of words (Some number) image s = rows_of_both (asked_rows words) (at_number image.items number) (at_number s.members number)

-- the same for a partition that is named; none if there is no partition of that name
abbrev pub watched_rows : List (List ℕ) → Option (List ℕ) → Image → Standing MachineControl → Option (List Row)
watched_rows words None image s = Some (watched_of words None image s)
watched_rows words (Some name) image s = option_map (λ found. watched_of words (Some found.0) image s) (numbered image name)

-- in the state before tick n a row of a partition begins with these words, or none does
abbrev pub HasRowAt : Wanted → Image → List DeviceLine → List (List ℕ) → ℕ → Bool → Type 0
HasRowAt wanted image lines words n found =
    (rows : List Row) × (watched_rows words wanted.partition image (state_before image lines n) ≡ Some rows) × (has_row words (rows_in form.Text rows) ≡ found)

-- the text of the first such state up to tick n; or no text, if there is none
abbrev pub IsFirstText : Wanted → Image → List DeviceLine → List (List ℕ) → ℕ → Bool → List ℕ → Type 0
IsFirstText wanted image lines words n true text =
    (t : ℕ) × (t ≤ n) × HasRowAt wanted image lines words t true × ((u : ℕ) → u < t → HasRowAt wanted image lines words u false) × IsStateText wanted image lines t text
IsFirstText wanted image lines words n false text = ((u : ℕ) → u ≤ n → HasRowAt wanted image lines words u false) × (text ≡ [])

-- the text of the wanted states of a run of n ticks, and whether there is one
abbrev pub IsTextAt : Moments → Wanted → Image → List DeviceLine → ℕ → Bool → List ℕ → Type 0
IsTextAt Last wanted image lines n found text = (found ≡ true) × IsStateText wanted image lines n text
IsTextAt (Every k) wanted image lines n found text = (found ≡ true) × AreStateTexts wanted image lines (every k n) text
IsTextAt (First words) wanted image lines n found text = IsFirstText wanted image lines words n found text

abbrev pub IsWantedText : Wanted → Image → List DeviceLine → ℕ → Bool → List ℕ → Type 0
IsWantedText wanted image lines n found text = IsTextAt wanted.moments wanted image lines n found text

-- several states may be wanted
abbrev pub AreSeveral : Moments → Type 0
AreSeveral (Every k) = Unit {0}
AreSeveral moments = ⊥

-- the image lacks the partition that is wanted
abbrev pub LacksWanted : Result Image Fault → Option (List ℕ) → Type 0
LacksWanted read None = ⊥
LacksWanted read (Some name) = LacksPartition read name

-- A sink has taken the text of the wanted states of a run of n ticks, with the device text's lines, or a part of it.
abbrev pub HasTaken : (Option (List ℕ) → Option (List ℕ) → List ℕ → Type 0) → Result Image Fault → List ℕ → ℕ → Wanted → Option (List ℕ) → Option (List ℕ) → Bool → Type 0
HasTaken Takes read devices n wanted old new found =
    (image : Image) × (lines : List DeviceLine) × IsRun read devices n image lines × (text : List ℕ) × IsWantedText wanted image lines n found text × Takes old new text

-- What is written of states between two states of the sink: the text of those that the image's module has before the wanted
-- ticks; a prefix of that text if the sink failed, or if memory ran out after the first of several; nothing if they are refused.
abbrev pub States : Result Image Fault → List ℕ → ℕ → Wanted → Option (List ℕ) → Option (List ℕ) → Result Bool RunFault → Type 0
States read devices n wanted old new (Ok found) = HasTaken Appends read devices n wanted old new found
States read devices n wanted old new (Err Write) = HasTaken TakesBeginning read devices n wanted old new true
States read devices n wanted old new (Err Ticks) = (MOST_TICKS < n) × (new ≡ old)
States read devices n wanted old new (Err (NoImage f)) = (n ≤ MOST_TICKS) × IsImageRefusal read f × (new ≡ old)
States read devices n wanted old new (Err NoPartition) = (n ≤ MOST_TICKS) × LacksWanted read wanted.partition × (new ≡ old)
States read devices n wanted old new (Err (Device f)) = (n ≤ MOST_TICKS) × IsDeviceRefusal read devices f × (new ≡ old)
States read devices n wanted old new (Err Memory) = (new ≡ old) ⊎ (AreSeveral wanted.moments × HasTaken TakesBeginning read devices n wanted old new true)
States read devices n wanted old new (Err Failed) = ⊥

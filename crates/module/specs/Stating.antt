-- What the steps of writing a state promise.
use Rattle.std.specs.Prelude.{◌≡◌, ◌≤◌, ◌<◌, ◌⊎◌, ℕ, Bool, true, false, List, [], Option, Some, Result, Ok, Err, flat_map, map, option_map}
use Rattle.std.specs.Io.KnownBytes.{Appends}
use Rattle.apex_types.specs.Line.{TakesBeginning}
use Rattle.apex_types.specs.declared.device.DeviceLine.{DeviceLine}
use Rattle.apex_types.specs.declared.identity.PartitionId.{PartitionId}
use Rattle.machine_meaning.specs.Image.{Image}
use Rattle.machine_meaning.specs.MachineControl.{MachineControl}
use Rattle.module_meaning.specs.Standing.{Standing}
use Rattle.state_rows.specs.Rows.{rows_in}
use Rattle.state_rows.specs.declared.row.Form.{Form}
use Rattle.state_rows.specs.declared.row.Form.TheVariants.{Text}
use Rattle.module.specs.Asked.{has_row}
use Rattle.module.specs.Machines.{Machine}
use Rattle.module.specs.States.{Moments, Last, Every, First, Wanted, AreSeveral, LacksWanted, every, rows_of, state_before, wanted_rows, watched_of, watched_rows}
use Rattle.module.specs.declared.fault.RunFault.{RunFault}
use Rattle.module.specs.declared.fault.RunFault.TheVariants.{Memory, Partition, Write}
use Rattle.module.specs.declared.stating.Moments.{Moments as Code}
use Rattle.module.specs.declared.stating.Moments.TheVariants as code
use Rattle.module.specs.declared.stating.WantedStates.{WantedStates}

abbrev pub moments_in : Code → Moments
moments_in code.Last = Last
moments_in (code.Every k) = Every k
moments_in (code.First words) = First (map (λ s. s.now) words.now)

abbrev pub wanted_in : WantedStates → Wanted
wanted_in w = record { form = w.form; partition = option_map (λ s. s.now) w.partition; moments = moments_in w.moments }

abbrev pub number_in : Option PartitionId → Option ℕ
number_in only = option_map (λ p. p.0) only

-- the rows of any state that are wanted, and those that are looked at, are those of the partition with this number, or of all
abbrev pub AreFor : Image → Option (List ℕ) → Option ℕ → Type 0
AreFor image name only =
    (words : List (List ℕ)) (n : ℕ) (s : Standing MachineControl)
    → (wanted_rows name image n s ≡ Some (rows_of only image n s)) × (watched_rows words name image s ≡ Some (watched_of words only image s))

-- the partition with this number, or all; or there is no partition of that name
abbrev pub IsFoundFor : Image → Option (List ℕ) → Result (Option PartitionId) RunFault → Type 0
IsFoundFor image name (Ok only) = AreFor image name (number_in only)
IsFoundFor image name (Err fault) = (fault ≡ Partition) × LacksWanted (Ok image) name

-- the state of a machine is the one before its next tick
abbrev pub IsBefore : Image → List DeviceLine → Machine → Type 0
IsBefore image lines m = m.standing ≡ state_before image lines m.standing.now

-- the text of these rows of the state before a tick, and of those before several ticks
abbrev pub text_before : Form → Option ℕ → Image → List DeviceLine → ℕ → List ℕ
text_before form only image lines n = rows_in form (rows_of only image n (state_before image lines n))

abbrev pub texts_before : Form → Option ℕ → Image → List DeviceLine → List ℕ → List ℕ
texts_before form only image lines ticks = flat_map (text_before form only image lines) ticks

-- a row of these partitions begins with these words, in some state, and in the one before a tick
abbrev pub watches : List (List ℕ) → Option ℕ → Image → Standing MachineControl → Bool
watches words only image s = has_row words (rows_in Text (watched_of words only image s))

abbrev pub watches_before : List (List ℕ) → Option ℕ → Image → List DeviceLine → ℕ → Bool
watches_before words only image lines n = watches words only image (state_before image lines n)

-- the first such state up to tick n; or there is none
abbrev pub IsFirst : List (List ℕ) → Option ℕ → Image → List DeviceLine → ℕ → ℕ → Bool → Type 0
IsFirst words only image lines n t true = (t ≤ n) × (watches_before words only image lines t ≡ true) × ((u : ℕ) → u < t → watches_before words only image lines u ≡ false)
IsFirst words only image lines n t false = (u : ℕ) → u ≤ n → watches_before words only image lines u ≡ false

-- the text of the wanted states, and whether there is one
abbrev pub IsShownText : Moments → Form → Option ℕ → Image → List DeviceLine → ℕ → Bool → List ℕ → Type 0
IsShownText Last form only image lines n found text = (found ≡ true) × (text ≡ text_before form only image lines n)
IsShownText (Every k) form only image lines n found text = (found ≡ true) × (text ≡ texts_before form only image lines (every k n))
IsShownText (First words) form only image lines n true text = (t : ℕ) × IsFirst words only image lines n t true × (text ≡ text_before form only image lines t)
IsShownText (First words) form only image lines n false text = ((t : ℕ) → IsFirst words only image lines n t false) × (text ≡ [])

abbrev pub ShowsPart : Moments → Form → Option ℕ → Image → List DeviceLine → ℕ → Option (List ℕ) → Option (List ℕ) → Type 0
ShowsPart moments form only image lines n old new = (text : List ℕ) × IsShownText moments form only image lines n true text × TakesBeginning old new text

-- what a sink has taken of it
abbrev pub IsShown : Moments → Form → Option ℕ → Image → List DeviceLine → ℕ → Option (List ℕ) → Option (List ℕ) → Result Bool RunFault → Type 0
IsShown moments form only image lines n old new (Ok found) = (text : List ℕ) × IsShownText moments form only image lines n found text × Appends old new text
IsShown moments form only image lines n old new (Err Write) = ShowsPart moments form only image lines n old new
IsShown moments form only image lines n old new (Err Memory) = (new ≡ old) ⊎ (AreSeveral moments × ShowsPart moments form only image lines n old new)
IsShown moments form only image lines n old new (Err _) = ⊥

-- what a sink has taken of the text of one state
abbrev pub IsPut : List ℕ → Option (List ℕ) → Option (List ℕ) → Result (Unit {0}) RunFault → Type 0
IsPut text old new (Ok _) = Appends old new text
IsPut text old new (Err Write) = TakesBeginning old new text
IsPut text old new (Err Memory) = new ≡ old
IsPut text old new (Err _) = ⊥

-- what a sink has taken of a text of several
abbrev pub AreParted : List ℕ → Option (List ℕ) → Option (List ℕ) → Result Bool RunFault → Type 0
AreParted text old new (Ok found) = (found ≡ true) × Appends old new text
AreParted text old new (Err Write) = TakesBeginning old new text
AreParted text old new (Err Memory) = TakesBeginning old new text
AreParted text old new (Err _) = ⊥

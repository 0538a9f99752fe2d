-- The promise of writing a state with the names of its sources: the rows of the state, and after them those with names.
use Rattle.std.specs.Prelude.{◌≡◌, ℕ, zero, suc, ◌+◌, List, [], ◌∷◌, ◌++◌, Option, Some, None, Result, Ok, Err, length, option_map, slice_get}
use Rattle.std.specs.Io.KnownBytes.{Appends}
use Rattle.apex_types.specs.Line.{TakesBeginning}
use Rattle.apex_types.specs.Places.{place_of_number}
use Rattle.apex_types.specs.declared.device.DeviceLine.{DeviceLine}
use Rattle.isolation.specs.Replays.{numbered}
use Rattle.kernel_meaning.specs.Partition.{Member}
use Rattle.machine_meaning.specs.Image.{Image, Item}
use Rattle.machine_meaning.specs.ImageReading.{Fault}
use Rattle.machine_meaning.specs.MachineControl.{MachineControl}
use Rattle.module_meaning.specs.Standing.{Standing}
use Rattle.pal_meaning.specs.Syntax as written
use Rattle.source_places.specs.Places.{program_places}
use Rattle.state_rows.specs.Named.{Source, named_rows}
use Rattle.state_rows.specs.Rows.{Row, rows_in}
use Rattle.module.specs.Runs.{IsRun}
use Rattle.module.specs.States.{States, Wanted, rows_of, state_before}
use Rattle.module.specs.declared.fault.RunFault.{RunFault}
use Rattle.module.specs.declared.fault.RunFault.TheVariants.{Memory, Write}

-- the source of this text and this program; each instruction has its place
abbrev pub source_of : List ℕ → written.Program → Source
source_of text tree = record { text = text; tree = tree; places = program_places text tree }

abbrev pub sources_of : List (List ℕ) → List written.Program → List Source
sources_of [] [] = []
sources_of [] (tree ∷ trees) = []
sources_of (text ∷ texts) [] = []
sources_of (text ∷ texts) (tree ∷ trees) = source_of text tree ∷ sources_of texts trees

-- the rows with names of a partition, from its item, its source and its member; none if one of them is missing
abbrev pub names_of_sourced : Item → Source → Option (Member MachineControl) → List Row
names_of_sourced item source None = []
names_of_sourced item source (Some x) = named_rows item source x

abbrev pub names_of_item : Item → Option Source → Option (Member MachineControl) → List Row
names_of_item item None x = []
names_of_item item (Some source) x = names_of_sourced item source x

abbrev pub names_of_all : Option Item → Option Source → Option (Member MachineControl) → List Row
names_of_all None source x = []
names_of_all (Some item) source x = names_of_item item source x

-- those of the partition with a place
abbrev pub names_at : List Item → List Source → List (Member MachineControl) → ℕ → List Row
names_at items sources members place = names_of_all (slice_get items place) (slice_get sources place) (slice_get members place)

-- those of so many partitions, from a place on
abbrev pub names_from : List Item → List Source → List (Member MachineControl) → (count place : ℕ) → List Row
names_from items sources members zero place = []
names_from items sources members (suc count) place = names_at items sources members place ++ names_from items sources members count (place + 1)

abbrev pub names_if : List Item → List Source → List (Member MachineControl) → Option ℕ → List Row
names_if items sources members None = []
names_if items sources members (Some place) = names_at items sources members place

-- those of all partitions, or of only the one with a number
abbrev pub names_for : Option ℕ → List Item → List Source → List (Member MachineControl) → List Row
names_for None items sources members = names_from items sources members (length items) 0
names_for (Some number) items sources members = names_if items sources members (place_of_number number)

-- the rows of the state before tick n, and after them those with the names of these sources
abbrev pub rows_with_names : Option ℕ → List Source → Image → ℕ → Standing MachineControl → List Row
rows_with_names only sources image n s = rows_of only image n s ++ names_for only image.items sources s.members

-- the number of the only wanted partition, or no number if all are wanted; none if there is no partition of that name
abbrev pub wanted_number : Image → Option (List ℕ) → Option (Option ℕ)
wanted_number image None = Some None
wanted_number image (Some name) = option_map (λ found. Some found.0) (numbered image name)

-- The text of the state of an image's module before tick n, with the names of these sources.
abbrev pub IsNamedText : Wanted → List Source → Image → List DeviceLine → ℕ → List ℕ → Type 0
IsNamedText wanted sources image lines n text =
    (only : Option ℕ) × (wanted_number image wanted.partition ≡ Some only)
    × (text ≡ rows_in wanted.form (rows_with_names only sources image n (state_before image lines n)))

-- the same of an image and a device text that are taken
abbrev pub IsNamedTextOf : Result Image Fault → List ℕ → ℕ → Wanted → List Source → List ℕ → Type 0
IsNamedTextOf read devices n wanted sources text =
    (image : Image) × (lines : List DeviceLine) × IsRun read devices n image lines × IsNamedText wanted sources image lines n text

-- What is written of a state with names between two states of the sink: its text; a prefix of it if the sink failed; nothing if
-- it is refused, as the state without names is.
abbrev pub NamedStates : Result Image Fault → List ℕ → ℕ → Wanted → List Source → Option (List ℕ) → Option (List ℕ) → Result (Unit {0}) RunFault → Type 0
NamedStates read devices n wanted sources old new (Ok _) = (text : List ℕ) × IsNamedTextOf read devices n wanted sources text × Appends old new text
NamedStates read devices n wanted sources old new (Err Write) = (text : List ℕ) × IsNamedTextOf read devices n wanted sources text × TakesBeginning old new text
NamedStates read devices n wanted sources old new (Err Memory) = new ≡ old
NamedStates read devices n wanted sources old new (Err fault) = States read devices n wanted old new (Err fault)

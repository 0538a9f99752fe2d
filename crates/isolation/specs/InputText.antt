-- The text of the inputs of one partition, and which lists of inputs have a text.
use Rattle.std.specs.Prelude.{◌≡◌, ℕ, ◌≤◌, ℤ, true, List, [], ◌∷◌, ◌++◌, length, map, flat_map, codes, Option, Some, None}
use Rattle.std.specs.Fmt.{decimal, signed_decimal}
use Rattle.std.specs.List.{join_with_byte}
use Rattle.apex_types.specs.Line.{space}
use Rattle.arrayvec.specs.ArrayVec.{ArrayVec}
use Rattle.apex_types.specs.Versions.{third_limits}
use Rattle.apex_types.specs.Limits.{MOST_TICKS}
use Rattle.apex_types.specs.NameText.{is_name}
use Rattle.apex_types.specs.declared.row.PortDirection.TheVariants as direction
use Rattle.apex_types.specs.declared.row.PortRow.{PortRow}
use Rattle.module_meaning.specs.Table.{Partition, at_number}
use Rattle.machine_meaning.specs.ImageLimits.{EachBeside, IsPort}
use Rattle.text_lines.specs.Words.{AreWords}
use Rattle.isolation.specs.Alone.{Input, InputLine, Arrive, ModuleFault, PartitionFault}

-- ---- the text
abbrev pub name_of_port : Option PortRow → List ℕ
name_of_port None = []
name_of_port (Some x) = x.name

-- the text after the tick, by the names of the partition and of its ports
abbrev pub input_parts : Partition → Input → List (List ℕ)
input_parts row (Arrive port m) = codes "ARRIVE" ∷ name_of_port (at_number row.ports port.0) ∷ map signed_decimal m.items
input_parts row ModuleFault = codes "FAULT" ∷ []
input_parts row PartitionFault = codes "FAULT" ∷ row.name ∷ []

-- a line without its line feed: plain numbers, single spaces
abbrev pub input_body : Partition → InputLine → List ℕ
input_body row l = join_with_byte space (decimal l.tick.0 ∷ input_parts row l.input)

abbrev pub input_text : Partition → InputLine → List ℕ
input_text row l = input_body row l ++ 10 ∷ []

-- The text of inputs: a line for each.
abbrev pub replay_text : Partition → List InputLine → List ℕ
replay_text row lines = flat_map (input_text row) lines

-- ---- the possible inputs
-- 1 to `most` words
pub record IsMessage (most : ℕ) (words : List ℤ) : Type 0 where
  pub some : 1 ≤ length words
  pub few : length words ≤ most
  pub fit : AreWords words

-- a message at a destination port of the partition
pub record IsArrival (row : Partition) (port : ℕ) (m : ArrayVec ℤ) : Type 0 where
  pub at : PortRow
  pub there : at_number row.ports port ≡ Some at
  pub taken : at.direction ≡ direction.Destination
  pub message : IsMessage at.words m.items

abbrev pub IsInput : Partition → Input → Type 0
IsInput row (Arrive port m) = IsArrival row port.0 m
IsInput row ModuleFault = Unit {0}
IsInput row PartitionFault = Unit {0}

-- all words of the input are words of 64 bits
abbrev pub IsWritable : Input → Type 0
IsWritable (Arrive port m) = AreWords m.items
IsWritable ModuleFault = Unit {0}
IsWritable PartitionFault = Unit {0}

abbrev pub AreWritable : List InputLine → Type 0
AreWritable [] = Unit {0}
AreWritable (l ∷ ls) = IsWritable l.input × AreWritable ls

-- in the order of their ticks, none before the tick `before`
abbrev pub AreInOrder : ℕ → List InputLine → Type 0
AreInOrder before [] = Unit {0}
AreInOrder before (l ∷ ls) = (before ≤ l.tick.0) × AreInOrder l.tick.0 ls

-- the same, and each input is possible
abbrev pub AreInputs : Partition → ℕ → List InputLine → Type 0
AreInputs row before [] = Unit {0}
AreInputs row before (l ∷ ls) = (before ≤ l.tick.0) × (l.tick.0 ≤ MOST_TICKS) × IsInput row l.input × AreInputs row l.tick.0 ls

-- the names of a partition's row
pub record HasNames (row : Partition) : Type 0 where
  pub name : is_name row.name ≡ true
  pub ports : EachBeside (IsPort third_limits) [] row.ports

-- The text of the inputs of one partition: the meaning of each line, and why a line is refused.
use Rattle.std.specs.Prelude.{ℕ, ◌+◌, ℤ, Bool, true, false, ◌&&◌, nat_le, nat_lt, if◌then◌else◌, List, [], ◌∷◌, length, codes, Option, Some, None, Result, Ok, Err}
use Rattle.apex_types.specs.Line.{space}
use Rattle.apex_types.specs.Limits.{MOST_TICKS}
use Rattle.apex_types.specs.declared.device.DeviceFault.{DeviceFault}
use Rattle.apex_types.specs.declared.device.DeviceFault.TheVariants as fault
use Rattle.apex_types.specs.declared.row.PortDirection.{PortDirection}
use Rattle.apex_types.specs.declared.row.PortDirection.TheVariants as direction
use Rattle.apex_types.specs.declared.row.PortRow.{PortRow}
use Rattle.module_meaning.specs.DeviceText.{Written, WrittenLine, Message, ModuleFault as DeviceModuleFault, PartitionFault as DevicePartitionFault, message_of, fault_of, line_with, plain_number, pieces, first_from, is_room}
use Rattle.engine_meaning.specs.Digits.{same}
use Rattle.module_meaning.specs.Table.{Partition}
use Rattle.kernel_meaning.specs.Step.{message}
use Rattle.isolation.specs.Alone.{Input, InputLine, Arrive, ModuleFault, PartitionFault}

-- ---- the forms of a line
-- as in a device text, with ARRIVE and a port in place of MSG and a channel
abbrev pub written_of : List (List ℕ) → Option Written
written_of [] = None
written_of (kind ∷ rest) =
    if same kind (codes "ARRIVE") then message_of rest else
    if same kind (codes "FAULT") then fault_of rest else None

abbrev pub line_of_pieces : List (List ℕ) → Option WrittenLine
line_of_pieces [] = None
line_of_pieces (tick ∷ rest) = line_with (plain_number MOST_TICKS tick) (written_of rest)

abbrev pub line_of : List ℕ → Option WrittenLine
line_of text = line_of_pieces (pieces space text)

-- ---- the meaning of a line
abbrev pub is_destination : PortDirection → Bool
is_destination direction.Source = false
is_destination direction.Destination = true

-- the line of an input, unless too many lines precede it, or its message is too long
abbrev pub within : Bool → ℕ → Input → Result InputLine DeviceFault
within fits tick i = if fits then Ok (record { tick = record { 0 = tick }; input = i }) else Err fault.Size

-- a message at the destination port of its name
abbrev pub taken_message : (count tick : ℕ) → List ℤ → Option (ℕ × PortRow) → Result InputLine DeviceFault
taken_message count tick ws None = Err fault.Name
taken_message count tick ws (Some f) =
    if is_destination f.1.direction
    then within (is_room count && nat_le (length ws) f.1.words) tick (Arrive (record { 0 = f.0 }) (message ws))
    else Err fault.Name

-- by the names of the partition and of its ports
abbrev pub named : Partition → (count tick : ℕ) → Written → Result InputLine DeviceFault
named row count tick (Message port ws) = taken_message count tick ws (first_from 1 (λ x. same x.name port) row.ports)
named row count tick DeviceModuleFault = within (is_room count) tick ModuleFault
named row count tick (DevicePartitionFault name) = if same row.name name then within (is_room count) tick PartitionFault else Err fault.Name

-- Takes a line by its meaning, after `count` lines of which the last has tick `before`.
abbrev pub taken : Partition → (count before : ℕ) → Option WrittenLine → Result InputLine DeviceFault
taken row count before None = Err fault.Form
taken row count before (Some l) = if nat_lt l.tick before then Err fault.Order else named row count l.tick l.written

-- ---- the verdict
abbrev pub ends_with : List ℕ → Result (List InputLine) DeviceFault
ends_with [] = Ok []
ends_with _ = Err fault.Form

abbrev pub put_line : InputLine → Result (List InputLine) DeviceFault → Result (List InputLine) DeviceFault
put_line l (Err f) = Err f
put_line l (Ok ls) = Ok (l ∷ ls)

abbrev pub and_then : Result InputLine DeviceFault → (InputLine → Result (List InputLine) DeviceFault) → Result (List InputLine) DeviceFault
and_then (Err f) rest = Err f
and_then (Ok l) rest = put_line l (rest l)

unfoldable pub lines_from : Partition → (count before : ℕ) → List (List ℕ) → Result (List InputLine) DeviceFault
lines_from row count before [] = Ok []
lines_from row count before (last ∷ []) = ends_with last
lines_from row count before (line ∷ next ∷ more) =
    and_then (taken row count before (line_of line)) (λ l. lines_from row (count + 1) l.tick.0 (next ∷ more))

-- The lines of a replay text for a partition's row, each ended by a line feed; or why the first line that is wrong
-- is refused.
unfoldable pub replay_verdict : Partition → List ℕ → Result (List InputLine) DeviceFault
replay_verdict row text = lines_from row 0 0 (pieces 10 text)

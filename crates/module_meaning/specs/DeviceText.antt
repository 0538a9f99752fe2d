-- The text of the devices: the meaning of each line, and why a line is refused.
use Rattle.std.specs.Prelude.{ℕ, suc, ◌+◌, ◌-◌, ◌^◌, ℤ, pos, negsuc, Bool, true, false, not, ◌&&◌, ◌==◌, nat_lt, nat_le, if◌then◌else◌, List, [], ◌∷◌, length, codes, Option, Some, None, Result, Ok, Err}
use Rattle.std.specs.List.{list_all}
use Rattle.apex_types.specs.Line.{space}
use Rattle.apex_types.specs.Limits.{MOST_DEVICE_LINES, MOST_TICKS}
use Rattle.apex_types.specs.NameText.{is_name}
use Rattle.apex_types.specs.declared.device.DeviceFault.{DeviceFault}
use Rattle.apex_types.specs.declared.device.DeviceFault.TheVariants as fault
use Rattle.apex_types.specs.declared.device.DeviceInput.{DeviceInput}
use Rattle.apex_types.specs.declared.device.DeviceInput.TheVariants as input
use Rattle.apex_types.specs.declared.device.DeviceLine.{DeviceLine}
use Rattle.apex_types.specs.declared.row.ChannelEnd.{ChannelEnd}
use Rattle.apex_types.specs.declared.row.ChannelEnd.TheVariants as ends
use Rattle.apex_types.specs.declared.row.PortRow.{PortRow}
use Rattle.engine_meaning.specs.Digits.{same, is_digit, decimal_value, front}
use Rattle.module_meaning.specs.Table.{Partition, Channel, at_number, is_device}
use Rattle.kernel_meaning.specs.Step.{message}

-- ---- pieces of a text

-- the text before the first byte `mark`, or the whole text
abbrev pub piece : ℕ → List ℕ → List ℕ
piece mark bs = front (λ b. not (b == mark)) bs

-- the text after each byte `mark`, up to the next
unfoldable pub pieces_behind_marks : ℕ → List ℕ → List (List ℕ)
pieces_behind_marks mark [] = []
pieces_behind_marks mark (b ∷ bs) =
    if b == mark then piece mark bs ∷ pieces_behind_marks mark bs else pieces_behind_marks mark bs

-- the text before, between and after the bytes `mark`
abbrev pub pieces : ℕ → List ℕ → List (List ℕ)
pieces mark bs = piece mark bs ∷ pieces_behind_marks mark bs

-- ---- numbers

-- only the digit 0, or digits of which the first is not 0
abbrev pub is_plain : List ℕ → Bool
is_plain [] = false
is_plain (d ∷ []) = is_digit d
is_plain (d ∷ ds) = is_digit d && not (d == 48) && list_all is_digit ds

abbrev pub if_at_most : ℕ → ℕ → Option ℕ
if_at_most most n = if nat_le n most then Some n else None

-- a number that is written plainly, and is not too great
abbrev pub plain_number : ℕ → List ℕ → Option ℕ
plain_number most ds = if is_plain ds then if_at_most most (decimal_value ds) else None

abbrev pub positive : Option ℕ → Option ℤ
positive None = None
positive (Some n) = Some (pos n)

-- 0 is written without a sign
abbrev pub negative : Option ℕ → Option ℤ
negative (Some (suc n)) = Some (negsuc n)
negative _ = None

-- a word of 64 bits
abbrev pub word : List ℕ → Option ℤ
word [] = None
word (b ∷ bs) = if b == 45 then negative (plain_number (2 ^ 63) bs) else positive (plain_number (2 ^ 63 - 1) (b ∷ bs))

abbrev pub put_word : Option ℤ → Option (List ℤ) → Option (List ℤ)
put_word (Some w) (Some ws) = Some (w ∷ ws)
put_word _ _ = None

-- all are words
unfoldable pub words : List (List ℕ) → Option (List ℤ)
words [] = Some []
words (t ∷ ts) = put_word (word t) (words ts)

-- ---- the forms of a line

-- the input of a device, by the names of the text
pub data Written : Type 0 where
  Message : (channel : List ℕ) (words : List ℤ) → Written
  ModuleFault : Written
  PartitionFault : (partition : List ℕ) → Written

pub record WrittenLine : Type 0 where
  pub tick : ℕ
  pub written : Written

abbrev pub message_with : List ℕ → Option (List ℤ) → Option Written
message_with channel None = None
message_with channel (Some ws) = Some (Message channel ws)

-- a channel's name, and one word at least
abbrev pub message_of : List (List ℕ) → Option Written
message_of (channel ∷ w ∷ ws) = if is_name channel then message_with channel (words (w ∷ ws)) else None
message_of _ = None

-- nothing, or the name of a partition
abbrev pub fault_of : List (List ℕ) → Option Written
fault_of [] = Some ModuleFault
fault_of (partition ∷ []) = if is_name partition then Some (PartitionFault partition) else None
fault_of _ = None

abbrev pub written_of : List (List ℕ) → Option Written
written_of [] = None
written_of (kind ∷ rest) =
    if same kind (codes "MSG") then message_of rest else
    if same kind (codes "FAULT") then fault_of rest else None

abbrev pub line_with : Option ℕ → Option Written → Option WrittenLine
line_with (Some tick) (Some w) = Some (record { tick = tick; written = w })
line_with _ _ = None

abbrev pub line_of_pieces : List (List ℕ) → Option WrittenLine
line_of_pieces [] = None
line_of_pieces (tick ∷ rest) = line_with (plain_number MOST_TICKS tick) (written_of rest)

-- A line without its line feed: a tick of at most 2^40, then MSG with a channel and words, or FAULT with or
-- without a partition; single spaces between them.
abbrev pub line_of : List ℕ → Option WrittenLine
line_of text = line_of_pieces (pieces space text)

-- ---- the names of a line

-- the most words of a message that a port takes
abbrev pub words_of_port : Option PortRow → ℕ
words_of_port None = 0
words_of_port (Some row) = row.words

abbrev pub words_of_partition : Option Partition → ℕ → ℕ
words_of_partition None port = 0
words_of_partition (Some row) port = words_of_port (at_number row.ports port)

abbrev pub words_of_end : List Partition → ChannelEnd → ℕ
words_of_end rows ends.Device = 0
words_of_end rows (ends.Port p port) = words_of_partition (at_number rows p.0) port.0

-- the most words of a message to the first of these ends; all ends of a channel take as many
abbrev pub words_of_ends : List Partition → List ChannelEnd → ℕ
words_of_ends rows [] = 0
words_of_ends rows (e ∷ es) = words_of_end rows e

-- the first item that passes the test, with its place, counted from a place
unfoldable pub first_from : {A : Type 0} → ℕ → (A → Bool) → List A → Option (ℕ × A)
first_from place test [] = None
first_from place test (x ∷ xs) = if test x then Some (place, x) else first_from (place + 1) test xs

-- ---- the meaning of a line

-- the line of an input, unless there are too many before it, or its message is too long
abbrev pub within : Bool → ℕ → DeviceInput → Result DeviceLine DeviceFault
within true tick i = Ok (record { tick = record { 0 = tick }; input = i })
within false tick i = Err fault.Size

-- at most 65,536 lines
abbrev pub is_room : ℕ → Bool
is_room count = nat_lt count MOST_DEVICE_LINES

-- a message by the channel of its name, which comes from the device
abbrev pub taken_message : List Partition → (count tick : ℕ) → List ℤ → Option (ℕ × Channel) → Result DeviceLine DeviceFault
taken_message rows count tick ws None = Err fault.Name
taken_message rows count tick ws (Some f) =
    if is_device f.1.source
    then within (is_room count && nat_le (length ws) (words_of_ends rows f.1.destinations)) tick (input.Message (record { 0 = f.0 }) (message ws))
    else Err fault.Name

-- a fault of the partition of its name
abbrev pub taken_fault : (count tick : ℕ) → Option (ℕ × Partition) → Result DeviceLine DeviceFault
taken_fault count tick None = Err fault.Name
taken_fault count tick (Some f) = within (is_room count) tick (input.PartitionFault (record { 0 = f.0 }))

abbrev pub named : List Partition → List Channel → (count tick : ℕ) → Written → Result DeviceLine DeviceFault
named rows channels count tick (Message channel ws) = taken_message rows count tick ws (first_from 0 (λ c. same c.name channel) channels)
named rows channels count tick ModuleFault = within (is_room count) tick input.ModuleFault
named rows channels count tick (PartitionFault name) = taken_fault count tick (first_from 1 (λ p. same p.name name) rows)

-- A line with its meaning, after `count` others, the last of them of tick `before`.
abbrev pub taken : List Partition → List Channel → (count before : ℕ) → Option WrittenLine → Result DeviceLine DeviceFault
taken rows channels count before None = Err fault.Form
taken rows channels count before (Some l) =
    if nat_lt l.tick before then Err fault.Order else named rows channels count l.tick l.written

-- ---- the verdict

-- no bytes follow the last line feed
abbrev pub ends_with : List ℕ → Result (List DeviceLine) DeviceFault
ends_with [] = Ok []
ends_with _ = Err fault.Form

abbrev pub put_line : DeviceLine → Result (List DeviceLine) DeviceFault → Result (List DeviceLine) DeviceFault
put_line l (Err f) = Err f
put_line l (Ok ls) = Ok (l ∷ ls)

abbrev pub and_then : Result DeviceLine DeviceFault → (DeviceLine → Result (List DeviceLine) DeviceFault) → Result (List DeviceLine) DeviceFault
and_then (Err f) rest = Err f
and_then (Ok l) rest = put_line l (rest l)

-- the lines of these pieces, after `count` others, the last of them of tick `before`
unfoldable pub lines_from : List Partition → List Channel → (count before : ℕ) → List (List ℕ) → Result (List DeviceLine) DeviceFault
lines_from rows channels count before [] = Ok []
lines_from rows channels count before (last ∷ []) = ends_with last
lines_from rows channels count before (line ∷ next ∷ more) =
    and_then (taken rows channels count before (line_of line))
    (λ l. lines_from rows channels (count + 1) l.tick.0 (next ∷ more))

-- The lines of a text for the partitions and channels of a module, each ended by a line feed; or why the
-- first line that is wrong is refused.
unfoldable pub verdict : List Partition → List Channel → List ℕ → Result (List DeviceLine) DeviceFault
verdict rows channels text = lines_from rows channels 0 0 (pieces 10 text)

-- The lines of a text, whatever they mean: device texts and replay texts are read alike.
use Rattle.std.specs.Prelude.{ℕ, ◌+◌, nat_lt, if◌then◌else◌, List, [], ◌∷◌, codes, Option, Some, None, Result, Ok, Err}
use Rattle.apex_types.specs.Line.{space}
use Rattle.apex_types.specs.Limits.{MOST_TICKS}
use Rattle.apex_types.specs.declared.device.DeviceFault.{DeviceFault}
use Rattle.apex_types.specs.declared.device.DeviceFault.TheVariants as fault
use Rattle.module_meaning.specs.DeviceText.{Written, WrittenLine, message_of, fault_of, line_with, plain_number, pieces}
use Rattle.engine_meaning.specs.Digits.{same}

-- ---- the forms of a line
-- a message after its mark, or a fault
abbrev pub written_by : List ℕ → List (List ℕ) → Option Written
written_by mark [] = None
written_by mark (kind ∷ rest) =
    if same kind mark then message_of rest else
    if same kind (codes "FAULT") then fault_of rest else None

abbrev pub line_by_pieces : List ℕ → List (List ℕ) → Option WrittenLine
line_by_pieces mark [] = None
line_by_pieces mark (tick ∷ rest) = line_with (plain_number MOST_TICKS tick) (written_by mark rest)

-- A line without its line feed: a tick of at most 2^40, then the mark with a name and words, or FAULT with or
-- without a partition; single spaces between them.
abbrev pub line_by : List ℕ → List ℕ → Option WrittenLine
line_by mark text = line_by_pieces mark (pieces space text)

-- ---- the meaning of a line
-- the meaning of a line of this tick after `count` others, by the names in it; or why it is refused
abbrev pub Taking : Type 0 → Type 0
Taking L = (count tick : ℕ) → Written → Result L DeviceFault

-- Takes a line by its meaning, after `count` lines of which the last has tick `before`.
abbrev pub taken_by : {L : Type 0} → Taking L → (count before : ℕ) → Option WrittenLine → Result L DeviceFault
taken_by named count before None = Err fault.Form
taken_by named count before (Some l) = if nat_lt l.tick before then Err fault.Order else named count l.tick l.written

-- ---- the verdict
-- no bytes follow the last line feed
abbrev pub ends_with : {L : Type 0} → List ℕ → Result (List L) DeviceFault
ends_with [] = Ok []
ends_with _ = Err fault.Form

abbrev pub put_line : {L : Type 0} → L → Result (List L) DeviceFault → Result (List L) DeviceFault
put_line l (Err f) = Err f
put_line l (Ok ls) = Ok (l ∷ ls)

abbrev pub and_then : {L : Type 0} → Result L DeviceFault → (L → Result (List L) DeviceFault) → Result (List L) DeviceFault
and_then (Err f) rest = Err f
and_then (Ok l) rest = put_line l (rest l)

-- the lines of these pieces, after `count` lines of which the last has tick `before`
unfoldable pub lines_by : {L : Type 0} → List ℕ → Taking L → (L → ℕ) → (count before : ℕ) → List (List ℕ) → Result (List L) DeviceFault
lines_by mark named tick_of count before [] = Ok []
lines_by mark named tick_of count before (last ∷ []) = ends_with last
lines_by mark named tick_of count before (line ∷ next ∷ more) =
    and_then (taken_by named count before (line_by mark line))
    (λ l. lines_by mark named tick_of (count + 1) (tick_of l) (next ∷ more))

-- The lines of a text whose messages have this mark, each ended by a line feed; or why the first line that is
-- wrong is refused.
unfoldable pub verdict_by : {L : Type 0} → List ℕ → Taking L → (L → ℕ) → List ℕ → Result (List L) DeviceFault
verdict_by mark named tick_of text = lines_by mark named tick_of 0 0 (pieces 10 text)

-- What is wrong with the form of a line: the first part that is not allowed in its place.
use Rattle.std.specs.Prelude.{ℕ, ◌-◌, ◌==◌, Bool, false, if◌then◌else◌, List, [], ◌∷◌, codes, length, Option, Some, None, option_map, slice_get}
use Rattle.apex_types.specs.NameText as names
use Rattle.apex_types.specs.Limits.{MOST_TICKS}
use Rattle.engine_meaning.specs.Digits.{same}
use Rattle.module_meaning.specs.DeviceText.{plain_number, word}
use Rattle.image_findings.specs.Names.{mark_of}
use Rattle.image_findings.specs.Parts.{Part}
use Rattle.image_findings.specs.What.{What, Wrong, Carriage, Comment, Empty, Tab, Nul, NoPart, NoTick, NoEvent, NoKind, NoReceiver, NoName, NoWords, NoWord, More}
use Rattle.image_findings.specs.declared.names.TextKind.{TextKind}

abbrev pub wrong : ℕ → What → Wrong
wrong left what = record { left = left; what = what }

-- what is found at a part, if it has bytes at all
abbrev pub part_or : ℕ → List ℕ → What → Wrong
part_or left [] what = wrong left NoPart
part_or left (byte ∷ bytes) what = wrong left what

abbrev pub wrong_part : Part → What → Wrong
wrong_part p what = part_or p.left p.text what

abbrev pub is_name : List ℕ → Bool
is_name text = names.is_name text

-- ---- part by part

-- the first part that is no word
abbrev pub words_wrong : List Part → Option Wrong
words_wrong [] = None
words_wrong (p ∷ ps) = elim (word p.text) [ None ↦ Some (wrong_part p (NoWord p.text)) | Some w ↦ words_wrong ps ]

abbrev pub some_words_wrong : List Part → Option Wrong
some_words_wrong [] = Some (wrong 0 NoWords)
some_words_wrong (p ∷ ps) = words_wrong (p ∷ ps)

-- a name, and one word at least
abbrev pub message_wrong : List Part → Option Wrong
message_wrong [] = Some (wrong 0 NoReceiver)
message_wrong (p ∷ ps) = if is_name p.text then some_words_wrong ps else Some (wrong_part p (NoName p.text))

abbrev pub more_wrong : List Part → Option Wrong
more_wrong [] = None
more_wrong (p ∷ ps) = Some (wrong_part p (More p.text))

-- nothing, or the name of a partition
abbrev pub fault_wrong : List Part → Option Wrong
fault_wrong [] = None
fault_wrong (p ∷ ps) = if is_name p.text then more_wrong ps else Some (wrong_part p (NoName p.text))

abbrev pub event_wrong : TextKind → List Part → Option Wrong
event_wrong kind [] = Some (wrong 0 NoEvent)
event_wrong kind (p ∷ ps) =
    if same p.text (mark_of kind) then message_wrong ps else
    if same p.text (codes "FAULT") then fault_wrong ps else Some (wrong_part p (NoKind p.text))

abbrev pub parts_wrong : TextKind → List Part → Option Wrong
parts_wrong kind [] = None
parts_wrong kind (p ∷ ps) = elim (plain_number MOST_TICKS p.text) [ None ↦ Some (wrong_part p (NoTick p.text)) | Some tick ↦ event_wrong kind ps ]

abbrev pub or_else : Option Wrong → Option Wrong → Option Wrong
or_else (Some w) other = Some w
or_else None other = other

-- ---- the whole line

abbrev pub is_byte : ℕ → Option ℕ → Bool
is_byte wanted None = false
is_byte wanted (Some byte) = byte == wanted

abbrev pub last_of : List ℕ → Option ℕ
last_of bytes = slice_get bytes (length bytes - 1)

-- how much of a line is left at its first byte of this number, if it has one
abbrev pub left_at : ℕ → List ℕ → Option ℕ
left_at wanted [] = None
left_at wanted (byte ∷ bytes) = if byte == wanted then Some (length (byte ∷ bytes)) else left_at wanted bytes

-- a byte of this number in the line, or else what is wrong with a part
abbrev pub odd_byte : ℕ → What → List ℕ → Wrong → Wrong
odd_byte wanted what line part = elim (left_at wanted line) [ Some left ↦ wrong left what | None ↦ part ]

-- a wrong line is empty, a comment, or ended by a carriage return, or has a tab or a NUL, or else a wrong part
abbrev pub blemish : List ℕ → Wrong → Wrong
blemish [] part = wrong 0 Empty
blemish (byte ∷ bytes) part =
    if byte == 35 then wrong (length (byte ∷ bytes)) Comment else if is_byte 13 (last_of (byte ∷ bytes)) then wrong 1 Carriage else
    odd_byte 9 Tab (byte ∷ bytes) (odd_byte 0 Nul (byte ∷ bytes) part)

-- what is wrong with the form of a line of these parts
abbrev pub form_wrong : TextKind → List ℕ → List Part → Option Wrong
form_wrong kind line ps = option_map (blemish line) (parts_wrong kind ps)

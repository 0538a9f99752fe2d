-- The place of a fault of an image, as `--explain` shows it.
use Rattle.std.specs.Prelude.{◌≡◌, ℕ, ◌+◌, ◌-◌, ◌^◌, ◌==◌, min, Bool, true, false, if◌then◌else◌, List, ◌∷◌, length, Option, Some, None, Err}
use Rattle.finding_lines.specs.Lines.{IsAtByte, IsOfFile}
use Rattle.finding_lines.specs.Reports.{Report}
use Rattle.machine_meaning.specs.Image.{magic}
use Rattle.machine_meaning.specs.ImageReading.{Fault, Truncated, Foreign, Limit, Order, Trailing, image_at}
use Rattle.image_findings.specs.Seen.{IsSeenAt, has_all_fields}

-- ---- another file, or another version

-- the place of the first byte that is not the wanted one, counted from a place
abbrev pub first_other : ℕ → List ℕ → List ℕ → Option ℕ
first_other place (byte ∷ bytes) (letter ∷ wanted) = if byte == letter then first_other (place + 1) bytes wanted else Some place
first_other place _ _ = None

-- that byte, or else the first one of the version, after the magic
abbrev pub foreign_place : List ℕ → ℕ
foreign_place bytes = elim (first_other 0 bytes magic) [ Some place ↦ place | None ↦ 8 ]

-- ---- fields

-- the lines report the byte with which the fault was seen
abbrev pub IsOfSeen : Report → List ℕ → List ℕ → Type 0
IsOfSeen r bytes lines = (place : ℕ) × IsSeenAt place bytes × IsAtByte r place lines

-- all fields are there, and break a rule together; or one of them does, where it was seen
abbrev pub IsOfLimitIf : Bool → Report → List ℕ → List ℕ → Type 0
IsOfLimitIf true r bytes lines = IsOfFile r lines
IsOfLimitIf false r bytes lines = IsOfSeen r bytes lines

abbrev pub IsOfLimit : Report → List ℕ → List ℕ → Type 0
IsOfLimit r bytes lines = (all : Bool) × (all ≡ has_all_fields bytes) × IsOfLimitIf all r bytes lines

-- the image has the bytes up to where its last field was seen
abbrev pub IsOfTrailing : Report → List ℕ → List ℕ → Type 0
IsOfTrailing r bytes lines = (place : ℕ) × IsSeenAt place bytes × IsAtByte r (min (place + 1) (2 ^ 64 - 1)) lines

-- the lines report this fault of these bytes
abbrev pub IsOf : Report → List ℕ → List ℕ → Fault → Type 0
IsOf r bytes lines Truncated = IsAtByte r (length bytes) lines
IsOf r bytes lines Foreign = IsAtByte r (foreign_place bytes) lines
IsOf r bytes lines Limit = IsOfLimit r bytes lines
IsOf r bytes lines Order = IsOfSeen r bytes lines
IsOf r bytes lines Trailing = IsOfTrailing r bytes lines

-- the lines report the fault of these bytes
abbrev pub IsExplanation : Report → List ℕ → List ℕ → Type 0
IsExplanation r bytes lines = (fault : Fault) × (image_at bytes ≡ Err fault) × IsOf r bytes lines fault

-- The byte of a text of which something is said.
use Rattle.std.specs.Prelude.{◌≡◌, ◌<◌, ◌+◌, ℕ, Bool, false, List, [], ◌∷◌, ◌++◌, length}
use Rattle.std.specs.Str.{IsAscii}
use Rattle.apex_types.specs.Limits.{MOST_SOURCE_BYTES}
use Rattle.source_findings.specs.Texts.{is_above}
use Rattle.source_findings.specs.What.{What, Wrong, NoAscii, TooLong}

-- whether bytes end with one above 127
abbrev pub ends_above : List ℕ → Bool
ends_above [] = false
ends_above (byte ∷ []) = is_above byte
ends_above (byte ∷ next ∷ bytes) = ends_above (next ∷ bytes)

-- A byte of a text, from which on `left` bytes remain. It is above 127, and the byte before it is not.
pub record IsStrayAt (text : List ℕ) (left byte : ℕ) : Type 0 where
  pub before : List ℕ
  pub after : List ℕ
  pub parts : text ≡ before ++ byte ∷ after
  pub place : left ≡ length (byte ∷ after)
  pub above : 127 < byte
  pub first : ends_above before ≡ false

-- The first byte after those that a source may have; no byte of the text is above 127.
pub record IsFirstBehind (text : List ℕ) (left : ℕ) : Type 0 where
  pub ascii : IsAscii text
  pub place : MOST_SOURCE_BYTES + left ≡ length text
  pub some : 0 < left

-- what is said holds for the byte from which on `left` bytes remain
abbrev pub IsSaidOfByte : List ℕ → ℕ → What → Type 0
IsSaidOfByte text left (NoAscii byte) = IsStrayAt text left byte
IsSaidOfByte text left TooLong = IsFirstBehind text left
IsSaidOfByte text left what = ⊥

abbrev pub AreOfBytes : List ℕ → List Wrong → Type 0
AreOfBytes text [] = Unit {0}
AreOfBytes text (w ∷ ws) = IsSaidOfByte text w.left w.what × AreOfBytes text ws

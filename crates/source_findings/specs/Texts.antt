-- What is wrong with a text that is no source: its bytes above 127, or else its length.
use Rattle.std.specs.Prelude.{ℕ, ◌-◌, Bool, false, not, ◌&&◌, nat_lt, if◌then◌else◌, List, [], ◌∷◌, length, Option, Some, None}
use Rattle.apex_types.specs.Limits.{MOST_SOURCE_BYTES}
use Rattle.source_findings.specs.What.{NoAscii, TooLong, What, Wrong, noted}

abbrev pub is_above : ℕ → Bool
is_above byte = nat_lt 127 byte

-- a byte above 127, unless the one before it is too: a character has several
abbrev pub stray : Bool → ℕ → Option What
stray before byte = if not before && is_above byte then Some (NoAscii byte) else None

-- each of these bytes in the rest of a text, added to what was found
abbrev pub strays : Bool → List ℕ → List Wrong → List Wrong
strays before [] found = found
strays before (byte ∷ bytes) found = strays (is_above byte) bytes (noted (stray before byte) (record { text = byte ∷ bytes; found = found })).found

-- where a text is longer than it may be
abbrev pub too_long : List ℕ → List Wrong
too_long text = if nat_lt MOST_SOURCE_BYTES (length text) then record { left = length text - MOST_SOURCE_BYTES; what = TooLong } ∷ [] else []

abbrev pub or_too_long : List ℕ → List Wrong → List Wrong
or_too_long text [] = too_long text
or_too_long text (wrong ∷ wrongs) = wrong ∷ wrongs

abbrev pub text_wrongs : List ℕ → List Wrong
text_wrongs text = or_too_long text (strays false text [])

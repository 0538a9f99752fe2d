-- Beginnings of texts that settle how these are judged, whatever follows.
use Rattle.std.specs.Prelude.{ℕ, Bool, not, ◌&&◌, ◌||◌, ◌==◌, nat_lt, nat_le, List, length, take, drop}
use Rattle.std.specs.Int.{from_le_bytes, w16}
use Rattle.std.specs.List.{list_any}
use Rattle.std.specs.Str.{bytes_eq}
use Rattle.apex_types.specs.Limits.{MOST_SOURCE_BYTES}
use Rattle.apex_types.specs.declared.version.TheConstants.{FIRST_VERSION, SECOND_VERSION, THIRD_VERSION}
use Rattle.machine_meaning.specs.Image.{magic}
use Rattle.text_beginnings.specs.declared.beginning.TheConstants.{MOST_TABLE_BYTES}

-- a control character, which appears in no line of a device or replay text
abbrev pub is_control : ℕ → Bool
is_control b = nat_lt b 32 && not (b == 10)

-- a device or replay text with a byte that appears in no line
abbrev pub settles_inputs : List ℕ → Bool
settles_inputs bytes = list_any is_control bytes

-- a table that is longer than one that is read
abbrev pub settles_table : List ℕ → Bool
settles_table bytes = nat_lt MOST_TABLE_BYTES (length bytes)

-- a source that is longer than it may be
abbrev pub settles_source : List ℕ → Bool
settles_source bytes = nat_lt MOST_SOURCE_BYTES (length bytes)

-- an image whose first eight bytes are others than those of every image
abbrev pub has_other_magic : List ℕ → Bool
has_other_magic bytes = nat_le 8 (length bytes) && not (bytes_eq (take 8 bytes) magic)

-- the number of a version of an image
abbrev pub is_version : ℕ → Bool
is_version number = (number == FIRST_VERSION) || (number == SECOND_VERSION) || (number == THIRD_VERSION)

-- an image whose next two bytes are the number of no version
abbrev pub has_other_version : List ℕ → Bool
has_other_version bytes = nat_le 10 (length bytes) && not (is_version (from_le_bytes w16 (take 2 (drop 8 bytes))))

-- an image with another magic or version
abbrev pub settles_image : List ℕ → Bool
settles_image bytes = has_other_magic bytes || has_other_version bytes

-- Bounds of the rows of ports.
use Rattle.std.specs.Prelude.{◌≡◌, ◌≤◌, ℕ, List, Some, slice_get}
use Rattle.apex_types.specs.Limits.{MOST_TICKS}
use Rattle.apex_types.specs.declared.row.PortRow.{PortRow}
use Rattle.kernel_meaning.specs.Objects.{refresh_of}

-- no refresh period is longer than 2^40 ticks
abbrev pub AreShort : List PortRow → Type 0
AreShort rows = (place : ℕ) (row : PortRow) → slice_get rows place ≡ Some row → refresh_of row.kind ≤ MOST_TICKS

-- Windows that follow one another within a frame.
use Rattle.std.specs.Prelude.{◌≡◌, ℕ, ◌+◌, Bool, false, ◌||◌, nat_lt, List, [], ◌∷◌}
use Rattle.apex_types.specs.declared.row.WindowRow.{WindowRow}

-- from a place of the frame on: whether a window begins before the end of the one before it, is
-- empty, or ends after the frame
abbrev pub is_one_astray : (frame low : ℕ) → List WindowRow → Bool
is_one_astray frame low [] = false
is_one_astray frame low (w ∷ ws) = nat_lt w.offset low || nat_lt w.length 1 || nat_lt frame (w.offset + w.length) || is_one_astray frame (w.offset + w.length) ws

-- Each window begins at or after the end of the one before it, is not empty, and ends within the
-- frame.
abbrev pub AreApart : ℕ → List WindowRow → Type 0
AreApart frame windows = is_one_astray frame 0 windows ≡ false

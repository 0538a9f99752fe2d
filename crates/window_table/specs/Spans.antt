-- The first window that ends after a place of the frame, and what follows from it.
use Rattle.std.specs.Prelude.{ℕ, zero, suc, ◌+◌, ◌-◌, ◌==◌, Bool, true, false, ◌&&◌, nat_le, nat_lt, if◌then◌else◌, List, [], ◌∷◌, length, Option, Some, None, slice_get}
use Rattle.apex_types.specs.declared.row.WindowRow.{WindowRow}

-- the place of the frame at which a window ends; the frame's length if it ends with the frame
abbrev pub end_of : WindowRow → ℕ
end_of w = w.offset + w.length

-- how many windows end at a place of the frame or before it: the place in the list of the first
-- one that ends after it
abbrev pub first_left : ℕ → List WindowRow → ℕ
first_left place [] = 0
first_left place (w ∷ ws) = if nat_lt place (end_of w) then 0 else suc (first_left place ws)

-- whether a window ends at a place or before it
abbrev pub is_over : ℕ → Option WindowRow → Bool
is_over place None = false
is_over place (Some w) = nat_le (end_of w) place

-- whether a window ends after a place, or there is none
abbrev pub is_left : ℕ → Option WindowRow → Bool
is_left place None = true
is_left place (Some w) = nat_lt place (end_of w)

-- whether the i-th window is the first that ends after a place
abbrev pub is_first_left : ℕ → List WindowRow → ℕ → Bool
is_first_left place ws zero = is_left place (slice_get ws 0)
is_first_left place ws (suc i) = is_left place (slice_get ws (suc i)) && is_over place (slice_get ws i)

-- the owner of a place, if this is the first window that ends after it
abbrev pub owner_in : ℕ → Option WindowRow → Option ℕ
owner_in place None = None
owner_in place (Some w) = if nat_le w.offset place then Some w.partition.0 else None

-- the partition of a window, if the window ends at an edge
abbrev pub ended_in : ℕ → Option WindowRow → Option ℕ
ended_in edge None = None
ended_in edge (Some w) = if end_of w == edge then Some w.partition.0 else None

-- the partition of the window before the i-th, if that window ends at a place
abbrev pub ended_behind : ℕ → List WindowRow → ℕ → Option ℕ
ended_behind place ws zero = None
ended_behind place ws (suc i) = ended_in place (slice_get ws i)

-- the partition whose window ends at a place, if the i-th window is the first that ends after it:
-- that of the window before, and at the begin of the frame that of the last one
abbrev pub ended_before : (frame place : ℕ) → List WindowRow → ℕ → Option ℕ
ended_before frame place ws i = if place == 0 then ended_in frame (slice_get ws (length ws - 1)) else ended_behind place ws i

-- the next edge after a place, if this is the first window that ends after it; the frame's end
-- without such a window
abbrev pub next_edge : (frame place : ℕ) → Option WindowRow → ℕ
next_edge frame place None = frame
next_edge frame place (Some w) = if nat_lt place w.offset then w.offset else end_of w

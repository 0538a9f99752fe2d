-- The distance to the next edge of a window.
use Rattle.std.specs.Prelude.{ℕ, ◌+◌, ◌-◌, ◌%◌, min, nat_lt, if◌then◌else◌, List, [], ◌∷◌}
use Rattle.apex_types.specs.declared.row.WindowRow.{WindowRow}

-- the ticks from a place of the frame to an edge; the ticks left of the frame if the edge does not
-- follow
abbrev pub until_edge : (frame place edge : ℕ) → ℕ
until_edge frame place edge = if nat_lt place edge then edge - place else frame - place

-- the ticks from a place of the frame to the next edge of one of these windows, or to the frame's
-- end
abbrev pub until_edges : (frame place : ℕ) → List WindowRow → ℕ
until_edges frame place [] = frame - place
until_edges frame place (w ∷ ws) = min (min (until_edge frame place w.offset) (until_edge frame place ((w.offset + w.length) % frame))) (until_edges frame place ws)

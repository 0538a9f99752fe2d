-- The text of a trace in a string of a script.
use Rattle.std.specs.Prelude.{ℕ, Bool, true, false, List, [], ◌∷◌, flat_map, ◌==◌, ◌||◌, if◌then◌else◌}
use Rattle.apex_types.specs.Line.{line_of}
use Rattle.apex_types.specs.declared.event.Event.{Event}

-- A quotation mark, a backslash, a line feed and a less-than sign get a backslash in front, and the last two are written by letters: n, and x3c.
abbrev pub escaped_byte : ℕ → List ℕ
escaped_byte b =
    if b == 34 then 92 ∷ 34 ∷ [] else if b == 92 then 92 ∷ 92 ∷ [] else if b == 10 then 92 ∷ 110 ∷ [] else
    if b == 60 then 92 ∷ 120 ∷ 51 ∷ 99 ∷ [] else b ∷ []

abbrev pub escaped : List ℕ → List ℕ
escaped text = flat_map escaped_byte text

abbrev pub escaped_line : Event → List ℕ
escaped_line e = escaped (line_of e)

-- ---- what a reader of the script sees

-- the string ends at a quotation mark or at a line feed, and the script at a less-than sign
abbrev pub ends_at : ℕ → Bool
ends_at b = (b == 34) || (b == 10) || (b == 60)

-- The string ends within this text. The byte after a backslash has no special meaning: it is passed over, if there is one.
abbrev pub ends_within : Bool → List ℕ → Bool
ends_within is_passed [] = is_passed
ends_within true (b ∷ text) = ends_within false text
ends_within false (b ∷ text) = ends_at b || ends_within (b == 92) text

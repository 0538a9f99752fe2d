-- Which texts have a line with the words that are asked for.
use Rattle.std.specs.Prelude.{ℕ, Bool, true, false, ◌&&◌, ◌||◌, List, [], ◌∷◌}
use Rattle.apex_types.specs.Line.{space}
use Rattle.module.specs.Asked.{stands_for}
use Rattle.module_meaning.specs.DeviceText.{pieces, pieces_behind_marks}

-- the words match these, one by one
abbrev pub stand_for : List (List ℕ) → List (List ℕ) → Bool
stand_for [] [] = true
stand_for [] (w ∷ ws) = false
stand_for (a ∷ rest) [] = false
stand_for (a ∷ rest) (w ∷ ws) = stands_for a w && stand_for rest ws

-- a line has these words after its tick, and no others
abbrev pub has_words : List (List ℕ) → List ℕ → Bool
has_words asked line = stand_for asked (pieces_behind_marks space line)

-- One of the pieces has them. What follows the last line feed is no line.
abbrev pub one_has_words : List (List ℕ) → List (List ℕ) → Bool
one_has_words asked [] = false
one_has_words asked (last ∷ []) = false
one_has_words asked (line ∷ next ∷ more) = has_words asked line || one_has_words asked (next ∷ more)

-- a line of the text has them
abbrev pub has_line : List (List ℕ) → List ℕ → Bool
has_line asked text = one_has_words asked (pieces 10 text)

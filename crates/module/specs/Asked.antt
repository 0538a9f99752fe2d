-- Which rows have words that are asked for.
use Rattle.std.specs.Prelude.{ℕ, Bool, true, false, ◌&&◌, ◌||◌, if◌then◌else◌, List, [], ◌∷◌, codes}
use Rattle.apex_types.specs.Line.{space}
use Rattle.engine_meaning.specs.Digits.{same}
use Rattle.kernel_meaning.specs.Partition.{Member}
use Rattle.machine_meaning.specs.Image.{Item}
use Rattle.machine_meaning.specs.MachineControl.{MachineControl}
use Rattle.module_meaning.specs.DeviceText.{pieces}
use Rattle.state_rows.specs.Rows.{Row}
use Rattle.state_view.specs.Parts.{member_part, part_with}
use Rattle.state_view.specs.declared.parts.Part.{Part}
use Rattle.state_view.specs.declared.parts.Part.TheVariants as parts

-- a word that is asked for matches this word of a line: `_` matches any word, and every other word matches only itself
abbrev pub stands_for : List ℕ → List ℕ → Bool
stands_for asked word = same asked (codes "_") || same asked word

-- `..` matches any words, or none
abbrev pub is_gap : List ℕ → Bool
is_gap asked = same asked (codes "..")

-- these words, or what follows some of them, are such words
abbrev pub holds_later : (List (List ℕ) → Bool) → List (List ℕ) → Bool
holds_later holds [] = holds []
holds_later holds (w ∷ ws) = holds (w ∷ ws) || holds_later holds ws

-- the first of these words matches one word, and what follows is such words
abbrev pub holds_next : List ℕ → (List (List ℕ) → Bool) → List (List ℕ) → Bool
holds_next asked holds [] = false
holds_next asked holds (w ∷ ws) = stands_for asked w && holds ws

-- the words of a line begin with those that are asked for
abbrev pub begin_with : List (List ℕ) → List (List ℕ) → Bool
begin_with [] ws = true
begin_with (a ∷ rest) ws = if is_gap a then holds_later (begin_with rest) ws else holds_next a (begin_with rest) ws

-- One of the pieces does. What follows the last line feed is no line.
abbrev pub one_begins_with : List (List ℕ) → List (List ℕ) → Bool
one_begins_with asked [] = false
one_begins_with asked (last ∷ []) = false
one_begins_with asked (line ∷ next ∷ more) = begin_with asked (pieces space line) || one_begins_with asked (next ∷ more)

-- a row of the text begins with the words that are asked for
abbrev pub has_row : List (List ℕ) → List ℕ → Bool
has_row asked text = one_begins_with asked (pieces 10 text)

-- ---- where such a row may be

-- the first word may be the name of this partition
abbrev pub asks_partition : List (List ℕ) → List ℕ → Bool
asks_partition [] name = true
asks_partition (a ∷ rest) name = is_gap a || stands_for a name

-- the part of a partition with the rows of this kind; all of them, if any kind will do
abbrev pub part_of_kind : List (List ℕ) → Part
part_of_kind [] = parts.All
part_of_kind (k ∷ rest) = if is_gap k || same k (codes "_") then parts.All else part_with k

abbrev pub asked_part : List (List ℕ) → Part
asked_part [] = parts.All
asked_part (a ∷ rest) = if is_gap a then parts.All else part_of_kind rest

-- The rows of a partition that are looked at: if the words name another partition none, and if they name a kind those of its part.
abbrev pub asked_rows : List (List ℕ) → Item → Member MachineControl → List Row
asked_rows words i x = if asks_partition words x.world.kernel.fixed.name then member_part (asked_part words) i x else []

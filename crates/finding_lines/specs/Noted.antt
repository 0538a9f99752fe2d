-- The texts of paths by which the last elements of arrays are noted.
use Rattle.std.specs.Prelude.{◌≡◌, ℕ, false, List, ◌∷◌, flat_map}
use Rattle.std.specs.Fmt.{decimal}
use Rattle.finding_lines.specs.Entries.{Step, key, element, Path, leads_to_element, longer}

-- the text of a path, the same for some paths that differ
abbrev pub step_text : Step → List ℕ
step_text (key k) = 46 ∷ k
step_text (element i) = 35 ∷ decimal i

abbrev pub path_text : Path → List ℕ
path_text path = flat_map step_text path

-- the path is that of an element of the array at another one
abbrev pub IsOfElement : Path → Path → Type 0
IsOfElement array path = (i : ℕ) × (path ≡ longer array i)

-- the path is that of no element
abbrev pub IsOfNoElement : Path → Type 0
IsOfNoElement path = (array : Path) → leads_to_element array path ≡ false

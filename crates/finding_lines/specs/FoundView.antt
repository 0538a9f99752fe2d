-- The entries that are found so far, with a note of the last element of each array.
use Rattle.std.specs.Prelude.{◌≡◌, Bool, true, false, List, slice_get, Option, Some, None}
use Rattle.std.specs.HashMap.{get_by_text}
use Rattle.finding_lines.specs.Entries.{Path, Entry, elements_at, leads_to_element}
use Rattle.finding_lines.specs.Noted.{path_text}
use Rattle.finding_lines.specs.Views.{entries_of}
use Rattle.finding_lines.specs.declared.found.Found.TheInside.{Inside}
use Rattle.finding_lines.specs.declared.found.Last.{Last}

-- the entry is that of an element of the array at a path
abbrev pub is_of_element : Path → Option Entry → Bool
is_of_element path None = false
is_of_element path (Some e) = leads_to_element path e.path

-- What is noted for the text of a path says how many elements the array there has, if it is of this array. Without a
-- note the array has none.
abbrev pub IsNoted : Path → List Entry → Option Last → Type 0
IsNoted path found None = elements_at path found ≡ 0
IsNoted path found (Some l) = is_of_element path (slice_get found l.place) ≡ true → elements_at path found ≡ l.elements

abbrev pub entries_found : Inside → List Entry
entries_found f = entries_of f.entries.items

abbrev pub AreNoted : Inside → Type 0
AreNoted f = (path : Path) → IsNoted path (entries_of f.entries.items) (get_by_text f.lasts (path_text path))

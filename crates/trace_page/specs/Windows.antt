-- The windows of a module table in the script of a page.
use Rattle.std.specs.Prelude.{ℕ, zero, suc, List, [], ◌++◌, flat_map, Option, Some, None, codes, slice_get}
use Rattle.std.specs.Fmt.{decimal}
use Rattle.apex_types.specs.declared.row.WindowRow.{WindowRow}

abbrev pub or_empty : Option (List ℕ) → List ℕ
or_empty None = []
or_empty (Some name) = name

-- partitions are numbered from 1
abbrev pub name_at : List (List ℕ) → ℕ → List ℕ
name_at names zero = []
name_at names (suc place) = or_empty (slice_get names place)

-- a window: the name of its partition, the place where it begins in the frame, and its ticks
abbrev pub row_text : List (List ℕ) → WindowRow → List ℕ
row_text names w = codes "[\"" ++ (name_at names w.partition.0 ++ (codes "\"," ++ (decimal w.offset ++ (codes "," ++ (decimal w.length ++ codes "],")))))

abbrev pub windows_text : ℕ → List WindowRow → List (List ℕ) → List ℕ
windows_text frame windows names = ((codes "{\"frame\":" ++ (decimal frame ++ codes ",\"windows\":[")) ++ flat_map (row_text names) windows) ++ codes "]}"

-- The loops of the walk, a turn at a time.
use Rattle.std.proofs.Common.{Bor, ◌≡◌, ℕ, zero, suc, ◌+◌, ◌-◌, ◌<◌, true, false, ◌==◌, List, [], length, slice_index, drop, Option, Some, None, ◌∙◌, IfSome, arith}
use Rattle.toml_parser.specs.Lexical.{first, skip_blank}
use Rattle.toml_parser.specs.Strings.{Key}
use Rattle.toml.specs.Parse.{after_byte, after_element, header_key, key_equals, skip_bom}
use Rattle.finding_lines.specs.Entries.{Path, Entry, Inside, Section, added, array_line, behind_atom, element_path, elements, entries, inside, key_path, line, lines, longer, members, pair_line, table_line, table_path}

pub elements_end : (inside : Inside) (m : ℕ) (path : Path) (i : ℕ) (found : List Entry) (text : List ℕ) → 0 < m → (first (skip_blank text) == 93) ≡ true
    → elements inside m path i found text ≡ Some (found, drop 1 (skip_blank text))
unfolding elements
elements_end inside zero path i found text some closing = absurd (omega arith)
elements_end inside (suc m) path i found text some closing = rw closing

pub elements_more : (inside : Inside) (m : ℕ) (path : Path) (i : ℕ) (found more : List Entry) (text after next : List ℕ) → 0 < m → (first (skip_blank text) == 93) ≡ false
    → inside (longer path i) (added found (longer path i) (skip_blank text) (skip_blank text)) (skip_blank text) ≡ Some (more, after) → after_element 93 after ≡ Some next
    → elements inside m path i found text ≡ elements inside (m - 1) path (i + 1) more next
unfolding elements
elements_more inside zero path i found more text after next some other read element = absurd (omega arith)
elements_more inside (suc m) path i found more text after next some other read element =
    let less : suc m - 1 ≡ m = omega arith in
    rw (other, read, element, less)

pub members_end : (inside : Inside) (m : ℕ) (path : Path) (found : List Entry) (text : List ℕ) → 0 < m → (first (skip_blank text) == 125) ≡ true
    → members inside m path found text ≡ Some (found, drop 1 (skip_blank text))
unfolding members
members_end inside zero path found text some closing = absurd (omega arith)
members_end inside (suc m) path found text some closing = rw closing

pub members_more : (inside : Inside) (m : ℕ) (path : Path) (found more : List Entry) (text : List ℕ) (key : Key) (at_value after next : List ℕ) → 0 < m → (first (skip_blank text) == 125) ≡ false
    → key_equals (skip_blank text) ≡ Some (key, at_value) → inside (key_path path key) (added found (key_path path key) (skip_blank text) at_value) at_value ≡ Some (more, after)
    → after_element 125 after ≡ Some next → members inside m path found text ≡ members inside (m - 1) path more next
unfolding members
members_more inside zero path found more text key at_value after next some other read value element = absurd (omega arith)
members_more inside (suc m) path found more text key at_value after next some other read value element =
    let less : suc m - 1 ≡ m = omega arith in
    rw (other, read, value, element, less)

pub inside_atom : (depth : ℕ) (path : Path) (found : List Entry) (text rest : List ℕ) → (first text == 91) ≡ false → (first text == 123) ≡ false → behind_atom text ≡ Some rest
    → inside depth path found text ≡ Some (found, rest)
unfolding inside
inside_atom zero path found text rest a b read = rw read
inside_atom (suc depth) path found text rest a b read = rw (a, b, read)

inside_elements : (depth : ℕ) (path : Path) (found : List Entry) (text : List ℕ) → (first text == 91) ≡ true
    → inside (suc depth) path found text ≡ elements (inside depth) (length text) path 0 found (drop 1 text)
unfolding inside
inside_elements depth path found text a = rw a

inside_members : (depth : ℕ) (path : Path) (found : List Entry) (text : List ℕ) → (first text == 91) ≡ false → (first text == 123) ≡ true
    → inside (suc depth) path found text ≡ members (inside depth) (length text) path found (drop 1 text)
unfolding inside
inside_members depth path found text a b = rw (a, b)

pub inside_array : (depth : ℕ) (path : Path) (found : List Entry) (text : List ℕ) → 0 < depth → (first text == 91) ≡ true
    → inside depth path found text ≡ elements (inside (depth - 1)) (length text) path 0 found (drop 1 text)
inside_array zero path found text some a = absurd (omega arith)
inside_array (suc depth) path found text some a =
    let less : suc depth - 1 ≡ depth = omega arith in
    rw less (inside_elements depth path found text a)

pub inside_table : (depth : ℕ) (path : Path) (found : List Entry) (text : List ℕ) → 0 < depth → (first text == 91) ≡ false → (first text == 123) ≡ true
    → inside depth path found text ≡ members (inside (depth - 1)) (length text) path found (drop 1 text)
inside_table zero path found text some a b = absurd (omega arith)
inside_table (suc depth) path found text some a b =
    let less : suc depth - 1 ≡ depth = omega arith in
    rw less (inside_members depth path found text a b)

pub lines_end : (m : ℕ) (section : Section) (text : List ℕ) → 0 < m → (length (skip_blank text) == 0) ≡ true → lines m section text ≡ Some section.1
unfolding lines
lines_end zero section text some none = absurd (omega arith)
lines_end (suc m) section text some none = rw none

pub lines_more : (m : ℕ) (section next : Section) (text rest : List ℕ) → 0 < m → (length (skip_blank text) == 0) ≡ false → line section (skip_blank text) ≡ Some (next, rest)
    → lines m section text ≡ lines (m - 1) next rest
unfolding lines
lines_more zero section next text rest some other read = absurd (omega arith)
lines_more (suc m) section next text rest some other read =
    let less : suc m - 1 ≡ m = omega arith in
    rw (other, read, less)

pub entries_are : (text : List ℕ) (found : List Entry) → lines (suc (length text)) ([], []) (skip_bom text) ≡ Some found → entries text ≡ Some found
unfolding entries
entries_are text found e = e

-- ---- as the code makes them

pub elements_step : (depth m : ℕ) (path here : Path) (i j : ℕ) (found with_here more : List Entry) (text start after next : List ℕ) → 0 < m → (first (skip_blank text) == 93) ≡ false → start ≡ skip_blank text
    → here ≡ longer path i → with_here ≡ added found here start start → inside depth here with_here start ≡ Some (more, after) → after_element 93 after ≡ Some next → j ≡ i + 1
    → elements (inside depth) m path i found text ≡ elements (inside depth) (m - 1) path j more next
elements_step depth m path here i j found with_here more text start after next some other at longer_path grown read element index =
    rw index (elements_more (inside depth) m path i found more text after next some other (rw (← at, ← longer_path, ← grown) read) element)

pub members_step : (depth m : ℕ) (path here : Path) (found with_here more : List Entry) (text start at_value after next : List ℕ) (key : Key) → 0 < m → (first (skip_blank text) == 125) ≡ false → start ≡ skip_blank text
    → key_equals start ≡ Some (key, at_value) → here ≡ key_path path key → with_here ≡ added found here start at_value → inside depth here with_here at_value ≡ Some (more, after) → after_element 125 after ≡ Some next
    → members (inside depth) m path found text ≡ members (inside depth) (m - 1) path more next
members_step depth m path here found with_here more text start at_value after next key some other at read_key keyed grown read element =
    members_more (inside depth) m path found more text key at_value after next some other (rw (← at) read_key) (rw (← at, ← keyed, ← grown) read) element

pub if_atom : (depth : ℕ) (path : Path) (found : List Entry) (text : List ℕ) (r : Option (Bor (List ℕ))) → (first text == 91) ≡ false → (first text == 123) ≡ false
    → IfSome r (λ rest. behind_atom text ≡ Some rest.now) → IfSome r (λ rest. inside depth path found text ≡ Some (found, rest.now))
if_atom depth path found text None a b h = tt
if_atom depth path found text (Some rest) a b h = inside_atom depth path found text rest.now a b h

pub if_array : (depth : ℕ) (path : Path) (found new : List Entry) (text behind : List ℕ) (r : Option (Bor (List ℕ))) → 0 < depth → (first text == 91) ≡ true → behind ≡ drop 1 text → length behind < length text
    → IfSome r (λ rest. (n : ℕ) → length behind < n → elements (inside (depth - 1)) n path 0 found behind ≡ Some (new, rest.now)) → IfSome r (λ rest. inside depth path found text ≡ Some (new, rest.now))
if_array depth path found new text behind None some a at shorter h = tt
if_array depth path found new text behind (Some rest) some a at shorter h = inside_array depth path found text some a ∙ rw (← at) (h (length text) shorter)

pub if_table : (depth : ℕ) (path : Path) (found new : List Entry) (text behind : List ℕ) (r : Option (Bor (List ℕ))) → 0 < depth → (first text == 91) ≡ false → (first text == 123) ≡ true → behind ≡ drop 1 text → length behind < length text
    → IfSome r (λ rest. (n : ℕ) → length behind < n → members (inside (depth - 1)) n path found behind ≡ Some (new, rest.now)) → IfSome r (λ rest. inside depth path found text ≡ Some (new, rest.now))
if_table depth path found new text behind None some a b at shorter h = tt
if_table depth path found new text behind (Some rest) some a b at shorter h = inside_table depth path found text some a b ∙ rw (← at) (h (length text) shorter)

-- ---- lines

pub array_line_is : (found new : List Entry) (start behind rest after : List ℕ) (key : Key) (path : Path) → behind ≡ drop 2 start → header_key behind ≡ Some (key, rest) → after_byte 93 rest ≡ Some after
    → path ≡ element_path found key → new ≡ added found path start start → array_line found start ≡ Some ((path, new), after)
unfolding array_line
array_line_is found new start behind rest after key path at read close named grown = rw (← at, read, close, grown, named)

pub table_line_is : (found new : List Entry) (start behind rest : List ℕ) (key : Key) (path : Path) → behind ≡ drop 1 start → header_key behind ≡ Some (key, rest) → path ≡ table_path found key → new ≡ added found path start start
    → table_line found start ≡ Some ((path, new), rest)
unfolding table_line
table_line_is found new start behind rest key path at read named grown = rw (← at, read, grown, named)

pub if_pair : (section path : Path) (found with_pair new : List Entry) (start at_value : List ℕ) (key : Key) (r : Option (Bor (List ℕ))) → key_equals start ≡ Some (key, at_value) → path ≡ key_path section key → with_pair ≡ added found path start at_value
    → IfSome r (λ rest. inside 80 path with_pair at_value ≡ Some (new, rest.now)) → IfSome r (λ rest. pair_line section found start ≡ Some ((section, new), rest.now))
unfolding pair_line
if_pair section path found with_pair new start at_value key None read keyed grown h = tt
if_pair section path found with_pair new start at_value key (Some rest) read keyed grown h = rw (read, ← keyed, ← grown, h)

pub line_array : (section : Path) (found : List Entry) (start : List ℕ) → (first start == 91) ≡ true → (slice_index start 1 == 91) ≡ true → line (section, found) start ≡ array_line found start
unfolding line
line_array section found start a b = rw (a, b)

pub line_table : (section : Path) (found : List Entry) (start : List ℕ) → (first start == 91) ≡ true → (slice_index start 1 == 91) ≡ false → line (section, found) start ≡ table_line found start
unfolding line
line_table section found start a b = rw (a, b)

pub line_pair : (section : Path) (found : List Entry) (start : List ℕ) → (first start == 91) ≡ false → line (section, found) start ≡ pair_line section found start
unfolding line
line_pair section found start a = rw a

-- The places of the key paths of a TOML text: where `toml` reads the key and where it reads the value of each.
use Rattle.std.specs.Prelude.{ℕ, zero, suc, ◌+◌, ◌-◌, Bool, true, false, ◌&&◌, ◌==◌, nat_eq, if◌then◌else◌, List, [], ◌∷◌, ◌++◌, drop, length, map, slice_index, Option, Some, None, option_and_then, option_map}
use Rattle.std.specs.Str.{bytes_eq}
use Rattle.toml_parser.specs.Lexical.{Read, first, left_brace, left_bracket, right_brace, right_bracket, skip_blank}
use Rattle.toml_parser.specs.Strings.{Key, quoted, recursion_limit, starts_string}
use Rattle.toml_parser.specs.Numbers.{unquoted}
use Rattle.toml.specs.Parse.{after_byte, after_element, header_key, key_equals, skip_bom}

infixl 10 ◌>>=◌
abbrev pub ◌>>=◌ : {A B : Type 0} → Option A → (A → Option B) → Option B
o >>= f = option_and_then f o

-- a step from a table to what a key of it holds, or from an array to one of its elements, counted from 0
pub data Step : Type 0 where
  key : List ℕ → Step
  element : ℕ → Step

abbrev pub Path : Type 0
Path = List Step

-- a key path that the text defines, and how much of the text is left at its key and at its value; for a header or an element
-- both are taken at its place
pub record Entry : Type 0 where
  pub path : Path
  pub key_left : ℕ
  pub value_left : ℕ

abbrev pub entry : Path → List ℕ → List ℕ → Entry
entry path at_key at_value = record { path = path; key_left = length at_key; value_left = length at_value }

-- ---- paths

abbrev pub is_key : List ℕ → Step → Bool
is_key k (key other) = bytes_eq k other
is_key k (element i) = false

abbrev pub is_element : ℕ → Step → Bool
is_element i (key other) = false
is_element i (element j) = nat_eq i j

abbrev pub is_same_step : Step → Step → Bool
is_same_step (key k) other = is_key k other
is_same_step (element i) other = is_element i other

-- the second path is the first one, or leads on from there
abbrev pub leads_to : Path → Path → Bool
leads_to [] path = true
leads_to (step ∷ steps) [] = false
leads_to (step ∷ steps) (other ∷ others) = is_same_step step other && leads_to steps others

-- the path is one step to an element
abbrev pub is_one_element : Path → Bool
is_one_element [] = false
is_one_element (key k ∷ path) = false
is_one_element (element i ∷ []) = true
is_one_element (element i ∷ step ∷ path) = false

-- the second path leads from the first one to an element
abbrev pub leads_to_element : Path → Path → Bool
leads_to_element [] path = is_one_element path
leads_to_element (step ∷ steps) [] = false
leads_to_element (step ∷ steps) (other ∷ others) = is_same_step step other && leads_to_element steps others

-- the path of a key with dots, from a table on
abbrev pub key_path : Path → Key → Path
key_path path k = path ++ (map key k.0 ++ key k.1 ∷ [])

-- the path of an element of the array at a path, and that of a key of the table there
abbrev pub longer : Path → ℕ → Path
longer path i = path ++ element i ∷ []

abbrev pub with_key : Path → List ℕ → Path
with_key path k = path ++ key k ∷ []

-- these entries, and one more
abbrev pub added : List Entry → Path → List ℕ → List ℕ → List Entry
added found path at_key at_value = found ++ entry path at_key at_value ∷ []

-- ---- values

-- the entries found before and those of the value at the front of the text, and what follows the value
abbrev pub Inside : Type 0
Inside = Path → List Entry → List ℕ → Read (List Entry)

-- what follows a string or a scalar
unfoldable pub behind_atom : List ℕ → Option (List ℕ)
behind_atom text = if starts_string text then option_map (λ p. p.1) (quoted text) else option_map (λ p. p.1) (unquoted text)

module _ (inside : Inside) where
  -- the same for the rest of an array of fewer than n elements, of which the next one is element i
  unfoldable pub elements : ℕ → Path → ℕ → List Entry → List ℕ → Read (List Entry)
  elements zero path i found text = None
  elements (suc n) path i found text =
      let start = skip_blank text in
      let here = longer path i in
      if first start == right_bracket then Some (found, drop 1 start)
      else inside here (added found here start start) start >>= (λ v. after_element right_bracket v.1 >>= elements n path (i + 1) v.0)

  -- the same for the rest of an inline table of fewer than n pairs
  unfoldable pub members : ℕ → Path → List Entry → List ℕ → Read (List Entry)
  members zero path found text = None
  members (suc n) path found text =
      let start = skip_blank text in
      if first start == right_brace then Some (found, drop 1 start)
      else key_equals start
      >>= (λ k. inside (key_path path k.0) (added found (key_path path k.0) start k.1) k.1 >>= (λ v. after_element right_brace v.1 >>= members n path v.0))

-- the same for a value with arrays and inline tables at most this deep
unfoldable pub inside : ℕ → Inside
inside zero path found text = option_map (λ rest. (found, rest)) (behind_atom text)
inside (suc depth) path found text =
    if first text == left_bracket then elements (inside depth) (length text) path 0 found (drop 1 text)
    else if first text == left_brace then members (inside depth) (length text) path found (drop 1 text)
    else option_map (λ rest. (found, rest)) (behind_atom text)

-- ---- lines

-- how many elements the array at a path has so far
abbrev pub elements_at : Path → List Entry → ℕ
elements_at path [] = 0
elements_at path (e ∷ es) = (if leads_to_element path e.path then 1 else 0) + elements_at path es

-- a header's key passes through the last element of an array
abbrev pub through : List Entry → Path → Path
through found path = if elements_at path found == 0 then path else longer path (elements_at path found - 1)

-- the path of the keys of a header before its last one, from a path on
abbrev pub header_path : List Entry → Path → List (List ℕ) → Path
header_path found path [] = path
header_path found path (k ∷ ks) = header_path found (through found (with_key path k)) ks

-- the path that a header in single brackets names
abbrev pub table_path : List Entry → Key → Path
table_path found k = with_key (header_path found [] k.0) k.1

-- the path of the new element that a header in double brackets makes
abbrev pub element_path : List Entry → Key → Path
element_path found k = longer (table_path found k) (elements_at (table_path found k) found)

-- the table that the next pairs are in, and the entries so far
abbrev pub Section : Type 0
Section = Path × List Entry

-- after a header of this path
abbrev pub headed : List Entry → Path → List ℕ → List ℕ → Section × List ℕ
headed found path start rest = ((path, added found path start start), rest)

unfoldable pub array_line : List Entry → List ℕ → Read Section
array_line found start = header_key (drop 2 start) >>= (λ k. option_map (headed found (element_path found k.0) start) (after_byte right_bracket k.1))

unfoldable pub table_line : List Entry → List ℕ → Read Section
table_line found start = option_map (λ k. headed found (table_path found k.0) start k.1) (header_key (drop 1 start))

unfoldable pub pair_line : Path → List Entry → List ℕ → Read Section
pair_line section found start =
    key_equals start
    >>= (λ k. option_map (λ v. ((section, v.0), v.1)) (inside recursion_limit (key_path section k.0) (added found (key_path section k.0) start k.1) k.1))

-- a line: a header in double brackets, one in single brackets, or a pair
unfoldable pub line : Section → List ℕ → Read Section
line section start =
    if first start == left_bracket && slice_index start 1 == left_bracket then array_line section.1 start
    else if first start == left_bracket then table_line section.1 start
    else pair_line section.0 section.1 start

-- the entries of the rest of a text of fewer than n lines, after those found before
unfoldable pub lines : ℕ → Section → List ℕ → Option (List Entry)
lines zero section text = None
lines (suc n) section text =
    let start = skip_blank text in
    if length start == 0 then Some section.1 else line section start >>= (λ l. lines n l.0 l.1)

-- all entries of a text, in their order
unfoldable pub entries : List ℕ → Option (List Entry)
entries text = lines (suc (length text)) ([], []) (skip_bom text)

-- the first entry at a path or below it
abbrev pub first_at : Path → List Entry → Option Entry
first_at path [] = None
first_at path (e ∷ es) = if leads_to path e.path then Some e else first_at path es

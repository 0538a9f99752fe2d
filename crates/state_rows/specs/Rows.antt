-- Rows of keys and values, as text and as JSON.
use Rattle.std.specs.Prelude.{ℕ, ℤ, List, [], ◌∷◌, ◌++◌, flat_map, codes, Option, Some, None}
use Rattle.std.specs.Fmt.{decimal, signed_decimal}
use Rattle.apex_types.specs.Line.{space, partition_text, words_text}
use Rattle.state_rows.specs.declared.row.Form.{Form}
use Rattle.state_rows.specs.declared.row.Form.TheVariants as form

-- what a key has: nothing; a number, with or without a sign; a word of letters, digits and underscores; or several numbers
pub data Value : Type 0 where
  Nothing : Value
  Count : (number : ℕ) → Value
  Signed : (number : ℤ) → Value
  Word : (word : List ℕ) → Value
  Words : (words : List ℤ) → Value

pub record Field : Type 0 where
  pub key : List ℕ
  pub value : Value

-- the partition that it is of, None for the module, and its keys with their values
pub record Row : Type 0 where
  pub partition : Option (List ℕ)
  pub fields : List Field

-- ---- values

abbrev pub quoted : List ℕ → List ℕ
quoted word = codes "\"" ++ word ++ codes "\""

-- more numbers of a list, a comma before each
abbrev pub more_words : List ℤ → List ℕ
more_words words = flat_map (λ word. codes "," ++ signed_decimal word) words

abbrev pub words_json : List ℤ → List ℕ
words_json [] = codes "[]"
words_json (word ∷ words) = codes "[" ++ signed_decimal word ++ more_words words ++ codes "]"

-- as text, with the space before it
abbrev pub value_text : Value → List ℕ
value_text Nothing = codes " -"
value_text (Count number) = space ∷ decimal number
value_text (Signed number) = space ∷ signed_decimal number
value_text (Word word) = space ∷ word
value_text (Words words) = words_text words

abbrev pub value_json : Value → List ℕ
value_json Nothing = codes "null"
value_json (Count number) = decimal number
value_json (Signed number) = signed_decimal number
value_json (Word word) = quoted word
value_json (Words words) = words_json words

abbrev pub partition_json : Option (List ℕ) → List ℕ
partition_json None = codes "null"
partition_json (Some name) = quoted name

-- ---- rows: words between spaces, or a JSON object a line

-- the beginning of a row, which names the partition
abbrev pub head_in : Form → Option (List ℕ) → List ℕ
head_in form.Text partition = partition_text partition
head_in form.Json partition = codes "{\"partition\":" ++ partition_json partition

abbrev pub field_in : Form → Field → List ℕ
field_in form.Text f = space ∷ f.key ++ value_text f.value
field_in form.Json f = codes "," ++ quoted f.key ++ codes ":" ++ value_json f.value

abbrev pub fields_in : Form → List Field → List ℕ
fields_in form fields = flat_map (field_in form) fields

abbrev pub end_in : Form → List ℕ
end_in form.Text = codes "\n"
end_in form.Json = codes "}\n"

abbrev pub row_in : Form → Row → List ℕ
row_in form r = head_in form r.partition ++ fields_in form r.fields ++ end_in form

abbrev pub rows_in : Form → List Row → List ℕ
rows_in form rows = flat_map (row_in form) rows

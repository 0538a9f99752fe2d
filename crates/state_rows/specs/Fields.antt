-- Fields as the code holds them.
use Rattle.std.specs.Prelude.{ℕ, List, map}
use Rattle.state_rows.specs.Rows as meaning
use Rattle.state_rows.specs.declared.row.Field.{Field}
use Rattle.state_rows.specs.declared.row.Value.{Value}
use Rattle.state_rows.specs.declared.row.Value.TheVariants as value

abbrev pub value_of : Value → meaning.Value
value_of value.Nothing = meaning.Nothing
value_of (value.Count number) = meaning.Count number
value_of (value.Signed number) = meaning.Signed number
value_of (value.Word word) = meaning.Word word.now
value_of (value.Words words) = meaning.Words words.now

abbrev pub field_of : Field → meaning.Field
field_of f = record { key = f.key.now; value = value_of f.value }

abbrev pub fields_of : List Field → List meaning.Field
fields_of fs = map field_of fs

-- What is wrong with the keys and the types of a document: each place where a key is missing or unknown, where a value is of another type,
-- and where a text is none of its words.
use Rattle.std.specs.Prelude.{ℕ, ◌+◌, is_none, if◌then◌else◌, List, [], ◌∷◌, ◌++◌, codes, Option, Some, None, unwrap_or}
use Rattle.std.specs.Str.{bytes_eq}
use Rattle.toml.specs.Data.{Data, Items, no_items, item, Members, no_members, member, as_table, get_member, type_name}
use Rattle.module_meaning.specs.TableRules.{array_at, is_one_of, same, table_at, text_at}
use Rattle.table_findings.specs.Fields.{needed, wanted, words_of}
use Rattle.table_findings.specs.Findings.{Finding, Missing, NoWord, OtherType, Unknown, What}
use Rattle.table_findings.specs.Subjects.{Row, Subject, Module, Costs, Partition, Health, Port, Window, Channel, Destination}
use Rattle.table_findings.specs.declared.fields.Part.{Part}
use Rattle.table_findings.specs.declared.fields.Part.TheVariants as part
use Rattle.table_findings.specs.declared.words.Words.{Words}
use Rattle.table_findings.specs.declared.words.Words.TheVariants as words

-- the elements of the array at a key, none if there is no array
abbrev pub items_at : List ℕ → Members → Items
items_at key ms = unwrap_or (array_at key ms) no_items

-- the row of a table at a place of its list, with the name at a key
abbrev pub row_at : ℕ → List ℕ → Members → Row
row_at index key ms = record { index = index; name = text_at key ms }

-- the row of an element that is no table
abbrev pub unnamed : ℕ → Row
unnamed index = record { index = index; name = None }

-- one finding
abbrev pub one : Subject → Option (List ℕ) → What → List Finding
one subject key what = record { subject = subject; key = key; what = what } ∷ []

-- the keys of these that a table lacks
abbrev pub missing : Subject → Part → Members → List (List ℕ) → List Finding
missing subject _ ms [] = []
missing subject part ms (key ∷ keys) = (if is_none (get_member key ms) then one subject None (Missing key part) else []) ++ missing subject part ms keys

-- a value of another type than the wanted one
abbrev pub of_type : Subject → Option (List ℕ) → List ℕ → Data → List Finding
of_type subject key wanted d = if bytes_eq (type_name d) wanted then [] else one subject key (OtherType wanted (type_name d))

-- a key that the part has not, or a value of another type
abbrev pub one_member : Subject → Part → List ℕ → Data → List Finding
one_member subject part key d = elim (wanted part key) [ None ↦ one subject (Some key) (Unknown part) | Some type ↦ of_type subject (Some key) type d ]

abbrev pub members : Subject → Part → Members → List Finding
members subject _ no_members = []
members subject part (member key d ms) = one_member subject part key d ++ members subject part ms

-- the keys of a part, and the types of their values
abbrev pub of_part : Subject → Part → Members → List Finding
of_part subject part ms = missing subject part ms (needed part) ++ members subject part ms

-- a text that is none of its words
abbrev pub word : Subject → List ℕ → Words → Members → List Finding
word subject key words ms = elim (text_at key ms) [ None ↦ [] | Some text ↦ if is_one_of (words_of words) text then [] else one subject (Some key) (NoWord text words) ]

-- what is wrong with each element of an array, of which the next one has this place
abbrev pub each : (ℕ → Data → List Finding) → ℕ → Items → List Finding
each of_element i no_items = []
each of_element i (item d ds) = of_element i d ++ each of_element (i + 1) ds

-- ---- costs

abbrev pub costs : Members → List Finding
costs ms = elim (table_at (codes "cost") ms) [ None ↦ [] | Some table ↦ of_part Costs part.Costs table ]

-- ---- partitions

-- the values of a health table have to be texts; the last rule checks which keys and words are there
abbrev pub health_members : Subject → Members → List Finding
health_members subject no_members = []
health_members subject (member key d ms) = of_type subject (Some key) (codes "string") d ++ health_members subject ms

abbrev pub health : Row → Members → List Finding
health row ms = elim (table_at (codes "hm") ms) [ None ↦ [] | Some table ↦ health_members (Health row) table ]

-- a port of a kind that is not known may have the keys of both
abbrev pub part_of_kind : Option (List ℕ) → Part
part_of_kind None = part.Port
part_of_kind (Some kind) = if same kind (codes "SAMPLING") then part.SamplingPort else if same kind (codes "QUEUING") then part.QueuingPort else part.Port

abbrev pub port_words : Subject → Members → List Finding
port_words subject ms =
    word subject (codes "kind") words.Kind ms ++ (word subject (codes "direction") words.Direction ms ++ word subject (codes "discipline") words.Discipline ms)

abbrev pub port_table : Subject → Members → List Finding
port_table subject ms = of_part subject (part_of_kind (text_at (codes "kind") ms)) ms ++ port_words subject ms

abbrev pub port : Row → ℕ → Data → List Finding
port partition i d = elim (as_table d) [
  | None ↦ of_type (Port (unnamed i) partition) None (codes "table") d
  | Some ms ↦ port_table (Port (row_at i (codes "name") ms) partition) ms
]

abbrev pub partition_table : Row → Members → List Finding
partition_table row ms = of_part (Partition row) part.Partition ms ++ (health row ms ++ each (port row) 0 (items_at (codes "port") ms))

abbrev pub partition : ℕ → Data → List Finding
partition i d = elim (as_table d) [
  | None ↦ of_type (Partition (unnamed i)) None (codes "table") d
  | Some ms ↦ partition_table (row_at i (codes "name") ms) ms
]

-- ---- windows and channels

abbrev pub window : ℕ → Data → List Finding
window i d = elim (as_table d) [
  | None ↦ of_type (Window (unnamed i)) None (codes "table") d
  | Some ms ↦ of_part (Window (row_at i (codes "partition") ms)) part.Window ms
]

abbrev pub destination : Row → ℕ → Data → List Finding
destination channel i d = of_type (Destination i channel) None (codes "string") d

abbrev pub channel_table : Row → Members → List Finding
channel_table row ms = of_part (Channel row) part.Channel ms ++ each (destination row) 0 (items_at (codes "destinations") ms)

abbrev pub channel : ℕ → Data → List Finding
channel i d = elim (as_table d) [
  | None ↦ of_type (Channel (unnamed i)) None (codes "table") d
  | Some ms ↦ channel_table (row_at i (codes "name") ms) ms
]

-- ---- the document

abbrev pub shape : Members → List Finding
shape ms =
    of_part Module part.Module ms
    ++ (costs ms ++ (each partition 0 (items_at (codes "partition") ms) ++ (each window 0 (items_at (codes "window") ms) ++ each channel 0 (items_at (codes "channel") ms))))

-- Arrays: smaller than the messages that a service stores in them, longer than those that it sends, and indices beyond their ends.
use Rattle.std.specs.Prelude.{ℕ, ◌-◌, Bool, true, false, not, ◌&&◌, ◌==◌, nat_lt, List, [], ◌∷◌, Option, Some, None, option_map, if◌then◌else◌}
use Rattle.std.specs.Str.{bytes_eq}
use Rattle.apex_types.specs.declared.denotation.ObjectKind.{ObjectKind}
use Rattle.apex_types.specs.declared.denotation.ObjectKind.TheVariants as object
use Rattle.apex_types.specs.declared.row.PortRow.{PortRow}
use Rattle.pal_meaning.specs.Syntax as written
use Rattle.pal_meaning.specs.WellFormed.{is_same_kind}
use Rattle.lint.specs.Calls.{Call}
use Rattle.lint.specs.Plain.{number_in, name_in, second_plain, third_plain}
use Rattle.lint.specs.Ports.{port_of_id}
use Rattle.lint.specs.Services.{sent_kind, stored_kind}
use Rattle.lint.specs.Uses.{Id, Numbered, Named}
use Rattle.lint.specs.Views.{Found, if_so}
use Rattle.lint.specs.declared.finding.FindingKind.TheVariants as finding

-- the size of an array, as it is declared
abbrev pub size_in : written.Kind → Option ℕ
size_in (written.Array size values) = size
size_in _ = None

-- the words of a message of a buffer or a blackboard
abbrev pub words_in : written.Kind → Option ℕ
words_in (written.Buffer words messages discipline) = words
words_in (written.Blackboard words) = words
words_in _ = None

-- the first declaration of a name
abbrev pub declared : List ℕ → List written.Declaration → Option written.Kind
declared name [] = None
declared name (d ∷ ds) = if bytes_eq d.name name then Some d.kind else declared name ds

abbrev pub is_of_kind : ObjectKind → written.Kind → Bool
is_of_kind object.Buffer (written.Buffer words messages discipline) = true
is_of_kind object.Blackboard (written.Blackboard words) = true
is_of_kind _ _ = false

-- the declaration of this kind with this number, from 1
abbrev pub declared_at : ObjectKind → ℕ → List written.Declaration → Option written.Kind
declared_at kind number [] = None
declared_at kind number (d ∷ ds) =
    if is_of_kind kind d.kind && (number == 1) then Some d.kind else declared_at kind (if is_of_kind kind d.kind then number - 1 else number) ds

abbrev pub words_or_none : Option written.Kind → Option ℕ
words_or_none None = None
words_or_none (Some k) = words_in k

abbrev pub size_or_none : Option written.Kind → Option ℕ
size_or_none None = None
size_or_none (Some k) = size_in k

-- the declaration of the object of this kind that an argument denotes
abbrev pub object_of : List written.Declaration → ObjectKind → Id → Option written.Kind
object_of ds kind (Numbered n) = declared_at kind n ds
object_of ds kind (Named other name) = if is_same_kind other kind then declared name ds else None
object_of ds kind _ = None

abbrev pub is_port : ObjectKind → Bool
is_port object.Port = true
is_port _ = false

-- the words of a message of the object or the port of this kind that an argument denotes
abbrev pub words_of : List PortRow → List written.Declaration → ObjectKind → Id → Option ℕ
words_of ports ds kind id = if is_port kind then option_map (λ row. row.words) (port_of_id ports id) else words_or_none (object_of ds kind id)

-- the size of the array that an argument names
abbrev pub array_of : List written.Declaration → Option (List ℕ) → Option ℕ
array_of ds None = None
array_of ds (Some name) = size_or_none (declared name ds)

abbrev pub is_less : Option ℕ → Option ℕ → Bool
is_less (Some size) (Some words) = nat_lt size words
is_less _ _ = false

abbrev pub name_or_none : Option (List ℕ) → List ℕ
name_or_none None = []
name_or_none (Some name) = name

-- of a call whose service stores a message in its array: the array is smaller than the messages
abbrev pub small_array_of : List PortRow → List written.Declaration → Option ObjectKind → Call → List Found
small_array_of ports ds None c = []
small_array_of ports ds (Some kind) c =
    let array = name_in (second_plain c.arguments) in
    if_so (is_less (array_of ds array) (words_of ports ds kind c.id)) (record { kind = finding.SmallArray; subject = name_or_none array })

abbrev pub small_array : List PortRow → List written.Declaration → Call → List Found
small_array ports ds c = small_array_of ports ds (stored_kind c.service) c

-- of a call whose service sends a message from its array: the length that is written is above the words of a message
abbrev pub long_length_of : List PortRow → List written.Declaration → Option ObjectKind → Call → List Found
long_length_of ports ds None c = []
long_length_of ports ds (Some kind) c =
    if_so (is_less (words_of ports ds kind c.id) (number_in (third_plain c.arguments))) (record { kind = finding.LongLength; subject = name_or_none (name_in (second_plain c.arguments)) })

abbrev pub long_length : List PortRow → List written.Declaration → Call → List Found
long_length ports ds c = long_length_of ports ds (sent_kind c.service) c

-- an index, as it is written, that is not below the size of the array
abbrev pub is_beyond : Option ℕ → Option ℕ → Bool
is_beyond (Some size) (Some index) = not (nat_lt index size)
is_beyond _ _ = false

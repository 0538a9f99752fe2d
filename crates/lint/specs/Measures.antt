-- What is looked up of declarations: the sizes of arrays and the words of messages by name, and the words by number.
use Rattle.std.specs.Prelude.{◌≡◌, ℕ, List, [], ◌∷◌, Option, Some, None, if◌then◌else◌, flat_map}
use Rattle.apex_types.specs.declared.denotation.ObjectKind.{ObjectKind}
use Rattle.module_meaning.specs.Table.{at_number}
use Rattle.pal_meaning.specs.Syntax as written
use Rattle.lint.specs.Arrays.{declared, is_of_kind, size_or_none, words_in, words_or_none}
use Rattle.lint.specs.declared.declarations.Measure.{Measure}

abbrev pub size_of : Option Measure → Option ℕ
size_of None = None
size_of (Some m) = m.size

abbrev pub words_of : Option Measure → Option ℕ
words_of None = None
words_of (Some m) = m.words

-- what is found at a name is that of its first declaration
abbrev pub AreMeasured : (List ℕ → Option Measure) → List written.Declaration → Type 0
AreMeasured found ds = (name : List ℕ) → (size_of (found name) ≡ size_or_none (declared name ds)) × (words_of (found name) ≡ words_or_none (declared name ds))

-- the words of an object, if it is of this kind
abbrev pub object_words : ObjectKind → written.Kind → List (Option ℕ)
object_words kind k = if is_of_kind kind k then words_in k ∷ [] else []

abbrev pub words_of_kind : ObjectKind → List written.Declaration → List (Option ℕ)
words_of_kind kind ds = flat_map (λ d. object_words kind d.kind) ds

abbrev pub some_words : Option (Option ℕ) → Option ℕ
some_words None = None
some_words (Some words) = words

-- the words of the object with a number, from 1
abbrev pub words_numbered : List (Option ℕ) → ℕ → Option ℕ
words_numbered words number = some_words (at_number words number)

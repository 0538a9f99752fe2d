-- The text of states, as `mb state --json` writes it: rows, each an object in a line. A state begins with the row of its tick.
use Rattle.std.specs.Prelude.{◌≡◌, ℕ, suc, Bool, true, false, List, [], ◌∷◌, ◌++◌, Option, Some, None, codes, nat_eq, nat_le, ◌==◌, ◌||◌, ◌&&◌, if◌then◌else◌}
use Rattle.std.specs.List.{starts_with}
use Rattle.trace_page.specs.Escaping.{escaped}
use Rattle.trace_page.specs.declared.states.Place.{Place}
use Rattle.trace_page.specs.declared.states.Place.TheVariants as place
use Rattle.trace_page.specs.declared.states.StatesFault.{StatesFault}
use Rattle.trace_page.specs.declared.states.StatesFault.TheVariants as fault

-- ---- a row, byte by byte: keys in quotation marks, each with a word in quotation marks, a bare value, or a list of these

-- a digit, a minus sign, or a small letter, as in 12, -7 and null
abbrev pub is_bare : ℕ → Bool
is_bare b = (nat_le 48 b && nat_le b 57) || (b == 45) || (nat_le 97 b && nat_le b 122)

-- what may be in quotation marks: no control character, and no backslash
abbrev pub is_plain : ℕ → Bool
is_plain b = if b == 92 then false else nat_le 32 b

abbrev pub only : ℕ → ℕ → Place → Option Place
only wanted b next = if b == wanted then Some next else None

-- after a value comes the next key, or the end of the row
abbrev pub goes_behind : ℕ → Option Place
goes_behind b = if b == 44 then Some place.Key else only 125 b place.End

-- in quotation marks, up to the second one
abbrev pub goes_quoted : Place → Place → ℕ → Option Place
goes_quoted here next b = if b == 34 then Some next else if is_plain b then Some here else None

-- where the next byte leads, if it may come here
abbrev pub goes_on : Place → ℕ → Option Place
goes_on place.Row b = only 123 b place.Key
goes_on place.Key b = only 34 b place.InKey
goes_on place.InKey b = goes_quoted place.InKey place.Colon b
goes_on place.Colon b = only 58 b place.Value
goes_on place.Value b =
    if b == 34 then Some place.Word else if b == 91 then Some place.List else if is_bare b then Some place.Bare else None
goes_on place.Word b = goes_quoted place.Word place.After b
goes_on place.Bare b = if is_bare b then Some place.Bare else goes_behind b
goes_on place.List b =
    if b == 34 then Some place.ListWord else if b == 93 then Some place.After else
    if (b == 44) || is_bare b then Some place.List else None
goes_on place.ListWord b = goes_quoted place.ListWord place.List b
goes_on place.After b = goes_behind b
goes_on place.End b = only 10 b place.Row

-- ---- the first line that is no row

abbrev pub line_behind : ℕ → ℕ → ℕ
line_behind line b = if b == 10 then suc line else line

-- the text ends here: where a row may begin, no line is wrong
abbrev pub wrong_at_end : Place → ℕ → Option ℕ
wrong_at_end place.Row line = None
wrong_at_end _ line = Some line

abbrev pub wrong_if : Option Place → ℕ → (Place → Option ℕ) → Option ℕ
wrong_if None line rest = Some line
wrong_if (Some next) line rest = rest next

-- the number of the first wrong line, from this place in the line of that number on
abbrev pub wrong_from : Place → ℕ → List ℕ → Option ℕ
wrong_from here line [] = wrong_at_end here line
wrong_from here line (b ∷ text) = wrong_if (goes_on here b) line (λ next. wrong_from next (line_behind line b) text)

-- how a state begins
abbrev pub tick_row : List ℕ
tick_row = codes "{\"partition\":null,\"tick\":"

-- the number of the first line that is wrong in a text of states, whose first row is that of a tick
abbrev pub wrong_line : List ℕ → Option ℕ
wrong_line text = if starts_with nat_eq text tick_row then wrong_from place.Row 1 text else Some 1

-- ---- in the script

-- the string that holds the text
abbrev pub states_text : List ℕ → List ℕ
states_text text = codes "\"" ++ (escaped text ++ codes "\"")

-- a text is not taken: this line of it is the first wrong one, or memory ran out
abbrev pub IsStatesFault : List ℕ → StatesFault → Type 0
IsStatesFault text (fault.Line number) = wrong_line text ≡ Some number
IsStatesFault text fault.Memory = Unit {0}

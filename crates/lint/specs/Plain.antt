-- Arguments, as far as they are looked at: numbers and names as they are written.
use Rattle.std.specs.Prelude.{ℕ, Bool, false, not, ◌==◌, List, [], ◌∷◌, Option, Some, None}
use Rattle.std.specs.Str.{bytes_eq}
use Rattle.pal_meaning.specs.Syntax as written

-- An argument, as far as it is looked at: a number as it is written, just a name, or anything else.
pub data Plain : Type 0 where
  Literal : Option ℕ → Plain
  Word : List ℕ → Plain
  Other : Plain

abbrev pub plain : written.Expr → Plain
plain (written.Number value) = Literal value
plain (written.Name name) = Word name
plain _ = Other

abbrev pub plains : written.Exprs → List Plain
plains written.NoExpr = []
plains (written.MoreExprs first rest) = plain first ∷ plains rest

-- the first of some, the second, the third, and the last
abbrev pub first_of : List Plain → Option Plain
first_of [] = None
first_of (x ∷ xs) = Some x

abbrev pub second_plain : List Plain → Option Plain
second_plain [] = None
second_plain (x ∷ xs) = first_of xs

abbrev pub third_plain : List Plain → Option Plain
third_plain [] = None
third_plain (x ∷ xs) = second_plain xs

abbrev pub last_or : Option Plain → List Plain → Option Plain
last_or last [] = last
last_or last (x ∷ xs) = last_or (Some x) xs

-- the number that an argument is
abbrev pub number_in : Option Plain → Option ℕ
number_in (Some (Literal value)) = value
number_in _ = None

-- the name that an argument is
abbrev pub name_in : Option Plain → Option (List ℕ)
name_in (Some (Word name)) = Some name
name_in _ = None

-- the argument is a name, and it is this name
abbrev pub is_name : List ℕ → Option (List ℕ) → Bool
is_name name (Some other) = bytes_eq other name
is_name name None = false

-- the argument is the number 0, or another number
abbrev pub is_zero : Option Plain → Bool
is_zero (Some (Literal (Some n))) = n == 0
is_zero _ = false

abbrev pub is_other_than_zero : Option Plain → Bool
is_other_than_zero (Some (Literal (Some n))) = not (n == 0)
is_other_than_zero _ = false

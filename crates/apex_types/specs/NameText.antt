-- The form of a name.
use Rattle.std.specs.Prelude.{ℕ, List, [], ◌∷◌, length, ◌+◌, Bool, false, ◌&&◌, ◌||◌, ◌==◌, nat_le}
use Rattle.std.specs.List.{list_all}
use Rattle.apex_types.specs.Limits.{MOST_NAME_BYTES}

abbrev pub is_lower_case : ℕ → Bool
is_lower_case c = nat_le 97 c && nat_le c 122

-- a lower-case letter, a digit or `_`
abbrev pub is_name_byte : ℕ → Bool
is_name_byte c = is_lower_case c || (nat_le 48 c && nat_le c 57) || (c == 95)

-- a lower-case letter, then lower-case letters, digits or `_`, no more than fit
abbrev pub is_name : List ℕ → Bool
is_name [] = false
is_name (c ∷ cs) = is_lower_case c && list_all is_name_byte cs && nat_le (length cs + 1) MOST_NAME_BYTES

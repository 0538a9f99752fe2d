-- Texts as bytes: whether two are the same, what is at the front of a text, and the number that
-- digits spell.
use Rattle.std.specs.Prelude.{ℕ, ◌+◌, ◌-◌, ◌*◌, ◌&&◌, nat_eq, nat_le, Bool, List, take, fold}
use Rattle.std.specs.List.{prefix_len}
use Rattle.std.specs.Cmp.Lexicographic.{pointwise}

abbrev pub same : List ℕ → List ℕ → Bool
same a b = pointwise nat_eq a b

abbrev pub is_digit : ℕ → Bool
is_digit b = nat_le 48 b && nat_le b 57

-- the longest front of bytes that pass the test, and what follows it
abbrev pub front : (ℕ → Bool) → List ℕ → List ℕ
front p bs = take (prefix_len p bs) bs

-- the number of these digits, and the number if it is at most 2^63 - 1
unfoldable pub decimal_value : List ℕ → ℕ
decimal_value ds = fold (λ n d. n * 10 + (d - 48)) 0 ds

-- A place of a text: its line and its column, by what is before it.
use Rattle.std.specs.Prelude.{ℕ, ◌+◌, ◌-◌, ◌^◌, min, Bool, not, ◌||◌, nat_eq, nat_lt, List, count_by, drop, length, reverse}
use Rattle.std.specs.List.{prefix_len}

abbrev pub is_feed : ℕ → Bool
is_feed byte = nat_eq byte 10

abbrev pub is_no_feed : ℕ → Bool
is_no_feed byte = not (nat_eq byte 10)

-- the byte begins a character of UTF-8; the others go on with one
abbrev pub is_start : ℕ → Bool
is_start byte = nat_lt byte 128 || nat_lt 191 byte

-- counted from 1
abbrev pub line_of : List ℕ → ℕ
line_of before = min (count_by is_feed before + 1) (2 ^ 64 - 1)

-- how many bytes follow the last line feed
abbrev pub behind_feed : List ℕ → ℕ
behind_feed text = prefix_len is_no_feed (reverse text)

-- the text after the last line feed
abbrev pub last_line : List ℕ → List ℕ
last_line text = drop (length text - behind_feed text) text

-- in characters, counted from 1
abbrev pub column_of : List ℕ → ℕ
column_of before = min (count_by is_start (last_line before) + 1) (2 ^ 64 - 1)

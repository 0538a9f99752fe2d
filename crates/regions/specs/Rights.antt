-- The regions by their numbers, and the rights to the words of each.
use Rattle.std.specs.Prelude.{ℕ, ◌+◌, nat_eq, if◌then◌else◌, Option, Some, None, Bool, true, false}
use Rattle.regions.specs.declared.region.Region.{Region}
use Rattle.regions.specs.declared.region.Region.TheVariants.{Code, Data, Stack}

-- 0 is the code, 1 the data, 2 the current runner's own stack
abbrev pub number_of : Region → ℕ
number_of Code = 0
number_of Data = 1
number_of Stack = 2

abbrev pub region_at : ℕ → Option Region
region_at number =
    if nat_eq number 0 then Some Code
    else if nat_eq number 1 then Some Data
    else if nat_eq number 2 then Some Stack
    else None

-- a right is a bit
abbrev pub read : ℕ
read = 1

abbrev pub write : ℕ
write = 2

abbrev pub execute : ℕ
execute = 4

-- the code may only be executed; the data and the own stack may be read and written
abbrev pub rights_of : Region → ℕ
rights_of Code = execute
rights_of Data = read + write
rights_of Stack = read + write

abbrev pub is_readable : Region → Bool
is_readable Code = false
is_readable _ = true

abbrev pub is_writable : Region → Bool
is_writable Code = false
is_writable _ = true

-- Sums, differences and multiples of lengths. A length stays below 2^64 tenths of a pixel.
use Rattle.std.specs.Prelude.{ℕ, ◌+◌, ◌-◌, ◌*◌, ◌/◌, ◌^◌, min}
use Rattle.trace_picture.specs.declared.length.Length.{Length}

-- `n` tenths of a pixel
abbrev pub tenths : ℕ → Length
tenths n = record { 0 = n }

-- the place `far` after a place
abbrev pub behind : Length → Length → Length
behind place far = tenths (min (place.0 + far.0) (2 ^ 64 - 1))

-- the place `far` before a place, and 0 if that is further
abbrev pub before : Length → Length → Length
before place far = tenths (place.0 - far.0)

abbrev pub times_of : Length → ℕ → Length
times_of length count = tenths (min (length.0 * count) (2 ^ 64 - 1))

abbrev pub half_of : Length → Length
half_of length = tenths (length.0 / 2)

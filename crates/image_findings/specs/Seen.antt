-- Where a fault of an image was seen, by the verdicts on the beginnings of its bytes.
use Rattle.std.specs.Prelude.{◌≡◌, ℕ, ◌+◌, Bool, true, false, List, [], ◌∷◌, ◌++◌, Option, Some, None, Result, Ok, Err, take}
use Rattle.machine_meaning.specs.Image.{Image}
use Rattle.machine_meaning.specs.ImageReading.{Fault, Truncated, Foreign, Limit, Order, Trailing, image_at}

abbrev pub is_truncated : Result Image Fault → Bool
is_truncated (Ok image) = false
is_truncated (Err Truncated) = true
is_truncated (Err Foreign) = false
is_truncated (Err Limit) = false
is_truncated (Err Order) = false
is_truncated (Err Trailing) = false

abbrev pub is_trailing : Result Image Fault → Bool
is_trailing (Ok image) = false
is_trailing (Err Truncated) = false
is_trailing (Err Foreign) = false
is_trailing (Err Limit) = false
is_trailing (Err Order) = false
is_trailing (Err Trailing) = true

-- the result of a test of how bytes are read, by their fault; without a fault, since memory ran out, there is no result
abbrev pub IsAnswer : (Result Image Fault → Bool) → Option Fault → Bool → Type 0
IsAnswer test None answer = ⊥
IsAnswer test (Some fault) answer = answer ≡ test (Err fault)

-- the first n bytes end within a field
abbrev pub is_cut : ℕ → List ℕ → Bool
is_cut n bytes = is_truncated (image_at (take n bytes))

-- With the byte at this place a field came to its end which is the last one, or wrong: the bytes before it end within a
-- field, and with it they do not.
abbrev pub IsSeenAt : ℕ → List ℕ → Type 0
IsSeenAt place bytes = (is_cut place bytes ≡ true) × (is_cut (place + 1) bytes ≡ false)

-- a byte more would be one too many: all fields are there, each within its limit
abbrev pub has_all_fields : List ℕ → Bool
has_all_fields bytes = is_trailing (image_at (bytes ++ 0 ∷ []))

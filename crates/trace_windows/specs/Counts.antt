-- The ticks that were counted.
use Rattle.std.specs.Prelude.{◌≡◌, ℕ, zero, suc, ◌+◌, ◌-◌, ◌^◌, min, Bool, true, false, if◌then◌else◌, List, [], ◌∷◌, Option, Some, None}
use Rattle.trace_windows.specs.Uses.{is_at, is_idle_at, is_same, place_of_use}
use Rattle.trace_windows.specs.declared.counted.Row.{Row}
use Rattle.trace_windows.specs.declared.usage.Use.{Use}

-- the greatest number of 64 bits stays
abbrev pub capped : ℕ → ℕ
capped n = min n (2 ^ 64 - 1)

-- this many more
abbrev pub with_more : ℕ → ℕ → ℕ
with_more zero x = x
with_more (suc n) x = capped (x + suc n)

-- the ticks of the row that has this use; none without one
unfoldable pub ticks_for : Use → List Row → ℕ
ticks_for u [] = 0
ticks_for u (r ∷ rs) = if is_same r.used u then r.ticks else ticks_for u rs

-- the ticks of all rows of the partition at this place
unfoldable pub ticks_at : ℕ → List Row → ℕ
ticks_at place [] = 0
ticks_at place (r ∷ rs) = (if is_at place (place_of_use r.used) then r.ticks else 0) + ticks_at place rs

-- the idle ticks among them
unfoldable pub idle_at : ℕ → List Row → ℕ
idle_at place [] = 0
idle_at place (r ∷ rs) = (if is_idle_at place r.used then r.ticks else 0) + idle_at place rs

-- the ticks of all rows
unfoldable pub all_ticks : List Row → ℕ
all_ticks [] = 0
all_ticks (r ∷ rs) = r.ticks + all_ticks rs

-- In all, `n` more ticks are counted.
abbrev pub HasTotal : ℕ → List Row → List Row → Type 0
HasTotal n old new = capped (all_ticks new) ≡ capped (all_ticks old + n)

abbrev pub if_same : Bool → ℕ → ℕ
if_same true n = n
if_same false n = 0

-- `n` more ticks are counted for this use, and none for any other.
abbrev pub HasMore : Use → ℕ → List Row → List Row → Type 0
HasMore used n old new = (u : Use) → ticks_for u new ≡ with_more (if_same (is_same used u) n) (ticks_for u old)

-- the place of the first row with this use, where the first of these has the place n
unfoldable pub row_from : ℕ → Use → List Row → Option ℕ
row_from n used [] = None
row_from n used (r ∷ rs) = if is_same r.used used then Some n else row_from (n + 1) used rs

-- `n` more ticks in the row at a place
abbrev pub with_ticks : ℕ → Row → Row
with_ticks n r = record r { ticks = capped (r.ticks + n) }

abbrev pub with_more_at : ℕ → ℕ → List Row → List Row
with_more_at place n [] = []
with_more_at zero n (r ∷ rs) = with_ticks n r ∷ rs
with_more_at (suc place) n (r ∷ rs) = r ∷ with_more_at place n rs

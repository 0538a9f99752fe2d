-- Ticks that follow one another and have one owner.
use Rattle.std.specs.Prelude.{◌≡◌, ℕ, ◌≤◌, ◌<◌, ◌==◌, Bool, false, List, [], ◌∷◌, Option, Some, None, option_map}
use Rattle.apex_types.specs.Places.{place_of_number}
use Rattle.apex_types.specs.declared.identity.PartitionId.{PartitionId}
use Rattle.trace_windows.specs.declared.stretch.Stretch.{Stretch}

-- the number of the partition in whose window they are
abbrev pub owner_of : Stretch → Option ℕ
owner_of s = option_map (λ p. p.0) s.owner

-- The stretches are the ticks from `from` on and before `until`, one after another, and each of them has one owner.
abbrev pub AreStretches : (ℕ → Option ℕ) → (from until : ℕ) → List Stretch → Type 0
AreStretches owner from until [] = from ≡ until
AreStretches owner from until (s ∷ ss) =
    (s.span.from.0 ≡ from) × (from < s.span.until.0) × ((t : ℕ) → from ≤ t → t < s.span.until.0 → owner t ≡ owner_of s) × AreStretches owner s.span.until.0 until ss

-- whether they are in a window of the partition at this place of the module table
abbrev pub is_at : ℕ → Option ℕ → Bool
is_at place None = false
is_at place (Some other) = other == place

abbrev pub is_of : ℕ → Option PartitionId → Bool
is_of place None = false
is_of place (Some p) = is_at place (place_of_number p.0)

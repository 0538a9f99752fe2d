-- A list for each priority, the highest first, and the marks of those that are not empty.
use Rattle.std.specs.Prelude.{◌≡◌, ◌<◌, ℕ, suc, ◌+◌, ◌*◌, List, [], ◌∷◌, ◌++◌, Option, Some, None, slice_index}
use Rattle.std.specs.Int.{bit_at}
use Rattle.apex_types.specs.declared.limits.TheConstants.{MARK_BITS}
use Rattle.apex_types.specs.declared.process.Entry.{Entry}
use Rattle.kernel_meaning.specs.Queues.{list_in}

-- all lists, one after another
abbrev pub in_order : List (List Entry) → List Entry
in_order [] = []
in_order (l ∷ ls) = l ++ in_order ls

-- the list of level k has only entries of priority 255 - k
abbrev pub AreOfLevel : ℕ → List Entry → Type 0
AreOfLevel k [] = Unit {0}
AreOfLevel k (e ∷ es) = (e.priority.0 + k ≡ 255) × AreOfLevel k es

abbrev pub AreLevels : ℕ → List (List Entry) → Type 0
AreLevels k [] = Unit {0}
AreLevels k (l ∷ ls) = AreOfLevel k l × AreLevels (suc k) ls

-- ---- marks

abbrev pub one_if_any : List Entry → ℕ
one_if_any [] = 0
one_if_any (e ∷ es) = 1

-- bit b of word w is set if the list of level 64 * w + b is not empty
abbrev pub AreMarked : List ℕ → List (List Entry) → Type 0
AreMarked marks lists = (w b : ℕ) → b < MARK_BITS → bit_at (slice_index marks w) b ≡ one_if_any (list_in lists (MARK_BITS * w + b))

-- the lowest bit that is set
pub record IsLowest (marks : List ℕ) (level : ℕ) : Type 0 where
  pub word : ℕ
  pub bit : ℕ
  pub is : level ≡ MARK_BITS * word + bit
  pub below : bit < MARK_BITS
  pub set : bit_at (slice_index marks word) bit ≡ 1
  pub lowest : (w b : ℕ) → b < MARK_BITS → MARK_BITS * w + b < level → bit_at (slice_index marks w) b ≡ 0

abbrev pub IsFirstMark : List ℕ → Option ℕ → Type 0
IsFirstMark marks None = (w b : ℕ) → b < MARK_BITS → bit_at (slice_index marks w) b ≡ 0
IsFirstMark marks (Some level) = IsLowest marks level

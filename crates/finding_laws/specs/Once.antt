-- The one byte with which an image does not end within a field any more.
use Rattle.std.specs.Prelude.{◌≡◌, ◌<◌, ℕ, List, length}
use Rattle.image_findings.specs.Seen.{IsSeenAt}

-- it is at this place, and at no other one
pub record IsSeenOnce (bytes : List ℕ) : Type 0 where
  pub place : ℕ
  pub within : place < length bytes
  pub seen : IsSeenAt place bytes
  pub alone : (other : ℕ) → IsSeenAt other bytes → other ≡ place

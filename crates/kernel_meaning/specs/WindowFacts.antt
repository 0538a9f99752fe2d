-- Facts of lawful windows: at most one holds a tick, at most one ends at it, and which tick is the
-- next release.
use Rattle.std.specs.Prelude.{◌≡◌, ℕ, ◌<◌, ◌≤◌, Bool, false, ◌&&◌, ◌==◌, nat_le, IsTrue, List, Some, slice_get}
use Rattle.std.specs.List.{list_any}
use Rattle.apex_types.specs.declared.identity.At.{At}
use Rattle.apex_types.specs.declared.row.WindowRow.{WindowRow}
use Rattle.kernel_meaning.specs.Windows.{Schedule, at_tick, ended, ends_at, is_within, owner, phase, releases}

-- A window holds a tick: it holds the tick's place in its frame.
abbrev pub Holds : Schedule → At → WindowRow → Type 0
Holds s at w = IsTrue (is_within (phase s at) w)

-- A window ends at a tick, so that its last tick was the one before. At the origin itself none ends.
abbrev pub Ends : Schedule → At → WindowRow → Type 0
Ends s at w = (at.origin.0 < at.now.0) × IsTrue (ends_at s.frame (phase s at) w)

-- At most one of these windows has the property: two that have it are at the same place.
abbrev pub AtMostOne : (WindowRow → Type 0) → List WindowRow → Type 0
AtMostOne IsSo windows = (i j : ℕ) (v w : WindowRow) → slice_get windows i ≡ Some v → slice_get windows j ≡ Some w → IsSo v → IsSo w → i ≡ j

-- At most one window holds the tick, and the partition of the window that holds it owns it.
pub record HasOneOwner (s : Schedule) (at : At) : Type 0 where
  pub window : AtMostOne (Holds s at) s.windows
  pub owner : (i : ℕ) (w : WindowRow) → slice_get s.windows i ≡ Some w → Holds s at w → owner s at ≡ Some w.partition.0

-- At most one window ends at the tick, and it belongs to the partition whose window has ended.
pub record HasOneEnd (s : Schedule) (at : At) : Type 0 where
  pub window : AtMostOne (Ends s at) s.windows
  pub ended : (i : ℕ) (w : WindowRow) → slice_get s.windows i ≡ Some w → Ends s at w → ended s at ≡ Some w.partition.0

-- whether a release window of the partition starts at a tick
abbrev pub is_release : Schedule → (partition : ℕ) → At → Bool
is_release s partition at = list_any (λ w. releases partition w && (w.offset == phase s at)) s.windows

-- The next release of a partition after a tick: the least later tick at which one of its release
-- windows starts.
pub record IsNextRelease (s : Schedule) (partition : ℕ) (at : At) (next : ℕ) : Type 0 where
  pub later : at.now.0 < next
  pub starts : IsTrue (is_release s partition (at_tick at next))
  pub least : (u : ℕ) → at.now.0 < u → IsTrue (is_release s partition (at_tick at u)) → next ≤ u

-- whether a window begins past the frame
abbrev pub begins_late : ℕ → WindowRow → Bool
begins_late frame w = nat_le frame w.offset

-- Every window begins within the frame.
abbrev pub BeginWithin : ℕ → List WindowRow → Type 0
BeginWithin frame windows = list_any (begins_late frame) windows ≡ false

-- The major frame and its windows: whose tick it is, whose window ends, and the next release. The
-- frames follow one another from the origin on, the tick of the last start of the module.
use Rattle.std.specs.Prelude.{ℕ, ◌+◌, ◌-◌, ◌%◌, min, Bool, ◌&&◌, ◌==◌, nat_le, nat_lt, if◌then◌else◌, List, [], ◌∷◌, Option, None, option_map, find, filter}
use Rattle.std.specs.List.{list_any}
use Rattle.apex_types.specs.declared.identity.At.{At}
use Rattle.apex_types.specs.declared.row.WindowRow.{WindowRow}

-- the ticks of the major frame, and its windows in the order of the table
pub record Schedule : Type 0 where
  pub frame : ℕ
  pub windows : List WindowRow

-- the windows of one partition
abbrev pub schedule_of_partition : ℕ → Schedule → Schedule
schedule_of_partition number s = record s { windows = filter (λ w. w.partition.0 == number) s.windows }

-- a tick, with the origin
abbrev pub tick_from : (origin now : ℕ) → At
tick_from origin now = record { now = record { 0 = now }; origin = record { 0 = origin } }

-- the same origin at another tick
abbrev pub at_tick : At → ℕ → At
at_tick at t = tick_from at.origin.0 t

-- the place of a tick in its frame
abbrev pub phase : Schedule → At → ℕ
phase s at = (at.now.0 - at.origin.0) % s.frame

-- whether a window holds a place of the frame
abbrev pub is_within : ℕ → WindowRow → Bool
is_within place w = nat_le w.offset place && nat_lt place (w.offset + w.length)

-- whether a window ends just before a place of the frame
abbrev pub ends_at : ℕ → ℕ → WindowRow → Bool
ends_at frame place w = (w.offset + w.length) % frame == place

-- The owner of a tick: the partition of the window that holds the tick's place in its frame.
abbrev pub owner : Schedule → At → Option ℕ
owner s at = option_map (λ w. w.partition.0) (find (is_within (phase s at)) s.windows)

-- The partition whose window ends at a tick, so that its last tick was the one before. No window
-- ends at the origin itself.
abbrev pub ended : Schedule → At → Option ℕ
ended s at = if nat_lt at.origin.0 at.now.0 then option_map (λ w. w.partition.0) (find (ends_at s.frame (phase s at)) s.windows) else None

-- whether a window is a release window of a partition
abbrev pub releases : ℕ → WindowRow → Bool
releases partition w = w.release && (w.partition.0 == partition)

-- whether a partition has a release window
abbrev pub has_release : List WindowRow → ℕ → Bool
has_release windows partition = list_any (releases partition) windows

-- how many ticks after a tick, at least one and at most a frame, a window starts next
abbrev pub until_start : Schedule → WindowRow → At → ℕ
until_start s w at = 1 + (w.offset + s.frame - phase s (at_tick at (at.now.0 + 1))) % s.frame

-- the least number of ticks, at most a frame, until one of these windows that is a release window
-- of the partition starts
abbrev pub until_one_of : Schedule → (partition : ℕ) → At → List WindowRow → ℕ
until_one_of s partition at [] = s.frame
until_one_of s partition at (w ∷ ws) = if releases partition w then min (until_start s w at) (until_one_of s partition at ws) else until_one_of s partition at ws

-- The next release of a partition after a tick, if each window begins within the frame: the least
-- later tick at which one of its release windows starts; a frame later for a partition without a
-- release window.
abbrev pub next_release : Schedule → (partition : ℕ) → At → ℕ
next_release s partition at = at.now.0 + until_one_of s partition at s.windows

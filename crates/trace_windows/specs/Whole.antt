-- The windows of a whole trace, as a picture and a dump have them.
use Rattle.std.specs.Prelude.{◌≡◌, ◌≤◌, ◌<◌, ℕ, ◌&&◌, min, nat_le, nat_lt, if◌then◌else◌, List, [], ◌∷◌, Option, Some, None}
use Rattle.apex_types.specs.Limits.{MOST_TICKS}
use Rattle.apex_types.specs.declared.event.Event.{Event}
use Rattle.apex_types.specs.declared.identity.Ticks.{Ticks}
use Rattle.kernel_meaning.specs.Windows.{Schedule}
use Rattle.trace_windows.specs.Frames.{at_first, owner_in, with_line}
use Rattle.trace_windows.specs.Read.{HasPassed, frames_of, next_behind, next_with}
use Rattle.trace_windows.specs.Runs.{AreInOrder}
use Rattle.trace_windows.specs.Stretches.{owner_of}
use Rattle.trace_windows.specs.declared.stretch.Stretch.{Stretch}
use Rattle.trace_windows.specs.declared.windows.Windows.{Windows}
use Rattle.window_table.specs.Schedules.{schedule_of}

-- ---- before the first line, after each, and in the end

-- where the ticks that are shown end: no run goes further
abbrev pub end_in_run : Option Ticks → ℕ
end_in_run None = MOST_TICKS
end_in_run (Some to) = min to.0 MOST_TICKS

-- no line was read, of a module with this schedule and these partitions, and the ticks from this one on are shown
pub record HasBegun (schedule : Schedule) (names : List (List ℕ)) (from : ℕ) (to : Option Ticks) (w : Windows) : Type 0 where
  pub frames : frames_of w ≡ at_first
  pub planned : schedule_of w.schedule ≡ schedule
  pub named : w.names.items ≡ names
  pub next : w.next.0 ≡ from
  pub end : w.to.0 ≡ end_in_run to
  pub stretches : w.stretches.items ≡ []

-- the schedule, the partitions and the end stay
pub record AreKept (old new : Windows) : Type 0 where
  pub schedule : new.schedule ≡ old.schedule
  pub names : new.names ≡ old.names
  pub to : new.to ≡ old.to

-- a line was read
pub record HasRead (e : Event) (old new : Windows) : Type 0 where
  pub kept : AreKept old new
  pub frames : frames_of new ≡ with_line e (frames_of old)
  pub next : new.next.0 ≡ next_with e old
  pub passed : HasPassed old new

-- the stretches up to a tick were added, and no line follows
pub record HasClosed (t : ℕ) (old new : Windows) : Type 0 where
  pub kept : AreKept old new
  pub next : new.next.0 ≡ next_behind old t
  pub passed : HasPassed old new

-- ---- a tick

-- the partition of the stretch that has a tick; none in no stretch
abbrev pub owner_at : ℕ → List Stretch → Option ℕ
owner_at t [] = None
owner_at t (s ∷ ss) = if nat_le s.span.from.0 t && nat_lt t s.span.until.0 then owner_of s else owner_at t ss

-- The windows of a trace with these lines: each tick from one on and before the other is in the window that the lines lead to, if they are in the order of
-- their ticks.
pub record AreWindowsOf (schedule : Schedule) (names : List (List ℕ)) (from until : ℕ) (events : List Event) (w : Windows) : Type 0 where
  pub named : w.names.items ≡ names
  pub owners : AreInOrder 0 events → (t : ℕ) → from ≤ t → t < until → t < MOST_TICKS → owner_at t w.stretches.items ≡ owner_in schedule at_first events t

-- ---- the same, if the windows are known: their schedule, and the names of the partitions

abbrev pub HaveBegun : Option (Schedule × List (List ℕ)) → (from : ℕ) → Option Ticks → Option Windows → Type 0
HaveBegun None from to None = Unit {0}
HaveBegun (Some known) from to (Some w) = HasBegun known.0 known.1 from to w
HaveBegun _ from to _ = ⊥

abbrev pub HaveRead : Event → Option Windows → Option Windows → Type 0
HaveRead e None None = Unit {0}
HaveRead e (Some old) (Some new) = HasRead e old new
HaveRead e _ _ = ⊥

abbrev pub HaveReadAll : List Event → Option Windows → Option Windows → Type 0
HaveReadAll [] old new = new ≡ old
HaveReadAll (e ∷ es) old new = (mid : Option Windows) × HaveRead e old mid × HaveReadAll es mid new

abbrev pub HaveClosed : ℕ → Option Windows → Option Windows → Type 0
HaveClosed t None None = Unit {0}
HaveClosed t (Some old) (Some new) = HasClosed t old new
HaveClosed t _ _ = ⊥

abbrev pub AreWindowsIn : Option (Schedule × List (List ℕ)) → (from until : ℕ) → List Event → Option Windows → Type 0
AreWindowsIn None from until events None = Unit {0}
AreWindowsIn (Some known) from until events (Some w) = AreWindowsOf known.0 known.1 from until events w
AreWindowsIn _ from until events _ = ⊥

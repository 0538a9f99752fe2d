-- What the processor does in a tick, by its windows and by the lines of its trace.
use Rattle.std.specs.Prelude.{ℕ, zero, suc, ◌+◌, Bool, true, false, ◌==◌, ◌&&◌, if◌then◌else◌, nat_lt, List, [], ◌∷◌, Option, Some, None}
use Rattle.apex_types.specs.Line.{subject_text}
use Rattle.apex_types.specs.Places.{place_of_number}
use Rattle.apex_types.specs.declared.event.Event.{Event}
use Rattle.apex_types.specs.declared.event.Subject.{Subject}
use Rattle.apex_types.specs.declared.identity.PartitionId.{PartitionId}
use Rattle.engine_meaning.specs.Digits.{same}
use Rattle.kernel_meaning.specs.Windows.{Schedule, owner, tick_from}
use Rattle.trace_windows.specs.Standings.{Standing, in_run, passed, running_at, with_line}
use Rattle.trace_windows.specs.declared.owner.Stop.{Stop}
use Rattle.trace_windows.specs.declared.usage.Use.{Use}
use Rattle.trace_windows.specs.declared.usage.Use.TheVariants.{Process, Idle, Unowned, Down}

-- ---- one tick

-- the last of the processes of the partition at this place that stopped, or else the one given
unfoldable pub last_from : Option Subject → ℕ → List Stop → Option Subject
last_from found place [] = found
last_from found place (s ∷ ss) = last_from (if s.place == place then Some s.who else found) place ss

-- The process that works in a tick of its partition: the process that is RUNNING after the tick's lines or, without one, the
-- last that stopped in it.
abbrev pub or_stopped : Option Subject → Option Subject → Option Subject
or_stopped None other = other
or_stopped (Some who) other = Some who

abbrev pub works_at : ℕ → Standing → Option Subject
works_at place s = or_stopped (running_at place s.owners) (last_from None place s.stopped)

abbrev pub partition : ℕ → PartitionId
partition p = record { 0 = p }

abbrev pub use_by : ℕ → Option Subject → Use
use_by p None = Idle (partition p)
use_by p (Some who) = Process (partition p) who

-- partitions are numbered from 1
abbrev pub use_in : ℕ → Standing → Use
use_in zero s = Idle (partition 0)
use_in (suc place) s = use_by (suc place) (works_at place s)

abbrev pub use_of_owner : Option ℕ → Standing → Use
use_of_owner None s = Unowned
use_of_owner (Some p) s = use_in p s

abbrev pub use_if : Bool → Option ℕ → Standing → Use
use_if true owner s = Down
use_if false owner s = use_of_owner owner s

-- in a tick of the last lines
abbrev pub use_at : Schedule → Standing → ℕ → Use
use_at schedule s t = use_if s.is_down (owner schedule (tick_from s.origin t)) s

-- in that tick or in a later one, before the next line
abbrev pub use_from : Schedule → Standing → ℕ → Use
use_from schedule s t = use_at schedule (passed t s) t

-- ---- all ticks

-- in a tick of a run with these lines, from `s` on
abbrev pub use_of : Schedule → Standing → List Event → ℕ → Use
use_of schedule s [] t = use_from schedule s t
use_of schedule s (e ∷ es) t = if nat_lt t (in_run e.tick.0) then use_from schedule s t else use_of schedule (with_line e s) es t

-- ---- how often

abbrev pub is_same : Use → Use → Bool
is_same (Process p who) (Process q whom) = (p.0 == q.0) && same (subject_text who) (subject_text whom)
is_same (Idle p) (Idle q) = p.0 == q.0
is_same Unowned Unowned = true
is_same Down Down = true
is_same _ _ = false

-- the place of the partition in whose window the tick was
abbrev pub place_of_use : Use → Option ℕ
place_of_use (Process p who) = place_of_number p.0
place_of_use (Idle p) = place_of_number p.0
place_of_use Unowned = None
place_of_use Down = None

abbrev pub is_at : ℕ → Option ℕ → Bool
is_at place None = false
is_at place (Some other) = other == place

abbrev pub is_idle_at : ℕ → Use → Bool
is_idle_at place (Idle p) = is_at place (place_of_number p.0)
is_idle_at place _ = false

abbrev pub one_if : Bool → ℕ
one_if true = 1
one_if false = 0

-- how many of the first `n` ticks from one on are used so
abbrev pub ticks_used : (ℕ → Use) → Use → (from n : ℕ) → ℕ
ticks_used used u from zero = 0
ticks_used used u from (suc n) = ticks_used used u from n + one_if (is_same (used (from + n)) u)

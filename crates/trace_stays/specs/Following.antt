-- The states of processes and the modes of partitions after the lines of a trace.
use Rattle.std.specs.Prelude.{◌≡◌, ◌⊎◌, ℕ, zero, suc, ◌+◌, ◌≤◌, Bool, true, false, ◌==◌, ◌&&◌, if◌then◌else◌, List, [], ◌∷◌, ◌++◌, length, Option, Some, None, slice_get}
use Rattle.apex_types.specs.Line.{subject_text}
use Rattle.apex_types.specs.declared.codes.Mode.{Mode}
use Rattle.apex_types.specs.declared.event.Event.{Event}
use Rattle.apex_types.specs.declared.event.EventKind.{EventKind}
use Rattle.apex_types.specs.declared.event.EventKind.TheVariants as event
use Rattle.apex_types.specs.declared.event.Subject.{Subject}
use Rattle.engine_meaning.specs.Digits.{same}
use Rattle.trace_stays.specs.Clearing.{clears, resets, starts_again}
use Rattle.trace_stays.specs.Stays.{held_behind, mode_behind, mode_ended, stay_ended, stay_left}
use Rattle.trace_stays.specs.declared.lanes.Ended.{Ended}
use Rattle.trace_stays.specs.declared.lanes.Ended.TheVariants as ended
use Rattle.trace_stays.specs.declared.lanes.Lanes.{Lanes}
use Rattle.trace_stays.specs.declared.lanes.PartitionLane.{PartitionLane}
use Rattle.trace_stays.specs.declared.lanes.ProcessLane.{ProcessLane}
use Rattle.trace_stays.specs.declared.stay.Held.{Held}
use Rattle.trace_stays.specs.declared.stay.HeldMode.{HeldMode}
use Rattle.trace_stays.specs.declared.stay.ModeStay.{ModeStay}
use Rattle.trace_stays.specs.declared.next.Next.{Next}
use Rattle.trace_stays.specs.declared.next.Next.TheVariants.{Enters, Gone, Cleared}
use Rattle.trace_stays.specs.declared.stay.Stay.{Stay}

-- ---- what a line changes. A process is named by its partition's name and its own word.

abbrev pub is_of : List ℕ → Option (List ℕ) → Bool
is_of name None = false
is_of name (Some partition) = same partition name

abbrev pub next_if : Bool → Next → Option Next
next_if true next = Some next
next_if false next = None

-- where a line of its partition says that a process goes
abbrev pub next_in : EventKind → List ℕ → Option Next
next_in (event.State who state) word = next_if (same (subject_text who) word) (Enters state)
next_in (event.Mode m) word = next_if (starts_again m) Gone
next_in (event.Error error who answer) word = next_if (clears error answer) Cleared
next_in _ word = None

-- where a line of the module says that all processes go
abbrev pub next_of_all : EventKind → Option Next
next_of_all (event.Error error who answer) = next_if (resets answer) Cleared
next_of_all _ = None

abbrev pub next_by : Option (List ℕ) → EventKind → (name word : List ℕ) → Option Next
next_by None kind name word = next_of_all kind
next_by (Some partition) kind name word = if same partition name then next_in kind word else None

-- the state that a process holds behind such a line, and the stay that the line ends
abbrev pub held_with : Option Next → ℕ → Option Held → Option Held
held_with None t held = held
held_with (Some next) t held = held_behind held next t

abbrev pub stay_with : Option Next → ℕ → Option Held → Option Stay
stay_with None t held = None
stay_with (Some next) t held = stay_ended held next t

abbrev pub state_behind : Option (List ℕ) → EventKind → ℕ → List ℕ → List ℕ → Option Held → Option Held
state_behind partition kind t name word held = held_with (next_by partition kind name word) t held

abbrev pub stay_over : Option (List ℕ) → EventKind → ℕ → List ℕ → List ℕ → Option Held → Option Stay
stay_over partition kind t name word held = stay_with (next_by partition kind name word) t held

-- the mode of a partition after a line
abbrev pub mode_in : EventKind → ℕ → Option HeldMode → Option HeldMode
mode_in (event.Mode m) t held = mode_behind held m t
mode_in _ t held = held

abbrev pub mode_after : Option (List ℕ) → EventKind → ℕ → List ℕ → Option HeldMode → Option HeldMode
mode_after partition kind t name held = if is_of name partition then mode_in kind t held else held

-- the stay in a mode that a line ends
abbrev pub mode_stay_in : EventKind → ℕ → Option HeldMode → Option ModeStay
mode_stay_in (event.Mode m) t held = mode_ended held t
mode_stay_in _ t held = None

abbrev pub mode_stay_over : Option (List ℕ) → EventKind → ℕ → List ℕ → Option HeldMode → Option ModeStay
mode_stay_over partition kind t name held = if is_of name partition then mode_stay_in kind t held else None

-- ---- the places of a process and of a partition

-- the place of the first of these that passes the test, where the first one has the place n
unfoldable pub place_from : {A : Type 0} → ℕ → (A → Bool) → List A → Option ℕ
place_from n test [] = None
place_from n test (x ∷ xs) = if test x then Some n else place_from (n + 1) test xs

abbrev pub has_name : List ℕ → PartitionLane → Bool
has_name name lane = same lane.name name

abbrev pub is_process : ℕ → List ℕ → ProcessLane → Bool
is_process partition word lane = (lane.partition == partition) && same (subject_text lane.who) word

abbrev pub partition_at : List ℕ → List PartitionLane → Option ℕ
partition_at name lanes = place_from 0 (has_name name) lanes

abbrev pub process_in : Option ℕ → List ℕ → List ProcessLane → Option ℕ
process_in None word lanes = None
process_in (Some partition) word lanes = place_from 0 (is_process partition word) lanes

abbrev pub process_at : List ℕ → List ℕ → Lanes → Option ℕ
process_at name word l = process_in (partition_at name l.partitions.items) word l.processes.items

-- ---- what they hold

abbrev pub held_in : Option ProcessLane → Option Held
held_in None = None
held_in (Some lane) = lane.watch.held

abbrev pub held_at : Option ℕ → List ProcessLane → Option Held
held_at None lanes = None
held_at (Some place) lanes = held_in (slice_get lanes place)

-- the state that a process holds
abbrev pub held_by : List ℕ → List ℕ → Lanes → Option Held
held_by name word l = held_at (process_at name word l) l.processes.items

abbrev pub mode_held : Option PartitionLane → Option HeldMode
mode_held None = None
mode_held (Some lane) = lane.watch.held

abbrev pub mode_at : Option ℕ → List PartitionLane → Option HeldMode
mode_at None lanes = None
mode_at (Some place) lanes = mode_held (slice_get lanes place)

-- the mode of a partition
abbrev pub mode_by : List ℕ → Lanes → Option HeldMode
mode_by name l = mode_at (partition_at name l.partitions.items) l.partitions.items

-- ---- the stays that are over

abbrev pub if_at : Bool → Stay → List Stay
if_at true stay = stay ∷ []
if_at false stay = []

-- those of the process at this place
unfoldable pub stays_at : ℕ → List Ended → List Stay
stays_at place [] = []
stays_at place (ended.State other stay ∷ es) = if_at (other == place) stay ++ stays_at place es
stays_at place (ended.Mode other stay ∷ es) = stays_at place es

abbrev pub stays_of : Option ℕ → List Ended → List Stay
stays_of None es = []
stays_of (Some place) es = stays_at place es

abbrev pub if_in : Bool → ModeStay → List ModeStay
if_in true stay = stay ∷ []
if_in false stay = []

-- those of the partition at this place
unfoldable pub mode_stays_at : ℕ → List Ended → List ModeStay
mode_stays_at place [] = []
mode_stays_at place (ended.State other stay ∷ es) = mode_stays_at place es
mode_stays_at place (ended.Mode other stay ∷ es) = if_in (other == place) stay ++ mode_stays_at place es

abbrev pub mode_stays_of : Option ℕ → List Ended → List ModeStay
mode_stays_of None es = []
mode_stays_of (Some place) es = mode_stays_at place es

abbrev pub and_one : {A : Type 0} → Option A → List A
and_one None = []
and_one (Some stay) = stay ∷ []

-- each is of a process or of a partition that is there
pub record AreThere (l : Lanes) (es : List Ended) : Type 0 where
  pub states : (place : ℕ) → length l.processes.items ≤ place → stays_at place es ≡ []
  pub modes : (place : ℕ) → length l.partitions.items ≤ place → mode_stays_at place es ≡ []

-- what has a place keeps it, and what gets a place comes after all that had one
abbrev pub KeepsPlace : ℕ → Option ℕ → Option ℕ → Type 0
KeepsPlace count (Some place) new = new ≡ Some place
KeepsPlace count None None = Unit {0}
KeepsPlace count None (Some place) = count ≤ place

pub record AreInPlace (old new : Lanes) : Type 0 where
  pub process : (name word : List ℕ) → KeepsPlace (length old.processes.items) (process_at name word old) (process_at name word new)
  pub partition : (name : List ℕ) → KeepsPlace (length old.partitions.items) (partition_at name old.partitions.items) (partition_at name new.partitions.items)
  pub processes : length old.processes.items ≤ length new.processes.items
  pub partitions : length old.partitions.items ≤ length new.partitions.items

-- After a line of this partition each process holds the state of the definition, and the stay added for it is the stay that the line ends. The same is true of
-- the modes. Each keeps its place.
pub record HasRead (partition : Option (List ℕ)) (kind : EventKind) (t : ℕ) (old new : Lanes) (before after : List Ended) : Type 0 where
  pub held : (name word : List ℕ) → held_by name word new ≡ state_behind partition kind t name word (held_by name word old)
  pub mode : (name : List ℕ) → mode_by name new ≡ mode_after partition kind t name (mode_by name old)
  pub ended : (name word : List ℕ) → stays_of (process_at name word new) after ≡ stays_of (process_at name word new) before ++ and_one (stay_over partition kind t name word (held_by name word old))
  pub left : (name : List ℕ)
      → mode_stays_of (partition_at name new.partitions.items) after ≡ mode_stays_of (partition_at name new.partitions.items) before ++ and_one (mode_stay_over partition kind t name (mode_by name old))
  pub places : AreInPlace old new
  pub there : AreThere old before → AreThere new after

abbrev pub HasFollowed : Event → Lanes → Lanes → List Ended → List Ended → Type 0
HasFollowed e old new before after = HasRead e.partition e.kind e.tick.0 old new before after

-- each process and each partition is unchanged
pub record AreKept (old new : Lanes) : Type 0 where
  pub held : (name word : List ℕ) → held_by name word new ≡ held_by name word old
  pub mode : (name : List ℕ) → mode_by name new ≡ mode_by name old

-- ---- the changes of the lists

-- what has no state and no mode yet
abbrev pub new_partition : List ℕ → PartitionLane
new_partition name = record { name = name; watch = record { held = None } }

abbrev pub new_process : ℕ → Subject → ProcessLane
new_process partition who = record { partition = partition; who = who; watch = record { held = None } }

-- the partition is at this place; it is the last one if it was not there
abbrev pub HasPartition : List ℕ → List PartitionLane → List PartitionLane → ℕ → Type 0
HasPartition name old new place = ((new ≡ old) × (partition_at name old ≡ Some place)) ⊎ ((partition_at name old ≡ None) × (new ≡ old ++ new_partition name ∷ []) × (place ≡ length old))

abbrev pub HasProcess : ℕ → Subject → List ProcessLane → List ProcessLane → ℕ → Type 0
HasProcess partition who old new place =
    ((new ≡ old) × (process_in (Some partition) (subject_text who) old ≡ Some place))
    ⊎ ((process_in (Some partition) (subject_text who) old ≡ None) × (new ≡ old ++ new_process partition who ∷ []) × (place ≡ length old))

abbrev pub change_at : {A : Type 0} → ℕ → (A → A) → List A → List A
change_at place f [] = []
change_at zero f (x ∷ xs) = f x ∷ xs
change_at (suc place) f (x ∷ xs) = x ∷ change_at place f xs

-- a line says where a process goes
abbrev pub turned : Next → ℕ → ProcessLane → ProcessLane
turned next t lane = record lane { watch = record { held = held_behind lane.watch.held next t } }

abbrev pub entered : Mode → ℕ → PartitionLane → PartitionLane
entered m t lane = record lane { watch = record { held = mode_behind lane.watch.held m t } }

abbrev pub state_over : ℕ → Option Stay → List Ended
state_over place None = []
state_over place (Some stay) = ended.State place stay ∷ []

abbrev pub mode_over : ℕ → Option ModeStay → List Ended
mode_over place None = []
mode_over place (Some stay) = ended.Mode place stay ∷ []

-- the partition at a place, or each
abbrev pub is_among : Option ℕ → ℕ → Bool
is_among None partition = true
is_among (Some one) partition = partition == one

-- the processes of this partition, or of all, go there
abbrev pub gone_from : Option ℕ → Next → ℕ → ProcessLane → ProcessLane
gone_from among next t lane = if is_among among lane.partition then turned next t lane else lane

-- the stay of the process at a place that such a line ends
abbrev pub over_at : ℕ → Next → ℕ → Option ProcessLane → List Ended
over_at place next t None = []
over_at place next t (Some lane) = state_over place (stay_ended lane.watch.held next t)

abbrev pub mode_over_at : ℕ → ℕ → Option PartitionLane → List Ended
mode_over_at place t None = []
mode_over_at place t (Some lane) = mode_over place (mode_ended lane.watch.held t)

unfoldable pub over_with : ℕ → Option ℕ → Next → (t : ℕ) → List ProcessLane → List Ended
over_with n among next t [] = []
over_with n among next t (lane ∷ lanes) = (if is_among among lane.partition then state_over n (stay_ended lane.watch.held next t) else []) ++ over_with (n + 1) among next t lanes

-- ---- where a trace ends

-- the stays of partitions and of processes that are not over, where the first one has the place n
unfoldable pub modes_left : (n until : ℕ) → List PartitionLane → List Ended
modes_left n until [] = []
modes_left n until (lane ∷ lanes) = mode_over n (mode_ended lane.watch.held until) ++ modes_left (n + 1) until lanes

unfoldable pub states_left : (n until : ℕ) → List ProcessLane → List Ended
states_left n until [] = []
states_left n until (lane ∷ lanes) = state_over n (stay_left lane.watch.held until) ++ states_left (n + 1) until lanes

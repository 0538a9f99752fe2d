-- The states of processes and the modes of partitions in a whole trace, by its lines only.
use Rattle.std.specs.Prelude.{◌≡◌, ℕ, List, [], ◌∷◌, ◌++◌, Option, None}
use Rattle.apex_types.specs.declared.event.Event.{Event}
use Rattle.trace_stays.specs.Following.{and_one, held_by, mode_after, mode_by, mode_stay_over, mode_stays_of, partition_at, process_at, state_behind, stay_over, stays_of}
use Rattle.trace_stays.specs.Stays.{mode_ended, stay_left}
use Rattle.trace_stays.specs.declared.lanes.Ended.{Ended}
use Rattle.trace_stays.specs.declared.lanes.Lanes.{Lanes}
use Rattle.trace_stays.specs.declared.stay.Held.{Held}
use Rattle.trace_stays.specs.declared.stay.HeldMode.{HeldMode}
use Rattle.trace_stays.specs.declared.stay.ModeStay.{ModeStay}
use Rattle.trace_stays.specs.declared.stay.Stay.{Stay}

-- ---- a process of a partition

-- the state that it holds after a line, and after these lines
abbrev pub with_line : Event → (name word : List ℕ) → Option Held → Option Held
with_line e name word held = state_behind e.partition e.kind e.tick.0 name word held

abbrev pub state_after : List Event → (name word : List ℕ) → Option Held → Option Held
state_after [] name word held = held
state_after (e ∷ es) name word held = state_after es name word (with_line e name word held)

-- its stays in these lines, the last of which is over where the trace ends
abbrev pub stays_in : List Event → (until : ℕ) → (name word : List ℕ) → Option Held → List Stay
stays_in [] until name word held = and_one (stay_left held until)
stays_in (e ∷ es) until name word held = and_one (stay_over e.partition e.kind e.tick.0 name word held) ++ stays_in es until name word (with_line e name word held)

-- ---- a partition

abbrev pub mode_with_line : Event → List ℕ → Option HeldMode → Option HeldMode
mode_with_line e name held = mode_after e.partition e.kind e.tick.0 name held

abbrev pub mode_behind_all : List Event → List ℕ → Option HeldMode → Option HeldMode
mode_behind_all [] name held = held
mode_behind_all (e ∷ es) name held = mode_behind_all es name (mode_with_line e name held)

abbrev pub modes_in : List Event → (until : ℕ) → List ℕ → Option HeldMode → List ModeStay
modes_in [] until name held = and_one (mode_ended held until)
modes_in (e ∷ es) until name held = and_one (mode_stay_over e.partition e.kind e.tick.0 name held) ++ modes_in es until name (mode_with_line e name held)

-- ---- a trace

-- Each process has the state and the stays that the lines say, and each partition the mode and the stays in modes.
pub record AreStaysOf (events : List Event) (until : ℕ) (l : Lanes) (ended : List Ended) : Type 0 where
  pub held : (name word : List ℕ) → held_by name word l ≡ state_after events name word None
  pub mode : (name : List ℕ) → mode_by name l ≡ mode_behind_all events name None
  pub stays : (name word : List ℕ) → stays_of (process_at name word l) ended ≡ stays_in events until name word None
  pub modes : (name : List ℕ) → mode_stays_of (partition_at name l.partitions.items) ended ≡ modes_in events until name None

-- The numbers of the partitions through a run of their module.
use Rattle.std.specs.Prelude.{◌≡◌, ℕ, ◌==◌, List, [], ◌∷◌, ◌++◌, Option, Some, None, drop, map, slice_get, if◌then◌else◌, ◌↔◌}
use Rattle.apex_types.specs.declared.codes.Discipline.{Discipline}
use Rattle.apex_types.specs.declared.codes.Discipline.TheVariants as discipline
use Rattle.apex_types.specs.declared.device.DeviceLine.{DeviceLine}
use Rattle.apex_types.specs.declared.event.Subject.{Subject}
use Rattle.apex_types.specs.declared.event.Subject.TheVariants.{Process}
use Rattle.apex_types.specs.declared.identity.ListKey.{ListKey}
use Rattle.apex_types.specs.declared.identity.ListKey.TheVariants as key
use Rattle.apex_types.specs.declared.process.Entry.{Entry}
use Rattle.kernel_laws.specs.Choice.{IsAmong}
use Rattle.module_meaning.specs.Table.{at_number}
use Rattle.kernel_meaning.specs.Kernel.{Kernel}
use Rattle.module_meaning.specs.Module.{Module, trace, of_member}
use Rattle.kernel_meaning.specs.Objects.{Semaphore, Buffer}
use Rattle.kernel_meaning.specs.Partition.{Member, due_phase, prepares, spending_phase}
use Rattle.kernel_meaning.specs.Objects.{Port, discipline_of}
use Rattle.kernel_laws.specs.Agreement.{IsReadyAt, record_at}
use Rattle.kernel_laws.specs.History.{Move, Advances, makes, Happening, Moves, Tells, happens, all_happen, members_after}
use Rattle.kernel_laws.specs.Numbers.{Numbers, first_numbers, nobody, places_called}
use Rattle.kernel_laws.specs.OrderLaw.{IsOrdered, GoesOn, ReadyPlaces, TickGoes, kinds, numbered_tick, renumbered}

-- ---- the names and the disciplines of a partition

abbrev pub name_of_subject : Subject → List ℕ
name_of_subject (Process name) = name
name_of_subject _ = []

-- the names of the processes, in the order of the source
abbrev pub names_in : Kernel → List (List ℕ)
names_in k = map (λ r. name_of_subject r.who) (drop 2 k.processes.rows)

abbrev pub semaphore_discipline : Option Semaphore → Discipline
semaphore_discipline None = discipline.Fifo
semaphore_discipline (Some x) = x.row.discipline

abbrev pub buffer_discipline : Option Buffer → Discipline
buffer_discipline None = discipline.Fifo
buffer_discipline (Some x) = x.row.discipline

abbrev pub port_discipline : Option Port → Discipline
port_discipline None = discipline.Fifo
port_discipline (Some x) = discipline_of x.row.kind

-- the discipline of the waiting list of an object or a port; first in, first out for an unknown one
abbrev pub disciplines_in : Kernel → ListKey → Discipline
disciplines_in k (key.Semaphore place) = semaphore_discipline (slice_get k.objects.semaphores place)
disciplines_in k (key.Event place) = discipline.Fifo
disciplines_in k (key.Buffer place) = buffer_discipline (slice_get k.objects.buffers place)
disciplines_in k (key.Blackboard place) = discipline.Fifo
disciplines_in k (key.Port place) = port_discipline (slice_get k.ports.ports place)

abbrev pub no_disciplines : ListKey → Discipline
no_disciplines list = discipline.Fifo

-- the names in the partition with a number
abbrev pub names_of : {C : Type 0} → List (Member C) → ℕ → List (List ℕ)
names_of members p = of_member [] (λ x. names_in x.world.kernel) (at_number members p)

abbrev pub disciplines_of : {C : Type 0} → List (Member C) → ℕ → ListKey → Discipline
disciplines_of members p = of_member no_disciplines (λ x. disciplines_in x.world.kernel) (at_number members p)

-- ---- a move of a partition

-- A move continues the numbers of its partition; only in a tick may anybody go last or begin to
-- wait.
abbrev pub MoveGoes : {C : Type 0} → (ListKey → Discipline) → List (List ℕ) → Numbers → ReadyPlaces → Move → Member C → Type 0
MoveGoes d names n places (Advances at) x = TickGoes d names n places x.engine at x.world
MoveGoes d names n places move x = GoesOn d names nobody n places.rest (makes move x)

-- the numbers after it
abbrev pub numbers_by : {C : Type 0} → ReadyPlaces → Move → Member C → Numbers → Numbers
numbers_by places (Advances at) x n = numbered_tick places x.engine at x.world n
numbers_by places move x n = renumbered nobody places.rest (makes move x) n

-- the places of the processes that its lines call ready, if each has a name of its own
abbrev pub places_by : {C : Type 0} → List (List ℕ) → Move → Member C → ReadyPlaces
places_by names (Advances at) x = record { due = places_called names (kinds (due_phase x.engine at x.world)); rest = places_called names (kinds (spending_phase x.engine at (prepares x.engine at x.world).world)) }
places_by names move x = record { due = []; rest = places_called names (kinds (makes move x)) }

-- the same for the member with a number, if there is such a member
abbrev pub MoveGoesAt : {C : Type 0} → (ListKey → Discipline) → List (List ℕ) → Numbers → ReadyPlaces → Move → Option (Member C) → Type 0
MoveGoesAt d names n places move None = Unit {0}
MoveGoesAt d names n places move (Some x) = MoveGoes d names n places move x

abbrev pub numbers_at : {C : Type 0} → ReadyPlaces → Move → Option (Member C) → Numbers → Numbers
numbers_at places move None n = n
numbers_at places move (Some x) n = numbers_by places move x n

abbrev pub places_at : {C : Type 0} → List (List ℕ) → Move → Option (Member C) → ReadyPlaces
places_at names move None = record { due = []; rest = [] }
places_at names move (Some x) = places_by names move x

-- ---- the partitions of a module

-- the lists of each partition have the order of its numbers
abbrev pub AreOrdered : {C : Type 0} → (ℕ → ListKey → Discipline) → (ℕ → List (List ℕ)) → (ℕ → Numbers) → List (Member C) → Type 0
AreOrdered d names numbers members = (p : ℕ) (x : Member _) → at_number members p ≡ Some x → IsOrdered (d p) (names p) (numbers p) x.world.kernel

-- the partition with this number has these numbers, and all others keep theirs
abbrev pub with_numbers : ℕ → Numbers → (ℕ → Numbers) → ℕ → Numbers
with_numbers p n numbers q = if p == q then n else numbers q

-- In each state of a history the lists of each partition have the order of its numbers, and each
-- move continues those of its partition: some processes become ready in it, and take numbers.
abbrev pub GoThrough : {C : Type 0} → (ℕ → ListKey → Discipline) → (ℕ → List (List ℕ)) → List Happening → (ℕ → Numbers) → List (Member C) → Type 0
GoThrough d names [] numbers members = AreOrdered d names numbers members
GoThrough d names (Tells at action ∷ hs) numbers members = GoThrough d names hs numbers members
GoThrough d names (Moves p move ∷ hs) numbers members =
    AreOrdered d names numbers members
    × ((places : ReadyPlaces)
    × (MoveGoesAt (d p) (names p) (numbers p) places move (at_number members p)
    × GoThrough d names hs (with_numbers p (numbers_at places move (at_number members p) (numbers p)) numbers) (happens (Moves p move) members).state))

-- ---- the numbers that moves give

-- the numbers of all partitions after what happens
abbrev pub numbers_then : {C : Type 0} → (ℕ → List (List ℕ)) → Happening → List (Member C) → (ℕ → Numbers) → ℕ → Numbers
numbers_then names (Tells at action) members numbers = numbers
numbers_then names (Moves p move) members numbers =
    let x = at_number members p in
    with_numbers p (numbers_at (places_at (names p) move x) move x (numbers p)) numbers

-- each in turn
abbrev pub numbers_through : {C : Type 0} → (ℕ → List (List ℕ)) → List Happening → List (Member C) → (ℕ → Numbers) → ℕ → Numbers
numbers_through names [] members numbers = numbers
numbers_through names (h ∷ hs) members numbers = numbers_through names hs (happens h members).state (numbers_then names h members numbers)

-- the numbers in a run of a module, after this much of its history
abbrev pub numbers_in : {C : Type 0} → Module C → List Happening → ℕ → Numbers
numbers_in m history = numbers_through (names_of m.members) history m.members (λ p. first_numbers)

-- ---- a run

-- A run of n ticks is a history, with these states and these lines, and in each state of it the lists are in order.
pub record RunGoes {C : Type 0} (m : Module C) (devices : List DeviceLine) (n : ℕ) : Type 0 where
  pub history : List Happening
  pub members : members_after m devices n ≡ (all_happen history m.members).state
  pub lines : trace m devices n ≡ (all_happen history m.members).lines
  pub order : GoThrough (disciplines_of m.members) (names_of m.members) history (λ p. first_numbers) m.members

-- A run of n ticks is a history, with these states and these lines. In each state of it the lists of each partition have the order of
-- the numbers that the moves up to there give, and the next move continues these: those that its lines call ready take numbers.
pub record RunIsNumbered {C : Type 0} (m : Module C) (devices : List DeviceLine) (n : ℕ) : Type 0 where
  pub history : List Happening
  pub members : members_after m devices n ≡ (all_happen history m.members).state
  pub lines : trace m devices n ≡ (all_happen history m.members).lines
  pub order : (before after : List Happening) → history ≡ before ++ after → AreOrdered (disciplines_of m.members) (names_of m.members) (numbers_in m before) (all_happen before m.members).state
  pub moves : (before after : List Happening) (p : ℕ) (move : Move) → history ≡ before ++ Moves p move ∷ after
      → let x = at_number (all_happen before m.members).state p in
      MoveGoesAt (disciplines_of m.members p) (names_of m.members p) (numbers_in m before p) (places_at (names_of m.members p) move x) move x

-- There are numbers by which the lists of the partition with a number are in order, in this state.
abbrev pub HasOrder : {C : Type 0} → Module C → ℕ → Member C → Type 0
HasOrder m p x = (n : Numbers) × IsOrdered (disciplines_of m.members p) (names_of m.members p) n x.world.kernel

-- Its ready list holds exactly the processes whose records are READY or RUNNING, each with its
-- current priority.
abbrev pub HoldsReady : {C : Type 0} → Member C → Type 0
HoldsReady x = (e : Entry) → (IsAmong e x.world.kernel.processes.ready ↔ IsReadyAt (record_at x.world.kernel.processes.rows e.process) e.priority)

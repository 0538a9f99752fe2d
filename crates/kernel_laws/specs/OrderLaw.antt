-- The effect of a partition's steps on its numbers.
use Rattle.std.specs.Prelude.{◌≡◌, ◌↔◌, ◌⊎◌, ◌&&◌, ℕ, Bool, true, false, List, [], ◌∷◌, ◌++◌, Option, Some, None, map, if◌then◌else◌, slice_get}
use Rattle.apex_types.specs.Runners.{place_of}
use Rattle.apex_types.specs.declared.codes.Discipline.{Discipline}
use Rattle.apex_types.specs.declared.event.Event.{Event}
use Rattle.apex_types.specs.declared.event.EventKind.{EventKind}
use Rattle.apex_types.specs.declared.identity.At.{At}
use Rattle.apex_types.specs.declared.identity.ListKey.{ListKey}
use Rattle.apex_types.specs.declared.identity.ProcessIndex.{ProcessIndex}
use Rattle.apex_types.specs.declared.identity.Runner.{Runner}
use Rattle.apex_types.specs.declared.process.Entry.{Entry}
use Rattle.kernel_laws.specs.Choice.{Picks}
use Rattle.engine_meaning.specs.Engine.{Engine}
use Rattle.kernel_meaning.specs.HealthServices.{starts_handler}
use Rattle.kernel_meaning.specs.Kernel.{Kernel, with_errors}
use Rattle.kernel_meaning.specs.Partition.{World, Moved, control_at, due_phase, is_ready, pick, prepares, spending_phase, ticked}
use Rattle.kernel_meaning.specs.Processes.{Processes, index}
use Rattle.kernel_laws.specs.Agreement.{RecordsAgree, record_at}
use Rattle.kernel_laws.specs.GoingLast.{IsLastOfEquals, IsLastUnder, has_success, list_asked}
use Rattle.kernel_meaning.specs.Queues.{Queues, list_at, without}
use Rattle.kernel_laws.specs.WhoWaits.{WaitsForObject, has_list, waits_for_object}
use Rattle.kernel_laws.specs.Numbers.{Numbers, Taking, BeginsToWait, GoesLast, May, nobody, may_asked, AreNamed, HaveDisciplines, IsInOrder, PortsHaveDisciplines, become_ready, ready_lines, take_all}

abbrev pub kind_of : Event → EventKind
kind_of e = e.kind

-- the lines of a move, without their tick and their partition
abbrev pub kinds : {C : Type 0} → Moved C → List EventKind
kinds m = map kind_of m.lines

-- The lists of a partition have the order of these numbers. Its ready list and its records agree, its processes have
-- these names, and its waiting lists these disciplines.
pub record IsOrdered (disciplines : ListKey → Discipline) (names : List (List ℕ)) (n : Numbers) (k : Kernel) : Type 0 where
  pub order : IsInOrder disciplines n k.processes.ready k.processes.queues
  pub records : RecordsAgree k.processes
  pub named : AreNamed names k.processes.rows
  pub objects : HaveDisciplines disciplines k.objects
  pub ports : PortsHaveDisciplines disciplines k.ports

-- ---- the takings of a step

-- whether a service returns NO_ERROR among these lines, and this process is READY or RUNNING then
abbrev pub has_to_go_last : ProcessIndex → List EventKind → Processes → Bool
has_to_go_last p lines s = has_success lines && is_ready (record_at s.rows p)

-- who may go last does, if it has to
abbrev pub going_last : Option ℕ → List EventKind → Processes → List Taking
going_last None lines s = []
going_last (Some p) lines s = if has_to_go_last (index p) lines s then GoesLast p ∷ [] else []

-- who may begin to wait does, if it waits for an object or a port then
abbrev pub beginning_to_wait : Option ℕ → Processes → List Taking
beginning_to_wait None s = []
beginning_to_wait (Some p) s = if waits_for_object (record_at s.rows (index p)) then BeginsToWait p ∷ [] else []

-- The takings of a step in which these become ready: they take numbers in their order, then who goes last, then who begins to
-- wait.
abbrev pub takings_by : {C : Type 0} → May → List ℕ → Moved C → List Taking
takings_by may ready m =
    let s = m.world.kernel.processes in
    become_ready ready ++ (going_last may.go_last (kinds m) s ++ beginning_to_wait may.begin_to_wait s)

-- the numbers after the step
abbrev pub renumbered : {C : Type 0} → May → List ℕ → Moved C → Numbers → Numbers
renumbered may ready m n = take_all (takings_by may ready m) n

-- A step of a partition continues its numbers. The processes that its lines call ready are at these places, and take numbers in
-- the order of these lines. Of the others, one that may go last or begin to wait takes one exactly if it does. All that take none
-- keep theirs.
pub record GoesOn {C : Type 0} (disciplines : ListKey → Discipline) (names : List (List ℕ)) (may : May) (n : Numbers) (ready : List ℕ) (m : Moved C) : Type 0 where
  pub called : map (slice_get names) ready ≡ map Some (ready_lines (kinds m))
  pub ordered : IsOrdered disciplines names (renumbered may ready m n) m.world.kernel

-- ---- a tick

-- who may take a number in the tick of the chosen runner
abbrev pub may_of_chosen : {C : Type 0} → Engine C → World C → Option Runner → May
may_of_chosen e w None = nobody
may_of_chosen e w (Some p) = let r = ticked e (control_at w.controls (place_of p)) w.words in may_asked p r.asks

abbrev pub may_spent : {C : Type 0} → Engine C → World C → May
may_spent e w = may_of_chosen e w w.kernel.processes.running

-- the places of the processes that become ready in a move: in a tick first by what is due
pub record ReadyPlaces : Type 0 where
  pub due : List ℕ
  pub rest : List ℕ

-- the numbers after what is due in a tick, and after the tick that the chosen runner spends
abbrev pub numbered_due : {C : Type 0} → ReadyPlaces → Engine C → At → World C → Numbers → Numbers
numbered_due places e at w n = renumbered nobody places.due (due_phase e at w) n

abbrev pub numbered_tick : {C : Type 0} → ReadyPlaces → Engine C → At → World C → Numbers → Numbers
numbered_tick places e at w n =
    let chosen = (prepares e at w).world in
    renumbered (may_spent e chosen) places.rest (spending_phase e at chosen) (numbered_due places e at w n)

-- the processes from which the choice is made: the handler has started, if an error waits for it
abbrev pub chosen_among : Kernel → Processes
chosen_among k = let s = starts_handler k.mode (with_errors k) in s.part

-- Who may go last in a move has to in this case, and only then: no other of its priority stands
-- behind it. Otherwise the list of the ready processes is the one before, or the process has left it.
pub record HasGoneLast {C : Type 0} (may : May) (before : List Entry) (m : Moved C) : Type 0 where
  pub goes : (p : ProcessIndex) → may.go_last ≡ Some p.0 → has_to_go_last p (kinds m) m.world.kernel.processes ≡ true → IsLastOfEquals p m.world.kernel.processes.ready
  pub stays : (p : ProcessIndex) → may.go_last ≡ Some p.0 → has_to_go_last p (kinds m) m.world.kernel.processes ≡ false
      → (m.world.kernel.processes.ready ≡ before) ⊎ (m.world.kernel.processes.ready ≡ without p.0 before)

-- the waiting list that the call of the chosen runner names
abbrev pub list_of_chosen : {C : Type 0} → Engine C → World C → Option Runner → Option ListKey
list_of_chosen e w None = None
list_of_chosen e w (Some p) = let r = ticked e (control_at w.controls (place_of p)) w.words in list_asked r.asks

abbrev pub list_spent : {C : Type 0} → Engine C → World C → Option ListKey
list_spent e w = list_of_chosen e w w.kernel.processes.running

-- Who may begin to wait in a move, and waits for an object or a port then, is the last in the list
-- that its call names, if there is this list.
abbrev pub HasBegunToWait : {C : Type 0} → (ListKey → Discipline) → May → Option ListKey → Queues → Moved C → Type 0
HasBegunToWait disciplines may named before m =
    (p : ProcessIndex) (list : ListKey) → may.begin_to_wait ≡ Some p.0 → named ≡ Some list → has_list before list ≡ true → WaitsForObject (record_at m.world.kernel.processes.rows p)
    → IsLastUnder (disciplines list) p (list_at m.world.kernel.processes.queues list)

-- In a tick of a partition, the processes that become ready by what is due take numbers. The choice
-- gives no process a number: it picks the only runner that `Picks` allows by these numbers. The picked
-- runner runs, and spends the tick; if none is picked, nothing runs. Whoever has to go last by its
-- call does so, among the ready processes or in a waiting list.
pub record TickGoes {C : Type 0} (disciplines : ListKey → Discipline) (names : List (List ℕ)) (n : Numbers) (places : ReadyPlaces) (e : Engine C) (at : At) (w : World C) : Type 0 where
  pub due : GoesOn disciplines names nobody n places.due (due_phase e at w)
  pub picks : (p : Runner)
      → (pick (due_phase e at w).world.kernel.mode (chosen_among (due_phase e at w).world.kernel) ≡ Some p
      ↔ Picks (numbered_due places e at w n).ready (due_phase e at w).world.kernel.mode (chosen_among (due_phase e at w).world.kernel) p)
  pub runs : (prepares e at w).world.kernel.processes.running ≡ pick (due_phase e at w).world.kernel.mode (chosen_among (due_phase e at w).world.kernel)
  pub prepared : IsOrdered disciplines names (numbered_due places e at w n) (prepares e at w).world.kernel
  pub spent : GoesOn disciplines names (may_spent e (prepares e at w).world) (numbered_due places e at w n) places.rest (spending_phase e at (prepares e at w).world)
  pub last : HasGoneLast (may_spent e (prepares e at w).world) (prepares e at w).world.kernel.processes.ready (spending_phase e at (prepares e at w).world)
  pub begun : HasBegunToWait disciplines (may_spent e (prepares e at w).world) (list_spent e (prepares e at w).world) (prepares e at w).world.kernel.processes.queues
      (spending_phase e at (prepares e at w).world)

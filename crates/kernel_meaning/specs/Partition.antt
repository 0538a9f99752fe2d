-- One tick of a partition: the actions that are due, the choice of the runner, and the tick that
-- the runner spends.
use Rattle.std.specs.Prelude.{ℕ, ◌-◌, min, ℤ, pos, negsuc, Bool, true, false, List, [], ◌∷◌, ◌++◌, length, take, drop, Option, Some, None, slice_get, slice_set, map, if◌then◌else◌}
use Rattle.arrayvec.specs.ArrayVec.{ArrayVec}
use Rattle.apex_types.specs.Limits.{MOST_WORDS}
use Rattle.apex_types.specs.Runners.{place_of, Action}
use Rattle.apex_types.specs.declared.codes.ErrorKind.TheVariants.{DeadlineMissed}
use Rattle.apex_types.specs.declared.codes.Mode.{Mode}
use Rattle.apex_types.specs.declared.codes.Mode.TheVariants as mode
use Rattle.apex_types.specs.declared.codes.ProcessState.TheVariants.{Ready, Running}
use Rattle.apex_types.specs.declared.codes.StartCondition.{StartCondition}
use Rattle.apex_types.specs.declared.event.Event.{Event}
use Rattle.apex_types.specs.declared.event.EventKind.{EventKind}
use Rattle.apex_types.specs.declared.event.EventKind.TheVariants as event
use Rattle.apex_types.specs.declared.identity.At.{At}
use Rattle.apex_types.specs.declared.identity.PortId.{PortId}
use Rattle.apex_types.specs.declared.identity.Runner.{Runner}
use Rattle.apex_types.specs.declared.identity.Runner.TheVariants as runner
use Rattle.apex_types.specs.Runners as action
use Rattle.apex_types.specs.declared.process.Entry.{Entry}
use Rattle.apex_types.specs.declared.process.Lock.{Lock}
use Rattle.apex_types.specs.declared.process.Lock.TheVariants as lock
use Rattle.apex_types.specs.declared.process.ProcessStatus.{ProcessStatus}
use Rattle.apex_types.specs.declared.process.WaitingError.{WaitingError}
use Rattle.apex_types.specs.declared.service.ArrayPlace.{ArrayPlace}
use Rattle.apex_types.specs.declared.service.Call.{Call}
use Rattle.apex_types.specs.declared.service.Call.TheVariants as call
use Rattle.apex_types.specs.declared.service.ObjectCall.{ObjectCall}
use Rattle.apex_types.specs.declared.service.PortCall.{PortCall}
use Rattle.kernel_meaning.specs.Times.{Treated, due}
use Rattle.engine_meaning.specs.Engine.{Engine, Ticked, Asks, Nothing, Calls, Faults, Ends}
use Rattle.kernel_meaning.specs.Kernel.{queued, Kernel, of_processes, of_errors, of_objects, of_ports, of_ports_alone, with_errors, with_objects, with_ports}
use Rattle.kernel_meaning.specs.HealthServices.{action_of, breaks, create_error_handler, faults, free_places, get_error_status, raises_application_error, report, starts_handler, then_clears}
use Rattle.kernel_meaning.specs.ObjectServices as objects
use Rattle.kernel_meaning.specs.Objects.{Port, port_at, is_source}
use Rattle.kernel_meaning.specs.PortServices as ports
use Rattle.kernel_meaning.specs.PartitionServices.{clears, ends_body, get_partition_status, next_release_of, set_partition_mode}
use Rattle.kernel_meaning.specs.Processes.{Processes, row_of, put_row, is_same}
use Rattle.kernel_meaning.specs.ProcessServices.{get_process_id, get_process_status, create_process, set_priority, suspend_self, suspend, resume, stop, start, delayed_start, lock_preemption, unlock_preemption, get_my_id, number_of, is_ready_state, get_time, timed_wait, periodic_wait, replenish}
use Rattle.apex_types.specs.ServiceCalls.{array_of}
use Rattle.kernel_meaning.specs.Step.{Step, nothing, after}
use Rattle.engine_meaning.specs.Operators.{put_words}

-- ---- the choice

abbrev pub first_ready : List Entry → Option Runner
first_ready [] = None
first_ready (e ∷ es) = Some (runner.Process e.process)

-- the holder of the lock, otherwise the first ready process
abbrev pub unless_held : Lock → List Entry → Option Runner
unless_held lock.Free ready = first_ready ready
unless_held (lock.Held level holder) ready = Some (runner.Process holder)

abbrev pub is_ready : Option ProcessStatus → Bool
is_ready None = false
is_ready (Some r) = is_ready_state r.state

-- INIT before the normal start; then the handler if it is ready, the holder of the lock, or the
-- first ready process; in idle mode none
abbrev pub pick : Mode → Processes → Option Runner
pick mode.Idle s = None
pick mode.Normal s = if is_ready (row_of s runner.Handler) then Some runner.Handler else unless_held s.lock s.ready
pick _ s = Some runner.Init

-- the old runner becomes READY and keeps its place in the list
abbrev pub preempts : Processes → Runner → Option ProcessStatus → Step Processes
preempts s p None = nothing s
preempts s p (Some r) = record { part = record (put_row s p (record r { state = Ready })) { running = None }; lines = event.State r.who Ready ∷ []; actions = [] }

abbrev pub runs : Processes → Runner → Option ProcessStatus → Step Processes
runs s p None = nothing s
runs s p (Some r) = record { part = record (put_row s p (record r { state = Running })) { running = Some p }; lines = event.State r.who Running ∷ []; actions = [] }

abbrev pub leaves_processor : Processes → Option Runner → Step Processes
leaves_processor s None = nothing s
leaves_processor s (Some p) = preempts s p (row_of s p)

abbrev pub takes_processor : Processes → Option Runner → Step Processes
takes_processor s None = nothing s
takes_processor s (Some p) = runs s p (row_of s p)

abbrev pub are_same : Option Runner → Option Runner → Bool
are_same None None = true
are_same (Some p) (Some q) = is_same p q
are_same _ _ = false

-- if the choice changes: the old runner becomes READY, the new one RUNNING
abbrev pub chooses : Mode → Processes → Step Processes
chooses m s =
    if are_same s.running (pick m s) then nothing s
    else let l = leaves_processor s s.running in after l (takes_processor l.part (pick m s))

-- the handler starts if an error waits for it, then the choice
abbrev pub chooses_with_handler : Kernel → Step Kernel
chooses_with_handler k = of_processes k (let s = starts_handler k.mode (with_errors k) in after s (chooses k.mode s.part))

-- ---- what is due

abbrev pub treats_due : At → Kernel → Treated
treats_due at k = due at (free_places k.mode (with_errors k)) (action_of k.fixed.health DeadlineMissed) k.processes

-- ---- the requests of a process

-- at most `count` words of the data, from `place` on
abbrev pub message_from : ℤ → ℕ → List ℤ → List ℤ
message_from (pos place) count words = take count (drop place words)
message_from (negsuc n) count words = []

-- the words of an array, at most those of a message
abbrev pub most_words : ℤ → ℕ
most_words (pos size) = min size MOST_WORDS
most_words (negsuc n) = 0

abbrev pub handed : Option ArrayPlace → List ℤ → List ℤ
handed None words = []
handed (Some array) words = message_from array.base (most_words array.size) words

-- the words that a call hands in: those of its array, if it has one
abbrev pub given : Asks → List ℤ → List ℤ
given (Calls c) words = handed (array_of c) words
given _ words = []

abbrev pub serves_ports : At → Kernel → Runner → PortCall → List ℤ → Step Kernel
serves_ports at k p c words = of_ports k (ports.serves_ports k.mode at (with_ports k) p c words)

abbrev pub serves_objects : At → Kernel → Runner → ObjectCall → List ℤ → Step Kernel
serves_objects at k p c words = of_objects k (objects.serves_objects k.mode at (with_objects k) p c words)

-- the services on the partition and its errors, on processes and on time, then those on objects and on ports
abbrev pub serves : At → Kernel → Runner → Call → List ℤ → Step Kernel
serves at k p call.GetPartitionStatus words = get_partition_status k p
serves at k p (call.SetPartitionMode m) words = set_partition_mode at k p m
serves at k p call.StopSelf words = ends_body k p
serves at k p (call.ReportApplicationMessage array length) words = of_processes k (report k.processes p array length words)
serves at k p call.CreateErrorHandler words = of_errors k (create_error_handler k.mode (with_errors k) p)
serves at k p (call.GetErrorStatus array) words = of_errors k (get_error_status (with_errors k) p array)
serves at k p (call.RaiseApplicationError error array length) words = raises_application_error k p error array length words
serves at k p (call.GetProcessId name) words = of_processes k (get_process_id k.processes p name)
serves at k p (call.GetProcessStatus id) words = of_processes k (get_process_status k.processes p id)
serves at k p (call.CreateProcess name) words = of_processes k (create_process k.mode k.processes p name)
serves at k p (call.SetPriority id v) words = of_processes k (set_priority k.processes p id v)
serves at k p (call.SuspendSelf limit) words = of_processes k (suspend_self at k.processes p limit)
serves at k p (call.Suspend id) words = of_processes k (suspend k.processes p id)
serves at k p (call.Resume id) words = of_processes k (resume k.processes p id)
serves at k p (call.Stop id) words = of_processes k (stop k.processes p id)
serves at k p (call.Start id) words = of_processes k (start k.mode at (next_release_of at k) k.processes p id)
serves at k p (call.DelayedStart id delay) words = of_processes k (delayed_start k.mode at (next_release_of at k) k.processes p id delay)
serves at k p call.LockPreemption words = of_processes k (lock_preemption k.mode k.processes p)
serves at k p call.UnlockPreemption words = of_processes k (unlock_preemption k.mode k.processes p)
serves at k p call.GetMyId words = of_processes k (get_my_id k.processes p (number_of p))
serves at k p (call.TimedWait delay) words = of_processes k (timed_wait at k.processes p delay)
serves at k p call.PeriodicWait words = of_processes k (periodic_wait k.processes p)
serves at k p call.GetTime words = of_processes k (get_time at k.processes p)
serves at k p (call.Replenish budget) words = of_processes k (replenish k.mode at k.processes p budget)
serves at k p (call.Object c) words = serves_objects at k p c words
serves at k p (call.Port c) words = serves_ports at k p c words

abbrev pub treats_asked : At → Kernel → Runner → Asks → List ℤ → Step Kernel
treats_asked at k p Nothing words = nothing k
treats_asked at k p (Calls c) words = serves at k p c words
treats_asked at k p (Faults e) words = faults k p e
treats_asked at k p Ends words = ends_body k p

-- ---- a partition on an engine

-- The state; the control of INIT, of the handler and of each process that has something left to do,
-- in this order; the data, and the initial data.
pub record World (Control : Type 0) : Type 0 where
  pub kernel : Kernel
  pub controls : List (Option Control)
  pub words : List ℤ
  pub initial : List ℤ

-- a partition with the engine that its processes run on
pub record Member (Control : Type 0) : Type 0 where
  pub engine : Engine Control
  pub world : World Control

abbrev pub there : {C : Type 0} → Option (Option C) → Option C
there None = None
there (Some c) = c

-- the control at `place`, if that runner has code left to execute
abbrev pub control_at : {C : Type 0} → List (Option C) → ℕ → Option C
control_at controls place = there (slice_get controls place)

abbrev pub replied : {C : Type 0} → Engine C → Option C → List ℤ → Option C
replied e None answer = None
replied e (Some c) answer = Some (e.reply c answer)

abbrev pub no_control : {C : Type 0} → Option C → Option C
no_control c = None

-- the data with the words of an array written into it
abbrev pub written : ℤ → List ℤ → List ℤ → List ℤ
written (pos place) array words = put_words words place array
written (negsuc n) array words = words

-- the kernel with one more error that waits
abbrev pub with_error : Kernel → WaitingError → Kernel
with_error k e = record k { errors = queued k.errors e }

-- Performs an action of the kernel.
abbrev pub act : {C : Type 0} → Engine C → Action → World C → World C
act e (action.Begin p) w = record w { controls = slice_set w.controls (place_of p) (Some (e.start p)) }
act e (action.Stop p) w = record w { controls = slice_set w.controls (place_of p) None }
act e action.StopAll w = record w { controls = map no_control w.controls }
act e (action.Reply p answer) w = record w { controls = slice_set w.controls (place_of p) (replied e (control_at w.controls (place_of p)) answer.items) }
act e action.Restore w = record w { words = w.initial }
act e (action.Write place array) w = record w { words = written place array.items w.words }
act e (action.Queue error) w = record w { kernel = with_error w.kernel error }

abbrev pub act_all : {C : Type 0} → Engine C → List Action → World C → World C
act_all e [] w = w
act_all e (a ∷ rest) w = act_all e rest (act e a w)

abbrev pub does : {C : Type 0} → Engine C → Step Kernel → World C → World C
does e s w = act_all e s.actions (record w { kernel = s.part })

-- a line of the partition in a tick
abbrev pub line : List ℕ → At → EventKind → Event
line name at kind = record { tick = at.now; partition = Some name; kind = kind }

-- the events of a tick, as lines of the partition
abbrev pub told : List ℕ → At → List EventKind → List Event
told name at kinds = map (line name at) kinds

-- the world after a step, and the step's lines
pub record Moved (Control : Type 0) : Type 0 where
  pub world : World Control
  pub lines : List Event

abbrev pub moved : {C : Type 0} → At → Engine C → Step Kernel → World C → Moved C
moved at e s w = record { world = does e s w; lines = told w.kernel.fixed.name at s.lines }

-- one step, then another from the world after it
abbrev pub followed_by : {C : Type 0} → Moved C → (World C → Moved C) → Moved C
followed_by m rest = let n = rest m.world in record { world = n.world; lines = m.lines ++ n.lines }

abbrev pub ticked_some : {C : Type 0} → Ticked C → Ticked (Option C)
ticked_some r = record { control = Some r.control; words = r.words; asks = r.asks }

abbrev pub ticked : {C : Type 0} → Engine C → Option C → List ℤ → Ticked (Option C)
ticked e None words = record { control = None; words = words; asks = Nothing }
ticked e (Some c) words = ticked_some (e.tick c words)

-- the tick that p spends, and its request
abbrev pub spends : {C : Type 0} → Engine C → At → Runner → World C → Moved C
spends e at p w =
    let r = ticked e (control_at w.controls (place_of p)) w.words in
    moved at e (treats_asked at w.kernel p r.asks (given r.asks r.words)) (record w { controls = slice_set w.controls (place_of p) r.control; words = r.words })

abbrev pub spends_chosen : {C : Type 0} → Engine C → At → Option Runner → World C → Moved C
spends_chosen e at None w = record { world = w; lines = [] }
spends_chosen e at (Some p) w = spends e at p w

-- due times and deadlines of the processes
abbrev pub treating_phase : {C : Type 0} → Engine C → At → World C → Moved C
treating_phase e at w = moved at e (of_processes w.kernel (treats_due at w.kernel).step) w

-- the Clear that a missed deadline leads to
abbrev pub clearing_phase : {C : Type 0} → Engine C → At → Option Mode → World C → Moved C
clearing_phase e at clears w = moved at e (then_clears w.kernel clears) w

abbrev pub due_phase : {C : Type 0} → Engine C → At → World C → Moved C
due_phase e at w = followed_by (treating_phase e at w) (clearing_phase e at (treats_due at w.kernel).clears)

abbrev pub choice_phase : {C : Type 0} → Engine C → At → World C → Moved C
choice_phase e at w = moved at e (chooses_with_handler w.kernel) w

abbrev pub spending_phase : {C : Type 0} → Engine C → At → World C → Moved C
spending_phase e at w = spends_chosen e at w.kernel.processes.running w

abbrev pub prepares : {C : Type 0} → Engine C → At → World C → Moved C
prepares e at w = followed_by (due_phase e at w) (choice_phase e at)

-- what is due, then the choice with the handler's start, then the tick of the chosen runner
abbrev pub tick : {C : Type 0} → Engine C → At → World C → Moved C
tick e at w = followed_by (prepares e at w) (spending_phase e at)

-- ---- a partition with its engine

abbrev pub with_world : {C : Type 0} → Member C → World C → Member C
with_world x w = record { engine = x.engine; world = w }

-- Clear to a cold start, for a reason
abbrev pub cold_start : {C : Type 0} → At → StartCondition → Member C → Moved C
cold_start at c x = moved at x.engine (clears x.world.kernel mode.ColdStart c) x.world

-- a fault of the partition's hardware
abbrev pub breaks_down : {C : Type 0} → At → Member C → Moved C
breaks_down at x = moved at x.engine (breaks x.world.kernel) x.world

-- one tick of a partition on its engine
abbrev pub advances : {C : Type 0} → At → Member C → Moved C
advances at x = tick x.engine at x.world

-- ---- messages of a partition

-- ports are numbered from 1
abbrev pub place_of_port : PortId → ℕ
place_of_port port = port.0 - 1

-- a message arrives at a port
abbrev pub arrives : {C : Type 0} → At → PortId → ArrayVec ℤ → Member C → Moved C
arrives at port m x = moved at x.engine (of_ports x.world.kernel (ports.arrives at (with_ports x.world.kernel) (place_of_port port) m)) x.world

-- the first message of a port leaves it
abbrev pub leaves : {C : Type 0} → At → PortId → Member C → Moved C
leaves at port x = moved at x.engine (of_ports_alone x.world.kernel (ports.leaves x.world.kernel.ports (place_of_port port))) x.world

-- the message that leaves it
abbrev pub leaving : {C : Type 0} → PortId → Member C → Option (ArrayVec ℤ)
leaving port x = ports.first_message (port_at x.world.kernel.ports (place_of_port port))

-- how many messages a source port holds; another port has none to move
abbrev pub messages_to_move : Option Port → Option ℕ
messages_to_move None = None
messages_to_move (Some x) = if is_source x then Some (length x.messages) else None

-- the senders that wait at a port enter it while there is room
abbrev pub admits : {C : Type 0} → At → PortId → Member C → Moved C
admits at port x = moved at x.engine (of_ports x.world.kernel (ports.admits (with_ports x.world.kernel) (place_of_port port))) x.world

-- a message of the partition leaves the module by a channel
abbrev pub goes_out : {C : Type 0} → At → List ℕ → ArrayVec ℤ → Member C → Moved C
goes_out at channel m x = record { world = x.world; lines = line x.world.kernel.fixed.name at (event.Out channel m) ∷ [] }

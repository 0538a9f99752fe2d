-- The state that the services on objects and on ports read and change: the processes of a
-- partition, and what they share, which is its objects or its ports. How a process waits there, and
-- how it is released.
use Rattle.std.specs.Prelude.{ℕ, ℤ, pos, Bool, false, not, ◌&&◌, int_le, List, [], ◌∷◌, Option, Some, None, is_some, length, slice_index_or, slice_set}
use Rattle.apex_types.specs.declared.codes.Mode.{Mode}
use Rattle.apex_types.specs.declared.codes.ReturnCode.{ReturnCode}
use Rattle.apex_types.specs.declared.codes.ReturnCode.TheVariants as code
use Rattle.apex_types.specs.declared.identity.Runner.{Runner}
use Rattle.apex_types.specs.declared.service.ArrayPlace.{ArrayPlace}
use Rattle.apex_types.specs.declared.service.Service.{Service}
use Rattle.kernel_meaning.specs.Processes as processes
use Rattle.kernel_meaning.specs.Processes.{Processes, is_normal, row_of, waits, released, released_with, numbered, is_busy}
use Rattle.kernel_meaning.specs.Step.{Step, nothing, after, lifted, row, message}
use Rattle.arrayvec.specs.ArrayVec.{ArrayVec}
use Rattle.apex_types.specs.declared.identity.At.{At}
use Rattle.apex_types.specs.declared.identity.ListKey.{ListKey}
use Rattle.apex_types.specs.declared.identity.Runner.TheVariants as runner
use Rattle.apex_types.specs.Runners.{Action}
use Rattle.apex_types.specs.Runners as asks
use Rattle.apex_types.specs.declared.process.Entry.{Entry}
use Rattle.apex_types.specs.declared.process.ProcessStatus.{ProcessStatus}
use Rattle.apex_types.specs.declared.process.Wait.{Wait}
use Rattle.apex_types.specs.declared.process.Wait.TheVariants as wait
use Rattle.apex_types.specs.declared.process.Waiting.{Waiting}
use Rattle.kernel_meaning.specs.Queues.{entry, joins, list_at}
use Rattle.engine_meaning.specs.Operators.{is_zero}
use Rattle.kernel_meaning.specs.ProcessServices.{time_out}

-- The state that the services on objects and on ports read and change: the processes of a
-- partition, and what they share, which is its objects or its ports.

pub record Sharing (O : Type 0) : Type 0 where
  pub processes : Processes
  pub shared : O

abbrev pub both : {O : Type 0} → Processes → O → Sharing O
both processes shared = record { processes = processes; shared = shared }

abbrev pub with_processes : {O : Type 0} → Sharing O → Processes → Sharing O
with_processes b s = record b { processes = s }

-- a step of the processes, as a step of both
abbrev pub of_processes : {O : Type 0} → Sharing O → Step Processes → Step (Sharing O)
of_processes b s = lifted (with_processes b) s

-- changes what they share, without lines or actions
abbrev pub becomes : {O : Type 0} → Sharing O → O → Step (Sharing O)
becomes b o = nothing (record b { shared = o })

abbrev pub answers : {O : Type 0} → Sharing O → Runner → Service → ReturnCode → List ℤ → Step (Sharing O)
answers b p service c outputs = of_processes b (processes.answers b.processes p service c outputs)

abbrev pub refuses : {O : Type 0} → Sharing O → Runner → Service → ReturnCode → Step (Sharing O)
refuses b p service c = of_processes b (processes.refuses b.processes p service c)

-- ---- an object or a port that is found by its number

-- a test of the object found, which a missing one does not pass
abbrev pub has : {X : Type 0} → Option (ℕ × X) → (X → Bool) → Bool
has None test = false
has (Some f) test = test f.1

-- applies `step` to the object found; without one, does nothing
abbrev pub on : {O X : Type 0} → Option (ℕ × X) → Sharing O → (ℕ → X → Step (Sharing O)) → Step (Sharing O)
on None b step = nothing b
on (Some f) b step = step f.0 f.1

-- ---- the services that all kinds have

-- INVALID_MODE: in normal mode; INVALID_CONFIG: no such object is declared; NO_ACTION: it was
-- already created.
abbrev pub create : {O X : Type 0} → Mode → Sharing O → Runner → Service → ℤ → Option (ℕ × X) → (X → Bool) → (ℕ → X → Step (Sharing O)) → Step (Sharing O)
create m b p service name found is_created creates =
    row (refuses b p service)
    ((is_normal m, code.InvalidMode)
    ∷ (not (is_some found), code.InvalidConfig)
    ∷ (has found is_created, code.NoAction)
    ∷ [])
    (after (answers b p service code.NoError (name ∷ [])) (on found b creates))

-- the number of an object that is created
abbrev pub get_id : {O X : Type 0} → Sharing O → Runner → Service → ℤ → Option (ℕ × X) → (X → Bool) → Step (Sharing O)
get_id b p service name found is_created =
    row (refuses b p service)
    ((not (has found is_created), code.InvalidConfig)
    ∷ [])
    (answers b p service code.NoError (name ∷ []))

-- the status of a created object
abbrev pub get_status : {O X : Type 0} → Sharing O → Runner → Service → Option (ℕ × X) → (X → Bool) → (ℕ → X → List ℤ) → Step (Sharing O)
get_status b p service found is_created values =
    row (refuses b p service)
    ((not (has found is_created), code.InvalidParam)
    ∷ [])
    (on found b (λ place x. answers b p service code.NoError (values place x)))

-- ---- messages

-- at least 1 word, no more than the object takes, and no more than the array has
abbrev pub is_length : ℕ → ArrayPlace → ℤ → Bool
is_length words array length = int_le (pos 1) length && int_le length (pos words) && int_le length array.size

-- whether an array has room for the longest message
abbrev pub is_large_enough : ℕ → ArrayPlace → Bool
is_large_enough words array = int_le (pos words) array.size

-- How a process begins to wait at an object or a port, and how it is released: the same for all of
-- them.

-- ---- the waiting lists

-- the processes that wait in a list
abbrev pub waiting : Processes → ListKey → List Entry
waiting s list = list_at s.queues list

-- the number of waiting processes
abbrev pub waiting_count : Processes → ListKey → ℕ
waiting_count s list = length (waiting s list)

abbrev pub found_first : Processes → List Entry → Option (Runner × ProcessStatus)
found_first s [] = None
found_first s (e ∷ es) = numbered e.process (row_of s (runner.Process e.process))

-- the first process that waits in a list, with its record
abbrev pub first_waiting : Processes → ListKey → Option (Runner × ProcessStatus)
first_waiting s list = found_first s (waiting s list)

-- the message of the call in which a process waits
abbrev pub handed_by : Processes → Runner → ArrayVec ℤ
handed_by s (runner.Process p) = slice_index_or s.handed p.0 (message [])
handed_by s _ = message []

-- ---- the start of a wait

-- adds the process to the list of its object, with the message that its call hands in
abbrev pub enters : Processes → Runner → Waiting → ArrayVec ℤ → ProcessStatus → Processes
enters s (runner.Process p) w message r = record s {
  queues = joins w.list w.discipline (entry p r.current_priority) s.queues;
  handed = slice_set s.handed p.0 message;
}
enters s _ w message r = s

abbrev pub waits_at : At → Processes → Runner → ℤ → Waiting → ArrayVec ℤ → Option ProcessStatus → Step Processes
waits_at at s p limit w message None = nothing s
waits_at at s p limit w message (Some r) = waits (enters s p w message r) p r (wait.Object w.service w.array) (time_out at limit)

-- Blocks the caller for at most `limit` ticks. NOT_AVAILABLE: the limit is 0; INVALID_MODE: the
-- caller may not wait.
abbrev pub blocks : At → Processes → Runner → ℤ → Waiting → ArrayVec ℤ → Step Processes
blocks at s p limit w message =
    row (processes.refuses s p w.service)
    ((is_zero limit, code.NotAvailable)
    ∷ (is_busy s p, code.InvalidMode)
    ∷ [])
    (waits_at at s p limit w message (row_of s p))

-- ---- its end

-- each of these is released in turn
abbrev pub releases_found : Processes → Option (Runner × ProcessStatus) → Step Processes
releases_found s None = nothing s
releases_found s (Some f) = released s f.0 f.1 code.NoError

abbrev pub releases_all : List Entry → Processes → Step Processes
releases_all [] s = nothing s
releases_all (e ∷ es) s =
    let t = releases_found s (numbered e.process (row_of s (runner.Process e.process))) in
    after t (releases_all es t.part)

abbrev pub writes : Option ArrayPlace → ArrayVec ℤ → List Action
writes None message = []
writes (Some array) message = asks.Write array.base message ∷ []

-- writes the words to the array, if one is given
abbrev pub fills : {P : Type 0} → P → Option ArrayPlace → ArrayVec ℤ → Step P
fills part array message = record { part = part; lines = []; actions = writes array message }

abbrev pub array_of_wait : Wait → Option ArrayPlace
array_of_wait (wait.Object service array) = array
array_of_wait _ = None

-- A receiver takes a message: the words go into its array, its call returns how many they are, and it is
-- ready.
abbrev pub gives : Processes → Runner → ProcessStatus → ArrayVec ℤ → Step Processes
gives s p r message = after (fills s (array_of_wait r.wait) message) (released_with s p r code.NoError (pos (length message.items) ∷ []))

abbrev pub gives_found : Processes → Option (Runner × ProcessStatus) → ArrayVec ℤ → Step Processes
gives_found s None message = nothing s
gives_found s (Some f) message = gives s f.0 f.1 message

-- each of these takes the message in turn
abbrev pub gives_all : List Entry → ArrayVec ℤ → Processes → Step Processes
gives_all [] message s = nothing s
gives_all (e ∷ es) message s =
    let t = gives_found s (numbered e.process (row_of s (runner.Process e.process))) message in
    after t (gives_all es message t.part)

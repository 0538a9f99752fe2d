-- Application messages, the error handler, and the errors of a partition and of its processes.
use Rattle.std.specs.Prelude.{ℕ, ◌+◌, ◌-◌, ℤ, pos, Bool, true, false, not, ◌&&◌, int_le, nat_lt, List, [], ◌∷◌, length, Option, Some, None, if◌then◌else◌}
use Rattle.std.specs.Ordering.{int_eq}
use Rattle.apex_types.specs.declared.codes.ErrorKind.{ErrorKind}
use Rattle.apex_types.specs.declared.codes.ErrorKind.TheVariants as error
use Rattle.apex_types.specs.declared.codes.ErrorLevel.{ErrorLevel}
use Rattle.apex_types.specs.declared.codes.ErrorLevel.TheVariants as level
use Rattle.apex_types.specs.declared.codes.Mode.{Mode}
use Rattle.apex_types.specs.declared.codes.PartitionAction.{PartitionAction}
use Rattle.apex_types.specs.declared.codes.Response.{Response}
use Rattle.apex_types.specs.declared.codes.Response.TheVariants as response
use Rattle.apex_types.specs.declared.codes.Mode.TheVariants as mode
use Rattle.apex_types.specs.declared.codes.ReturnCode.TheVariants as code
use Rattle.apex_types.specs.declared.codes.StartCondition.TheVariants as condition
use Rattle.apex_types.specs.declared.event.EventKind.TheVariants as event
use Rattle.apex_types.specs.declared.event.Subject.{Subject}
use Rattle.apex_types.specs.declared.identity.Runner.{Runner}
use Rattle.apex_types.specs.declared.identity.Runner.TheVariants as runner
use Rattle.apex_types.specs.Limits.{MOST_ERRORS, MOST_REPORT_WORDS}
use Rattle.apex_types.specs.Runners as asks
use Rattle.apex_types.specs.declared.process.ProcessStatus.{ProcessStatus}
use Rattle.apex_types.specs.declared.process.WaitingError.{WaitingError}
use Rattle.apex_types.specs.declared.row.HealthTable.{HealthTable}
use Rattle.apex_types.specs.declared.service.ArrayPlace.{ArrayPlace}
use Rattle.apex_types.specs.declared.service.Service.TheVariants as service
use Rattle.kernel_meaning.specs.Times.{mode_of_action, begins}
use Rattle.kernel_meaning.specs.Kernel.{Errors, Kernel, of_processes, with_errors}
use Rattle.kernel_meaning.specs.PartitionServices.{clears}
use Rattle.kernel_meaning.specs.ProcessServices.{of_row}
use Rattle.kernel_meaning.specs.Processes.{Processes, row_of, put_row, rests_found, subject, answers, refuses, wakes, is_created, is_dormant, is_normal, is_same}
use Rattle.kernel_meaning.specs.Sharing as sharing
use Rattle.kernel_meaning.specs.Sharing.{Sharing, becomes, is_large_enough, fills}
use Rattle.kernel_meaning.specs.Step.{Step, nothing, after, lifted, message, first_words, row}

-- ---- REPORT_APPLICATION_MESSAGE

-- at least one word, at most those of a report, and no more than the array has
abbrev pub is_message_length : ℤ → ℤ → Bool
is_message_length size length = int_le (pos 1) length && int_le length (pos MOST_REPORT_WORDS) && int_le length size

abbrev pub reports : Processes → Runner → List ℤ → Step Processes
reports s p words = record { part = s; lines = event.Report (subject s p) (message words) ∷ []; actions = [] }

-- writes the first words of those that the call hands in to the trace
abbrev pub report : Processes → Runner → ArrayPlace → ℤ → List ℤ → Step Processes
report s p array length words =
    row (refuses s p service.ReportApplicationMessage)
    ((not (is_message_length array.size length), code.InvalidParam) ∷ [])
    (after (answers s p service.ReportApplicationMessage code.NoError []) (reports s p (first_words length words)))

-- ---- the error handler

abbrev pub is_handler_created : Processes → Bool
is_handler_created s = of_row is_created (row_of s runner.Handler)

abbrev pub creates_found : Processes → Runner → Option ProcessStatus → Step Processes
creates_found s p None = nothing s
creates_found s p (Some r) = nothing (put_row s p (record r { created = true }))

-- Creates the handler, dormant. INVALID_MODE: in normal mode; INVALID_CONFIG: the source has no
-- handler; NO_ACTION: it was already created.
abbrev pub create_error_handler : Mode → Sharing Errors → Runner → Step (Sharing Errors)
create_error_handler m b p =
    row (sharing.refuses b p service.CreateErrorHandler)
    ((is_normal m, code.InvalidMode)
    ∷ (not b.shared.has_handler, code.InvalidConfig)
    ∷ (is_handler_created b.processes, code.NoAction)
    ∷ [])
    (after (sharing.answers b p service.CreateErrorHandler code.NoError [])
    (sharing.of_processes b (creates_found b.processes runner.Handler (row_of b.processes runner.Handler))))

-- a created handler that is dormant begins with a fresh stack, and is ready
abbrev pub begins_if_dormant : Processes → Option ProcessStatus → Step Processes
begins_if_dormant s None = nothing s
begins_if_dormant s (Some r) = if r.created && is_dormant r then after (begins s runner.Handler) (wakes s runner.Handler r) else nothing s

abbrev pub is_waiting : List WaitingError → Bool
is_waiting [] = false
is_waiting (e ∷ rest) = true

-- in normal mode the handler starts if an error waits for it
abbrev pub starts_handler : Mode → Sharing Errors → Step Processes
starts_handler m b =
    if is_normal m && is_waiting b.shared.waiting
    then begins_if_dormant b.processes (row_of b.processes runner.Handler)
    else nothing b.processes

-- ---- GET_ERROR_STATUS

abbrev pub number_of_error : ErrorKind → ℕ
number_of_error error.DeadlineMissed = 0
number_of_error error.ApplicationError = 1
number_of_error error.NumericError = 2
number_of_error error.IllegalRequest = 3
number_of_error error.StackOverflow = 4
number_of_error error.MemoryViolation = 5
number_of_error error.HardwareFault = 6

-- the error, the number of its process, and the length of its message
abbrev pub error_status : WaitingError → List ℤ
error_status e = pos (number_of_error e.kind) ∷ pos (e.process.0 + 1) ∷ pos (length e.words.items) ∷ []

-- takes the first error, whose message goes into the array; NO_ACTION: no error waits
abbrev pub takes_error : Sharing Errors → Runner → ArrayPlace → List WaitingError → Step (Sharing Errors)
takes_error b p array [] = sharing.refuses b p service.GetErrorStatus code.NoAction
takes_error b p array (e ∷ rest) =
    after (sharing.answers b p service.GetErrorStatus code.NoError (error_status e))
    (after (fills b (Some array) e.words) (becomes b (record b.shared { waiting = rest })))

-- Only the handler may ask for errors, with an array for the longest message; without a waiting
-- error nothing is done.
abbrev pub get_error_status : Sharing Errors → Runner → ArrayPlace → Step (Sharing Errors)
get_error_status b p array =
    row (sharing.refuses b p service.GetErrorStatus)
    ((not (is_same p runner.Handler), code.InvalidConfig)
    ∷ (not (is_large_enough MOST_REPORT_WORDS array), code.InvalidParam)
    ∷ [])
    (takes_error b p array b.shared.waiting)

-- ---- the response to an error

abbrev pub action_of : HealthTable → ErrorKind → PartitionAction
action_of h error.DeadlineMissed = h.deadline_missed
action_of h error.ApplicationError = h.application_error
action_of h error.NumericError = h.numeric_error
action_of h error.IllegalRequest = h.illegal_request
action_of h error.StackOverflow = h.stack_overflow
action_of h error.MemoryViolation = h.memory_violation
action_of h error.HardwareFault = h.hardware_fault

-- how many more errors may wait for the handler: 0 unless it is created and the mode is normal
abbrev pub free_places : Mode → Sharing Errors → ℕ
free_places m b = if is_normal m && is_handler_created b.processes then MOST_ERRORS - length b.shared.waiting else 0

-- the level of an error of p: process level if it may wait for the handler, otherwise partition
-- level
abbrev pub level_of : Mode → Sharing Errors → Runner → ErrorLevel
level_of m b (runner.Process p) = if nat_lt 0 (free_places m b) then level.Process else level.Partition
level_of m b _ = level.Partition

-- at process level the handler takes the error, at partition level this action
abbrev pub response_at : ErrorLevel → PartitionAction → Response
response_at level.Process action = response.Handler
response_at _ action = response.Partition action

abbrev pub response_of : HealthTable → Mode → Sharing Errors → Runner → ErrorKind → Response
response_of h m b p e = response_at (level_of m b p) (action_of h e)

-- the line of an error: its subject, if a runner caused it, and the response
abbrev pub tells_error : {P : Type 0} → P → ErrorKind → Option Subject → Response → Step P
tells_error part e who response = record { part = part; lines = event.Error e who response ∷ []; actions = [] }

-- queues the error of a process, with its message
abbrev pub queues : Runner → ErrorKind → List ℤ → Step (Option PartitionAction)
queues (runner.Process p) e words = record { part = None; lines = []; actions = asks.Queue (record { kind = e; process = p; words = message words }) ∷ [] }
queues _ e words = nothing None

-- the error waits for the handler, or an action of the partition remains to be done
abbrev pub waits_or_leaves : Runner → ErrorKind → List ℤ → Response → Step (Option PartitionAction)
waits_or_leaves p e words response.Handler = queues p e words
waits_or_leaves p e words (response.Partition action) = nothing (Some action)
waits_or_leaves p e words (response.Module action) = nothing None

-- An error of p: its line, then it waits for the handler, or the partition's action for it remains
-- to be done.
abbrev pub raises : HealthTable → Mode → Sharing Errors → Runner → ErrorKind → List ℤ → Step (Option PartitionAction)
raises h m b p e words =
    let how = response_of h m b p e in
    after (tells_error None e (Some (subject b.processes p)) how) (waits_or_leaves p e words how)

-- ---- RAISE_APPLICATION_ERROR

-- the step of a service after which no action of the partition remains to be done
abbrev pub leaves_none : Step Processes → Step (Option PartitionAction)
leaves_none s = lifted (λ (t : Processes). None) s

-- The caller's error APPLICATION_ERROR; its message is the first words of those that the call hands
-- in.
abbrev pub raise_application_error : HealthTable → Mode → Sharing Errors → Runner → ℤ → ArrayPlace → ℤ → List ℤ → Step (Option PartitionAction)
raise_application_error h m b p e array length words =
    row (λ c. leaves_none (refuses b.processes p service.RaiseApplicationError c))
    ((not (int_eq e (pos 1)), code.InvalidParam)
    ∷ (not (is_message_length array.size length), code.InvalidParam)
    ∷ [])
    (after (leaves_none (answers b.processes p service.RaiseApplicationError code.NoError []))
    (raises h m b p error.ApplicationError (first_words length words)))

-- ---- the partition's response to an error

-- an error in the code of a process, after which the process does not continue
abbrev pub is_fault : ErrorKind → Bool
is_fault error.NumericError = true
is_fault error.IllegalRequest = true
is_fault error.StackOverflow = true
is_fault error.MemoryViolation = true
is_fault _ = false

-- an ignored fault of INIT leaves the partition idle
abbrev pub ignores : Kernel → Runner → ErrorKind → Step Kernel
ignores k runner.Init e = if is_fault e then clears k mode.Idle condition.HmPartitionRestart else nothing k
ignores k _ e = nothing k

-- the partition enters the mode that its action for the error leads to, if any
abbrev pub enters_mode : Kernel → Runner → ErrorKind → Option Mode → Step Kernel
enters_mode k p e None = ignores k p e
enters_mode k p e (Some m) = clears k m condition.HmPartitionRestart

-- the partition's action for an error of p, if one remains to be done
abbrev pub acts_on_error : Kernel → Runner → ErrorKind → Option PartitionAction → Step Kernel
acts_on_error k p e None = nothing k
acts_on_error k p e (Some action) = enters_mode k p e (mode_of_action action)

-- a step on an error of p, then the action that remains to be done
abbrev pub then_acts : Kernel → Runner → ErrorKind → Step (Option PartitionAction) → Step Kernel
then_acts k p e s = after (lifted (λ (left : Option PartitionAction). k) s) (acts_on_error k p e s.part)

-- the line of an error of p, then the response
abbrev pub handles : Kernel → Runner → ErrorKind → List ℤ → Step Kernel
handles k p e words = then_acts k p e (raises k.fixed.health k.mode (with_errors k) p e words)

-- a runner with a fault becomes dormant first
abbrev pub faults : Kernel → Runner → ErrorKind → Step Kernel
faults k p e = let s = of_processes k (rests_found k.processes p (row_of k.processes p)) in after s (handles s.part p e [])

-- a Clear that an error leads to
abbrev pub then_clears : Kernel → Option Mode → Step Kernel
then_clears k None = nothing k
then_clears k (Some m) = clears k m condition.HmPartitionRestart

-- a fault of the partition's hardware: its line, then the partition's action for it
abbrev pub breaks : Kernel → Step Kernel
breaks k =
    let action = action_of k.fixed.health error.HardwareFault in
    after (tells_error k error.HardwareFault None (response.Partition action)) (then_clears k (mode_of_action action))

-- RAISE_APPLICATION_ERROR, with the action that remains to be done
abbrev pub raises_application_error : Kernel → Runner → ℤ → ArrayPlace → ℤ → List ℤ → Step Kernel
raises_application_error k p e array length words = then_acts k p error.ApplicationError (raise_application_error k.fixed.health k.mode (with_errors k) p e array length words)

-- The services on semaphores, a row each.
use Rattle.std.specs.Prelude.{ℕ, ◌+◌, ◌-◌, ℤ, pos, Bool, true, not, nat_lt, nat_le, List, [], ◌∷◌, Option, Some, None, if◌then◌else◌}
use Rattle.apex_types.specs.declared.codes.Mode.{Mode}
use Rattle.apex_types.specs.declared.codes.ReturnCode.TheVariants as code
use Rattle.apex_types.specs.declared.identity.At.{At}
use Rattle.apex_types.specs.declared.identity.ListKey.{ListKey}
use Rattle.apex_types.specs.declared.identity.ListKey.TheVariants as key
use Rattle.apex_types.specs.declared.identity.Runner.{Runner}
use Rattle.apex_types.specs.declared.process.ProcessStatus.{ProcessStatus}
use Rattle.apex_types.specs.declared.process.Waiting.{Waiting}
use Rattle.apex_types.specs.declared.service.Service.TheVariants as service
use Rattle.kernel_meaning.specs.Times.{is_duration}
use Rattle.kernel_meaning.specs.Objects.{Objects, Semaphore, semaphore, put_semaphore}
use Rattle.kernel_meaning.specs.Processes.{released}
use Rattle.kernel_meaning.specs.Sharing.{Sharing, of_processes, becomes, answers, refuses, has, on, create, get_id, get_status, waiting_count, first_waiting, blocks}
use Rattle.kernel_meaning.specs.Step.{Step, after, message, row}

abbrev pub is_created : Semaphore → Bool
is_created x = x.created

-- its waiting list
abbrev pub list : ℕ → ListKey
list place = key.Semaphore place

-- ---- CREATE_SEMAPHORE and GET_SEMAPHORE_ID

abbrev pub creates : Sharing Objects → ℕ → Semaphore → Step (Sharing Objects)
creates b place x = becomes b (put_semaphore b.shared place (record x { created = true }))

abbrev pub create_semaphore : Mode → Sharing Objects → Runner → ℤ → Step (Sharing Objects)
create_semaphore m b p name = create m b p service.CreateSemaphore name (semaphore b.shared name) is_created (creates b)

abbrev pub get_semaphore_id : Sharing Objects → Runner → ℤ → Step (Sharing Objects)
get_semaphore_id b p name = get_id b p service.GetSemaphoreId name (semaphore b.shared name) is_created

-- ---- WAIT_SEMAPHORE

abbrev pub waiting_for : ℕ → Semaphore → Waiting
waiting_for place x = record { service = service.WaitSemaphore; list = list place; discipline = x.row.discipline; array = None }

-- lowers its value by one; at 0, blocks the caller for at most `limit`
abbrev pub takes : At → Sharing Objects → Runner → ℤ → ℕ → Semaphore → Step (Sharing Objects)
takes at b p limit place x =
    if nat_lt 0 x.value
    then after (answers b p service.WaitSemaphore code.NoError []) (becomes b (put_semaphore b.shared place (record x { value = x.value - 1 })))
    else of_processes b (blocks at b.processes p limit (waiting_for place x) (message []))

abbrev pub wait_semaphore : At → Sharing Objects → Runner → ℤ → ℤ → Step (Sharing Objects)
wait_semaphore at b p id limit =
    row (refuses b p service.WaitSemaphore)
    ((not (has (semaphore b.shared id) is_created), code.InvalidParam)
    ∷ (not (is_duration limit), code.InvalidParam)
    ∷ [])
    (on (semaphore b.shared id) b (takes at b p limit))

-- ---- SIGNAL_SEMAPHORE

abbrev pub is_at_maximum : Semaphore → Bool
is_at_maximum x = nat_le x.row.maximum x.value

-- releases the first waiting process, and the value stays; if none waits, the value rises by one
abbrev pub signals : Sharing Objects → ℕ → Semaphore → Option (Runner × ProcessStatus) → Step (Sharing Objects)
signals b place x None = becomes b (put_semaphore b.shared place (record x { value = x.value + 1 }))
signals b place x (Some f) = of_processes b (released b.processes f.0 f.1 code.NoError)

abbrev pub signal_semaphore : Sharing Objects → Runner → ℤ → Step (Sharing Objects)
signal_semaphore b p id =
    row (refuses b p service.SignalSemaphore)
    ((not (has (semaphore b.shared id) is_created), code.InvalidParam)
    ∷ (has (semaphore b.shared id) is_at_maximum, code.NoAction)
    ∷ [])
    (after (answers b p service.SignalSemaphore code.NoError []) (on (semaphore b.shared id) b (λ place x. signals b place x (first_waiting b.processes (list place)))))

-- ---- GET_SEMAPHORE_STATUS

-- its value, its maximum, and the number of waiting processes
abbrev pub status : Sharing Objects → ℕ → Semaphore → List ℤ
status b place x = pos x.value ∷ pos x.row.maximum ∷ pos (waiting_count b.processes (list place)) ∷ []

abbrev pub get_semaphore_status : Sharing Objects → Runner → ℤ → Step (Sharing Objects)
get_semaphore_status b p id = get_status b p service.GetSemaphoreStatus (semaphore b.shared id) is_created (status b)

-- The services on events, a row each.
use Rattle.std.specs.Prelude.{ℕ, ℤ, pos, Bool, true, false, not, List, [], ◌∷◌, None, if◌then◌else◌}
use Rattle.apex_types.specs.declared.codes.Discipline.TheVariants as discipline
use Rattle.apex_types.specs.declared.codes.Mode.{Mode}
use Rattle.apex_types.specs.declared.codes.ReturnCode.TheVariants as code
use Rattle.apex_types.specs.declared.identity.At.{At}
use Rattle.apex_types.specs.declared.identity.ListKey.{ListKey}
use Rattle.apex_types.specs.declared.identity.ListKey.TheVariants as key
use Rattle.apex_types.specs.declared.identity.Runner.{Runner}
use Rattle.apex_types.specs.declared.process.Waiting.{Waiting}
use Rattle.apex_types.specs.declared.service.Service.TheVariants as service
use Rattle.kernel_meaning.specs.Times.{is_duration}
use Rattle.kernel_meaning.specs.Objects.{Objects, ApexEvent, event, put_event}
use Rattle.kernel_meaning.specs.Sharing.{Sharing, of_processes, becomes, answers, refuses, has, on, create, get_id, get_status, waiting, waiting_count, releases_all, blocks}
use Rattle.kernel_meaning.specs.Step.{Step, after, message, row}

abbrev pub is_created : ApexEvent → Bool
is_created x = x.created

-- its waiting list
abbrev pub list : ℕ → ListKey
list place = key.Event place

-- ---- CREATE_EVENT and GET_EVENT_ID

abbrev pub creates : Sharing Objects → ℕ → ApexEvent → Step (Sharing Objects)
creates b place x = becomes b (put_event b.shared place (record x { created = true }))

abbrev pub create_event : Mode → Sharing Objects → Runner → ℤ → Step (Sharing Objects)
create_event m b p name = create m b p service.CreateEvent name (event b.shared name) is_created (creates b)

abbrev pub get_event_id : Sharing Objects → Runner → ℤ → Step (Sharing Objects)
get_event_id b p name = get_id b p service.GetEventId name (event b.shared name) is_created

-- ---- SET_EVENT and RESET_EVENT

abbrev pub sets : Sharing Objects → Bool → ℕ → ApexEvent → Step (Sharing Objects)
sets b up place x = becomes b (put_event b.shared place (record x { up = up }))

-- the event is up, and all waiting processes are released in order of arrival
abbrev pub raises : Sharing Objects → ℕ → ApexEvent → Step (Sharing Objects)
raises b place x =
    let s = sets b true place x in
    after s (of_processes s.part (releases_all (waiting b.processes (list place)) b.processes))

abbrev pub set_event : Sharing Objects → Runner → ℤ → Step (Sharing Objects)
set_event b p id =
    row (refuses b p service.SetEvent)
    ((not (has (event b.shared id) is_created), code.InvalidParam)
    ∷ [])
    (after (answers b p service.SetEvent code.NoError []) (on (event b.shared id) b (raises b)))

abbrev pub reset_event : Sharing Objects → Runner → ℤ → Step (Sharing Objects)
reset_event b p id =
    row (refuses b p service.ResetEvent)
    ((not (has (event b.shared id) is_created), code.InvalidParam)
    ∷ [])
    (after (answers b p service.ResetEvent code.NoError []) (on (event b.shared id) b (sets b false)))

-- ---- WAIT_EVENT

abbrev pub waiting_for : ℕ → Waiting
waiting_for place = record { service = service.WaitEvent; list = list place; discipline = discipline.Fifo; array = None }

-- if the event is down, blocks the caller for at most `limit`
abbrev pub awaits : At → Sharing Objects → Runner → ℤ → ℕ → ApexEvent → Step (Sharing Objects)
awaits at b p limit place x =
    if x.up
    then answers b p service.WaitEvent code.NoError []
    else of_processes b (blocks at b.processes p limit (waiting_for place) (message []))

abbrev pub wait_event : At → Sharing Objects → Runner → ℤ → ℤ → Step (Sharing Objects)
wait_event at b p id limit =
    row (refuses b p service.WaitEvent)
    ((not (has (event b.shared id) is_created), code.InvalidParam)
    ∷ (not (is_duration limit), code.InvalidParam)
    ∷ [])
    (on (event b.shared id) b (awaits at b p limit))

-- ---- GET_EVENT_STATUS

abbrev pub number_of_state : Bool → ℕ
number_of_state false = 0
number_of_state true = 1

-- down or up, and the number of waiting processes
abbrev pub status : Sharing Objects → ℕ → ApexEvent → List ℤ
status b place x = pos (number_of_state x.up) ∷ pos (waiting_count b.processes (list place)) ∷ []

abbrev pub get_event_status : Sharing Objects → Runner → ℤ → Step (Sharing Objects)
get_event_status b p id = get_status b p service.GetEventStatus (event b.shared id) is_created (status b)

-- The services on ports, and the messages that arrive at a port and leave it.
use Rattle.std.specs.Prelude.{ℕ, ◌+◌, ℤ, pos, Bool, true, false, not, nat_le, List, [], ◌∷◌, length, Some, None, if◌then◌else◌, Option}
use Rattle.arrayvec.specs.ArrayVec.{ArrayVec}
use Rattle.apex_types.specs.declared.codes.Mode.{Mode}
use Rattle.apex_types.specs.declared.codes.ReturnCode.{ReturnCode}
use Rattle.apex_types.specs.declared.codes.ReturnCode.TheVariants as code
use Rattle.apex_types.specs.declared.identity.At.{At}
use Rattle.apex_types.specs.declared.identity.ListKey.{ListKey}
use Rattle.apex_types.specs.declared.identity.ListKey.TheVariants as key
use Rattle.apex_types.specs.declared.identity.Runner.{Runner}
use Rattle.apex_types.specs.declared.process.Waiting.{Waiting}
use Rattle.apex_types.specs.declared.service.ArrayPlace.{ArrayPlace}
use Rattle.apex_types.specs.declared.service.PortCall.{PortCall}
use Rattle.apex_types.specs.declared.service.PortCall.TheVariants as port
use Rattle.apex_types.specs.declared.service.Service.TheVariants as service
use Rattle.kernel_meaning.specs.Times.{is_duration}
use Rattle.kernel_meaning.specs.Objects.{Port, Ports, sampling, queuing, put_port, with_sample, with_message, is_source, is_full, refresh_of, depth_of, discipline_of, port_at, is_sampling}
use Rattle.kernel_meaning.specs.Sharing.{Sharing, of_processes, becomes, answers, refuses, has, on, create, get_id, get_status, is_length, is_large_enough, waiting_count, blocks, fills, first_waiting, waiting, handed_by, gives}
use Rattle.kernel_meaning.specs.Step.{Step, nothing, after, message, first_words, row}
use Rattle.apex_types.specs.declared.event.EventKind.TheVariants as event
use Rattle.apex_types.specs.declared.process.Entry.{Entry}
use Rattle.apex_types.specs.declared.process.ProcessStatus.{ProcessStatus}
use Rattle.apex_types.specs.declared.identity.Runner.TheVariants as runner
use Rattle.kernel_meaning.specs.Processes.{released, row_of, numbered}

-- The services on ports, a row each.

abbrev pub is_created : Port → Bool
is_created x = x.created

abbrev pub becomes_port : Sharing Ports → ℕ → Port → Step (Sharing Ports)
becomes_port b place x = becomes b (put_port b.shared place x)

-- the waiting list of a queuing port: of senders while it is full, of receivers while it is empty
abbrev pub list : ℕ → ListKey
list place = key.Port place

-- source 0, destination 1
abbrev pub direction_number : Port → ℕ
direction_number x = if is_source x then 0 else 1

-- invalid 0, valid 1
abbrev pub validity_number : Bool → ℕ
validity_number false = 0
validity_number true = 1

abbrev pub creates : Sharing Ports → ℕ → Port → Step (Sharing Ports)
creates b place x = becomes_port b place (record x { created = true })

-- ---- CREATE_SAMPLING_PORT and GET_SAMPLING_PORT_ID

abbrev pub create_sampling_port : Mode → Sharing Ports → Runner → ℤ → Step (Sharing Ports)
create_sampling_port m b p name = create m b p service.CreateSamplingPort name (sampling b.shared name) is_created (creates b)

abbrev pub get_sampling_port_id : Sharing Ports → Runner → ℤ → Step (Sharing Ports)
get_sampling_port_id b p name = get_id b p service.GetSamplingPortId name (sampling b.shared name) is_created

-- ---- WRITE_SAMPLING_MESSAGE

-- the message replaces the one before, until it moves
abbrev pub writes_sample : Sharing Ports → Runner → ArrayVec ℤ → ℕ → Port → Step (Sharing Ports)
writes_sample b p m place x =
    after (answers b p service.WriteSamplingMessage code.NoError []) (becomes_port b place (with_sample x m))

abbrev pub write_sampling_message : Sharing Ports → Runner → ℤ → ArrayPlace → ℤ → List ℤ → Step (Sharing Ports)
write_sampling_message b p id array length words =
    row (refuses b p service.WriteSamplingMessage)
    ((not (has (sampling b.shared id) is_created), code.InvalidParam)
    ∷ (not (has (sampling b.shared id) is_source), code.InvalidMode)
    ∷ (not (has (sampling b.shared id) (λ x. is_length x.row.words array length)), code.InvalidParam)
    ∷ [])
    (on (sampling b.shared id) b (writes_sample b p (message (first_words length words))))

-- ---- READ_SAMPLING_MESSAGE

-- its message arrived at most the port's refresh period ago
abbrev pub is_valid : At → Port → Bool
is_valid at x = nat_le at.now.0 (x.arrival.0 + refresh_of x.row.kind)

-- Copies the message into the array, with its length and its validity; the message stays in the
-- port. NO_ACTION if the port is empty.
abbrev pub reads_sample : At → Sharing Ports → Runner → ArrayPlace → ℕ → Port → List (ArrayVec ℤ) → Step (Sharing Ports)
reads_sample at b p array place x [] = refuses b p service.ReadSamplingMessage code.NoAction
reads_sample at b p array place x (m ∷ rest) =
    after (answers b p service.ReadSamplingMessage code.NoError (pos (length m.items) ∷ pos (validity_number (is_valid at x)) ∷ []))
    (after (fills b (Some array) m) (becomes_port b place (record x { valid = is_valid at x })))

abbrev pub read_sampling_message : At → Sharing Ports → Runner → ℤ → ArrayPlace → Step (Sharing Ports)
read_sampling_message at b p id array =
    row (refuses b p service.ReadSamplingMessage)
    ((not (has (sampling b.shared id) is_created), code.InvalidParam)
    ∷ (has (sampling b.shared id) is_source, code.InvalidMode)
    ∷ (not (has (sampling b.shared id) (λ x. is_large_enough x.row.words array)), code.InvalidParam)
    ∷ [])
    (on (sampling b.shared id) b (λ place x. reads_sample at b p array place x x.messages))

-- ---- GET_SAMPLING_PORT_STATUS

-- the most words of a message, the direction, the refresh period in ticks, and whether the last message read was valid
abbrev pub sampling_status : ℕ → Port → List ℤ
sampling_status place x = pos x.row.words ∷ pos (direction_number x) ∷ pos (refresh_of x.row.kind) ∷ pos (validity_number x.valid) ∷ []

abbrev pub get_sampling_port_status : Sharing Ports → Runner → ℤ → Step (Sharing Ports)
get_sampling_port_status b p id = get_status b p service.GetSamplingPortStatus (sampling b.shared id) is_created sampling_status

-- ---- CREATE_QUEUING_PORT and GET_QUEUING_PORT_ID

abbrev pub create_queuing_port : Mode → Sharing Ports → Runner → ℤ → Step (Sharing Ports)
create_queuing_port m b p name = create m b p service.CreateQueuingPort name (queuing b.shared name) is_created (creates b)

abbrev pub get_queuing_port_id : Sharing Ports → Runner → ℤ → Step (Sharing Ports)
get_queuing_port_id b p name = get_id b p service.GetQueuingPortId name (queuing b.shared name) is_created

-- ---- SEND_QUEUING_MESSAGE

abbrev pub sender : ℕ → Port → Waiting
sender place x = record { service = service.SendQueuingMessage; list = list place; discipline = discipline_of x.row.kind; array = None }

-- appends the message, until it moves; if the port is full, blocks the caller for at most `limit`
abbrev pub sends : At → Sharing Ports → Runner → ℤ → ArrayVec ℤ → ℕ → Port → Step (Sharing Ports)
sends at b p limit m place x =
    if is_full x
    then of_processes b (blocks at b.processes p limit (sender place x) m)
    else after (answers b p service.SendQueuingMessage code.NoError []) (becomes_port b place (with_message x m))

abbrev pub send_queuing_message : At → Sharing Ports → Runner → ℤ → ArrayPlace → ℤ → ℤ → List ℤ → Step (Sharing Ports)
send_queuing_message at b p id array length limit words =
    row (refuses b p service.SendQueuingMessage)
    ((not (has (queuing b.shared id) is_created), code.InvalidParam)
    ∷ (not (is_duration limit), code.InvalidParam)
    ∷ (not (has (queuing b.shared id) is_source), code.InvalidMode)
    ∷ (not (has (queuing b.shared id) (λ x. is_length x.row.words array length)), code.InvalidParam)
    ∷ [])
    (on (queuing b.shared id) b (sends at b p limit (message (first_words length words))))

-- ---- RECEIVE_QUEUING_MESSAGE

abbrev pub receiver : ℕ → Port → ArrayPlace → Waiting
receiver place x array = record { service = service.ReceiveQueuingMessage; list = list place; discipline = discipline_of x.row.kind; array = Some array }

-- the first receive after an overflow reports it
abbrev pub code_of_receive : Bool → ReturnCode
code_of_receive false = code.NoError
code_of_receive true = code.InvalidConfig

-- takes the first message into the array; if the port is empty, blocks the caller for at most
-- `limit`
abbrev pub receives : At → Sharing Ports → Runner → ArrayPlace → ℤ → ℕ → Port → List (ArrayVec ℤ) → Step (Sharing Ports)
receives at b p array limit place x [] = of_processes b (blocks at b.processes p limit (receiver place x array) (message []))
receives at b p array limit place x (m ∷ rest) =
    after (answers b p service.ReceiveQueuingMessage (code_of_receive x.overflowed) (pos (length m.items) ∷ []))
    (after (fills b (Some array) m) (becomes_port b place (record x { messages = rest; overflowed = false })))

abbrev pub receive_queuing_message : At → Sharing Ports → Runner → ℤ → ArrayPlace → ℤ → Step (Sharing Ports)
receive_queuing_message at b p id array limit =
    row (refuses b p service.ReceiveQueuingMessage)
    ((not (has (queuing b.shared id) is_created), code.InvalidParam)
    ∷ (not (is_duration limit), code.InvalidParam)
    ∷ (has (queuing b.shared id) is_source, code.InvalidMode)
    ∷ (not (has (queuing b.shared id) (λ x. is_large_enough x.row.words array)), code.InvalidParam)
    ∷ [])
    (on (queuing b.shared id) b (λ place x. receives at b p array limit place x x.messages))

-- ---- GET_QUEUING_PORT_STATUS

-- its messages, its room for messages, the most words of a message, the direction, and the number
-- of waiting processes
abbrev pub queuing_status : Sharing Ports → ℕ → Port → List ℤ
queuing_status b place x = pos (length x.messages) ∷ pos (depth_of x.row.kind) ∷ pos x.row.words ∷ pos (direction_number x) ∷ pos (waiting_count b.processes (list place)) ∷ []

abbrev pub get_queuing_port_status : Sharing Ports → Runner → ℤ → Step (Sharing Ports)
get_queuing_port_status b p id = get_status b p service.GetQueuingPortStatus (queuing b.shared id) is_created (queuing_status b)

-- ---- CLEAR_QUEUING_PORT

-- removes the messages and clears the overflow; receivers continue to wait
abbrev pub clears_port : Sharing Ports → Runner → ℕ → Port → Step (Sharing Ports)
clears_port b p place x = after (answers b p service.ClearQueuingPort code.NoError []) (becomes_port b place (record x { messages = []; overflowed = false }))

abbrev pub clear_queuing_port : Sharing Ports → Runner → ℤ → Step (Sharing Ports)
clear_queuing_port b p id =
    row (refuses b p service.ClearQueuingPort)
    ((not (has (queuing b.shared id) is_created), code.InvalidParam)
    ∷ (has (queuing b.shared id) is_source, code.InvalidMode)
    ∷ [])
    (on (queuing b.shared id) b (clears_port b p))

-- ---- the dispatch

-- the services on ports, in a mode
abbrev pub serves_ports : Mode → At → Sharing Ports → Runner → PortCall → List ℤ → Step (Sharing Ports)
serves_ports m at b p (port.CreateSamplingPort name) words = create_sampling_port m b p name
serves_ports m at b p (port.WriteSamplingMessage id array length) words = write_sampling_message b p id array length words
serves_ports m at b p (port.ReadSamplingMessage id array) words = read_sampling_message at b p id array
serves_ports m at b p (port.GetSamplingPortId name) words = get_sampling_port_id b p name
serves_ports m at b p (port.GetSamplingPortStatus id) words = get_sampling_port_status b p id
serves_ports m at b p (port.CreateQueuingPort name) words = create_queuing_port m b p name
serves_ports m at b p (port.SendQueuingMessage id array length limit) words = send_queuing_message at b p id array length limit words
serves_ports m at b p (port.ReceiveQueuingMessage id array limit) words = receive_queuing_message at b p id array limit
serves_ports m at b p (port.GetQueuingPortId name) words = get_queuing_port_id b p name
serves_ports m at b p (port.GetQueuingPortStatus id) words = get_queuing_port_status b p id
serves_ports m at b p (port.ClearQueuingPort id) words = clear_queuing_port b p id

-- Messages between partitions: how one arrives at a port, how a port's first message leaves it, and how the
-- senders that wait for room enter.

-- ---- arrival

-- the port's line of a message that has arrived
abbrev pub arrived : Sharing Ports → Port → ArrayVec ℤ → Step (Sharing Ports)
arrived b x m = record { part = b; lines = event.Arrive x.row.name m ∷ []; actions = [] }

-- a sampling port replaces its message, and the tick of its arrival
abbrev pub arrives_sampling : At → Sharing Ports → ℕ → Port → ArrayVec ℤ → Step (Sharing Ports)
arrives_sampling at b place x m = after (arrived b x m) (becomes_port b place (record (with_sample x m) { arrival = at.now }))

-- the message finds the port full, which the port remembers
abbrev pub is_lost : Sharing Ports → ℕ → Port → ArrayVec ℤ → Step (Sharing Ports)
is_lost b place x m = record { part = (becomes_port b place (record x { overflowed = true })).part; lines = event.Lost x.row.name m ∷ []; actions = [] }

-- Gives the message to the first receiver that waits. Without a receiver, appends it to the
-- messages; if the port is full, the message is lost.
abbrev pub arrives_queuing : Sharing Ports → ℕ → Port → ArrayVec ℤ → Option (Runner × ProcessStatus) → Step (Sharing Ports)
arrives_queuing b place x m (Some f) = after (arrived b x m) (of_processes b (gives b.processes f.0 f.1 m))
arrives_queuing b place x m None =
    if is_full x then is_lost b place x m else after (arrived b x m) (becomes_port b place (with_message x m))

abbrev pub arrives_at : At → Sharing Ports → ℕ → ArrayVec ℤ → Option Port → Step (Sharing Ports)
arrives_at at b place m None = nothing b
arrives_at at b place m (Some x) =
    if is_sampling x
    then arrives_sampling at b place x m
    else arrives_queuing b place x m (first_waiting b.processes (list place))

-- A message arrives at the port with a place, created or not.
abbrev pub arrives : At → Sharing Ports → ℕ → ArrayVec ℤ → Step (Sharing Ports)
arrives at b place m = arrives_at at b place m (port_at b.shared place)

-- ---- moves

-- the first message of a port, if it holds one
abbrev pub first_of : List (ArrayVec ℤ) → Option (ArrayVec ℤ)
first_of [] = None
first_of (m ∷ rest) = Some m

abbrev pub first_message : Option Port → Option (ArrayVec ℤ)
first_message None = None
first_message (Some x) = first_of x.messages

abbrev pub leaves_first : Ports → ℕ → Port → List (ArrayVec ℤ) → Step Ports
leaves_first o place x [] = nothing o
leaves_first o place x (m ∷ rest) = record { part = put_port o place (record x { messages = rest }); lines = event.Move x.row.name m ∷ []; actions = [] }

abbrev pub leaves_of : Ports → ℕ → Option Port → Step Ports
leaves_of o place None = nothing o
leaves_of o place (Some x) = leaves_first o place x x.messages

-- The first message of the port with a place leaves it.
abbrev pub leaves : Ports → ℕ → Step Ports
leaves o place = leaves_of o place (port_at o place)

-- ---- senders that wait

abbrev pub enters_found : Sharing Ports → ℕ → Port → Option (Runner × ProcessStatus) → Step (Sharing Ports)
enters_found b place x None = nothing b
enters_found b place x (Some f) =
    let s = becomes_port b place (with_message x (handed_by b.processes f.0)) in
    after s (of_processes s.part (released b.processes f.0 f.1 code.NoError))

-- the message of a sender goes after the others if there is room, and the sender is released
abbrev pub enters_port : Sharing Ports → ℕ → Entry → Option Port → Step (Sharing Ports)
enters_port b place e None = nothing b
enters_port b place e (Some x) =
    if is_full x then nothing b else enters_found b place x (numbered e.process (row_of b.processes (runner.Process e.process)))

-- admits each of these in turn
abbrev pub all_enter : List Entry → ℕ → Sharing Ports → Step (Sharing Ports)
all_enter [] place b = nothing b
all_enter (e ∷ es) place b =
    let s = enters_port b place e (port_at b.shared place) in
    after s (all_enter es place s.part)

-- The senders that wait at the port at a place enter it in their order, while there is room.
abbrev pub admits : Sharing Ports → ℕ → Step (Sharing Ports)
admits b place = all_enter (waiting b.processes (list place)) place b

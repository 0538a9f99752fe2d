-- The services on buffers, a row each.
use Rattle.std.specs.Prelude.{ℕ, ℤ, pos, Bool, true, not, nat_le, List, [], ◌∷◌, ◌++◌, length, Option, Some, None, if◌then◌else◌}
use Rattle.arrayvec.specs.ArrayVec.{ArrayVec}
use Rattle.apex_types.specs.declared.codes.Mode.{Mode}
use Rattle.apex_types.specs.declared.codes.ReturnCode.TheVariants as code
use Rattle.apex_types.specs.declared.identity.At.{At}
use Rattle.apex_types.specs.declared.identity.ListKey.{ListKey}
use Rattle.apex_types.specs.declared.identity.ListKey.TheVariants as key
use Rattle.apex_types.specs.declared.identity.Runner.{Runner}
use Rattle.apex_types.specs.declared.process.ProcessStatus.{ProcessStatus}
use Rattle.apex_types.specs.declared.process.Waiting.{Waiting}
use Rattle.apex_types.specs.declared.service.ArrayPlace.{ArrayPlace}
use Rattle.apex_types.specs.declared.service.Service.TheVariants as service
use Rattle.kernel_meaning.specs.Times.{is_duration}
use Rattle.kernel_meaning.specs.Objects.{Objects, Buffer, buffer, put_buffer}
use Rattle.kernel_meaning.specs.Processes.{released}
use Rattle.kernel_meaning.specs.Sharing.{Sharing, of_processes, becomes, answers, refuses, has, on, create, get_id, get_status, is_length, is_large_enough, waiting_count, first_waiting, handed_by, blocks, fills, gives}
use Rattle.kernel_meaning.specs.Step.{Step, after, message, first_words, row}

abbrev pub is_created : Buffer → Bool
is_created x = x.created

-- its waiting list, of receivers while it is empty and of senders while it is full
abbrev pub list : ℕ → ListKey
list place = key.Buffer place

-- ---- CREATE_BUFFER and GET_BUFFER_ID

abbrev pub creates : Sharing Objects → ℕ → Buffer → Step (Sharing Objects)
creates b place x = becomes b (put_buffer b.shared place (record x { created = true }))

abbrev pub create_buffer : Mode → Sharing Objects → Runner → ℤ → Step (Sharing Objects)
create_buffer m b p name = create m b p service.CreateBuffer name (buffer b.shared name) is_created (creates b)

abbrev pub get_buffer_id : Sharing Objects → Runner → ℤ → Step (Sharing Objects)
get_buffer_id b p name = get_id b p service.GetBufferId name (buffer b.shared name) is_created

-- ---- SEND_BUFFER

abbrev pub sender : ℕ → Buffer → Waiting
sender place x = record { service = service.SendBuffer; list = list place; discipline = x.row.discipline; array = None }

abbrev pub is_full : Buffer → Bool
is_full x = nat_le x.row.depth (length x.messages)

abbrev pub with_message : Buffer → ArrayVec ℤ → Buffer
with_message x m = record x { messages = x.messages ++ m ∷ [] }

-- the first waiting receiver takes the message; without one, it goes after the others
abbrev pub takes_message : Sharing Objects → ℕ → Buffer → ArrayVec ℤ → Option (Runner × ProcessStatus) → Step (Sharing Objects)
takes_message b place x m None = becomes b (put_buffer b.shared place (with_message x m))
takes_message b place x m (Some f) = of_processes b (gives b.processes f.0 f.1 m)

-- if the buffer is full, blocks the caller for at most `limit`
abbrev pub sends : At → Sharing Objects → Runner → ℤ → ArrayVec ℤ → ℕ → Buffer → Step (Sharing Objects)
sends at b p limit m place x =
    if is_full x
    then of_processes b (blocks at b.processes p limit (sender place x) m)
    else after (answers b p service.SendBuffer code.NoError []) (takes_message b place x m (first_waiting b.processes (list place)))

abbrev pub send_buffer : At → Sharing Objects → Runner → ℤ → ArrayPlace → ℤ → ℤ → List ℤ → Step (Sharing Objects)
send_buffer at b p id array length limit words =
    row (refuses b p service.SendBuffer)
    ((not (has (buffer b.shared id) is_created), code.InvalidParam)
    ∷ (not (has (buffer b.shared id) (λ x. is_length x.row.words array length)), code.InvalidParam)
    ∷ (not (is_duration limit), code.InvalidParam)
    ∷ [])
    (on (buffer b.shared id) b (sends at b p limit (message (first_words length words))))

-- ---- RECEIVE_BUFFER

abbrev pub receiver : ℕ → Buffer → ArrayPlace → Waiting
receiver place x array = record { service = service.ReceiveBuffer; list = list place; discipline = x.row.discipline; array = Some array }

-- the message of the first waiting sender, if any, goes after the others, and the sender is
-- released
abbrev pub admits : Sharing Objects → ℕ → Buffer → Option (Runner × ProcessStatus) → Step (Sharing Objects)
admits b place x None = becomes b (put_buffer b.shared place x)
admits b place x (Some f) =
    let s = becomes b (put_buffer b.shared place (with_message x (handed_by b.processes f.0))) in
    after s (of_processes s.part (released b.processes f.0 f.1 code.NoError))

-- takes the first message into the array; if the buffer is empty, blocks the caller for at most
-- `limit`
abbrev pub receives : At → Sharing Objects → Runner → ArrayPlace → ℤ → ℕ → Buffer → List (ArrayVec ℤ) → Step (Sharing Objects)
receives at b p array limit place x [] = of_processes b (blocks at b.processes p limit (receiver place x array) (message []))
receives at b p array limit place x (m ∷ rest) =
    after (answers b p service.ReceiveBuffer code.NoError (pos (length m.items) ∷ []))
    (after (fills b (Some array) m) (admits b place (record x { messages = rest }) (first_waiting b.processes (list place))))

abbrev pub receive_buffer : At → Sharing Objects → Runner → ℤ → ArrayPlace → ℤ → Step (Sharing Objects)
receive_buffer at b p id array limit =
    row (refuses b p service.ReceiveBuffer)
    ((not (has (buffer b.shared id) is_created), code.InvalidParam)
    ∷ (not (has (buffer b.shared id) (λ x. is_large_enough x.row.words array)), code.InvalidParam)
    ∷ (not (is_duration limit), code.InvalidParam)
    ∷ [])
    (on (buffer b.shared id) b (λ place x. receives at b p array limit place x x.messages))

-- ---- GET_BUFFER_STATUS

-- its messages, its room for messages, the most words of a message, and the number of waiting
-- processes
abbrev pub status : Sharing Objects → ℕ → Buffer → List ℤ
status b place x = pos (length x.messages) ∷ pos x.row.depth ∷ pos x.row.words ∷ pos (waiting_count b.processes (list place)) ∷ []

abbrev pub get_buffer_status : Sharing Objects → Runner → ℤ → Step (Sharing Objects)
get_buffer_status b p id = get_status b p service.GetBufferStatus (buffer b.shared id) is_created (status b)

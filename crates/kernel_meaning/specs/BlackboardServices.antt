-- The services on blackboards, a row each.
use Rattle.std.specs.Prelude.{ℕ, ℤ, pos, Bool, true, not, List, [], ◌∷◌, length, Option, Some, None}
use Rattle.arrayvec.specs.ArrayVec.{ArrayVec}
use Rattle.apex_types.specs.declared.codes.Discipline.TheVariants as discipline
use Rattle.apex_types.specs.declared.codes.Mode.{Mode}
use Rattle.apex_types.specs.declared.codes.ReturnCode.TheVariants as code
use Rattle.apex_types.specs.declared.identity.At.{At}
use Rattle.apex_types.specs.declared.identity.ListKey.{ListKey}
use Rattle.apex_types.specs.declared.identity.ListKey.TheVariants as key
use Rattle.apex_types.specs.declared.identity.Runner.{Runner}
use Rattle.apex_types.specs.declared.process.Waiting.{Waiting}
use Rattle.apex_types.specs.declared.service.ArrayPlace.{ArrayPlace}
use Rattle.apex_types.specs.declared.service.Service.TheVariants as service
use Rattle.kernel_meaning.specs.Times.{is_duration}
use Rattle.kernel_meaning.specs.Objects.{Objects, Blackboard, blackboard, put_blackboard}
use Rattle.kernel_meaning.specs.Sharing.{Sharing, of_processes, becomes, answers, refuses, has, on, create, get_id, get_status, is_length, is_large_enough, waiting, waiting_count, blocks, fills, gives_all}
use Rattle.kernel_meaning.specs.Step.{Step, after, message, first_words, row}

abbrev pub is_created : Blackboard → Bool
is_created x = x.created

-- its waiting list
abbrev pub list : ℕ → ListKey
list place = key.Blackboard place

-- ---- CREATE_BLACKBOARD and GET_BLACKBOARD_ID

abbrev pub creates : Sharing Objects → ℕ → Blackboard → Step (Sharing Objects)
creates b place x = becomes b (put_blackboard b.shared place (record x { created = true }))

abbrev pub create_blackboard : Mode → Sharing Objects → Runner → ℤ → Step (Sharing Objects)
create_blackboard m b p name = create m b p service.CreateBlackboard name (blackboard b.shared name) is_created (creates b)

abbrev pub get_blackboard_id : Sharing Objects → Runner → ℤ → Step (Sharing Objects)
get_blackboard_id b p name = get_id b p service.GetBlackboardId name (blackboard b.shared name) is_created

-- ---- DISPLAY_BLACKBOARD and CLEAR_BLACKBOARD

abbrev pub shows : Sharing Objects → Option (ArrayVec ℤ) → ℕ → Blackboard → Step (Sharing Objects)
shows b shown place x = becomes b (put_blackboard b.shared place (record x { shown = shown }))

-- stores the message, and all waiting processes take it in order of arrival
abbrev pub displays : Sharing Objects → ArrayVec ℤ → ℕ → Blackboard → Step (Sharing Objects)
displays b m place x =
    let s = shows b (Some m) place x in
    after s (of_processes s.part (gives_all (waiting b.processes (list place)) m b.processes))

abbrev pub display_blackboard : Sharing Objects → Runner → ℤ → ArrayPlace → ℤ → List ℤ → Step (Sharing Objects)
display_blackboard b p id array length words =
    row (refuses b p service.DisplayBlackboard)
    ((not (has (blackboard b.shared id) is_created), code.InvalidParam)
    ∷ (not (has (blackboard b.shared id) (λ x. is_length x.row.words array length)), code.InvalidParam)
    ∷ [])
    (after (answers b p service.DisplayBlackboard code.NoError []) (on (blackboard b.shared id) b (displays b (message (first_words length words)))))

abbrev pub clear_blackboard : Sharing Objects → Runner → ℤ → Step (Sharing Objects)
clear_blackboard b p id =
    row (refuses b p service.ClearBlackboard)
    ((not (has (blackboard b.shared id) is_created), code.InvalidParam)
    ∷ [])
    (after (answers b p service.ClearBlackboard code.NoError []) (on (blackboard b.shared id) b (shows b None)))

-- ---- READ_BLACKBOARD

abbrev pub reader : ℕ → ArrayPlace → Waiting
reader place array = record { service = service.ReadBlackboard; list = list place; discipline = discipline.Fifo; array = Some array }

-- copies the displayed message into the array; without one, blocks the caller for at most `limit`
abbrev pub reads : At → Sharing Objects → Runner → ArrayPlace → ℤ → ℕ → Option (ArrayVec ℤ) → Step (Sharing Objects)
reads at b p array limit place None = of_processes b (blocks at b.processes p limit (reader place array) (message []))
reads at b p array limit place (Some m) = after (answers b p service.ReadBlackboard code.NoError (pos (length m.items) ∷ [])) (fills b (Some array) m)

abbrev pub read_blackboard : At → Sharing Objects → Runner → ℤ → ArrayPlace → ℤ → Step (Sharing Objects)
read_blackboard at b p id array limit =
    row (refuses b p service.ReadBlackboard)
    ((not (has (blackboard b.shared id) is_created), code.InvalidParam)
    ∷ (not (has (blackboard b.shared id) (λ x. is_large_enough x.row.words array)), code.InvalidParam)
    ∷ (not (is_duration limit), code.InvalidParam)
    ∷ [])
    (on (blackboard b.shared id) b (λ place x. reads at b p array limit place x.shown))

-- ---- GET_BLACKBOARD_STATUS

abbrev pub indicator : Option (ArrayVec ℤ) → ℕ
indicator None = 0
indicator (Some m) = 1

-- empty or occupied, the most words of a message, and the number of waiting processes
abbrev pub status : Sharing Objects → ℕ → Blackboard → List ℤ
status b place x = pos (indicator x.shown) ∷ pos x.row.words ∷ pos (waiting_count b.processes (list place)) ∷ []

abbrev pub get_blackboard_status : Sharing Objects → Runner → ℤ → Step (Sharing Objects)
get_blackboard_status b p id = get_status b p service.GetBlackboardStatus (blackboard b.shared id) is_created (status b)

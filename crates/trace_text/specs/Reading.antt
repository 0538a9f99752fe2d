-- How a line is read, field by field.
use Rattle.std.specs.Prelude.{ℕ, ℤ, ◌-◌, ◌&&◌, ◌==◌, nat_le, if◌then◌else◌, List, [], ◌∷◌, length, codes, find, Option, Some, None, option_map, slice_get}
use Rattle.std.specs.List.{list_all}
use Rattle.apex_types.specs.Line.{space}
use Rattle.apex_types.specs.CodeWords.{mode_word, state_word, error_word, level_word, level_of_response, action_word}
use Rattle.apex_types.specs.NameText.{is_name}
use Rattle.apex_types.specs.ServiceShape.{services}
use Rattle.apex_types.specs.ServiceShape.{service_word}
use Rattle.apex_types.specs.declared.codes.ErrorKind.{ErrorKind}
use Rattle.apex_types.specs.declared.codes.ErrorKind.TheVariants as error
use Rattle.apex_types.specs.declared.codes.Mode.{Mode}
use Rattle.apex_types.specs.declared.codes.Mode.TheVariants as mode
use Rattle.apex_types.specs.declared.codes.ModuleAction.TheVariants as module_action
use Rattle.apex_types.specs.declared.codes.PartitionAction.TheVariants as partition_action
use Rattle.apex_types.specs.declared.codes.ProcessState.{ProcessState}
use Rattle.apex_types.specs.declared.codes.ProcessState.TheVariants as state
use Rattle.apex_types.specs.declared.codes.Response.{Response}
use Rattle.apex_types.specs.declared.codes.Response.TheVariants as response
use Rattle.apex_types.specs.declared.codes.ReturnCode.{ReturnCode}
use Rattle.apex_types.specs.declared.codes.ReturnCode.TheVariants as code
use Rattle.apex_types.specs.declared.event.Event.{Event}
use Rattle.apex_types.specs.declared.event.EventKind.{EventKind}
use Rattle.apex_types.specs.declared.event.EventKind.TheVariants as event
use Rattle.apex_types.specs.declared.event.Subject.{Subject}
use Rattle.apex_types.specs.declared.event.Subject.TheVariants as subject
use Rattle.apex_types.specs.declared.identity.Ticks.{Ticks}
use Rattle.apex_types.specs.Limits.{MOST_TICKS, MOST_WORDS}
use Rattle.apex_types.specs.declared.service.Service.{Service}
use Rattle.arrayvec.specs.ArrayVec.{ArrayVec}
use Rattle.module_meaning.specs.DeviceText.{pieces, plain_number, if_at_most, words}
use Rattle.engine_meaning.specs.Digits.{same, is_digit, decimal_value}
use Rattle.kernel_meaning.specs.Step.{message}
use Rattle.trace_text.specs.Trace.{happens_in}
use Rattle.trace_text.specs.declared.keyword.Keyword.{Keyword}
use Rattle.trace_text.specs.declared.keyword.Keyword.TheVariants as keyword

-- both values, put together
abbrev pub both : {A B C : Type 0} → (A → B → C) → Option A → Option B → Option C
both f (Some a) (Some b) = Some (f a b)
both f _ _ = None

-- the first of these that has this word
abbrev pub with_word : {A : Type 0} → (A → List ℕ) → List A → List ℕ → Option A
with_word word all text = find (λ x. same (word x) text) all

-- ---- fields

abbrev pub tick_with : Option ℕ → Option Ticks
tick_with None = None
tick_with (Some n) = Some (record { 0 = n })

-- 13 digits, of a tick that a run can have
abbrev pub tick_of : List ℕ → Option Ticks
tick_of text = if (length text == 13) && list_all is_digit text then tick_with (if_at_most (MOST_TICKS - 1) (decimal_value text)) else None

abbrev pub name_of : List ℕ → Option (List ℕ)
name_of text = if is_name text then Some text else None

-- `-` is the module itself
abbrev pub partition_of : List ℕ → Option (Option (List ℕ))
partition_of text = if same text (codes "-") then Some None else option_map (λ name. Some name) (name_of text)

abbrev pub subject_of : List ℕ → Option Subject
subject_of text =
    if same text (codes "INIT") then Some subject.Init else
    if same text (codes "HANDLER") then Some subject.Handler else option_map (λ name. subject.Process name) (name_of text)

-- `-` is no process
abbrev pub culprit_of : List ℕ → Option (Option Subject)
culprit_of text = if same text (codes "-") then Some None else option_map (λ who. Some who) (subject_of text)

abbrev pub modes : List Mode
modes = mode.Idle ∷ mode.ColdStart ∷ mode.WarmStart ∷ mode.Normal ∷ []

abbrev pub mode_of : List ℕ → Option Mode
mode_of text = with_word mode_word modes text

abbrev pub states : List ProcessState
states = state.Dormant ∷ state.Ready ∷ state.Running ∷ state.Waiting ∷ []

abbrev pub state_of : List ℕ → Option ProcessState
state_of text = with_word state_word states text

abbrev pub service_of : List ℕ → Option Service
service_of text = with_word service_word services text

abbrev pub errors : List ErrorKind
errors =
    error.DeadlineMissed ∷ error.ApplicationError ∷ error.NumericError ∷ error.IllegalRequest ∷
    error.StackOverflow ∷ error.MemoryViolation ∷ error.HardwareFault ∷ []

abbrev pub error_of : List ℕ → Option ErrorKind
error_of text = with_word error_word errors text

abbrev pub return_codes : List ReturnCode
return_codes =
    code.NoError ∷ code.NoAction ∷ code.NotAvailable ∷ code.InvalidParam ∷ code.InvalidConfig ∷
    code.InvalidMode ∷ code.TimedOut ∷ []

abbrev pub code_at : Option ℕ → Option ReturnCode
code_at None = None
code_at (Some n) = slice_get return_codes n

abbrev pub code_of : List ℕ → Option ReturnCode
code_of text = code_at (plain_number 6 text)

abbrev pub responses : List Response
responses =
    response.Handler ∷
    response.Partition partition_action.Ignore ∷ response.Partition partition_action.Idle ∷
    response.Partition partition_action.WarmStart ∷ response.Partition partition_action.ColdStart ∷
    response.Module module_action.Ignore ∷ response.Module module_action.Shutdown ∷ response.Module module_action.Reset ∷ []

-- the response with these words for its level and its action
abbrev pub response_of : List ℕ → List ℕ → Option Response
response_of level action = find (λ r. same (level_word (level_of_response r)) level && same (action_word r) action) responses

-- no more words than a message may have
abbrev pub few : Option (List ℤ) → Option (ArrayVec ℤ)
few None = None
few (Some ws) = if nat_le (length ws) MOST_WORDS then Some (message ws) else None

-- one word or more, but no more than a message may have
abbrev pub words_of : List (List ℕ) → Option (ArrayVec ℤ)
words_of [] = None
words_of (t ∷ ts) = few (words (t ∷ ts))

-- ---- the kind of an event

abbrev pub keyword_text : Keyword → List ℕ
keyword_text keyword.State = codes "STATE"
keyword_text keyword.Return = codes "RET"
keyword_text keyword.Mode = codes "MODE"
keyword_text keyword.Error = codes "HM"
keyword_text keyword.Report = codes "REPORT"
keyword_text keyword.Move = codes "MOVE"
keyword_text keyword.Arrive = codes "ARRIVE"
keyword_text keyword.Lost = codes "LOST"
keyword_text keyword.Out = codes "OUT"

abbrev pub keywords : List Keyword
keywords =
    keyword.State ∷ keyword.Return ∷ keyword.Mode ∷ keyword.Error ∷ keyword.Report ∷
    keyword.Move ∷ keyword.Arrive ∷ keyword.Lost ∷ keyword.Out ∷ []

abbrev pub keyword_of : List ℕ → Option Keyword
keyword_of text = with_word keyword_text keywords text

abbrev pub state_line : List (List ℕ) → Option EventKind
state_line (who ∷ state ∷ []) = both event.State (subject_of who) (state_of state)
state_line _ = None

-- the return code follows the service
abbrev pub return_with : Option Subject → Option Service → Option ReturnCode → Option EventKind
return_with (Some who) (Some service) (Some code) = Some (event.Return who service code)
return_with _ _ _ = None

abbrev pub return_line : List (List ℕ) → Option EventKind
return_line (who ∷ service ∷ code ∷ []) = return_with (subject_of who) (service_of service) (code_of code)
return_line _ = None

abbrev pub mode_line : List (List ℕ) → Option EventKind
mode_line (mode ∷ []) = option_map (λ m. event.Mode m) (mode_of mode)
mode_line _ = None

abbrev pub error_with : Option ErrorKind → Option (Option Subject) → Option Response → Option EventKind
error_with (Some error) (Some who) (Some response) = Some (event.Error error who response)
error_with _ _ _ = None

abbrev pub error_line : List (List ℕ) → Option EventKind
error_line (error ∷ who ∷ level ∷ action ∷ []) = error_with (error_of error) (culprit_of who) (response_of level action)
error_line _ = None

abbrev pub report_line : List (List ℕ) → Option EventKind
report_line (who ∷ ws) = both event.Report (subject_of who) (words_of ws)
report_line _ = None

-- the name of a port or channel, and the words of its message
abbrev pub message_of : List (List ℕ) → Option (List ℕ × ArrayVec ℤ)
message_of (name ∷ ws) = both (λ n m. (n, m)) (name_of name) (words_of ws)
message_of _ = None

abbrev pub message_line : (List ℕ → ArrayVec ℤ → EventKind) → List (List ℕ) → Option EventKind
message_line what fields = option_map (λ m. what m.0 m.1) (message_of fields)

abbrev pub kind_by : Option Keyword → List (List ℕ) → Option EventKind
kind_by None fields = None
kind_by (Some keyword.State) fields = state_line fields
kind_by (Some keyword.Return) fields = return_line fields
kind_by (Some keyword.Mode) fields = mode_line fields
kind_by (Some keyword.Error) fields = error_line fields
kind_by (Some keyword.Report) fields = report_line fields
kind_by (Some keyword.Move) fields = message_line event.Move fields
kind_by (Some keyword.Arrive) fields = message_line event.Arrive fields
kind_by (Some keyword.Lost) fields = message_line event.Lost fields
kind_by (Some keyword.Out) fields = message_line event.Out fields

abbrev pub kind_of : List (List ℕ) → Option EventKind
kind_of [] = None
kind_of (word ∷ fields) = kind_by (keyword_of word) fields

-- ---- a line

-- an event that can happen there
abbrev pub event_with : Option Ticks → Option (Option (List ℕ)) → Option EventKind → Option Event
event_with (Some t) (Some p) (Some k) = if happens_in k p then Some (record { tick = t; partition = p; kind = k }) else None
event_with _ _ _ = None

abbrev pub event_of : List (List ℕ) → Option Event
event_of (tick ∷ partition ∷ kind) = event_with (tick_of tick) (partition_of partition) (kind_of kind)
event_of _ = None

-- the event of a line without its line feed: its parts are one space apart
abbrev pub event_in : List ℕ → Option Event
event_in body = event_of (pieces space body)

-- No line of an event that can be written has more bytes than a line may have.
use Rattle.std.proofs.Common.{ℕ, ℤ, pos, negsuc, ◌+◌, ◌*◌, ◌<◌, ◌≤◌, List, [], ◌∷◌, ◌++◌, length, Option, Some, None, codes, arith, length-append, lit<, lit≤}
use Rattle.std.specs.Prelude.{◌&&◌, nat_le, FitsSigned, IsTrue}
use Rattle.std.specs.Fmt.{decimal, signed_decimal}
use Rattle.std.specs.Int.{w64}
use Rattle.std.specs.List.{list_all}
use Rattle.std.proofs.lemmas.Bool.{and_parts, leb-true}
use Rattle.std.proofs.lemmas.Fmt.{length-decimal-le, length_signed_le}
use Rattle.apex_types.specs.declared.limits.TheConstants.{MOST_KIND_BYTES, MOST_LINE_BYTES, MOST_NAME_BYTES, MOST_WORDS}
use Rattle.apex_types.specs.CodeWords.{return_code_number, mode_word, state_word, error_word, level_word, level_of_response, action_word}
use Rattle.apex_types.specs.Line.{thirteen_digits, partition_text, subject_text, culprit_text, words_text, kind_text, line_of, space}
use Rattle.apex_types.specs.NameText.{is_name, is_lower_case, is_name_byte}
use Rattle.apex_types.specs.ServiceShape.{service_word}
use Rattle.apex_types.specs.declared.codes.ErrorKind.{ErrorKind}
use Rattle.apex_types.specs.declared.codes.ErrorKind.TheVariants as error
use Rattle.apex_types.specs.declared.codes.Mode.{Mode}
use Rattle.apex_types.specs.declared.codes.Mode.TheVariants as mode
use Rattle.apex_types.specs.declared.codes.ModuleAction.TheVariants as module_action
use Rattle.apex_types.specs.declared.codes.PartitionAction.TheVariants as partition_action
use Rattle.apex_types.specs.declared.codes.ProcessState.{ProcessState}
use Rattle.apex_types.specs.declared.codes.ProcessState.TheVariants as state
use Rattle.apex_types.specs.declared.codes.Response.{Response}
use Rattle.apex_types.specs.declared.codes.Response.TheVariants as response
use Rattle.apex_types.specs.declared.codes.ReturnCode.{ReturnCode}
use Rattle.apex_types.specs.declared.codes.ReturnCode.TheVariants as code
use Rattle.apex_types.specs.declared.event.Event.{Event}
use Rattle.apex_types.specs.declared.event.EventKind.{EventKind}
use Rattle.apex_types.specs.declared.event.EventKind.TheVariants as event
use Rattle.apex_types.specs.declared.event.Subject.{Subject}
use Rattle.apex_types.specs.declared.event.Subject.TheVariants as subject
use Rattle.apex_types.specs.declared.service.Service.{Service}
use Rattle.apex_types.specs.declared.service.Service.TheVariants as service
use Rattle.text_lines.specs.Words.{AreWords}
use Rattle.trace_text.specs.Trace.{IsMessage, IsSubject, IsCulprit, IsPartition, HasParts, CanBeWritten}

-- ---- fields

name_short : (name : List ℕ) → IsTrue (is_name name) → length name ≤ 30
name_short [] good = omega arith
name_short (c ∷ cs) good =
    let p = and_parts (is_lower_case c && list_all is_name_byte cs) (nat_le (length cs + 1) MOST_NAME_BYTES) good in
    omega (arith, leb-true (length cs + 1) MOST_NAME_BYTES p.1)

partition_short : (p : Option (List ℕ)) → IsPartition p → length (partition_text p) ≤ 30
partition_short None good = lit≤ tt
partition_short (Some name) good = name_short name good

subject_short : (who : Subject) → IsSubject who → length (subject_text who) ≤ 30
subject_short subject.Init good = lit≤ tt
subject_short subject.Handler good = lit≤ tt
subject_short (subject.Process name) good = name_short name good

culprit_short : (who : Option Subject) → IsCulprit who → length (culprit_text who) ≤ 30
culprit_short None good = lit≤ tt
culprit_short (Some who) good = subject_short who good

state_short : (s : ProcessState) → length (state_word s) ≤ 30
state_short state.Dormant = lit≤ tt
state_short _ = lit≤ tt

mode_short : (m : Mode) → length (mode_word m) ≤ 30
mode_short mode.Idle = lit≤ tt
mode_short _ = lit≤ tt

error_short : (e : ErrorKind) → length (error_word e) ≤ 30
error_short error.DeadlineMissed = lit≤ tt
error_short _ = lit≤ tt

level_short : (r : Response) → length (level_word (level_of_response r)) ≤ 30
level_short response.Handler = lit≤ tt
level_short (response.Partition a) = lit≤ tt
level_short (response.Module a) = lit≤ tt

action_short : (r : Response) → length (action_word r) ≤ 30
action_short response.Handler = lit≤ tt
action_short (response.Partition partition_action.Ignore) = lit≤ tt
action_short (response.Partition partition_action.Idle) = lit≤ tt
action_short (response.Partition partition_action.WarmStart) = lit≤ tt
action_short (response.Partition partition_action.ColdStart) = lit≤ tt
action_short (response.Module module_action.Ignore) = lit≤ tt
action_short (response.Module module_action.Shutdown) = lit≤ tt
action_short (response.Module module_action.Reset) = lit≤ tt

service_short : (s : Service) → length (service_word s) ≤ 40
service_short service.GetPartitionStatus = lit≤ tt
service_short _ = lit≤ tt

number_small : (c : ReturnCode) → return_code_number c < 10
number_small code.NoError = lit< tt
number_small _ = lit< tt

code_short : (c : ReturnCode) → length (decimal (return_code_number c)) ≤ 1
code_short c = length-decimal-le 1 (return_code_number c) (omega arith) (number_small c) (omega (arith, number_small c))

-- ---- messages

word_short : (w : ℤ) → FitsSigned w64 w → length (signed_decimal w) ≤ 20
word_short (pos n) fits = length_signed_le 19 (pos n) (omega (arith, fits.sfits)) (omega (arith, fits.sfits))
word_short (negsuc n) fits = length_signed_le 19 (negsuc n) (omega (arith, fits.sfits)) (omega (arith, fits.sfits))

words_short : (ws : List ℤ) → AreWords ws → length (words_text ws) ≤ 21 * length ws
words_short [] good = omega arith
words_short (w ∷ ws) good = omega (arith, word_short w good.0, words_short ws good.1, length-append (space ∷ signed_decimal w) (words_text ws))

message_short : (ws : List ℤ) → IsMessage ws → length (words_text ws) ≤ 21 * MOST_WORDS
message_short ws good = omega (arith, words_short ws good.fit, good.few)

-- ---- lines

sum : (a b : List ℕ) (m n : ℕ) → length a ≤ m → length b ≤ n → length (a ++ b) ≤ m + n
sum a b m n h k = omega (arith, h, k, length-append a b)

-- a word, a name and a message
named_short : (word name : List ℕ) (ws : List ℤ) → length word ≤ 7 → length name ≤ 30 → IsMessage ws → length (word ++ name ++ words_text ws) ≤ MOST_KIND_BYTES + 21 * MOST_WORDS
named_short word name ws h k good = omega (arith, h, k, message_short ws good, length-append (word ++ name) (words_text ws), length-append word name)

-- fields with a space between them
spaced : (a b : List ℕ) (m n : ℕ) → length a ≤ m → length b ≤ n → length (a ++ codes " " ++ b) ≤ m + 1 + n
spaced a b m n h k = omega (arith, h, k, length-append (a ++ codes " ") b, length-append a (codes " "))

kind_short : (k : EventKind) → HasParts k → length (kind_text k) ≤ MOST_KIND_BYTES + 21 * MOST_WORDS
kind_short (event.State who state) good = omega (arith, spaced (codes "STATE " ++ subject_text who) (state_word state) 36 30 (sum (codes "STATE ") (subject_text who) 6 30 (lit≤ tt) (subject_short who good)) (state_short state))
kind_short (event.Return who service code) good =
    omega (
      arith,
      spaced (codes "RET " ++ subject_text who ++ codes " " ++ service_word service) (decimal (return_code_number code)) 75 1
          (spaced (codes "RET " ++ subject_text who) (service_word service) 34 40 (sum (codes "RET ") (subject_text who) 4 30 (lit≤ tt) (subject_short who good)) (service_short service))
          (code_short code),
    )
kind_short (event.Mode mode) good = omega (arith, sum (codes "MODE ") (mode_word mode) 5 30 (lit≤ tt) (mode_short mode))
kind_short (event.Error error who response) good =
    omega (
      arith,
      spaced (codes "HM " ++ error_word error ++ codes " " ++ culprit_text who ++ codes " " ++ level_word (level_of_response response)) (action_word response) 95 30
          (spaced (codes "HM " ++ error_word error ++ codes " " ++ culprit_text who) (level_word (level_of_response response)) MOST_KIND_BYTES 30
          (spaced (codes "HM " ++ error_word error) (culprit_text who) 33 30 (sum (codes "HM ") (error_word error) 3 30 (lit≤ tt) (error_short error)) (culprit_short who good))
          (level_short response))
          (action_short response),
    )
kind_short (event.Report who words) good = named_short (codes "REPORT ") (subject_text who) words.items (lit≤ tt) (subject_short who good.0) good.1
kind_short (event.Move port words) good = named_short (codes "MOVE ") port words.items (lit≤ tt) (name_short port good.0) good.1
kind_short (event.Arrive port words) good = named_short (codes "ARRIVE ") port words.items (lit≤ tt) (name_short port good.0) good.1
kind_short (event.Lost port words) good = named_short (codes "LOST ") port words.items (lit≤ tt) (name_short port good.0) good.1
kind_short (event.Out channel words) good = named_short (codes "OUT ") channel words.items (lit≤ tt) (name_short channel good.0) good.1

digits_short : (n : ℕ) → length (thirteen_digits n) ≤ 13
digits_short n = lit≤ tt

pub line_short : (e : Event) → CanBeWritten e → length (line_of e) ≤ MOST_LINE_BYTES
line_short e can =
    let front = spaced (thirteen_digits e.tick.0) (partition_text e.partition) 13 30 (digits_short e.tick.0) (partition_short e.partition can.partition) in
    let both = spaced (thirteen_digits e.tick.0 ++ codes " " ++ partition_text e.partition) (kind_text e.kind) 44 (MOST_KIND_BYTES + 21 * MOST_WORDS) front (kind_short e.kind can.parts) in
    omega (arith, sum (thirteen_digits e.tick.0 ++ codes " " ++ partition_text e.partition ++ codes " " ++ kind_text e.kind) (10 ∷ []) (44 + 1 + (MOST_KIND_BYTES + 21 * MOST_WORDS)) 1 both (lit≤ tt))

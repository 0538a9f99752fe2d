-- What is never created, started or ended in its first round, and what waits where nothing may wait.
use Rattle.std.specs.Prelude.{ℕ, ◌+◌, Bool, false, not, ◌&&◌, ◌||◌, List, [], ◌∷◌, ◌++◌, Option, Some, None, if◌then◌else◌, flat_map}
use Rattle.std.specs.List.{list_any}
use Rattle.apex_types.specs.ServiceShape.{service_word}
use Rattle.apex_types.specs.declared.denotation.ObjectKind.{ObjectKind}
use Rattle.apex_types.specs.declared.denotation.ObjectKind.TheVariants as object
use Rattle.apex_types.specs.declared.service.Service.{Service}
use Rattle.pal_meaning.specs.Syntax as written
use Rattle.pal_meaning.specs.WellFormed.{is_same_kind}
use Rattle.lint.specs.Calls.{Call, calls_of, calls_of_init, calls_of_procedures, done_in}
use Rattle.lint.specs.Mentions.{Mention}
use Rattle.lint.specs.Plain.{Plain, first_of, is_name, is_zero, last_or, name_in}
use Rattle.lint.specs.Services.{created_kind, is_start, is_set_mode, is_periodic_wait, is_handler_creation, is_error_status, always_waits, has_time_out, awaited_kind, signalled_kind}
use Rattle.lint.specs.Uses.{may_be, may_be_number, means}
use Rattle.lint.specs.Arrays.{is_less}
use Rattle.lint.specs.Views.{Found, if_so}
use Rattle.lint.specs.declared.finding.FindingKind.{FindingKind}
use Rattle.lint.specs.declared.finding.FindingKind.TheVariants as finding

-- ---- calls that are looked for

-- a call that creates what has this kind and name; that creates the handler; that may start the process of this number and name;
-- that may enter NORMAL; that waits for the next release; that takes an error; that waits for the object of this kind, number and
-- name; that may signal or set it
pub data Wanted : Type 0 where
  Creation : ObjectKind → List ℕ → Wanted
  HandlerCreation : Wanted
  Start : ℕ → List ℕ → Wanted
  NormalMode : Wanted
  PeriodicWait : Wanted
  ErrorStatus : Wanted
  Wait : ObjectKind → ℕ → List ℕ → Wanted
  Signal : ObjectKind → ℕ → List ℕ → Wanted

abbrev pub is_kind : ObjectKind → Option ObjectKind → Bool
is_kind kind None = false
is_kind kind (Some other) = is_same_kind other kind

abbrev pub meets : Wanted → Call → Bool
meets (Creation kind name) c = is_kind kind (created_kind c.service) && is_name name (name_in (first_of c.arguments))
meets HandlerCreation c = is_handler_creation c.service
meets (Start number name) c = is_start c.service && may_be object.Process number name c.id
meets NormalMode c = is_set_mode c.service && may_be_number 3 c.id
meets PeriodicWait c = is_periodic_wait c.service
meets ErrorStatus c = is_error_status c.service
meets (Wait kind number name) c = is_kind kind (awaited_kind c.service) && means kind number name c.id
meets (Signal kind number name) c = is_kind kind (signalled_kind c.service) && may_be kind number name c.id

-- the finding, if none of the calls is as wanted
abbrev pub lacking : Wanted → List Call → Found → List Found
lacking wanted calls found = if list_any (meets wanted) calls then [] else found ∷ []

abbrev pub found : FindingKind → List ℕ → Found
found k subject = record { kind = k; subject = subject }

-- ---- creation

-- the kind of object that a declaration makes known
abbrev pub object_kind : written.Kind → Option ObjectKind
object_kind (written.Semaphore first maximum discipline) = Some object.Semaphore
object_kind written.Event = Some object.Event
object_kind (written.Buffer words messages discipline) = Some object.Buffer
object_kind (written.Blackboard words) = Some object.Blackboard
object_kind written.Port = Some object.Port
object_kind _ = None

abbrev pub never_created : List Call → Option ObjectKind → List ℕ → List Found
never_created calls None name = []
never_created calls (Some k) name = lacking (Creation k name) calls (found finding.NeverCreated name)

abbrev pub objects_never_created : List Call → List written.Declaration → List Found
objects_never_created calls ds = flat_map (λ d. never_created calls (object_kind d.kind) d.name) ds

abbrev pub processes_never_created : List Call → List written.Process → List Found
processes_never_created calls ps = flat_map (λ p. never_created calls (Some object.Process) p.name) ps

abbrev pub handler_never_created : List Call → Option written.StackBody → List Found
handler_never_created calls None = []
handler_never_created calls (Some b) = lacking HandlerCreation calls (found finding.HandlerNeverCreated [])

-- ---- start

-- the processes that are never started, the first of which has this number
abbrev pub never_started : List Call → (number : ℕ) → List written.Process → List Found
never_started calls number [] = []
never_started calls number (p ∷ ps) = lacking (Start number p.name) calls (found finding.NeverStarted p.name) ++ never_started calls (number + 1) ps

-- no call in INIT or in a procedure may enter NORMAL
abbrev pub never_normal : written.Program → List Found
never_normal p = lacking NormalMode (calls_of_init p ++ calls_of_procedures (done_in p) p.declarations) (found finding.NeverNormal [])

-- ---- signals

-- a semaphore or an event that a call waits for, and that no call may signal or set
abbrev pub never_signalled : List Call → ObjectKind → (number : ℕ) → List ℕ → List Found
never_signalled calls kind number name =
    if list_any (meets (Wait kind number name)) calls then lacking (Signal kind number name) calls (found finding.NeverSignalled name) else []

-- those of a kind, the first of which has this number
abbrev pub all_never_signalled : List Call → ObjectKind → (number : ℕ) → List written.Declaration → List Found
all_never_signalled calls kind number [] = []
all_never_signalled calls kind number (d ∷ ds) =
    if is_kind kind (object_kind d.kind) then never_signalled calls kind number d.name ++ all_never_signalled calls kind (number + 1) ds
    else all_never_signalled calls kind number ds

-- ---- the handler

-- a handler that takes no error, nor does a procedure
abbrev pub takes_no_error : List Mention → List Call → Option written.StackBody → List Found
takes_no_error done procedures None = []
takes_no_error done procedures (Some b) = lacking ErrorStatus (calls_of done [] b.body ++ procedures) (found finding.NoErrorStatus [])

-- ---- periods

-- a periodic process that does not wait for its next release, nor does a procedure
abbrev pub without_wait : List Mention → List Call → written.Process → List Found
without_wait done procedures p = if p.period.negative then [] else lacking PeriodicWait (calls_of done [] p.body ++ procedures) (found finding.NoPeriodicWait p.name)

abbrev pub without_waits : List Mention → List Call → List written.Process → List Found
without_waits done procedures ps = flat_map (without_wait done procedures) ps

-- a process whose time capacity is above its period
abbrev pub is_longer : written.Integer → written.Integer → Bool
is_longer capacity period = not capacity.negative && not period.negative && is_less period.magnitude capacity.magnitude

abbrev pub long_capacity : written.Process → List Found
long_capacity p = if_so (is_longer p.capacity p.period) (found finding.LongCapacity p.name)

-- ---- INIT

-- a service with these arguments waits, or its time-out is not written as 0
abbrev pub may_wait : Service → List Plain → Bool
may_wait service arguments = always_waits service || (has_time_out service && not (is_zero (last_or None arguments)))

abbrev pub waits : Call → Bool
waits c = may_wait c.service c.arguments

abbrev pub wait_in_init : Call → List Found
wait_in_init c = if waits c then found finding.WaitInInit (service_word c.service) ∷ [] else []

abbrev pub waits_in_init : written.Program → List Found
waits_in_init p = flat_map wait_in_init (calls_of_init p)

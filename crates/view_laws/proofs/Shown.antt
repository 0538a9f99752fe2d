-- The states and modes that a view shows after lines are those that these lines tell.
use Rattle.std.proofs.Common.{◌≡◌, ℕ, Bool, true, false, List, [], ◌∷◌, Option, Some, None, refl, sym, ap, ◌∙◌, subst}
use Rattle.std.specs.Prelude.{◌&&◌, ◌==◌, codes, if◌then◌else◌}
use Rattle.std.proofs.lemmas.Bool.{and_left, and_parts, eqb-true, false≢true}
use Rattle.apex_types.specs.Line.{subject_text}
use Rattle.apex_types.specs.NameText.{is_lower_case, is_name}
use Rattle.apex_types.specs.declared.codes.ErrorKind.TheVariants as error
use Rattle.apex_types.specs.declared.codes.Mode.{Mode}
use Rattle.apex_types.specs.declared.codes.Mode.TheVariants as mode
use Rattle.apex_types.specs.declared.codes.ModuleAction.TheVariants as reaction
use Rattle.apex_types.specs.declared.codes.PartitionAction.{PartitionAction}
use Rattle.apex_types.specs.declared.codes.PartitionAction.TheVariants as action
use Rattle.apex_types.specs.declared.codes.ProcessState.{ProcessState}
use Rattle.apex_types.specs.declared.codes.ProcessState.TheVariants as state
use Rattle.apex_types.specs.declared.codes.Response.TheVariants as response
use Rattle.apex_types.specs.declared.event.Event.{Event}
use Rattle.apex_types.specs.declared.event.EventKind.{EventKind}
use Rattle.apex_types.specs.declared.event.EventKind.TheVariants as event
use Rattle.apex_types.specs.declared.event.Subject.{Subject}
use Rattle.apex_types.specs.declared.event.Subject.TheVariants.{Init, Handler, Process}
use Rattle.engine_meaning.specs.Digits.{same}
use Rattle.kernel_meaning.specs.Kernel.{Kernel}
use Rattle.state_laws.specs.States.{TellsState}
use Rattle.state_laws.specs.Told.{Told, cleared, first_told, has_worked, is_ignored, is_it, is_same, moves_to, preempted, said_by, says, says_module, told, told_from}
use Rattle.state_laws.specs.Told as reading
use Rattle.state_laws.proofs.Subjects.{name_itself, same_name}
use Rattle.trace_stays.specs.Clearing.{starts_by}
use Rattle.trace_stays.specs.Following.{held_with, mode_after, mode_in, next_by, next_if, next_in, next_of_all}
use Rattle.trace_stays.specs.Traces.{mode_behind_all, mode_with_line, state_after, with_line}
use Rattle.trace_stays.specs.declared.next.Next.TheVariants.{Enters, Cleared}
use Rattle.trace_stays.specs.declared.stay.Held.{Held}
use Rattle.trace_stays.specs.declared.stay.HeldMode.{HeldMode}
use Rattle.view_laws.specs.Shown.{HasOwnWord, HaveNames, IsNamed, NamesOne, ShowsState, mode_of, mode_shown, state_of, state_shown}

-- ---- names

pub same_turned : (a b : List ℕ) → same a b ≡ same b a
same_turned a b = by_tests (same a b) (same b a) refl refl
  where
    by_tests : (c d : Bool) → same a b ≡ c → same b a ≡ d → same a b ≡ same b a
    by_tests true true e f = e ∙ sym f
    by_tests false false e f = e ∙ sym f
    by_tests true false e f = absurd (false≢true (sym f ∙ ap (same b) (same_name a b e) ∙ name_itself b))
    by_tests false true e f = absurd (false≢true (sym e ∙ ap (same a) (same_name b a f) ∙ name_itself a))

-- a word that begins with a capital is no name
no_name : (c : ℕ) (cs name : List ℕ) → is_lower_case c ≡ false → is_name name ≡ true → same (c ∷ cs) name ≡ false
no_name c cs [] capital h = absurd (false≢true h)
no_name c cs (x ∷ xs) capital h = by_test (same (c ∷ cs) (x ∷ xs)) refl
  where
    by_test : (b : Bool) → same (c ∷ cs) (x ∷ xs) ≡ b → same (c ∷ cs) (x ∷ xs) ≡ false
    by_test false e = e
    by_test true e =
        let is : c ≡ x = eqb-true c x (and_parts (c == x) (same cs xs) e).0 in
        absurd (false≢true (sym (and_left (is_lower_case x) _ (ap is_lower_case (sym is) ∙ capital)) ∙ first_part x xs h))
      where
        first_part : (x : ℕ) (xs : List ℕ) → is_name (x ∷ xs) ≡ true → (is_lower_case x && true) ≡ true
        first_part x xs h = ap (λ (b : Bool). b && true) (and_parts (is_lower_case x) _ (and_parts _ _ h).0).0

-- ---- the words of two runners are the same if they are the same runner

abbrev pub IsToldApart : Subject → Subject → Type 0
IsToldApart who other = same (subject_text other) (subject_text who) ≡ is_same who other

abbrev pub ToldApart : Subject → EventKind → Type 0
ToldApart who (event.State other state) = IsToldApart who other
ToldApart who _ = Unit {0}

abbrev pub AreToldApart : Subject → List Event → Type 0
AreToldApart who [] = Unit {0}
AreToldApart who (e ∷ es) = ToldApart who e.kind × AreToldApart who es

process_apart : (own : List ℕ) (other : Subject) → is_name own ≡ true → IsToldApart (Process own) other
process_apart own Init h = no_name 73 (78 ∷ 73 ∷ 84 ∷ []) own refl h
process_apart own Handler h = no_name 72 (65 ∷ 78 ∷ 68 ∷ 76 ∷ 69 ∷ 82 ∷ []) own refl h
process_apart own (Process name) h = same_turned name own

runner_apart : (who other : Subject) → IsNamed who → IsNamed other → IsToldApart who other
runner_apart (Process own) other h k = process_apart own other h
runner_apart Init Init h k = refl
runner_apart Init Handler h k = refl
runner_apart Init (Process name) h k = same_turned name (codes "INIT") ∙ no_name 73 (78 ∷ 73 ∷ 84 ∷ []) name refl k
runner_apart Handler Init h k = refl
runner_apart Handler Handler h k = refl
runner_apart Handler (Process name) h k = same_turned name (codes "HANDLER") ∙ no_name 72 (65 ∷ 78 ∷ 68 ∷ 76 ∷ 69 ∷ 82 ∷ []) name refl k

processes_apart : (own : List ℕ) (lines : List Event) → is_name own ≡ true → AreToldApart (Process own) lines
processes_apart own [] h = tt
processes_apart own (e ∷ es) h = (by_kind e.kind, processes_apart own es h)
  where
    by_kind : (k : EventKind) → ToldApart (Process own) k
    by_kind (event.State other next) = process_apart own other h
    by_kind (event.Mode m) = tt
    by_kind (event.Error e who r) = tt
    by_kind (event.Return who service code) = tt
    by_kind (event.Report who words) = tt
    by_kind (event.Move port words) = tt
    by_kind (event.Arrive port words) = tt
    by_kind (event.Lost port words) = tt
    by_kind (event.Out channel words) = tt

pub runners_apart : (who : Subject) (lines : List Event) → IsNamed who → HaveNames lines → AreToldApart who lines
runners_apart who [] h k = tt
runners_apart who (e ∷ es) h k = (by_kind e.kind k.0, runners_apart who es h k.1)
  where
    by_kind : (k : EventKind) → NamesOne k → ToldApart who k
    by_kind (event.State other next) g = runner_apart who other h g
    by_kind (event.Mode m) g = tt
    by_kind (event.Error e who r) g = tt
    by_kind (event.Return who service code) g = tt
    by_kind (event.Report who words) g = tt
    by_kind (event.Move port words) g = tt
    by_kind (event.Arrive port words) g = tt
    by_kind (event.Lost port words) g = tt
    by_kind (event.Out channel words) g = tt

-- ---- a state

-- who runs says nothing of the states
kept_state : (tick : ℕ) (t : Told) (other : Subject) (next : ProcessState) (who : Subject) → (moves_to tick t other next).state who ≡ t.state who
kept_state tick t other state.Running who = refl
kept_state tick t other state.Ready who = by_test (is_it other t.running)
  where
    by_test : (b : Bool) → (if b then preempted t else t).state who ≡ t.state who
    by_test true = refl
    by_test false = refl
kept_state tick t other state.Waiting who = by_test (is_it other t.running)
  where
    by_test : (b : Bool) → (if b then has_worked tick t else t).state who ≡ t.state who
    by_test true = refl
    by_test false = refl
kept_state tick t other state.Dormant who = by_test (is_it other t.running)
  where
    by_test : (b : Bool) → (if b then has_worked tick t else t).state who ≡ t.state who
    by_test true = refl
    by_test false = refl

module _ (who : Subject) where
  abbrev Shows : Option Held → Told → Type 0
  Shows held t = state_of held ≡ t.state who

  entered : (b : Bool) (tick : ℕ) (next : ProcessState) (held : Option Held) (old : ProcessState) → state_of held ≡ old → state_of (held_with (next_if b (Enters next)) tick held) ≡ (if b then next else old)
  entered true tick next held old h = refl
  entered false tick next held old h = h

  gone_by : (a : PartitionAction) (tick : ℕ) (held : Option Held) (t : Told) → Shows held t → Shows (held_with (next_if (starts_by a) Cleared) tick held) (if is_ignored a then t else cleared t)
  gone_by action.Ignore tick held t h = h
  gone_by action.Idle tick held t h = refl
  gone_by action.WarmStart tick held t h = refl
  gone_by action.ColdStart tick held t h = refl

  own_shows : (kind : EventKind) (tick : ℕ) (held : Option Held) (t : Told) → ToldApart who kind → Shows held t → Shows (held_with (next_in kind (subject_text who)) tick held) (says tick t kind)
  own_shows (event.State other next) tick held t apart h =
      ap (λ (b : Bool). state_of (held_with (next_if b (Enters next)) tick held)) apart
      ∙ entered (is_same who other) tick next held ((moves_to tick t other next).state who) (h ∙ sym (kept_state tick t other next who))
  own_shows (event.Mode mode.Normal) tick held t apart h = h
  own_shows (event.Mode mode.Idle) tick held t apart h = refl
  own_shows (event.Mode mode.ColdStart) tick held t apart h = refl
  own_shows (event.Mode mode.WarmStart) tick held t apart h = refl
  own_shows (event.Error e other response.Handler) tick held t apart h = h
  own_shows (event.Error e other (response.Module a)) tick held t apart h = h
  own_shows (event.Error error.DeadlineMissed other (response.Partition a)) tick held t apart h = gone_by a tick held t h
  own_shows (event.Error error.HardwareFault other (response.Partition a)) tick held t apart h = gone_by a tick held t h
  own_shows (event.Error error.ApplicationError other (response.Partition a)) tick held t apart h = h
  own_shows (event.Error error.NumericError other (response.Partition a)) tick held t apart h = h
  own_shows (event.Error error.IllegalRequest other (response.Partition a)) tick held t apart h = h
  own_shows (event.Error error.StackOverflow other (response.Partition a)) tick held t apart h = h
  own_shows (event.Error error.MemoryViolation other (response.Partition a)) tick held t apart h = h
  own_shows (event.Return other service code) tick held t apart h = h
  own_shows (event.Report other words) tick held t apart h = h
  own_shows (event.Move port words) tick held t apart h = h
  own_shows (event.Arrive port words) tick held t apart h = h
  own_shows (event.Lost port words) tick held t apart h = h
  own_shows (event.Out channel words) tick held t apart h = h

  module_shows : (kind : EventKind) (tick : ℕ) (held : Option Held) (t : Told) → Shows held t → Shows (held_with (next_of_all kind) tick held) (says_module t kind)
  module_shows (event.Error e other response.Handler) tick held t h = h
  module_shows (event.Error e other (response.Partition a)) tick held t h = h
  module_shows (event.Error e other (response.Module reaction.Ignore)) tick held t h = h
  module_shows (event.Error e other (response.Module reaction.Shutdown)) tick held t h = h
  module_shows (event.Error e other (response.Module reaction.Reset)) tick held t h = refl
  module_shows (event.State other next) tick held t h = h
  module_shows (event.Mode m) tick held t h = h
  module_shows (event.Return other service code) tick held t h = h
  module_shows (event.Report other words) tick held t h = h
  module_shows (event.Move port words) tick held t h = h
  module_shows (event.Arrive port words) tick held t h = h
  module_shows (event.Lost port words) tick held t h = h
  module_shows (event.Out channel words) tick held t h = h

  kind_shows : (name : List ℕ) (p : Option (List ℕ)) (kind : EventKind) (tick : ℕ) (held : Option Held) (t : Told) → ToldApart who kind → Shows held t → Shows (held_with (next_by p kind name (subject_text who)) tick held) (said_by name t p tick kind)
  kind_shows name None kind tick held t apart h = module_shows kind tick held t h
  kind_shows name (Some other) kind tick held t apart h =
      subst (λ (b : Bool). Shows (held_with (if b then next_in kind (subject_text who) else None) tick held) (if same name other then says tick t kind else t)) (same_turned name other) (by_test (same name other))
    where
      by_test : (b : Bool) → Shows (held_with (if b then next_in kind (subject_text who) else None) tick held) (if b then says tick t kind else t)
      by_test true = own_shows kind tick held t apart h
      by_test false = h

  lines_show : (name : List ℕ) (lines : List Event) (held : Option Held) (t : Told) → AreToldApart who lines → Shows held t → Shows (state_after lines name (subject_text who) held) (told_from name t lines)
  lines_show name [] held t apart h = h
  lines_show name (e ∷ es) held t apart h = lines_show name es (with_line e name (subject_text who) held) (reading.with_line name t e) apart.1 (kind_shows name e.partition e.kind e.tick.0 held t apart.0 h)

pub own_word : (who : Subject) (lines : List Event) → HasOwnWord lines who → AreToldApart who lines
own_word Init lines h = runners_apart Init lines tt h
own_word Handler lines h = runners_apart Handler lines tt h
own_word (Process own) lines h = processes_apart own lines h

pub state_is_told : (lines : List Event) (name : List ℕ) (who : Subject) → HasOwnWord lines who → state_shown lines name who ≡ (told name lines).state who
state_is_told lines name who h = lines_show who name lines None first_told (own_word who lines h) refl

-- ---- a mode

abbrev ShowsMode : Option HeldMode → Told → Type 0
ShowsMode held t = mode_of held ≡ t.mode

kept_mode : (tick : ℕ) (t : Told) (other : Subject) (next : ProcessState) → (moves_to tick t other next).mode ≡ t.mode
kept_mode tick t other state.Running = refl
kept_mode tick t other state.Ready = by_test (is_it other t.running)
  where
    by_test : (b : Bool) → (if b then preempted t else t).mode ≡ t.mode
    by_test true = refl
    by_test false = refl
kept_mode tick t other state.Waiting = by_test (is_it other t.running)
  where
    by_test : (b : Bool) → (if b then has_worked tick t else t).mode ≡ t.mode
    by_test true = refl
    by_test false = refl
kept_mode tick t other state.Dormant = by_test (is_it other t.running)
  where
    by_test : (b : Bool) → (if b then has_worked tick t else t).mode ≡ t.mode
    by_test true = refl
    by_test false = refl

mode_entered : (m : Mode) (tick : ℕ) (held : Option HeldMode) (t : Told) → ShowsMode (mode_in (event.Mode m) tick held) (says tick t (event.Mode m))
mode_entered mode.Normal tick None t = refl
mode_entered mode.Idle tick None t = refl
mode_entered mode.ColdStart tick None t = refl
mode_entered mode.WarmStart tick None t = refl
mode_entered mode.Normal tick (Some held) t = refl
mode_entered mode.Idle tick (Some held) t = refl
mode_entered mode.ColdStart tick (Some held) t = refl
mode_entered mode.WarmStart tick (Some held) t = refl

mode_responded : (a : PartitionAction) (t : Told) → t.mode ≡ (if is_ignored a then t else cleared t).mode
mode_responded action.Ignore t = refl
mode_responded action.Idle t = refl
mode_responded action.WarmStart t = refl
mode_responded action.ColdStart t = refl

own_mode : (kind : EventKind) (tick : ℕ) (held : Option HeldMode) (t : Told) → ShowsMode held t → ShowsMode (mode_in kind tick held) (says tick t kind)
own_mode (event.State other next) tick held t h = h ∙ sym (kept_mode tick t other next)
own_mode (event.Mode m) tick held t h = mode_entered m tick held t
own_mode (event.Error e other response.Handler) tick held t h = h
own_mode (event.Error e other (response.Module a)) tick held t h = h
own_mode (event.Error error.DeadlineMissed other (response.Partition a)) tick held t h = h ∙ mode_responded a t
own_mode (event.Error error.HardwareFault other (response.Partition a)) tick held t h = h ∙ mode_responded a t
own_mode (event.Error error.ApplicationError other (response.Partition a)) tick held t h = h
own_mode (event.Error error.NumericError other (response.Partition a)) tick held t h = h
own_mode (event.Error error.IllegalRequest other (response.Partition a)) tick held t h = h
own_mode (event.Error error.StackOverflow other (response.Partition a)) tick held t h = h
own_mode (event.Error error.MemoryViolation other (response.Partition a)) tick held t h = h
own_mode (event.Return other service code) tick held t h = h
own_mode (event.Report other words) tick held t h = h
own_mode (event.Move port words) tick held t h = h
own_mode (event.Arrive port words) tick held t h = h
own_mode (event.Lost port words) tick held t h = h
own_mode (event.Out channel words) tick held t h = h

module_mode : (kind : EventKind) (t : Told) → t.mode ≡ (says_module t kind).mode
module_mode (event.Error e other response.Handler) t = refl
module_mode (event.Error e other (response.Partition a)) t = refl
module_mode (event.Error e other (response.Module reaction.Ignore)) t = refl
module_mode (event.Error e other (response.Module reaction.Shutdown)) t = refl
module_mode (event.Error e other (response.Module reaction.Reset)) t = refl
module_mode (event.State other next) t = refl
module_mode (event.Mode m) t = refl
module_mode (event.Return other service code) t = refl
module_mode (event.Report other words) t = refl
module_mode (event.Move port words) t = refl
module_mode (event.Arrive port words) t = refl
module_mode (event.Lost port words) t = refl
module_mode (event.Out channel words) t = refl

kind_mode : (name : List ℕ) (p : Option (List ℕ)) (kind : EventKind) (tick : ℕ) (held : Option HeldMode) (t : Told) → ShowsMode held t → ShowsMode (mode_after p kind tick name held) (said_by name t p tick kind)
kind_mode name None kind tick held t h = h ∙ module_mode kind t
kind_mode name (Some other) kind tick held t h =
    subst (λ (b : Bool). ShowsMode (if b then mode_in kind tick held else held) (if same name other then says tick t kind else t)) (same_turned name other) (by_test (same name other))
  where
    by_test : (b : Bool) → ShowsMode (if b then mode_in kind tick held else held) (if b then says tick t kind else t)
    by_test true = own_mode kind tick held t h
    by_test false = h

lines_mode : (name : List ℕ) (lines : List Event) (held : Option HeldMode) (t : Told) → ShowsMode held t → ShowsMode (mode_behind_all lines name held) (told_from name t lines)
lines_mode name [] held t h = h
lines_mode name (e ∷ es) held t h = lines_mode name es (mode_with_line e name held) (reading.with_line name t e) (kind_mode name e.partition e.kind e.tick.0 held t h)

pub mode_is_told : (lines : List Event) (name : List ℕ) → mode_shown lines name ≡ (told name lines).mode
mode_is_told lines name = lines_mode name lines None first_told refl

-- ---- a kernel whose state the lines tell

pub shows : (lines : List Event) (name : List ℕ) (k : Kernel) → TellsState (told name lines) k → ShowsState lines name k
shows lines name k h = record {
  mode = mode_is_told lines name ∙ h.mode;
  states = λ p r there own. state_is_told lines name r.who own ∙ h.states p r there;
}

-- Which lines of a step start the partition, and that the line before each start gives its condition.
use Rattle.std.proofs.Common.{◌≡◌, ℕ, Bool, true, false, List, [], ◌∷◌, ◌++◌, length, Option, Some, None, refl, sym, ap, ◌∙◌, arith}
use Rattle.std.specs.Prelude.{◌+◌, ◌||◌, if◌then◌else◌}
use Rattle.std.proofs.lemmas.Bool.{false≢true}
use Rattle.apex_types.specs.declared.codes.ErrorKind.{ErrorKind}
use Rattle.apex_types.specs.declared.codes.Mode.TheVariants as mode
use Rattle.apex_types.specs.declared.codes.PartitionAction.{PartitionAction}
use Rattle.apex_types.specs.declared.codes.ProcessState.{ProcessState}
use Rattle.apex_types.specs.declared.codes.ProcessState.TheVariants.{Dormant, Ready, Running, Waiting}
use Rattle.apex_types.specs.declared.codes.Response.TheVariants as response
use Rattle.apex_types.specs.declared.codes.StartCondition.{StartCondition}
use Rattle.apex_types.specs.declared.codes.StartCondition.TheVariants as condition
use Rattle.apex_types.specs.declared.event.Event.{Event}
use Rattle.apex_types.specs.declared.event.EventKind.{EventKind}
use Rattle.apex_types.specs.declared.event.EventKind.TheVariants as event
use Rattle.apex_types.specs.declared.event.Subject.{Subject}
use Rattle.apex_types.specs.declared.identity.At.{At}
use Rattle.apex_types.specs.declared.service.Service.TheVariants as service
use Rattle.kernel_meaning.specs.Kernel.{Kernel}
use Rattle.kernel_meaning.specs.Partition.{told}
use Rattle.kernel_meaning.specs.Step.{Step, after}
use Rattle.state_laws.specs.Starts.{has_start, starts_of}
use Rattle.state_laws.specs.Told.{Start, Told, cleared, cleared_by, has_worked, is_from_outside, is_ignored, is_it, is_start, moves_to, preempted, says}
use Rattle.state_laws.proofs.Agreement.{reads, reads_all, reads_both}

-- ---- steps without a start

or_left : (a b : Bool) → (a || b) ≡ false → a ≡ false
or_left true b e = absurd (false≢true (sym e))
or_left false b e = refl

or_right : (a b : Bool) → (a || b) ≡ false → b ≡ false
or_right true b e = absurd (false≢true (sym e))
or_right false b e = e

abbrev one_of : Bool → ℕ
one_of true = 1
one_of false = 0

-- how many starts a line is
abbrev starts_at : EventKind → ℕ
starts_at (event.Mode m) = one_of (is_start m)
starts_at _ = 0

abbrev all_starts : List EventKind → ℕ
all_starts [] = 0
all_starts (k ∷ ks) = starts_at k + all_starts ks

module _ (tick : ℕ) where
  left_same : (t : Told) (b : Bool) → (if b then has_worked tick t else t).starts ≡ t.starts
  left_same t true = refl
  left_same t false = refl

  pub moved_same : (t : Told) (who : Subject) (state : ProcessState) → (moves_to tick t who state).starts ≡ t.starts
  moved_same t who Running = refl
  moved_same t who Ready = by_test (is_it who t.running)
    where
      by_test : (b : Bool) → (if b then preempted t else t).starts ≡ t.starts
      by_test true = refl
      by_test false = refl
  moved_same t who Waiting = left_same t (is_it who t.running)
  moved_same t who Dormant = left_same t (is_it who t.running)

  pub cleared_same : (t : Told) (e : ErrorKind) (a : PartitionAction) → (cleared_by t e a).starts ≡ t.starts
  cleared_same t e a = by_tests (is_from_outside e) (is_ignored a)
    where
      by_tests : (b c : Bool) → (if b then (if c then t else cleared t) else t).starts ≡ t.starts
      by_tests true true = refl
      by_tests true false = refl
      by_tests false c = refl

  line_adds : (t : Told) (k : EventKind) → length (says tick t k).starts ≡ starts_at k + length t.starts
  line_adds t (event.State who state) = let e = ap (λ (ss : List Start). length ss) (moved_same t who state) in omega (arith, e)
  line_adds t (event.Mode mode.Normal) = omega arith
  line_adds t (event.Mode mode.Idle) = omega arith
  line_adds t (event.Mode mode.ColdStart) = omega arith
  line_adds t (event.Mode mode.WarmStart) = omega arith
  line_adds t (event.Error e who (response.Partition a)) = let e = ap (λ (ss : List Start). length ss) (cleared_same t e a) in omega (arith, e)
  line_adds t (event.Error e who response.Handler) = omega arith
  line_adds t (event.Error e who (response.Module a)) = omega arith
  line_adds t (event.Return who v code) = omega arith
  line_adds t (event.Report who words) = omega arith
  line_adds t (event.Move port words) = omega arith
  line_adds t (event.Arrive port words) = omega arith
  line_adds t (event.Lost port words) = omega arith
  line_adds t (event.Out channel words) = omega arith

  lines_add : (t : Told) (ks : List EventKind) → length (reads tick t ks).starts ≡ all_starts ks + length t.starts
  lines_add t [] = omega arith
  lines_add t (k ∷ ks) = let a = line_adds t k in let b = lines_add (says tick t k) ks in omega (arith, a, b)

mode_counted : (b : Bool) (ks : List EventKind) → (all_starts ks ≡ 0 → has_start ks ≡ false) → one_of b + all_starts ks ≡ 0 → (b || has_start ks) ≡ false
mode_counted true ks rest e = absurd (omega (arith, e))
mode_counted false ks rest e = rest (omega (arith, e))

none_counted : (ks : List EventKind) → all_starts ks ≡ 0 → has_start ks ≡ false
none_counted [] e = refl
none_counted (event.Mode m ∷ ks) e = mode_counted (is_start m) ks (none_counted ks) e
none_counted (event.State who state ∷ ks) e = none_counted ks (omega (arith, e))
none_counted (event.Error k who r ∷ ks) e = none_counted ks (omega (arith, e))
none_counted (event.Return who v code ∷ ks) e = none_counted ks (omega (arith, e))
none_counted (event.Report who words ∷ ks) e = none_counted ks (omega (arith, e))
none_counted (event.Move port words ∷ ks) e = none_counted ks (omega (arith, e))
none_counted (event.Arrive port words ∷ ks) e = none_counted ks (omega (arith, e))
none_counted (event.Lost port words ∷ ks) e = none_counted ks (omega (arith, e))
none_counted (event.Out channel words ∷ ks) e = none_counted ks (omega (arith, e))

-- lines after which the same starts are told
pub no_start : (tick : ℕ) (t : Told) (ks : List EventKind) → (reads tick t ks).starts ≡ t.starts → has_start ks ≡ false
no_start tick t ks e = let a = lines_add tick t ks in let b = ap (λ (ss : List Start). length ss) e in none_counted ks (omega (arith, a, b))

pub none_before : (a b : List EventKind) → has_start a ≡ false → has_start (a ++ b) ≡ has_start b
none_before [] b e = refl
none_before (event.Mode m ∷ a) b e = ap (λ (x : Bool). x || has_start (a ++ b)) (or_left (is_start m) (has_start a) e) ∙ none_before a b (or_right (is_start m) (has_start a) e)
none_before (event.State who state ∷ a) b e = none_before a b e
none_before (event.Error k who r ∷ a) b e = none_before a b e
none_before (event.Return who v code ∷ a) b e = none_before a b e
none_before (event.Report who words ∷ a) b e = none_before a b e
none_before (event.Move port words ∷ a) b e = none_before a b e
none_before (event.Arrive port words ∷ a) b e = none_before a b e
none_before (event.Lost port words ∷ a) b e = none_before a b e
none_before (event.Out channel words ∷ a) b e = none_before a b e

-- ---- the line before a start

-- the condition of a start in the next line, if the line gives it
abbrev pub said_next : EventKind → Option StartCondition
said_next (event.Return who service.SetPartitionMode code) = Some condition.PartitionRestart
said_next (event.Error e who (response.Partition a)) = Some condition.HmPartitionRestart
said_next _ = None

-- a start has the condition that the line before gives
abbrev pub IsSaid : Option StartCondition → Told → EventKind → Type 0
IsSaid last t (event.Mode m) = is_start m ≡ true → last ≡ Some t.next
IsSaid last t _ = Unit {0}

abbrev pub AreSaid : ℕ → Option StartCondition → Told → List EventKind → Type 0
AreSaid tick last t [] = Unit {0}
AreSaid tick last t (k ∷ ks) = IsSaid last t k × AreSaid tick (said_next k) (says tick t k) ks

pub none_said : (tick : ℕ) (last : Option StartCondition) (t : Told) (ks : List EventKind) → has_start ks ≡ false → AreSaid tick last t ks
none_said tick last t [] e = tt
none_said tick last t (event.Mode m ∷ ks) e =
    ((λ is. absurd (false≢true (sym (or_left (is_start m) (has_start ks) e) ∙ is))), none_said tick None (says tick t (event.Mode m)) ks (or_right (is_start m) (has_start ks) e))
none_said tick last t (event.State who state ∷ ks) e = (tt, none_said tick None (says tick t (event.State who state)) ks e)
none_said tick last t (event.Error k who r ∷ ks) e = (tt, none_said tick (said_next (event.Error k who r)) (says tick t (event.Error k who r)) ks e)
none_said tick last t (event.Return who v code ∷ ks) e = (tt, none_said tick (said_next (event.Return who v code)) (says tick t (event.Return who v code)) ks e)
none_said tick last t (event.Report who words ∷ ks) e = (tt, none_said tick None t ks e)
none_said tick last t (event.Move port words ∷ ks) e = (tt, none_said tick None t ks e)
none_said tick last t (event.Arrive port words ∷ ks) e = (tt, none_said tick None t ks e)
none_said tick last t (event.Lost port words ∷ ks) e = (tt, none_said tick None t ks e)
none_said tick last t (event.Out channel words ∷ ks) e = (tt, none_said tick None t ks e)

pub said_both : (tick : ℕ) (last : Option StartCondition) (t : Told) (a b : List EventKind) → AreSaid tick last t a → ((x : Option StartCondition) → AreSaid tick x (reads tick t a) b) → AreSaid tick last t (a ++ b)
said_both tick last t [] b h k = k last
said_both tick last t (x ∷ a) b h k = (h.0, said_both tick (said_next x) (says tick t x) a b h.1 k)

-- what the last of these lines says, or the line before them
abbrev pub last_said : Option StartCondition → List EventKind → Option StartCondition
last_said last [] = last
last_said last (k ∷ ks) = last_said (said_next k) ks

pub last_both : (last : Option StartCondition) (a b : List EventKind) → last_said last (a ++ b) ≡ last_said (last_said last a) b
last_both last [] b = refl
last_both last (k ∷ a) b = last_both (said_next k) a b

-- ---- lines of the partition

abbrev pub AllSaid : Option StartCondition → Told → List Event → Type 0
AllSaid last t [] = Unit {0}
AllSaid last t (l ∷ ls) = IsSaid last t l.kind × AllSaid (said_next l.kind) (says l.tick.0 t l.kind) ls

abbrev pub all_last : Option StartCondition → List Event → Option StartCondition
all_last last [] = last
all_last last (l ∷ ls) = all_last (said_next l.kind) ls

pub all_said : (name : List ℕ) (at : At) (last : Option StartCondition) (t : Told) (ks : List EventKind) → AreSaid at.now.0 last t ks → AllSaid last t (told name at ks)
all_said name at last t [] h = tt
all_said name at last t (k ∷ ks) h = (h.0, all_said name at (said_next k) (says at.now.0 t k) ks h.1)

pub told_last : (name : List ℕ) (at : At) (last : Option StartCondition) (ks : List EventKind) → all_last last (told name at ks) ≡ last_said last ks
told_last name at last [] = refl
told_last name at last (k ∷ ks) = told_last name at (said_next k) ks

pub all_said_both : (last : Option StartCondition) (t : Told) (a b : List Event) → AllSaid last t a → AllSaid (all_last last a) (reads_all t a) b → AllSaid last t (a ++ b)
all_said_both last t [] b h k = k
all_said_both last t (l ∷ a) b h k = (h.0, all_said_both (said_next l.kind) (says l.tick.0 t l.kind) a b h.1 k)

-- ---- a step

-- its lines tell the starts that it makes
abbrev pub TellsStarts : ℕ → Told → Step Kernel → Type 0
TellsStarts tick t s = (reads tick t s.lines).starts ≡ starts_of tick s ++ t.starts

pub no_starts : (tick : ℕ) (s : Step Kernel) → has_start s.lines ≡ false → starts_of tick s ≡ []
no_starts tick s e = ap (λ (b : Bool). if b then record { tick = tick; mode = s.part.mode; condition = s.part.condition } ∷ [] else []) e

pub starts_none : (tick : ℕ) (t : Told) (s : Step Kernel) → (reads tick t s.lines).starts ≡ t.starts → TellsStarts tick t s
starts_none tick t s e = e ∙ sym (ap (λ (ss : List Start). ss ++ t.starts) (no_starts tick s (no_start tick t s.lines e)))

-- a step without a start, then another
pub starts_after : (tick : ℕ) (t : Told) (s u : Step Kernel) → has_start s.lines ≡ false → TellsStarts tick t s → TellsStarts tick (reads tick t s.lines) u → TellsStarts tick t (after s u)
starts_after tick t s u none h k =
    ap (λ (v : Told). v.starts) (reads_both tick t s.lines u.lines)
    ∙ k
    ∙ ap (λ (ss : List Start). starts_of tick u ++ ss) (h ∙ ap (λ (ss : List Start). ss ++ t.starts) (no_starts tick s none))
    ∙ ap (λ (b : Bool). (if b then record { tick = tick; mode = u.part.mode; condition = u.part.condition } ∷ [] else []) ++ t.starts) (sym (none_before s.lines u.lines none))

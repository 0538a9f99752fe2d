-- The starts that a summary counts for a partition of a run are those that its lines tell.
use Rattle.std.proofs.Common.{◌≡◌, ◌<◌, ℕ, Bool, true, false, List, [], ◌∷◌, Option, Some, None, refl, sym, ap, ◌∙◌, subst, arith}
use Rattle.std.specs.Prelude.{◌+◌, ◌&&◌, nat_le, if◌then◌else◌}
use Rattle.std.proofs.lemmas.Bool.{false≢true, lt-ltb}
use Rattle.std.proofs.lemmas.Option.{none-some}
use Rattle.apex_types.specs.declared.codes.Mode.{Mode}
use Rattle.apex_types.specs.declared.codes.Mode.TheVariants as mode
use Rattle.apex_types.specs.declared.codes.ModuleAction.TheVariants as reaction
use Rattle.apex_types.specs.declared.codes.ProcessState.TheVariants as state
use Rattle.apex_types.specs.declared.codes.Response.TheVariants as response
use Rattle.apex_types.specs.declared.codes.StartCondition.{StartCondition}
use Rattle.apex_types.specs.declared.codes.StartCondition.TheVariants as condition
use Rattle.apex_types.specs.declared.event.Event.{Event}
use Rattle.apex_types.specs.declared.event.EventKind.{EventKind}
use Rattle.apex_types.specs.declared.event.EventKind.TheVariants as event
use Rattle.apex_types.specs.declared.event.Subject.TheVariants as subject
use Rattle.apex_types.specs.declared.service.Service.{Service}
use Rattle.apex_types.specs.declared.service.Service.TheVariants as service
use Rattle.engine_meaning.specs.Digits.{same}
use Rattle.state_laws.specs.Told.{Start, Told, first_told, is_start, said_by, says, says_module, told, told_from}
use Rattle.state_laws.specs.Told as reading
use Rattle.state_laws.proofs.Members.{AreSaidBy, IsSaidBy, IsSaidIf, last_by, said_module, still_said}
use Rattle.state_laws.proofs.Starting.{IsSaid, cleared_same, moved_same, said_next}
use Rattle.trace_stays.specs.Following.{is_of}
use Rattle.trace_stays.specs.Same.{is_same_partition}
use Rattle.trace_stays.specs.declared.span.Span.{Span}
use Rattle.trace_view.specs.Counting.{capped}
use Rattle.trace_view.specs.Partitions.{no_partition, partition_behind, read_by, starts_behind}
use Rattle.trace_view.specs.Starts as view
use Rattle.trace_view.specs.Starts.{condition_for, told_behind, told_by_kind, told_first, with_condition, with_start}
use Rattle.trace_view.specs.Tallies.{has_tick}
use Rattle.trace_view.specs.Whole.{partition_in}
use Rattle.trace_view.specs.declared.conditions.Conditions.{Conditions}
use Rattle.trace_view.specs.declared.partitions.PartitionRow.{PartitionRow}
use Rattle.trace_view.specs.declared.starts.Starts.{Starts}
use Rattle.trace_view.specs.declared.told.Told.{Told as Known}
use Rattle.trace_windows.specs.Uses.{one_if}
use Rattle.view_laws.specs.Counted.{AreBeforeTick}
use Rattle.view_laws.specs.Starts.{is_in_mode, is_same_condition, is_with, starts_for, starts_when, starts_with}
use Rattle.view_laws.proofs.Shown.{same_turned}

-- ---- the condition of a start in the next line

-- a condition that the lines give is the one that the view knows
abbrev Gives : List ℕ → Option StartCondition → Known → Type 0
Gives name last v = (c : StartCondition) → last ≡ Some c → condition_for name v ≡ Some c

-- the view knows it of any partition
gives_any : (name : List ℕ) (v : Known) → (b : Bool) (c : StartCondition) → (if b then None else v.condition) ≡ Some c → v.condition ≡ Some c
gives_any name v true c e = absurd (none-some c e)
gives_any name v false c e = e

module_gives : (name : List ℕ) (kind : EventKind) (v : Known) → Gives name (said_module kind) (told_by_kind None kind v)
module_gives name (event.Error e who (response.Module reaction.Reset)) v = λ c is. is
module_gives name (event.Error e who (response.Module reaction.Ignore)) v = λ c e. absurd (none-some c e)
module_gives name (event.Error e who (response.Module reaction.Shutdown)) v = λ c e. absurd (none-some c e)
module_gives name (event.Error e who response.Handler) v = λ c e. absurd (none-some c e)
module_gives name (event.Error e who (response.Partition a)) v = λ c e. absurd (none-some c e)
module_gives name (event.State who s) v = λ c e. absurd (none-some c e)
module_gives name (event.Mode m) v = λ c e. absurd (none-some c e)
module_gives name (event.Return who s code) v = λ c e. absurd (none-some c e)
module_gives name (event.Report who words) v = λ c e. absurd (none-some c e)
module_gives name (event.Move port words) v = λ c e. absurd (none-some c e)
module_gives name (event.Arrive port words) v = λ c e. absurd (none-some c e)
module_gives name (event.Lost port words) v = λ c e. absurd (none-some c e)
module_gives name (event.Out channel words) v = λ c e. absurd (none-some c e)

service_gives : (name : List ℕ) (who : _) (s : Service) (code : _) → Gives name (said_next (event.Return who s code)) (view.told_by (view.told_by_service s))
service_gives name who service.SetPartitionMode code = λ c is. is
service_gives name who _ code = λ c e. absurd (none-some c e)

own_gives : (name other : List ℕ) (kind : EventKind) (v : Known) → Gives name (said_next kind) (told_by_kind (Some other) kind v)
own_gives name other (event.Error e who (response.Partition a)) v = λ c is. is
own_gives name other (event.Error e who (response.Module a)) v = λ c e. absurd (none-some c e)
own_gives name other (event.Error e who response.Handler) v = λ c e. absurd (none-some c e)
own_gives name other (event.Return who s code) v = service_gives name who s code
own_gives name other (event.State who s) v = λ c e. absurd (none-some c e)
own_gives name other (event.Mode m) v = λ c e. absurd (none-some c e)
own_gives name other (event.Report who words) v = λ c e. absurd (none-some c e)
own_gives name other (event.Move port words) v = λ c e. absurd (none-some c e)
own_gives name other (event.Arrive port words) v = λ c e. absurd (none-some c e)
own_gives name other (event.Lost port words) v = λ c e. absurd (none-some c e)
own_gives name other (event.Out channel words) v = λ c e. absurd (none-some c e)

-- the start of another partition
other_gives : (name other : List ℕ) → same other name ≡ false → (last : Option StartCondition) (kind : EventKind) (v : Known) → Gives name last v → Gives name (still_said last kind) (told_by_kind (Some other) kind v)
other_gives name other n last (event.Mode m) v h = λ c is. ap (λ (b : Bool). if b then None else v.condition) n ∙ gives_any name v (is_same_partition v.started (Some name)) c (h c is)
other_gives name other n last (event.State subject.Init state.Ready) v h = h
other_gives name other n last (event.State subject.Init state.Running) v h = λ c e. absurd (none-some c e)
other_gives name other n last (event.State subject.Init state.Waiting) v h = λ c e. absurd (none-some c e)
other_gives name other n last (event.State subject.Init state.Dormant) v h = λ c e. absurd (none-some c e)
other_gives name other n last (event.State subject.Handler s) v h = λ c e. absurd (none-some c e)
other_gives name other n last (event.State (subject.Process p) s) v h = λ c e. absurd (none-some c e)
other_gives name other n last (event.Error e who r) v h = λ c e. absurd (none-some c e)
other_gives name other n last (event.Return who s code) v h = λ c e. absurd (none-some c e)
other_gives name other n last (event.Report who words) v h = λ c e. absurd (none-some c e)
other_gives name other n last (event.Move port words) v h = λ c e. absurd (none-some c e)
other_gives name other n last (event.Arrive port words) v h = λ c e. absurd (none-some c e)
other_gives name other n last (event.Lost port words) v h = λ c e. absurd (none-some c e)
other_gives name other n last (event.Out channel words) v h = λ c e. absurd (none-some c e)

line_gives : (name : List ℕ) (last : Option StartCondition) (p : Option (List ℕ)) (kind : EventKind) (v : Known) → Gives name last v → Gives name (last_by name last p kind) (told_by_kind p kind v)
line_gives name last None kind v h = module_gives name kind v
line_gives name last (Some other) kind v h = by_test (same name other) refl
  where
    by_test : (b : Bool) → same name other ≡ b → Gives name (if b then said_next kind else still_said last kind) (told_by_kind (Some other) kind v)
    by_test true e = own_gives name other kind v
    by_test false e = other_gives name other (same_turned other name ∙ e) last kind v h

-- ---- how a number of a row counts starts

abbrev added : Bool → ℕ → ℕ
added true n = capped (n + 1)
added false n = n

added_one : (b : Bool) (n x : ℕ) → n ≡ capped x → added b n ≡ capped (one_if b + x)
added_one true n x h = omega (arith, h)
added_one false n x h = omega (arith, h)

none_more : (x : ℕ) → capped x ≡ capped (0 + x)
none_more x = omega arith

-- a start with its condition is counted if it passes the test
abbrev Counts : (Starts → ℕ) → (Start → Bool) → Type 0
Counts number test = (tick : ℕ) (m : Mode) (c : StartCondition) (s : Starts) → is_start m ≡ true → number (with_start (Some c) m s) ≡ added (test (record { tick = tick; mode = m; condition = c })) (number s)

-- and no other line of a mode is
abbrev Ignores : (Starts → ℕ) → Type 0
Ignores number = (m : Mode) (o : Option StartCondition) (s : Starts) → is_start m ≡ false → number (with_start o m s) ≡ number s

module _ (number : Starts → ℕ) (test : Start → Bool) (counts : Counts number test) (ignores : Ignores number) (window : Span) (name : List ℕ) where
  abbrev from : ℕ
  from = window.from.0

  -- the row has the starts told
  abbrev Shows : Starts → List Start → Type 0
  Shows shown starts = number shown ≡ capped (starts_when test from starts)

  -- ---- a line of a mode

  start_shown : (z : ℕ) (early : z < window.until.0) (m : Mode) (v : Known) (t : Told) (s : Starts) → is_start m ≡ true → condition_for name v ≡ Some t.next → Shows s t.starts
      → Shows (starts_behind (has_tick window z) v m name s) (record { tick = z; mode = m; condition = t.next } ∷ t.starts)
  start_shown z early m v t s is given h =
      subst (λ (b : Bool). Shows (starts_behind (nat_le from z && b) v m name s) (start ∷ t.starts)) (sym (lt-ltb z window.until.0 early)) (by_test (nat_le from z) refl)
    where
      start : Start
      start = record { tick = z; mode = m; condition = t.next }

      by_test : (b : Bool) → nat_le from z ≡ b → Shows (starts_behind (b && true) v m name s) (start ∷ t.starts)
      by_test true e =
          ap (λ (o : Option StartCondition). number (with_start o m s)) given
          ∙ counts z m t.next s is
          ∙ added_one (test start) (number s) (starts_when test from t.starts) h
          ∙ ap (λ (x : Bool). capped (one_if (x && test start) + starts_when test from t.starts)) (sym e)
      by_test false e = h ∙ none_more (starts_when test from t.starts) ∙ ap (λ (x : Bool). capped (one_if (x && test start) + starts_when test from t.starts)) (sym e)

  other_shown : (b : Bool) (m : Mode) (v : Known) (s : Starts) (starts : List Start) → is_start m ≡ false → Shows s starts → Shows (starts_behind b v m name s) starts
  other_shown true m v s starts is h = ignores m (condition_for name v) s is ∙ h
  other_shown false m v s starts is h = h

  mode_shown : (z : ℕ) (early : z < window.until.0) (m : Mode) (v : Known) (t : Told) (last : Option StartCondition) (s : Starts) → Gives name last v → IsSaid last t (event.Mode m) → Shows s t.starts
      → Shows (starts_behind (has_tick window z) v m name s) (says z t (event.Mode m)).starts
  mode_shown z early mode.Normal v t last s gives said h = other_shown (has_tick window z) mode.Normal v s t.starts refl h
  mode_shown z early mode.Idle v t last s gives said h = other_shown (has_tick window z) mode.Idle v s t.starts refl h
  mode_shown z early mode.ColdStart v t last s gives said h = start_shown z early mode.ColdStart v t s refl (gives t.next (said refl)) h
  mode_shown z early mode.WarmStart v t last s gives said h = start_shown z early mode.WarmStart v t s refl (gives t.next (said refl)) h

  -- ---- a line

  own_shown : (e : Event) (early : e.tick.0 < window.until.0) (kind : EventKind) (v : Known) (t : Told) (last : Option StartCondition) (p : PartitionRow) → p.name ≡ name → Gives name last v → IsSaid last t kind → Shows p.starts t.starts
      → Shows (read_by window v e.tick kind p).starts (says e.tick.0 t kind).starts
  own_shown e early (event.Mode m) v t last p is gives said h =
      subst (λ (n : List ℕ). Shows (starts_behind (has_tick window e.tick.0) v m n p.starts) (says e.tick.0 t (event.Mode m)).starts) (sym is) (mode_shown e.tick.0 early m v t last p.starts gives said h)
  own_shown e early (event.State who s) v t last p is gives said h = h ∙ ap (λ (ss : List Start). capped (starts_when test from ss)) (sym (moved_same e.tick.0 t who s))
  own_shown e early (event.Error k who (response.Partition a)) v t last p is gives said h = h ∙ ap (λ (ss : List Start). capped (starts_when test from ss)) (sym (cleared_same e.tick.0 t k a))
  own_shown e early (event.Error k who response.Handler) v t last p is gives said h = h
  own_shown e early (event.Error k who (response.Module a)) v t last p is gives said h = h
  own_shown e early (event.Return who w code) v t last p is gives said h = h
  own_shown e early (event.Report who words) v t last p is gives said h = h
  own_shown e early (event.Move port words) v t last p is gives said h = h
  own_shown e early (event.Arrive port words) v t last p is gives said h = h
  own_shown e early (event.Lost port words) v t last p is gives said h = h
  own_shown e early (event.Out channel words) v t last p is gives said h = h

  module_shown : (kind : EventKind) (t : Told) (s : Starts) → Shows s t.starts → Shows s (says_module t kind).starts
  module_shown (event.Error e who response.Handler) t s h = h
  module_shown (event.Error e who (response.Partition a)) t s h = h
  module_shown (event.Error e who (response.Module reaction.Ignore)) t s h = h
  module_shown (event.Error e who (response.Module reaction.Shutdown)) t s h = h
  module_shown (event.Error e who (response.Module reaction.Reset)) t s h = h
  module_shown (event.State who s) t r h = h
  module_shown (event.Mode m) t s h = h
  module_shown (event.Return who v code) t s h = h
  module_shown (event.Report who words) t s h = h
  module_shown (event.Move port words) t s h = h
  module_shown (event.Arrive port words) t s h = h
  module_shown (event.Lost port words) t s h = h
  module_shown (event.Out channel words) t s h = h

  named_behind : (b : Bool) (e : Event) (kind : EventKind) (v : Known) (p : PartitionRow) → (if b then read_by window v e.tick kind p else p).name ≡ p.name
  named_behind false e kind v p = refl
  named_behind true e (event.Mode m) v p = refl
  named_behind true e (event.State who s) v p = refl
  named_behind true e (event.Error k who r) v p = refl
  named_behind true e (event.Return who w code) v p = refl
  named_behind true e (event.Report who words) v p = refl
  named_behind true e (event.Move port words) v p = refl
  named_behind true e (event.Arrive port words) v p = refl
  named_behind true e (event.Lost port words) v p = refl
  named_behind true e (event.Out channel words) v p = refl

  line_shown : (e : Event) (early : e.tick.0 < window.until.0) (o : Option (List ℕ)) (v : Known) (t : Told) (last : Option StartCondition) (p : PartitionRow) → p.name ≡ name → Gives name last v → IsSaidBy name last t o e.kind → Shows p.starts t.starts
      → Shows (if is_of p.name o then read_by window v e.tick e.kind p else p).starts (said_by name t o e.tick.0 e.kind).starts
  line_shown e early None v t last p is gives said h = module_shown e.kind t p.starts h
  line_shown e early (Some other) v t last p is gives said h =
      subst (λ (n : List ℕ). Shows (if same other n then read_by window v e.tick e.kind p else p).starts (said_by name t (Some other) e.tick.0 e.kind).starts) (sym is)
      (subst (λ (b : Bool). Shows (if b then read_by window v e.tick e.kind p else p).starts (said_by name t (Some other) e.tick.0 e.kind).starts) (same_turned name other) (by_test (same name other) said))
    where
      by_test : (b : Bool) → IsSaidIf b last t e.kind → Shows (if b then read_by window v e.tick e.kind p else p).starts (if b then says e.tick.0 t e.kind else t).starts
      by_test true k = own_shown e early e.kind v t last p is gives k h
      by_test false k = h

  -- ---- all lines

  rows_shown : (lines : List Event) (v : Known) (t : Told) (last : Option StartCondition) (p : PartitionRow) → p.name ≡ name → Gives name last v → AreSaidBy name last t lines → AreBeforeTick window.until.0 lines → Shows p.starts t.starts
      → Shows (partition_in window v lines p).starts (told_from name t lines).starts
  rows_shown [] v t last p is gives said early h = h
  rows_shown (e ∷ es) v t last p is gives said early h =
      subst (λ (b : Bool). Shows (partition_in window (told_behind e v) es (if b then partition_behind window v e p else p)).starts (told_from name t (e ∷ es)).starts) (sym (lt-ltb e.tick.0 window.until.0 early.0))
      (rows_shown es (told_behind e v) (reading.with_line name t e) (last_by name last e.partition e.kind) (partition_behind window v e p)
      (named_behind (is_of p.name e.partition) e e.kind v p ∙ is) (line_gives name last e.partition e.kind v gives) said.1 early.1
      (line_shown e early.0 e.partition v t last p is gives said.0 h))

  -- from the first line on
  pub starts_shown : (lines : List Event) → number (no_partition name).starts ≡ 0 → AreSaidBy name (Some condition.NormalStart) first_told lines → AreBeforeTick window.until.0 lines
      → number (partition_in window told_first lines (no_partition name)).starts ≡ capped (starts_when test from (told_from name first_told lines).starts)
  starts_shown lines none said early =
      rows_shown lines told_first first_told (Some condition.NormalStart) (no_partition name) refl (λ c is. is) said early (omega (arith, none))

-- ---- starts in a mode, and with a condition

not_start : {A : Type 0} (m : Mode) → is_start m ≡ true → is_start m ≡ false → A
not_start m is e = absurd (false≢true (sym e ∙ is))

mode_counts : (k : Mode) → Counts (starts_for k) (is_in_mode k)
mode_counts k tick mode.Normal c s is = not_start mode.Normal is refl
mode_counts k tick mode.Idle c s is = not_start mode.Idle is refl
mode_counts mode.ColdStart tick mode.ColdStart c s is = refl
mode_counts mode.ColdStart tick mode.WarmStart c s is = refl
mode_counts mode.WarmStart tick mode.ColdStart c s is = refl
mode_counts mode.WarmStart tick mode.WarmStart c s is = refl
mode_counts mode.Normal tick mode.ColdStart c s is = refl
mode_counts mode.Normal tick mode.WarmStart c s is = refl
mode_counts mode.Idle tick mode.ColdStart c s is = refl
mode_counts mode.Idle tick mode.WarmStart c s is = refl

ignores_others : (number : Starts → ℕ) → Ignores number
ignores_others number mode.Normal o s is = refl
ignores_others number mode.Idle o s is = refl
ignores_others number mode.ColdStart o s is = absurd (false≢true (sym is))
ignores_others number mode.WarmStart o s is = absurd (false≢true (sym is))

with_counts : (k c : StartCondition) (x : Conditions) → starts_with k (with_condition (Some c) x) ≡ added (is_same_condition k c) (starts_with k x)
with_counts condition.NormalStart condition.NormalStart x = refl
with_counts condition.NormalStart condition.PartitionRestart x = refl
with_counts condition.NormalStart condition.HmModuleRestart x = refl
with_counts condition.NormalStart condition.HmPartitionRestart x = refl
with_counts condition.PartitionRestart condition.NormalStart x = refl
with_counts condition.PartitionRestart condition.PartitionRestart x = refl
with_counts condition.PartitionRestart condition.HmModuleRestart x = refl
with_counts condition.PartitionRestart condition.HmPartitionRestart x = refl
with_counts condition.HmModuleRestart condition.NormalStart x = refl
with_counts condition.HmModuleRestart condition.PartitionRestart x = refl
with_counts condition.HmModuleRestart condition.HmModuleRestart x = refl
with_counts condition.HmModuleRestart condition.HmPartitionRestart x = refl
with_counts condition.HmPartitionRestart condition.NormalStart x = refl
with_counts condition.HmPartitionRestart condition.PartitionRestart x = refl
with_counts condition.HmPartitionRestart condition.HmModuleRestart x = refl
with_counts condition.HmPartitionRestart condition.HmPartitionRestart x = refl

condition_counts : (k : StartCondition) → Counts (λ s. starts_with k s.conditions) (is_with k)
condition_counts k tick mode.Normal c s is = not_start mode.Normal is refl
condition_counts k tick mode.Idle c s is = not_start mode.Idle is refl
condition_counts k tick mode.ColdStart c s is = with_counts k c s.conditions
condition_counts k tick mode.WarmStart c s is = with_counts k c s.conditions

module _ (window : Span) (name : List ℕ) (lines : List Event) (said : AreSaidBy name (Some condition.NormalStart) first_told lines) (early : AreBeforeTick window.until.0 lines) where
  pub mode_shown_so : (k : Mode) → starts_for k (partition_in window told_first lines (no_partition name)).starts ≡ capped (starts_when (is_in_mode k) window.from.0 (told name lines).starts)
  mode_shown_so k = starts_shown (starts_for k) (is_in_mode k) (mode_counts k) (ignores_others (starts_for k)) window name lines (none k) said early
    where
      none : (k : Mode) → starts_for k (no_partition name).starts ≡ 0
      none mode.Normal = refl
      none mode.Idle = refl
      none mode.ColdStart = refl
      none mode.WarmStart = refl

  pub condition_shown_so : (k : StartCondition) → starts_with k (partition_in window told_first lines (no_partition name)).starts.conditions ≡ capped (starts_when (is_with k) window.from.0 (told name lines).starts)
  condition_shown_so k = starts_shown (λ s. starts_with k s.conditions) (is_with k) (condition_counts k) (ignores_others (λ s. starts_with k s.conditions)) window name lines (none k) said early
    where
      none : (k : StartCondition) → starts_with k (no_partition name).starts.conditions ≡ 0
      none condition.NormalStart = refl
      none condition.PartitionRestart = refl
      none condition.HmModuleRestart = refl
      none condition.HmPartitionRestart = refl

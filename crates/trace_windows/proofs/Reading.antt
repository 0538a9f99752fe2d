-- The lines of a trace, one after another.
use Rattle.std.proofs.Common.{◌≡◌, ℕ, ◌+◌, ◌-◌, ◌<◌, ◌≤◌, max, Bool, true, false, inl, inr, Option, Some, None, List, [], ◌∷◌, refl, subst, sym, ap, ◌∙◌, arith}
use Rattle.std.specs.Prelude.{nat_lt, if◌then◌else◌}
use Rattle.std.proofs.lemmas.Bool.{le-ltb, lt-ltb, ltb-false}
use Rattle.apex_types.specs.declared.event.Event.{Event}
use Rattle.kernel_meaning.specs.Windows.{Schedule}
use Rattle.trace_windows.specs.Counts.{capped, ticks_for, with_more}
use Rattle.trace_windows.specs.Runs.{AreBefore, HasPassed, first}
use Rattle.apex_types.specs.declared.codes.Mode.{Mode}
use Rattle.apex_types.specs.declared.codes.Mode.TheVariants as mode
use Rattle.apex_types.specs.declared.codes.ModuleAction.TheVariants as action
use Rattle.apex_types.specs.declared.codes.ProcessState.{ProcessState}
use Rattle.apex_types.specs.declared.codes.ProcessState.TheVariants as state
use Rattle.apex_types.specs.declared.codes.Response.{Response}
use Rattle.apex_types.specs.declared.codes.Response.TheVariants as response
use Rattle.apex_types.specs.declared.event.EventKind.{EventKind}
use Rattle.apex_types.specs.declared.event.EventKind.TheVariants as event
use Rattle.apex_types.specs.declared.event.Subject.{Subject}
use Rattle.apex_types.specs.declared.identity.Ticks.{Ticks}
use Rattle.trace_stays.specs.Clearing.{clears}
use Rattle.trace_windows.specs.Standings.{Standing, acted, at_first, cleared_if, entered, in_run, is_running, left_if, passed, passed_if, place_in, running_at, stopped, turned, with_kind, with_line, with_module, with_own, with_place}
use Rattle.trace_windows.specs.Uses.{ticks_used, use_from, use_of}
use Rattle.trace_windows.specs.declared.counted.Row.{Row}
use Rattle.trace_windows.specs.declared.usage.Use.{Use}
use Rattle.trace_windows.proofs.Adding.{more_more, more_than_none}
use Rattle.trace_windows.proofs.Counting.{alike, two_parts}
use Rattle.trace_windows.proofs.Passing.{apart}
use Rattle.window_table.specs.Schedules.{schedule_of}
use Rattle.window_table.specs.declared.schedule.Schedule as code

-- The rows have what was counted, and with the ticks that are left they have all.
abbrev pub WillHave : Schedule → (from until : ℕ) → Standing → List Event → List Row → (Use → ℕ) → Type 0
WillHave schedule from until s left rows all = (u : Use) → with_more (ticks_used (use_of schedule s left) u (first from s) (until - first from s)) (ticks_for u rows) ≡ all u

before_line : (schedule : Schedule) (s : Standing) (e : Event) (es : List Event) (t : ℕ) → t < in_run e.tick.0 → use_of schedule s (e ∷ es) t ≡ use_from schedule s t
before_line schedule s e es t h = ap (λ (b : Bool). if b then use_from schedule s t else use_of schedule (with_line e s) es t) (lt-ltb t (in_run e.tick.0) h)

behind_line : (schedule : Schedule) (s : Standing) (e : Event) (es : List Event) (t : ℕ) → in_run e.tick.0 ≤ t → use_of schedule s (e ∷ es) t ≡ use_of schedule (with_line e s) es t
behind_line schedule s e es t h = ap (λ (b : Bool). if b then use_from schedule s t else use_of schedule (with_line e s) es t) (le-ltb t (in_run e.tick.0) h)

-- ---- the tick of the last lines

stopped_now : (place : ℕ) (o : Option Subject) (s : Standing) → (stopped place o s).now ≡ s.now
stopped_now place None s = refl
stopped_now place (Some who) s = refl

left_now : (b : Bool) (next : ProcessState) (place : ℕ) (who : Subject) (s : Standing) → (left_if b next place who s).now ≡ s.now
left_now false next place who s = refl
left_now true state.Ready place who s = refl
left_now true state.Running place who s = refl
left_now true state.Waiting place who s = refl
left_now true state.Dormant place who s = refl

turned_now : (next : ProcessState) (place : ℕ) (who : Subject) (s : Standing) → (turned next place who s).now ≡ s.now
turned_now state.Running place who s = refl
turned_now state.Ready place who s = left_now (is_running who (running_at place s.owners)) state.Ready place who s
turned_now state.Waiting place who s = left_now (is_running who (running_at place s.owners)) state.Waiting place who s
turned_now state.Dormant place who s = left_now (is_running who (running_at place s.owners)) state.Dormant place who s

entered_now : (m : Mode) (place : ℕ) (s : Standing) → (entered m place s).now ≡ s.now
entered_now mode.Normal place s = refl
entered_now mode.Idle place s = stopped_now place (running_at place s.owners) s
entered_now mode.ColdStart place s = stopped_now place (running_at place s.owners) s
entered_now mode.WarmStart place s = stopped_now place (running_at place s.owners) s

cleared_now : (b : Bool) (place : ℕ) (s : Standing) → (cleared_if b place s).now ≡ s.now
cleared_now true place s = refl
cleared_now false place s = refl

own_now : (kind : EventKind) (place : ℕ) (s : Standing) → (with_own kind place s).now ≡ s.now
own_now (event.State who next) place s = turned_now next place who s
own_now (event.Mode m) place s = entered_now m place s
own_now (event.Return who service code) place s = refl
own_now (event.Error error who answer) place s = cleared_now (clears error answer) place s
own_now (event.Report who words) place s = refl
own_now (event.Move port words) place s = refl
own_now (event.Arrive port words) place s = refl
own_now (event.Lost port words) place s = refl
own_now (event.Out channel words) place s = refl

acted_now : (answer : Response) (s : Standing) → (acted answer s).now ≡ s.now
acted_now response.Handler s = refl
acted_now (response.Partition a) s = refl
acted_now (response.Module action.Ignore) s = refl
acted_now (response.Module action.Shutdown) s = refl
acted_now (response.Module action.Reset) s = refl

module_now : (kind : EventKind) (s : Standing) → (with_module kind s).now ≡ s.now
module_now (event.Error error who answer) s = acted_now answer s
module_now (event.State who next) s = refl
module_now (event.Mode m) s = refl
module_now (event.Return who service code) s = refl
module_now (event.Report who words) s = refl
module_now (event.Move port words) s = refl
module_now (event.Arrive port words) s = refl
module_now (event.Lost port words) s = refl
module_now (event.Out channel words) s = refl

place_now : (kind : EventKind) (o : Option ℕ) (s : Standing) → (with_place kind o s).now ≡ s.now
place_now kind None s = refl
place_now kind (Some place) s = own_now kind place s

pub kind_now : (p : Option (List ℕ)) (kind : EventKind) (s : Standing) → (with_kind p kind s).now ≡ s.now
kind_now None kind s = module_now kind s
kind_now (Some name) kind s = place_now kind (place_in name s.owners) s

passed_now : (b : Bool) (t : ℕ) (s : Standing) → nat_lt s.now t ≡ b → s.now ≤ t → (passed_if b t s).now ≡ t
passed_now true t s e h = refl
passed_now false t s e h = let low : t ≤ s.now = ltb-false s.now t e in omega (arith, low, h)

pub line_now : (e : Event) (s : Standing) → s.now ≤ in_run e.tick.0 → (with_line e s).now ≡ in_run e.tick.0
line_now e s h = kind_now e.partition e.kind (passed (in_run e.tick.0) s) ∙ passed_now (nat_lt s.now (in_run e.tick.0)) (in_run e.tick.0) s refl h

-- ---- one line more

pub line_read : (schedule : Schedule) (from until : ℕ) (s : Standing) (e : Event) (es : List Event) (old new : List Row) (all : Use → ℕ)
    → s.now ≤ in_run e.tick.0 → in_run e.tick.0 ≤ until → HasPassed schedule from s (in_run e.tick.0) old new
    → WillHave schedule from until s (e ∷ es) old all → WillHave schedule from until (with_line e s) es new all
line_read schedule from until s e es old new all past ahead counted will u =
    ap (λ (n : ℕ). with_more n (ticks_for u new)) there
    ∙ (ap (with_more rest) (counted u) ∙ (more_more (ticks_used (use_from schedule s) u a (t - a)) rest (ticks_for u old) ∙ (ap (λ (n : ℕ). with_more n (ticks_for u old)) parts ∙ will u)))
  where
    t : ℕ
    t = in_run e.tick.0

    a : ℕ
    a = first from s

    b : ℕ
    b = max from t

    rest : ℕ
    rest = ticks_used (use_of schedule (with_line e s) es) u b (until - b)

    there : ticks_used (use_of schedule (with_line e s) es) u (first from (with_line e s)) (until - first from (with_line e s)) ≡ rest
    there = ap (λ (n : ℕ). ticks_used (use_of schedule (with_line e s) es) u (max from n) (until - max from n)) (line_now e s past)

    parts : ticks_used (use_from schedule s) u a (t - a) + rest ≡ ticks_used (use_of schedule s (e ∷ es)) u a (until - a)
    parts = elim (apart from t) [
      | inl early ↦
          let low : a ≤ t = omega (arith, early, past) in
          let high : b ≡ t = omega (arith, early) in
          let both : until - a ≡ (t - a) + (until - t) = omega (arith, low, ahead) in
          let next : a + (t - a) ≡ t = omega (arith, low) in
          let one = alike (use_of schedule s (e ∷ es)) (use_from schedule s) u a a (t - a) (λ i below. before_line schedule s e es (a + i) (omega (arith, below))) in
          let more = alike (use_of schedule s (e ∷ es)) (use_of schedule (with_line e s) es) u t t (until - t) (λ i below. behind_line schedule s e es (t + i) (omega arith)) in
          let mine : rest ≡ ticks_used (use_of schedule (with_line e s) es) u t (until - t) = ap (λ (n : ℕ). ticks_used (use_of schedule (with_line e s) es) u n (until - n)) high in
          let split = ap (ticks_used (use_of schedule s (e ∷ es)) u a) both ∙ two_parts (use_of schedule s (e ∷ es)) u a (t - a) (until - t) in
          let moved : ticks_used (use_of schedule s (e ∷ es)) u (a + (t - a)) (until - t) ≡ ticks_used (use_of schedule s (e ∷ es)) u t (until - t) = ap (λ (n : ℕ). ticks_used (use_of schedule s (e ∷ es)) u n (until - t)) next in
          omega (arith, one, more, mine, split, moved)
      | inr late ↦
          let same : a ≡ from = omega (arith, late, past) in
          let high : b ≡ from = omega (arith, late) in
          let none : t - a ≡ 0 = omega (arith, late, past) in
          let nothing : ticks_used (use_from schedule s) u a (t - a) ≡ 0 = ap (ticks_used (use_from schedule s) u a) none in
          let mine : rest ≡ ticks_used (use_of schedule (with_line e s) es) u from (until - from) = ap (λ (n : ℕ). ticks_used (use_of schedule (with_line e s) es) u n (until - n)) high in
          let more = alike (use_of schedule s (e ∷ es)) (use_of schedule (with_line e s) es) u from from (until - from) (λ i below. behind_line schedule s e es (from + i) (omega (arith, late))) in
          let whole : ticks_used (use_of schedule s (e ∷ es)) u a (until - a) ≡ ticks_used (use_of schedule s (e ∷ es)) u from (until - from) = ap (λ (n : ℕ). ticks_used (use_of schedule s (e ∷ es)) u n (until - n)) same in
          omega (arith, nothing, mine, more, whole)
    ]

-- ---- the first line, and the end

pub before_all : (schedule : Schedule) (names : List (List ℕ)) (from until : ℕ) (events : List Event)
    → WillHave schedule from until (at_first names) events [] (λ (u : Use). capped (ticks_used (use_of schedule (at_first names) events) u from (until - from)))
unfolding ticks_for
before_all schedule names from until events u =
    let begin : max from 0 ≡ from = omega arith in
    ap (λ (n : ℕ). with_more (ticks_used (use_of schedule (at_first names) events) u n (until - n)) 0) begin
    ∙ more_than_none (ticks_used (use_of schedule (at_first names) events) u from (until - from))

pub behind_all : (schedule : Schedule) (from until : ℕ) (s : Standing) (old new : List Row) (all : Use → ℕ)
    → HasPassed schedule from s until old new → WillHave schedule from until s [] old all → (u : Use) → ticks_for u new ≡ all u
behind_all schedule from until s old new all counted will u =
    let same = alike (use_of schedule s []) (use_from schedule s) u (first from s) (first from s) (until - first from s) (λ i below. refl) in
    counted u ∙ (ap (λ (n : ℕ). with_more n (ticks_for u old)) (sym same) ∙ will u)

-- the lines end before the run does
pub ends_before : (until before : ℕ) (events : List Event) → AreBefore until before events → before ≤ until
ends_before until before [] h = h
ends_before until before (e ∷ es) h = let low = ends_before until (in_run e.tick.0) es h.1 in let here = h.0 in omega (arith, low, here)

abbrev pub WillCount : Schedule → (from until : ℕ) → Standing → List Event → List Row → (Use → ℕ) → Type 0
WillCount schedule from until s events rows all = AreBefore until s.now events × WillHave schedule from until s events rows all

pub step_read : (schedule : Schedule) (from until : ℕ) (s next : Standing) (e : Event) (es events : List Event) (old new : List Row) (all : Use → ℕ) → events ≡ e ∷ es → next ≡ with_line e s
    → HasPassed schedule from s (in_run e.tick.0) old new → WillCount schedule from until s events old all → WillCount schedule from until next es new all
step_read schedule from until s next e es events old new all first_one read counted will =
    subst (λ (n : Standing). WillCount schedule from until n es new all) (sym read) (
      subst (λ (t : ℕ). AreBefore until t es) (sym (line_now e s in_order.0)) in_order.1,
      line_read schedule from until s e es old new all in_order.0 (ends_before until (in_run e.tick.0) es in_order.1) counted there.1,
    )
  where
    there : WillCount schedule from until s (e ∷ es) old all
    there = subst (λ (events : List Event). WillCount schedule from until s events old all) first_one will

    in_order : (s.now ≤ in_run e.tick.0) × AreBefore until (in_run e.tick.0) es
    in_order = there.0

pub begins : (schedule : Schedule) (names : List (List ℕ)) (from until : ℕ) (events : List Event) (s : Standing) (rows : List Row) → s ≡ at_first names → rows ≡ [] → AreBefore until 0 events
    → WillCount schedule from until s events rows (λ (u : Use). capped (ticks_used (use_of schedule (at_first names) events) u from (until - from)))
begins schedule names from until events s rows is none before =
    subst (λ (rs : List Row). WillCount schedule from until s events rs all) (sym none)
    (subst (λ (n : Standing). WillCount schedule from until n events [] all) (sym is) (before, before_all schedule names from until events))
  where
    all : Use → ℕ
    all u = capped (ticks_used (use_of schedule (at_first names) events) u from (until - from))

-- the schedule and the first tick stay
pub passed_as : (a b : code.Schedule) (x y : Ticks) (s : Standing) (t : ℕ) (old new : List Row) → a ≡ b → x ≡ y → HasPassed (schedule_of a) x.0 s t old new → HasPassed (schedule_of b) y.0 s t old new
passed_as a b x y s t old new same_schedule same_tick counted =
    subst (λ (c : code.Schedule). HasPassed (schedule_of c) y.0 s t old new) same_schedule (subst (λ (z : Ticks). HasPassed (schedule_of a) z.0 s t old new) same_tick counted)

pub all_read : (schedule : Schedule) (from until : ℕ) (s : Standing) (events : List Event) (old new : List Row) (all : Use → ℕ) → events ≡ []
    → HasPassed schedule from s until old new → WillCount schedule from until s events old all → (u : Use) → ticks_for u new ≡ all u
all_read schedule from until s events old new all none counted will =
    behind_all schedule from until s old new all counted (subst (λ (es : List Event). WillCount schedule from until s es old all) none will).1

-- What the windows count of the lines up to a tick is what these lines tell.
use Rattle.std.proofs.Common.{◌≡◌, ◌<◌, ◌≤◌, ℕ, zero, suc, Bool, true, false, List, [], ◌∷◌, Option, Some, None, map, refl, sym, ap, ◌∙◌, subst, arith}
use Rattle.std.specs.Prelude.{nat_lt, if◌then◌else◌, slice_get}
use Rattle.std.proofs.lemmas.Bool.{le-ltb, lt-ltb, ltb-false, ltb-true}
use Rattle.std.proofs.lemmas.Option.{none-some}
use Rattle.apex_types.specs.Limits.{MOST_TICKS}
use Rattle.apex_types.specs.declared.codes.Mode.TheVariants as mode
use Rattle.apex_types.specs.declared.codes.ModuleAction.TheVariants as reaction
use Rattle.apex_types.specs.declared.codes.ProcessState.{ProcessState}
use Rattle.apex_types.specs.declared.codes.ProcessState.TheVariants as state
use Rattle.apex_types.specs.declared.codes.Response.{Response}
use Rattle.apex_types.specs.declared.codes.Response.TheVariants as response
use Rattle.apex_types.specs.declared.event.Event.{Event}
use Rattle.apex_types.specs.declared.event.EventKind.{EventKind}
use Rattle.apex_types.specs.declared.event.EventKind.TheVariants as event
use Rattle.apex_types.specs.declared.event.Subject.{Subject}
use Rattle.engine_meaning.specs.Digits.{same}
use Rattle.isolation.proofs.Steps.{AreApart, IsApart}
use Rattle.kernel_meaning.specs.Windows.{Schedule, owner, tick_from}
use Rattle.module_meaning.specs.Table.{at_number}
use Rattle.state_laws.specs.Told.{Told, first_told, running_or, said_by, says_module, told, told_from, worked_in, worker_by_lines}
use Rattle.state_laws.specs.Told as reading
use Rattle.state_laws.proofs.Subjects.{same_name}
use Rattle.trace_windows.specs.Frames.{Frames}
use Rattle.trace_windows.specs.Frames as frames
use Rattle.trace_windows.specs.Runs.{AreInOrder}
use Rattle.trace_windows.specs.Standings.{Standing, acted, at_first, in_run, is_running, left_if, passed, passed_if, place_in, running_at, stopped, cleared_if, with_kind, with_line, with_module, with_own, with_place, without_process}
use Rattle.trace_windows.specs.Uses.{last_from, or_stopped, use_by, use_from, use_if, use_of, works_at}
use Rattle.trace_windows.proofs.Reading.{line_now}
use Rattle.view_laws.specs.Reading.{HaveOwnNames, frames_after, up_to, use_told, use_unless, worker_told}
use Rattle.view_laws.proofs.Owners.{names_in, none_stopped}
use Rattle.view_laws.proofs.Told.{Tells, passed_tells, module_tells, else_tells, kind_tells}

-- ---- lines up to a tick

-- none is later
abbrev pub AreUpTo : ℕ → List Event → Type 0
AreUpTo t [] = Unit {0}
AreUpTo t (e ∷ es) = (e.tick.0 ≤ t) × AreUpTo t es

pub up_to_are : (t : ℕ) (lines : List Event) → AreUpTo t (up_to t lines)
up_to_are t [] = tt
up_to_are t (e ∷ es) = by_test (nat_lt t e.tick.0) refl (up_to_are t es)
  where
    by_test : (b : Bool) → nat_lt t e.tick.0 ≡ b → AreUpTo t (up_to t es) → AreUpTo t (if b then [] else e ∷ up_to t es)
    by_test true f rest = tt
    by_test false f rest = (ltb-false t e.tick.0 f, rest)

up_to_in_order : (t from : ℕ) (lines : List Event) → AreInOrder from lines → AreInOrder from (up_to t lines)
up_to_in_order t from [] h = tt
up_to_in_order t from (e ∷ es) h = by_test (nat_lt t e.tick.0) (up_to_in_order t e.tick.0 es h.1)
  where
    by_test : (b : Bool) → AreInOrder e.tick.0 (up_to t es) → AreInOrder from (if b then [] else e ∷ up_to t es)
    by_test true rest = tt
    by_test false rest = (h.0, rest)

is_in_run : (n : ℕ) → n ≤ MOST_TICKS → in_run n ≡ n
is_in_run n l = omega (arith, l)

-- ---- all lines

abbrev standing_after : Standing → List Event → Standing
standing_after s [] = s
standing_after s (e ∷ es) = standing_after (with_line e s) es

in_its_tick : (e : Event) (s : Standing) → e.tick.0 ≤ MOST_TICKS → with_line e s ≡ with_kind e.partition e.kind (passed e.tick.0 s)
in_its_tick e s l = ap (λ (n : ℕ). with_kind e.partition e.kind (passed n s)) (is_in_run e.tick.0 l)

now_after : (e : Event) (s : Standing) → e.tick.0 ≤ MOST_TICKS → s.now ≤ e.tick.0 → (with_line e s).now ≡ e.tick.0
now_after e s l h = line_now e s (subst (λ (n : ℕ). s.now ≤ n) (sym (is_in_run e.tick.0 l)) h) ∙ is_in_run e.tick.0 l

passed_now : (n : ℕ) (s : Standing) → s.now ≤ n → (passed n s).now ≡ n
passed_now n s h = by_test (nat_lt s.now n) refl
  where
    by_test : (b : Bool) → nat_lt s.now n ≡ b → (passed_if b n s).now ≡ n
    by_test true e = refl
    by_test false e = let low = ltb-false s.now n e in omega (arith, low, h)

module _ (names : List (List ℕ)) (place : ℕ) where
  module _ (name : List ℕ) (apart : IsApart name place names) where
    line_tells : (e : Event) (s : Standing) (t : Told) → e.tick.0 ≤ MOST_TICKS → s.now ≤ e.tick.0 → Tells names place s t → Tells names place (with_line e s) (reading.with_line name t e)
    line_tells e s t l o h =
        let k = kind_tells names place name apart e.partition e.kind (passed e.tick.0 s) t (passed_tells names place e.tick.0 s t h) in
        let now = subst (λ (n : ℕ). Tells names place (with_kind e.partition e.kind (passed e.tick.0 s)) (said_by name t e.partition n e.kind)) (passed_now e.tick.0 s o) k in
        subst (λ (x : Standing). Tells names place x (reading.with_line name t e)) (sym (in_its_tick e s l)) now

    lines_tell : (most : ℕ) (lines : List Event) (s : Standing) (t : Told) → most ≤ MOST_TICKS → AreUpTo most lines → AreInOrder s.now lines → Tells names place s t → Tells names place (standing_after s lines) (told_from name t lines)
    lines_tell most [] s t l up order h = h
    lines_tell most (e ∷ es) s t l up order h =
        let here = up.0 in
        let low : e.tick.0 ≤ MOST_TICKS = omega (arith, here, l) in
        let rest = subst (λ (n : ℕ). AreInOrder n es) (sym (now_after e s low order.0)) order.1 in
        lines_tell most es (with_line e s) (reading.with_line name t e) l up.1 rest (line_tells e s t low order.0 h)

  -- no partition is at the place
  module _ (nobody : slice_get names place ≡ None) where
    says_nothing : (k : EventKind) (s : Standing) → Tells names place s (says_module first_told k) → Tells names place s first_told
    says_nothing (event.Error e who response.Handler) s h = h
    says_nothing (event.Error e who (response.Partition a)) s h = h
    says_nothing (event.Error e who (response.Module reaction.Ignore)) s h = h
    says_nothing (event.Error e who (response.Module reaction.Shutdown)) s h = h
    says_nothing (event.Error e who (response.Module reaction.Reset)) s h = record { named = h.named; running = h.running; last = h.last; before = h.before }
    says_nothing (event.State who next) s h = h
    says_nothing (event.Mode m) s h = h
    says_nothing (event.Return who service code) s h = h
    says_nothing (event.Report who words) s h = h
    says_nothing (event.Move port words) s h = h
    says_nothing (event.Arrive port words) s h = h
    says_nothing (event.Lost port words) s h = h
    says_nothing (event.Out channel words) s h = h

    kind_absent : (p : Option (List ℕ)) (kind : EventKind) (s : Standing) → Tells names place s first_told → Tells names place (with_kind p kind s) first_told
    kind_absent None kind s h = says_nothing kind (with_module kind s) (module_tells names place kind s first_told h)
    kind_absent (Some other) kind s h = else_tells names place other (λ f. none-some other (sym nobody ∙ f)) kind s first_told h

    lines_absent : (lines : List Event) (s : Standing) → Tells names place s first_told → Tells names place (standing_after s lines) first_told
    lines_absent [] s h = h
    lines_absent (e ∷ es) s h = lines_absent es (with_line e s) (kind_absent e.partition e.kind (passed (in_run e.tick.0) s) (passed_in_run e s h))
      where
        passed_in_run : (e : Event) (s : Standing) → Tells names place s first_told → Tells names place (passed (in_run e.tick.0) s) first_told
        passed_in_run e s h = by_test (nat_lt s.now (in_run e.tick.0))
          where
            by_test : (b : Bool) → Tells names place (passed_if b (in_run e.tick.0) s) first_told
            by_test true = record { named = h.named; running = h.running; last = none_stopped place; before = tt }
            by_test false = h

  first_tells : (owners : List (List ℕ)) → names_in (map without_process owners) ≡ owners
  first_tells [] = refl
  first_tells (o ∷ os) = ap (λ (ns : List (List ℕ)). o ∷ ns) (first_tells os)

  nobody_runs : (owners : List (List ℕ)) (i : ℕ) → running_at i (map without_process owners) ≡ None
  nobody_runs [] i = refl
  nobody_runs (o ∷ os) zero = refl
  nobody_runs (o ∷ os) (suc i) = nobody_runs os i

  begins : Tells names place (at_first names) first_told
  begins = record { named = first_tells names; running = nobody_runs names place; last = none_stopped place; before = tt }

-- ---- the frames

record Frame (s : Standing) (f : Frames) : Type 0 where
  pub origin : s.origin ≡ f.origin
  pub is_down : s.is_down ≡ f.is_down

stopped_frame : (f : Frames) (place : ℕ) (o : Option Subject) (s : Standing) → Frame s f → Frame (stopped place o s) f
stopped_frame f place None s h = h
stopped_frame f place (Some who) s h = record { origin = h.origin; is_down = h.is_down }

left_frame : (f : Frames) (b : Bool) (next : ProcessState) (place : ℕ) (who : Subject) (s : Standing) → Frame s f → Frame (left_if b next place who s) f
left_frame f false next place who s h = h
left_frame f true state.Ready place who s h = record { origin = h.origin; is_down = h.is_down }
left_frame f true state.Running place who s h = record { origin = h.origin; is_down = h.is_down }
left_frame f true state.Waiting place who s h = record { origin = h.origin; is_down = h.is_down }
left_frame f true state.Dormant place who s h = record { origin = h.origin; is_down = h.is_down }

cleared_frame : (f : Frames) (b : Bool) (place : ℕ) (s : Standing) → Frame s f → Frame (cleared_if b place s) f
cleared_frame f true place s h = record { origin = h.origin; is_down = h.is_down }
cleared_frame f false place s h = h

own_frame : (f : Frames) (kind : EventKind) (place : ℕ) (s : Standing) → Frame s f → Frame (with_own kind place s) f
own_frame f (event.State who state.Running) place s h = record { origin = h.origin; is_down = h.is_down }
own_frame f (event.State who state.Ready) place s h = left_frame f (is_running who (running_at place s.owners)) state.Ready place who s h
own_frame f (event.State who state.Waiting) place s h = left_frame f (is_running who (running_at place s.owners)) state.Waiting place who s h
own_frame f (event.State who state.Dormant) place s h = left_frame f (is_running who (running_at place s.owners)) state.Dormant place who s h
own_frame f (event.Mode mode.Normal) place s h = h
own_frame f (event.Mode mode.Idle) place s h = stopped_frame f place (running_at place s.owners) s h
own_frame f (event.Mode mode.ColdStart) place s h = stopped_frame f place (running_at place s.owners) s h
own_frame f (event.Mode mode.WarmStart) place s h = stopped_frame f place (running_at place s.owners) s h
own_frame f (event.Error e who a) place s h = cleared_frame f _ place s h
own_frame f (event.Return who service code) place s h = h
own_frame f (event.Report who words) place s h = h
own_frame f (event.Move port words) place s h = h
own_frame f (event.Arrive port words) place s h = h
own_frame f (event.Lost port words) place s h = h
own_frame f (event.Out channel words) place s h = h

place_frame : (f : Frames) (kind : EventKind) (o : Option ℕ) (s : Standing) → Frame s f → Frame (with_place kind o s) f
place_frame f kind None s h = h
place_frame f kind (Some place) s h = own_frame f kind place s h

acted_frame : (f : Frames) (a : Response) (s : Standing) → Frame s f → Frame (acted a s) (frames.acted a s.now f)
acted_frame f response.Handler s h = h
acted_frame f (response.Partition a) s h = h
acted_frame f (response.Module reaction.Ignore) s h = h
acted_frame f (response.Module reaction.Shutdown) s h = record { origin = h.origin; is_down = refl }
acted_frame f (response.Module reaction.Reset) s h = record { origin = refl; is_down = h.is_down }

module_frame : (f : Frames) (kind : EventKind) (s : Standing) → Frame s f → Frame (with_module kind s) (frames.with_module kind s.now f)
module_frame f (event.Error e who a) s h = acted_frame f a s h
module_frame f (event.State who next) s h = h
module_frame f (event.Mode m) s h = h
module_frame f (event.Return who service code) s h = h
module_frame f (event.Report who words) s h = h
module_frame f (event.Move port words) s h = h
module_frame f (event.Arrive port words) s h = h
module_frame f (event.Lost port words) s h = h
module_frame f (event.Out channel words) s h = h

abbrev pub framed : Option (List ℕ) → EventKind → ℕ → Frames → Frames
framed None kind t f = frames.with_module kind t f
framed (Some name) kind t f = f

pub framed_so : (e : Event) (f : Frames) → frames.with_line e f ≡ framed e.partition e.kind e.tick.0 f
framed_so e f = by_partition e.partition
  where
    by_partition : (p : Option (List ℕ)) → (elim p [ None ↦ frames.with_module e.kind e.tick.0 f | Some name ↦ f ]) ≡ framed p e.kind e.tick.0 f
    by_partition None = refl
    by_partition (Some name) = refl

kind_frame : (f : Frames) (p : Option (List ℕ)) (kind : EventKind) (s : Standing) → Frame s f → Frame (with_kind p kind s) (framed p kind s.now f)
kind_frame f None kind s h = module_frame f kind s h
kind_frame f (Some name) kind s h = place_frame f kind (place_in name s.owners) s h

passed_frame : (f : Frames) (n : ℕ) (s : Standing) → Frame s f → Frame (passed n s) f
passed_frame f n s h = by_test (nat_lt s.now n)
  where
    by_test : (b : Bool) → Frame (passed_if b n s) f
    by_test true = record { origin = h.origin; is_down = h.is_down }
    by_test false = h

line_frame : (f : Frames) (e : Event) (s : Standing) → e.tick.0 ≤ MOST_TICKS → s.now ≤ e.tick.0 → Frame s f → Frame (with_line e s) (frames.with_line e f)
line_frame f e s l o h =
    let k = kind_frame f e.partition e.kind (passed e.tick.0 s) (passed_frame f e.tick.0 s h) in
    let now = subst (λ (n : ℕ). Frame (with_kind e.partition e.kind (passed e.tick.0 s)) (framed e.partition e.kind n f)) (passed_now e.tick.0 s o) k in
    subst (λ (x : Standing). Frame x (frames.with_line e f)) (sym (in_its_tick e s l)) (subst (Frame (with_kind e.partition e.kind (passed e.tick.0 s))) (sym (framed_so e f)) now)

lines_frame : (most : ℕ) (lines : List Event) (s : Standing) (f : Frames) → most ≤ MOST_TICKS → AreUpTo most lines → AreInOrder s.now lines → Frame s f → Frame (standing_after s lines) (frames_after f lines)
lines_frame most [] s f l up order h = h
lines_frame most (e ∷ es) s f l up order h =
    let here = up.0 in
    let low : e.tick.0 ≤ MOST_TICKS = omega (arith, here, l) in
    let rest = subst (λ (n : ℕ). AreInOrder n es) (sym (now_after e s low order.0)) order.1 in
    lines_frame most es (with_line e s) (frames.with_line e f) l up.1 rest (line_frame f e s low order.0 h)

-- the tick of the last line is not later
lines_now : (most : ℕ) (lines : List Event) (s : Standing) → most ≤ MOST_TICKS → s.now ≤ most → AreUpTo most lines → AreInOrder s.now lines → (standing_after s lines).now ≤ most
lines_now most [] s l first up order = first
lines_now most (e ∷ es) s l first up order =
    let here = up.0 in
    let low : e.tick.0 ≤ MOST_TICKS = omega (arith, here, l) in
    let is = now_after e s low order.0 in
    lines_now most es (with_line e s) l (subst (λ (n : ℕ). n ≤ most) (sym is) here) up.1 (subst (λ (n : ℕ). AreInOrder n es) (sym is) order.1)

-- ---- a tick

run_test : (t n : ℕ) → t < MOST_TICKS → (b : Bool) → nat_lt t n ≡ b → nat_lt t (in_run n) ≡ b
run_test t n l true e = let h = ltb-true t n e in let k : t < in_run n = omega (arith, h, l) in lt-ltb t (in_run n) k
run_test t n l false e = let h = ltb-false t n e in let k : in_run n ≤ t = omega (arith, h) in le-ltb t (in_run n) k

use_up_to : (schedule : Schedule) (lines : List Event) (s : Standing) (t : ℕ) → t < MOST_TICKS → use_of schedule s lines t ≡ use_from schedule (standing_after s (up_to t lines)) t
use_up_to schedule [] s t l = refl
use_up_to schedule (e ∷ es) s t l = by_test (nat_lt t e.tick.0) refl (use_up_to schedule es (with_line e s) t l)
  where
    by_test : (b : Bool) → nat_lt t e.tick.0 ≡ b → use_of schedule (with_line e s) es t ≡ use_from schedule (standing_after (with_line e s) (up_to t es)) t
        → (if nat_lt t (in_run e.tick.0) then use_from schedule s t else use_of schedule (with_line e s) es t) ≡ use_from schedule (standing_after s (if b then [] else e ∷ up_to t es)) t
    by_test true f rest = ap (λ (b : Bool). if b then use_from schedule s t else use_of schedule (with_line e s) es t) (run_test t e.tick.0 l true f)
    by_test false f rest = ap (λ (b : Bool). if b then use_from schedule s t else use_of schedule (with_line e s) es t) (run_test t e.tick.0 l false f) ∙ rest

or_same : (a b : Option Subject) → or_stopped a b ≡ running_or a b
or_same None b = refl
or_same (Some who) b = refl

module _ (schedule : Schedule) (names : List (List ℕ)) (apart : AreApart names) (t : ℕ) (few : t < MOST_TICKS) (lines : List Event) (order : AreInOrder 0 lines) (up : AreUpTo t lines) where
  abbrev last : Standing
  last = standing_after (at_first names) lines

  abbrev there : Standing
  there = passed t last

  in_time : t ≤ MOST_TICKS
  in_time = omega (arith, few)

  is_now : there.now ≡ t
  is_now = passed_now t last (lines_now t lines (at_first names) in_time (omega arith) up order)

  worker_here : (place : ℕ) (u : Told) → Tells names place last u → works_at place there ≡ worker_by_lines t u
  worker_here place u h =
      let k = passed_tells names place t last u h in
      ap (λ (x : Option Subject). or_stopped x (last_from None place there.stopped)) k.running
      ∙ ap (or_stopped u.running) (k.last ∙ ap (λ (n : ℕ). worked_in n u.worked) is_now)
      ∙ or_same u.running (worked_in t u.worked)

  worker_at : (place : ℕ) → works_at place there ≡ worker_told t lines (slice_get names place)
  worker_at place = by_name (slice_get names place) refl
    where
      by_name : (o : Option (List ℕ)) → slice_get names place ≡ o → works_at place there ≡ worker_told t lines o
      by_name None e = worker_here place first_told (lines_absent names place e lines (at_first names) (begins names place))
      by_name (Some name) e = worker_here place (told name lines) (lines_tell names place name (apart place name e) t lines (at_first names) first_told in_time up order (begins names place))

  use_here : (b : Bool) (o : Option ℕ) → use_if b o there ≡ use_unless b o (λ p. worker_told t lines (at_number names p))
  use_here true o = refl
  use_here false None = refl
  use_here false (Some zero) = refl
  use_here false (Some (suc place)) = ap (use_by (suc place)) (worker_at place)

  lines_are_told : use_from schedule last t ≡ use_told schedule names lines t
  lines_are_told =
      let f = frames_after frames.at_first lines in
      let k = passed_frame f t last (lines_frame t lines (at_first names) frames.at_first in_time up order (record { origin = refl; is_down = refl })) in
      ap (λ (b : Bool). use_if b (owner schedule (tick_from there.origin t)) there) k.is_down
      ∙ ap (λ (n : ℕ). use_if f.is_down (owner schedule (tick_from n t)) there) k.origin
      ∙ use_here f.is_down (owner schedule (tick_from f.origin t))

pub use_is_told : (schedule : Schedule) (names : List (List ℕ)) (lines : List Event) (t : ℕ) → AreApart names → AreInOrder 0 lines → t < MOST_TICKS → use_of schedule (at_first names) lines t ≡ use_told schedule names (up_to t lines) t
use_is_told schedule names lines t apart order few =
    use_up_to schedule lines (at_first names) t few ∙ lines_are_told schedule names apart t few (up_to t lines) (up_to_in_order t 0 lines order) (up_to_are t lines)

-- ---- names

pub names_apart : (names : List (List ℕ)) → HaveOwnNames names → AreApart names
names_apart names own place name e = record {
  here = e;
  others = λ q other n f. by_test q other n f (same name other) refl;
}
  where
    by_test : (q : ℕ) (other : List ℕ) → (q ≡ place → ⊥) → slice_get names q ≡ Some other → (b : Bool) → same name other ≡ b → same name other ≡ false
    by_test q other n f true g = absurd (n (own q place other name f e (sym (same_name name other g))))
    by_test q other n f false g = g

-- ---- the owner of a tick

pub owner_up_to : (schedule : Schedule) (f : Frames) (lines : List Event) (t : ℕ) → frames.owner_in schedule f lines t ≡ frames.owner_by schedule (frames_after f (up_to t lines)) t
owner_up_to schedule f [] t = refl
owner_up_to schedule f (e ∷ es) t = by_test (nat_lt t e.tick.0) refl (owner_up_to schedule (frames.with_line e f) es t)
  where
    by_test : (b : Bool) → nat_lt t e.tick.0 ≡ b → frames.owner_in schedule (frames.with_line e f) es t ≡ frames.owner_by schedule (frames_after (frames.with_line e f) (up_to t es)) t
        → (if nat_lt t e.tick.0 then frames.owner_by schedule f t else frames.owner_in schedule (frames.with_line e f) es t) ≡ frames.owner_by schedule (frames_after f (if b then [] else e ∷ up_to t es)) t
    by_test true k rest = ap (λ (b : Bool). if b then frames.owner_by schedule f t else frames.owner_in schedule (frames.with_line e f) es t) k
    by_test false k rest = ap (λ (b : Bool). if b then frames.owner_by schedule f t else frames.owner_in schedule (frames.with_line e f) es t) k ∙ rest

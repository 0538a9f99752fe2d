-- The lines of each move of a partition agree with it. In a tick the chosen runner is the one that spends it by the lines.
use Rattle.std.proofs.Common.{◌≡◌, append_assoc, ℕ, ℤ, Bool, true, false, List, [], ◌∷◌, ◌++◌, Option, Some, None, refl, sym, ap, ◌∙◌, subst, arith, ◌<◌}
use Rattle.std.specs.Prelude.{if◌then◌else◌, slice_set}
use Rattle.std.proofs.lemmas.Bool.{ne_eqb}
use Rattle.apex_types.specs.Runners.{Action, place_of}
use Rattle.apex_types.specs.Runners as action
use Rattle.apex_types.specs.declared.codes.Discipline.{Discipline}
use Rattle.apex_types.specs.declared.codes.ErrorKind.{ErrorKind}
use Rattle.apex_types.specs.declared.codes.ErrorKind.TheVariants as error
use Rattle.apex_types.specs.declared.codes.Mode.{Mode}
use Rattle.apex_types.specs.declared.codes.Mode.TheVariants as mode
use Rattle.apex_types.specs.declared.codes.PartitionAction.{PartitionAction}
use Rattle.apex_types.specs.declared.codes.PartitionAction.TheVariants as response
use Rattle.apex_types.specs.declared.codes.ProcessState.{ProcessState}
use Rattle.apex_types.specs.declared.codes.ProcessState.TheVariants.{Dormant, Ready, Running, Waiting}
use Rattle.apex_types.specs.declared.codes.Response.{Response}
use Rattle.apex_types.specs.declared.codes.Response.TheVariants as level
use Rattle.apex_types.specs.declared.codes.StartCondition.{StartCondition}
use Rattle.apex_types.specs.declared.codes.StartCondition.TheVariants as condition
use Rattle.apex_types.specs.declared.event.EventKind.{EventKind}
use Rattle.apex_types.specs.declared.event.EventKind.TheVariants as event
use Rattle.apex_types.specs.declared.event.Subject.{Subject}
use Rattle.apex_types.specs.declared.identity.At.{At}
use Rattle.apex_types.specs.declared.identity.ListKey.{ListKey}
use Rattle.apex_types.specs.declared.identity.Runner.{Runner}
use Rattle.engine_meaning.specs.Engine.{Engine}
use Rattle.kernel_laws.specs.Agreement.{RecordsAgree}
use Rattle.kernel_laws.specs.Numbers.{Numbers}
use Rattle.kernel_laws.specs.OrderLaw.{IsOrdered, chosen_among}
use Rattle.kernel_laws.specs.WhoWaits.{AreWaiting}
use Rattle.kernel_laws.proofs.OfTick.{tick_goes}
use Rattle.kernel_laws.proofs.RecordKernel.{handler_agrees}
use Rattle.kernel_laws.proofs.RecordTick.{acts_same}
use Rattle.kernel_laws.proofs.WaitKernel.{KernelHolds, chooses_holds, due_from_holds, handler_holds, then_clears_hold}
use Rattle.kernel_laws.proofs.WaitSteps.{Hold}
use Rattle.arrayvec.specs.ArrayVec.{ArrayVec}
use Rattle.kernel_meaning.specs.HealthServices.{breaks, tells_error, then_clears, action_of}
use Rattle.kernel_meaning.specs.Kernel.{Kernel, of_ports, of_ports_alone, of_processes, with_errors, with_ports}
use Rattle.kernel_meaning.specs.Objects.{Port, Ports, port_at}
use Rattle.kernel_meaning.specs.Partition.{Moved, World, act, act_all, choice_phase, clearing_phase, control_at, due_phase, followed_by, given, moved, prepares, spending_phase, spends_chosen, tick, ticked, told, treating_phase, treats_asked, treats_due, chooses_with_handler}
use Rattle.kernel_meaning.specs.PartitionServices.{clears}
use Rattle.kernel_meaning.specs.Processes.{Processes, is_normal}
use Rattle.kernel_meaning.specs.PortServices as ports
use Rattle.kernel_meaning.specs.Sharing.{Sharing}
use Rattle.kernel_meaning.specs.Step.{Step, nothing, after}
use Rattle.kernel_meaning.specs.Times.{mode_of_action}
use Rattle.state_laws.specs.States.{runs_in}
use Rattle.state_laws.specs.Starts.{starts_asked, starts_of, starts_ticking}
use Rattle.state_laws.specs.Told.{Start, Told, cleared, is_it, has_worked, preempted, worker_or, moves_to, says, is_from_outside, is_ignored, responds, worker_by_lines, running_or, worked_in}
use Rattle.state_laws.proofs.Agreement.{Kept, agrees_after, all_both, kept_kernel, reads, reads_all, AreDistinct, Agrees, KernelAgrees, has_worked_last}
use Rattle.state_laws.proofs.Choice.{choice_goes}
use Rattle.state_laws.proofs.Clears.{clears_go, cleared_worked}
use Rattle.state_laws.proofs.Due.{ByClear, treats_due_goes}
use Rattle.state_laws.proofs.KernelSteps.{GoesAfter, KernelFollows, KernelGoes, asked_works, goes_without, same_next}
use Rattle.state_laws.proofs.Objects.{Brings, arrives_goes, admits_goes}
use Rattle.state_laws.proofs.Starting.{AllSaid, all_last, all_said, all_said_both, no_start, no_starts, none_said, told_last}

-- ---- the lines of one partition

all_told : (t : Told) (name : List ℕ) (at : At) (kinds : List EventKind) → reads_all t (told name at kinds) ≡ reads at.now.0 t kinds
all_told t name at [] = refl
all_told t name at (k ∷ ks) = all_told (says at.now.0 t k) name at ks

-- ---- who worked last, and when

-- it was before this tick
abbrev pub IsBefore : ℕ → Option (ℕ × Subject) → Type 0
IsBefore n None = Unit {0}
IsBefore n (Some w) = w.0 < n

module _ (tick n : ℕ) (lt : tick < n) where
  or_before : (w : Option (ℕ × Subject)) (o : Option Subject) → IsBefore n w → IsBefore n (worker_or tick w o)
  or_before w None h = h
  or_before w (Some who) h = lt

  leaves_before : (t : Told) (b : Bool) → IsBefore n t.worked → IsBefore n (if b then has_worked tick t else t).worked
  leaves_before t true h = or_before t.worked t.running h
  leaves_before t false h = h

  moves_before : (t : Told) (who : Subject) (state : ProcessState) → IsBefore n t.worked → IsBefore n (moves_to tick t who state).worked
  moves_before t who Running h = h
  moves_before t who Ready h = by_test (is_it who t.running)
    where
      by_test : (b : Bool) → IsBefore n (if b then preempted t else t).worked
      by_test true = h
      by_test false = h
  moves_before t who Waiting h = leaves_before t (is_it who t.running) h
  moves_before t who Dormant h = leaves_before t (is_it who t.running) h

  responds_before : (t : Told) (e : ErrorKind) (who : Option Subject) (r : Response) → IsBefore n t.worked → IsBefore n (responds t e who r).worked
  responds_before t e who (level.Partition a) h = by_tests (is_from_outside e) (is_ignored a)
    where
      by_tests : (b c : Bool) → IsBefore n (if b then (if c then t else cleared t) else t).worked
      by_tests true true = h
      by_tests true false = h
      by_tests false c = h
  responds_before t e who level.Handler h = h
  responds_before t e who (level.Module a) h = h

  says_before : (t : Told) (k : EventKind) → IsBefore n t.worked → IsBefore n (says tick t k).worked
  says_before t (event.State who state) h = moves_before t who state h
  says_before t (event.Mode mode.Normal) h = h
  says_before t (event.Mode mode.Idle) h = or_before t.worked t.running h
  says_before t (event.Mode mode.ColdStart) h = or_before t.worked t.running h
  says_before t (event.Mode mode.WarmStart) h = or_before t.worked t.running h
  says_before t (event.Error e who r) h = responds_before t e who r h
  says_before t (event.Return who service code) h = h
  says_before t (event.Report who words) h = h
  says_before t (event.Move port words) h = h
  says_before t (event.Arrive port words) h = h
  says_before t (event.Lost port words) h = h
  says_before t (event.Out channel words) h = h

  reads_before : (t : Told) (kinds : List EventKind) → IsBefore n t.worked → IsBefore n (reads tick t kinds).worked
  reads_before t [] h = h
  reads_before t (k ∷ ks) h = reads_before (says tick t k) ks (says_before t k h)

-- ---- actions

module _ {C : Type 0} (e : Engine C) where
  act_kept : (a : Action) (w : World C) → kept_kernel (act e a w).kernel ≡ kept_kernel w.kernel
  act_kept (action.Begin p) w = refl
  act_kept (action.Stop p) w = refl
  act_kept action.StopAll w = refl
  act_kept (action.Reply p answer) w = refl
  act_kept action.Restore w = refl
  act_kept (action.Write place array) w = refl
  act_kept (action.Queue error) w = refl

  pub acts_kept : (actions : List Action) (w : World C) → kept_kernel (act_all e actions w).kernel ≡ kept_kernel w.kernel
  acts_kept [] w = refl
  acts_kept (a ∷ rest) w = acts_kept rest (act e a w) ∙ act_kept a w

same_agrees : (t : Told) (k j : Kernel) → KernelAgrees t k → kept_kernel j ≡ kept_kernel k → j.processes ≡ k.processes → KernelAgrees t j
same_agrees t k j h m p = agrees_after t t k j h refl m (subst (λ (s : Processes). Agrees t s) (sym p) h.processes)

-- ---- moves

-- After a move: with its lines what is told agrees; in some respect the same is told; and nobody has worked later than in this tick. The starts that it makes are
-- told, each after a line that gives its condition, if it is so of the line before the move.
pub record MakesAfter {A C : Type 0} (Before : Option StartCondition → Type 0) (began : List Start) (of : Told → A) (tick : ℕ) (t : Told) (m : Moved C) : Type 0 where
  pub agrees : KernelAgrees (reads_all t m.lines) m.world.kernel
  pub same : of (reads_all t m.lines) ≡ of t
  pub before : (n : ℕ) → tick < n → IsBefore n t.worked → IsBefore n (reads_all t m.lines).worked
  pub starts : (reads_all t m.lines).starts ≡ began ++ t.starts
  pub said : (last : Option StartCondition) → Before last → AllSaid last t m.lines

-- after any line
abbrev pub MakesTo : {A C : Type 0} → List Start → (of : Told → A) → ℕ → Told → Moved C → Type 0
MakesTo began of tick t m = MakesAfter (λ last. Unit {0}) began of tick t m

-- a move that makes no start
abbrev pub MovesTo : {A C : Type 0} → (of : Told → A) → ℕ → Told → Moved C → Type 0
MovesTo of tick t m = MakesTo [] of tick t m

module _ {C : Type 0} (e : Engine C) (at : At) where
  abbrev now : ℕ
  now = at.now.0

  acted : (s : Step Kernel) (w : World C) (v : Told) → KernelAgrees v s.part → KernelAgrees v (moved at e s w).world.kernel
  acted s w v h = same_agrees v s.part (moved at e s w).world.kernel h (acts_kept e s.actions (record w { kernel = s.part })) (acts_same e s.actions (record w { kernel = s.part }))

  before_moved : (s : Step Kernel) (w : World C) (t : Told) (n : ℕ) → now < n → IsBefore n t.worked → IsBefore n (reads_all t (moved at e s w).lines).worked
  before_moved s w t n lt h = subst (λ (v : Told). IsBefore n v.worked) (sym (all_told t w.kernel.fixed.name at s.lines)) (reads_before now n lt t s.lines h)

  pub moved_goes : {A : Type 0} (Before : Option StartCondition → Type 0) (of : Told → A) (s : Step Kernel) (w : World C) (t : Told) → GoesAfter Before of now t s → MakesAfter Before (starts_of now s) of now t (moved at e s w)
  moved_goes Before of s w t g =
      let is = all_told t w.kernel.fixed.name at s.lines in
      record {
        agrees = subst (λ (v : Told). KernelAgrees v (moved at e s w).world.kernel) (sym is) (acted s w (reads now t s.lines) g.agrees);
        same = ap of is ∙ g.same;
        before = before_moved s w t;
        starts = ap (λ (v : Told). v.starts) is ∙ g.starts;
        said = λ last b. all_said w.kernel.fixed.name at last t s.lines (g.said last b);
      }

  -- a step that makes no start
  quiet_goes : {A : Type 0} (of : Told → A) (s : Step Kernel) (w : World C) (t : Told) → KernelAgrees (reads now t s.lines) s.part → of (reads now t s.lines) ≡ of t → (reads now t s.lines).starts ≡ t.starts → MovesTo of now t (moved at e s w)
  quiet_goes of s w t agrees same e =
      let k = moved_goes (λ last. Unit {0}) of s w t (goes_without of now t s agrees same e) in
      record { agrees = k.agrees; same = k.same; before = k.before; starts = k.starts ∙ ap (λ (ss : List Start). ss ++ t.starts) (no_starts now s (no_start now t s.lines e)); said = k.said }

  followed_goes : {A : Type 0} (of : Told → A) (first second : List Start) (t : Told) (m : Moved C) (rest : World C → Moved C) → MakesTo first of now t m → MakesTo second of now (reads_all t m.lines) (rest m.world)
      → MakesTo (second ++ first) of now t (followed_by m rest)
  followed_goes of first second t m rest h k =
      let is = all_both t m.lines (rest m.world).lines in
      record {
        agrees = subst (λ (v : Told). KernelAgrees v (rest m.world).world.kernel) (sym is) k.agrees;
        same = ap of is ∙ k.same ∙ h.same;
        before = λ n lt b. subst (λ (v : Told). IsBefore n v.worked) (sym is) (k.before n lt (h.before n lt b));
        starts = ap (λ (v : Told). v.starts) is ∙ k.starts ∙ ap (λ (ss : List Start). second ++ ss) h.starts ∙ sym (append_assoc second first t.starts);
        said = λ last b. all_said_both last t m.lines (rest m.world).lines (h.said last b) (k.said (all_last last m.lines) tt);
      }

  -- a Clear while nobody is told to run
  pub cleared_goes : (w : World C) (t : Told) (m : Mode) (c : StartCondition) → AreDistinct w.kernel.processes.rows → is_normal m ≡ false → t.running ≡ None → t.orderly ≡ true → t.next ≡ c
      → MakesAfter (λ last. last ≡ Some t.next) (starts_of now (clears w.kernel m c)) has_worked_last now t (moved at e (clears w.kernel m c) w)
  cleared_goes w t m c named other none order n =
      let g = clears_go now t w.kernel m c named other order n in
      moved_goes (λ last. last ≡ Some t.next) has_worked_last (clears w.kernel m c) w t (record { agrees = g.agrees; same = cleared_worked now t (clears w.kernel m c) g none; starts = g.starts; said = g.said })

  -- ---- a tick

  due_goes : (w : World C) (t : Told) (s : Step Processes) (o : Option Mode) → KernelAgrees t w.kernel → ByClear now t s o
      → MakesTo (starts_of now (then_clears (moved at e (of_processes w.kernel s) w).world.kernel o)) has_worked_last now t (followed_by (moved at e (of_processes w.kernel s) w) (clearing_phase e at o))
  due_goes w t s None h g =
      let m = moved at e (of_processes w.kernel s) w in
      let k = quiet_goes has_worked_last (of_processes w.kernel s) w t (agrees_after t (reads now t s.lines) w.kernel (of_processes w.kernel s).part h g.mode refl g.agrees) (ap (λ (x : Option Subject × Option (ℕ × Subject)). x.1) g.same) (ap (λ (x : Kept). x.starts) g.mode) in
      followed_goes has_worked_last [] [] t m (clearing_phase e at None) k (quiet_goes has_worked_last (nothing m.world.kernel) m.world (reads_all t m.lines) k.agrees refl refl)
  due_goes w t s (Some mode) h g =
      let m = moved at e (of_processes w.kernel s) w in
      let v = reads_all t m.lines in
      let is = all_told t w.kernel.fixed.name at s.lines in
      let same : m.world.kernel.processes ≡ s.part = acts_same e s.actions (record w { kernel = record w.kernel { processes = s.part } }) in
      let named : AreDistinct m.world.kernel.processes.rows = subst (λ (p : Processes). AreDistinct p.rows) (sym same) g.named in
      let none : v.running ≡ None = ap (λ (u : Told). u.running) is ∙ g.none in
      let order : v.orderly ≡ true = ap (λ (u : Told). u.orderly) is ∙ g.orderly ∙ h.orderly in
      let next : v.next ≡ condition.HmPartitionRestart = ap (λ (u : Told). u.next) is ∙ g.next in
      let k = cleared_goes m.world v mode condition.HmPartitionRestart named g.other none order next in
      let both = all_both t m.lines (clearing_phase e at (Some mode) m.world).lines in
      let began = starts_of now (clears m.world.kernel mode condition.HmPartitionRestart) in
      record {
        agrees = subst (λ (u : Told). KernelAgrees u (clearing_phase e at (Some mode) m.world).world.kernel) (sym both) k.agrees;
        same = ap has_worked_last both ∙ k.same ∙ ap has_worked_last is ∙ g.worked;
        before = λ n lt b. subst (λ (u : Told). IsBefore n u.worked) (sym both) (k.before n lt (before_moved (of_processes w.kernel s) w t n lt b));
        starts = ap (λ (u : Told). u.starts) both ∙ k.starts ∙ ap (λ (ss : List Start). began ++ ss) (ap (λ (u : Told). u.starts) is ∙ g.starts);
        said = λ last b. all_said_both last t m.lines (clearing_phase e at (Some mode) m.world).lines
            (all_said w.kernel.fixed.name at last t s.lines (none_said now last t s.lines (no_start now t s.lines g.starts)))
            (k.said (all_last last m.lines) (told_last w.kernel.fixed.name at last s.lines ∙ g.last last ∙ ap Some (sym next)));
      }

  not_in_it : (o : Option (ℕ × Subject)) → IsBefore now o → worked_in now o ≡ None
  not_in_it None h = refl
  not_in_it (Some w) h = ap (λ (b : Bool). if b then Some w.1 else None) (ne_eqb w.0 now (λ e. omega (arith, e, h)))

  prepares_goes : (w : World C) (t : Told) → KernelAgrees t w.kernel → IsBefore now t.worked → RecordsAgree (due_phase e at w).world.kernel.processes
      → MakesTo (starts_of now (then_clears (treating_phase e at w).world.kernel (treats_due at w.kernel).clears)) has_worked_last now t (prepares e at w)
  prepares_goes w t h b agree =
      let d = treats_due at w.kernel in
      let k = due_goes w t d.step d.clears h (treats_due_goes now at t w.kernel h.processes) in
      let m = due_phase e at w in
      let v = reads_all t m.lines in
      let c = choice_goes now v m.world.kernel k.agrees (ap (worked_in now) k.same ∙ not_in_it t.worked b) agree in
      followed_goes has_worked_last (starts_of now (then_clears (treating_phase e at w).world.kernel d.clears)) [] t m (choice_phase e at) k
      (quiet_goes has_worked_last (chooses_with_handler m.world.kernel) m.world v
      (agrees_after v _ m.world.kernel (chooses_with_handler m.world.kernel).part k.agrees c.mode refl c.agrees) c.same (ap (λ (x : Kept). x.starts) c.mode))

  spends_goes : (w : World C) (t : Told) (o : Option Runner) → w.kernel.processes.running ≡ o → KernelAgrees t w.kernel → AreWaiting w.kernel.processes.rows w.kernel.processes.queues → MakesTo (starts_asked e at o w) (worker_by_lines now) now t (spends_chosen e at o w)
  spends_goes w t None is h waits = record { agrees = h; same = refl; before = λ n lt b. b; starts = refl; said = λ last b. tt }
  spends_goes w t (Some p) is h waits =
      let r = ticked e (control_at w.controls (place_of p)) w.words in
      let v : World C = record w { controls = slice_set w.controls (place_of p) r.control; words = r.words } in
      let k = moved_goes (λ last. Unit {0}) (worker_by_lines now) (treats_asked at w.kernel p r.asks (given r.asks r.words)) v t (asked_works now t w.kernel h p is waits at r.asks (given r.asks r.words)) in
      record { agrees = k.agrees; same = k.same; before = k.before; starts = k.starts; said = k.said }

  -- In a tick: what is told agrees after it. Nobody has worked later, and who spends the tick by the lines is the chosen runner.
  pub record TickTells (w : World C) (t : Told) : Type 0 where
    pub agrees : KernelAgrees (reads_all t (tick e at w).lines) (tick e at w).world.kernel
    pub before : (n : ℕ) → now < n → IsBefore n t.worked → IsBefore n (reads_all t (tick e at w).lines).worked
    pub worker : worker_by_lines now (reads_all t (tick e at w).lines) ≡ runs_in (prepares e at w).world.kernel
    pub starts : (reads_all t (tick e at w).lines).starts ≡ starts_ticking e at w ++ t.starts
    pub said : (last : Option StartCondition) → AllSaid last t (tick e at w).lines

  alone : (o : Option Subject) → running_or o None ≡ o
  alone None = refl
  alone (Some who) = refl

  -- ---- who waits

  moved_holds : (s : Step Kernel) (w : World C) → Hold ⊥ s.part.processes → Hold ⊥ (moved at e s w).world.kernel.processes
  moved_holds s w h = subst (λ (p : Processes). Hold ⊥ p) (sym (acts_same e s.actions (record w { kernel = s.part }))) h

  kernel_holds : (k : Kernel) → Hold ⊥ k.processes → KernelHolds ⊥ k
  kernel_holds k h = record { holds = h; objects = λ few. absurd few; ports = λ few. absurd few }

  due_holds : (w : World C) → Hold ⊥ w.kernel.processes → Hold ⊥ (due_phase e at w).world.kernel.processes
  due_holds w h =
      let d = treats_due at w.kernel in
      let m = treating_phase e at w in
      let a : Hold ⊥ m.world.kernel.processes = moved_holds (of_processes w.kernel d.step) w (due_from_holds at (action_of w.kernel.fixed.health error.DeadlineMissed) _ 0 _ w.kernel.processes h) in
      let c = then_clears_hold m.world.kernel d.clears (kernel_holds m.world.kernel a) in
      moved_holds (then_clears m.world.kernel d.clears) m.world c.holds

  prepared_holds : (w : World C) → Hold ⊥ w.kernel.processes → RecordsAgree (due_phase e at w).world.kernel.processes → Hold ⊥ (prepares e at w).world.kernel.processes
  prepared_holds w h agree =
      let m = due_phase e at w in
      let k = m.world.kernel in
      moved_holds (chooses_with_handler k) m.world (chooses_holds k.mode (chosen_among k) (handler_agrees k.mode (with_errors k) agree) (handler_holds k.mode (with_errors k) (due_holds w h)))

  pub tick_tells : (d : ListKey → Discipline) (names : List (List ℕ)) (n : Numbers) (w : World C) (t : Told) → IsOrdered d names n w.kernel → Hold ⊥ w.kernel.processes → KernelAgrees t w.kernel → IsBefore now t.worked → TickTells w t
  tick_tells d names n w t ordered h agrees b =
      let ticked = tick_goes d names n e at w ordered in
      let g = ticked.1 in
      let m = prepares e at w in
      let p = prepares_goes w t agrees b g.due.ordered.records in
      let held = prepared_holds w h g.due.ordered.records in
      let u = reads_all t m.lines in
      let s = spends_goes m.world u m.world.kernel.processes.running refl p.agrees held.waiting in
      let is = all_both t m.lines (spending_phase e at m.world).lines in
      record {
        agrees = subst (λ (v : Told). KernelAgrees v (tick e at w).world.kernel) (sym is) s.agrees;
        before = λ i lt f. subst (λ (v : Told). IsBefore i v.worked) (sym is) (s.before i lt (p.before i lt f));
        worker =
            ap (worker_by_lines now) is
            ∙ s.same
            ∙ ap (λ (o : Option (ℕ × Subject)). running_or u.running (worked_in now o)) p.same
            ∙ ap (λ (o : Option Subject). running_or u.running o) (not_in_it t.worked b)
            ∙ alone u.running
            ∙ p.agrees.processes.running;
        starts =
            ap (λ (v : Told). v.starts) is
            ∙ s.starts
            ∙ ap (λ (ss : List Start). starts_asked e at m.world.kernel.processes.running m.world ++ ss) p.starts
            ∙ sym (append_assoc (starts_asked e at m.world.kernel.processes.running m.world) (starts_of now (then_clears (treating_phase e at w).world.kernel (treats_due at w.kernel).clears)) t.starts);
        said = λ last. all_said_both last t m.lines (spending_phase e at m.world).lines (p.said last tt) (s.said (all_last last m.lines) tt);
      }

  -- ---- moves of messages, and a fault of the hardware

  pub breaks_goes : (w : World C) (t : Told) → KernelAgrees t w.kernel → MakesTo (starts_of now (breaks w.kernel)) has_worked_last now t (moved at e (breaks w.kernel) w)
  breaks_goes w t h = moved_goes (λ last. Unit {0}) has_worked_last (breaks w.kernel) w t (by_action (action_of w.kernel.fixed.health error.HardwareFault))
    where
      gone : Told
      gone = record (cleared t) { next = condition.HmPartitionRestart }

      clears_after : (m : Mode) → is_normal m ≡ false → KernelFollows has_worked_last now gone (clears w.kernel m condition.HmPartitionRestart)
      clears_after m other =
          let g = clears_go now gone w.kernel m condition.HmPartitionRestart h.processes.named other h.orderly refl in
          record { agrees = g.agrees; same = cleared_worked now gone (clears w.kernel m condition.HmPartitionRestart) g refl; starts = g.starts; said = g.said }

      by_action : (a : PartitionAction) → KernelGoes has_worked_last now t (after (tells_error w.kernel error.HardwareFault None (level.Partition a)) (then_clears w.kernel (mode_of_action a)))
      by_action response.Ignore = record { agrees = same_next t w.kernel h; same = refl; starts = refl; said = λ last b. (tt, tt) }
      by_action response.Idle = let g = clears_after mode.Idle refl in record { agrees = g.agrees; same = g.same; starts = g.starts; said = λ last b. (tt, g.said (Some condition.HmPartitionRestart) refl) }
      by_action response.WarmStart = let g = clears_after mode.WarmStart refl in record { agrees = g.agrees; same = g.same; starts = g.starts; said = λ last b. (tt, g.said (Some condition.HmPartitionRestart) refl) }
      by_action response.ColdStart = let g = clears_after mode.ColdStart refl in record { agrees = g.agrees; same = g.same; starts = g.starts; said = λ last b. (tt, g.said (Some condition.HmPartitionRestart) refl) }

  brought : (w : World C) (t : Told) (s : Step (Sharing Ports)) → KernelAgrees t w.kernel → Brings now t s → MovesTo has_worked_last now t (moved at e (of_ports w.kernel s) w)
  brought w t s h g =
      quiet_goes has_worked_last (of_ports w.kernel s) w t (agrees_after t _ w.kernel _ h g.mode refl g.agrees) (ap (λ (x : Option Subject × Option (ℕ × Subject)). x.1) g.same) (ap (λ (x : Kept). x.starts) g.mode)

  pub arrives_tells : (place : ℕ) (m : ArrayVec ℤ) (w : World C) (t : Told) → KernelAgrees t w.kernel → Hold ⊥ w.kernel.processes → MovesTo has_worked_last now t (moved at e (of_ports w.kernel (ports.arrives at (with_ports w.kernel) place m)) w)
  arrives_tells place m w t h held = brought w t (ports.arrives at (with_ports w.kernel) place m) h (arrives_goes now t (with_ports w.kernel) h.processes held.waiting at place m)

  pub admits_tells : (place : ℕ) (w : World C) (t : Told) → KernelAgrees t w.kernel → Hold ⊥ w.kernel.processes → MovesTo has_worked_last now t (moved at e (of_ports w.kernel (ports.admits (with_ports w.kernel) place)) w)
  admits_tells place w t h held = brought w t (ports.admits (with_ports w.kernel) place) h (admits_goes now t (with_ports w.kernel) place h.processes held.waiting)

  pub leaves_tells : (place : ℕ) (w : World C) (t : Told) → KernelAgrees t w.kernel → MovesTo has_worked_last now t (moved at e (of_ports_alone w.kernel (ports.leaves w.kernel.ports place)) w)
  leaves_tells place w t h = by_port (port_at w.kernel.ports place)
    where
      by_first : (x : Port) (ms : List (ArrayVec ℤ)) → MovesTo has_worked_last now t (moved at e (of_ports_alone w.kernel (ports.leaves_first w.kernel.ports place x ms)) w)
      by_first x [] = quiet_goes has_worked_last (of_ports_alone w.kernel (ports.leaves_first w.kernel.ports place x [])) w t h refl refl
      by_first x (m ∷ rest) = quiet_goes has_worked_last (of_ports_alone w.kernel (ports.leaves_first w.kernel.ports place x (m ∷ rest))) w t (record { mode = h.mode; condition = h.condition; next = h.next; orderly = h.orderly; processes = h.processes }) refl refl

      by_port : (o : Option Port) → MovesTo has_worked_last now t (moved at e (of_ports_alone w.kernel (ports.leaves_of w.kernel.ports place o)) w)
      by_port None = quiet_goes has_worked_last (of_ports_alone w.kernel (ports.leaves_of w.kernel.ports place None)) w t h refl refl
      by_port (Some x) = by_first x x.messages

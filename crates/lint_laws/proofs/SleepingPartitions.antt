-- A process that no call creates has no state in any run.
use Rattle.std.proofs.Common.{◌≡◌, ◌≢◌, ℕ, zero, suc, ℤ, true, false, List, [], ◌∷◌, map, Option, Some, None, refl, sym, ap, ◌∙◌, subst}
use Rattle.std.specs.Prelude.{get_or, replicate, reverse, slice_get, slice_set, take}
use Rattle.std.specs.List.{AllByRecursion}
use Rattle.std.proofs.lemmas.Bool.{false≢true}
use Rattle.std.proofs.lemmas.Option.{none-some, same_Some}
use Rattle.arrayvec.specs.ArrayVec.{ArrayVec}
use Rattle.apex_types.specs.Runners.{Action, place_of}
use Rattle.apex_types.specs.Runners as action
use Rattle.apex_types.specs.ServiceCalls.{call_of}
use Rattle.apex_types.specs.ServiceShape.{argument_words}
use Rattle.apex_types.specs.declared.codes.Discipline.{Discipline}
use Rattle.apex_types.specs.declared.codes.Mode.TheVariants as mode
use Rattle.apex_types.specs.declared.device.DeviceLine.{DeviceLine}
use Rattle.apex_types.specs.declared.event.EventKind.{EventKind}
use Rattle.apex_types.specs.declared.event.EventKind.TheVariants as event
use Rattle.apex_types.specs.declared.event.Subject.TheVariants.{Process}
use Rattle.apex_types.specs.declared.identity.At.{At}
use Rattle.apex_types.specs.declared.identity.ListKey.{ListKey}
use Rattle.apex_types.specs.declared.identity.Runner.{Runner}
use Rattle.apex_types.specs.declared.identity.Runner.TheVariants as runner
use Rattle.apex_types.specs.declared.limits.TheConstants.{MOST_OBJECTS}
use Rattle.apex_types.specs.declared.process.ProcessStatus.{ProcessStatus}
use Rattle.apex_types.specs.declared.service.Service.{Service}
use Rattle.apex_types.specs.declared.service.Service.TheVariants as service
use Rattle.engine_meaning.specs.Engine.{Engine, or_init}
use Rattle.kernel_laws.specs.History.{Move, Starts, BreaksDown, Arrives, Leaves, Admits, GoesOut, Advances, makes}
use Rattle.kernel_laws.specs.Numbers.{Numbers}
use Rattle.kernel_laws.specs.OrderLaw.{IsOrdered}
use Rattle.kernel_laws.proofs.OfTick.{tick_goes}
use Rattle.kernel_laws.proofs.RecordChoice.{runs_ready}
use Rattle.kernel_laws.proofs.RecordTick.{acts_same}
use Rattle.kernel_laws.specs.Agreement.{RecordsAgree}
use Rattle.kernel_meaning.specs.Fresh.{fresh_queues, handler_row, init_row, no_control_for}
use Rattle.kernel_meaning.specs.Kernel.{Kernel, of_processes, of_ports, of_ports_alone, with_ports}
use Rattle.kernel_meaning.specs.HealthServices.{breaks, then_clears}
use Rattle.kernel_meaning.specs.Objects.{Port, port_at}
use Rattle.kernel_meaning.specs.Partition.{World, Member, Moved, act, act_all, control_at, replied, no_control, moved, followed_by, told, ticked, given, spends_chosen, treats_due, treats_asked, chooses_with_handler, treating_phase, clearing_phase, due_phase, choice_phase, prepares, spending_phase, tick, place_of_port}
use Rattle.kernel_meaning.specs.PartitionServices.{clears}
use Rattle.kernel_meaning.specs.PortServices as arrival
use Rattle.kernel_meaning.specs.Processes.{Processes}
use Rattle.kernel_meaning.specs.Step.{Step}
use Rattle.module_meaning.specs.Accepted.{IsJudged}
use Rattle.module_meaning.specs.SourceMeaning.{source_row, source_trace}
use Rattle.module_meaning.specs.Table.{Partition, Table, at_number}
use Rattle.pal_meaning.specs.Program as program
use Rattle.pal_meaning.specs.SourceControl.{SourceControl, source_body, source_start, body_of_process}
use Rattle.lint_laws.specs.Creation.{SaysState, NeverHasState, NeverCreates, HandlerFits, IsNot, IsProcess, creates_process}
use Rattle.lint_laws.specs.Numbers.{BlockFits}
use Rattle.lint_laws.proofs.Controls.{AsksAllowed, IsSafeEngine, AsksOnly, engine_is_safe, starts_safely}
use Rattle.lint_laws.proofs.Histories.{no_line_both, no_line_in_run}
use Rattle.kernel_laws.proofs.Places.{mapped}
use Rattle.lint_laws.proofs.Sleeping.{AreAbsent, IsOther, IsNew, LinesAreOther, LineIsOther, RowsSleep, Sleeps, WaitsNowhere}
use Rattle.lint_laws.proofs.SleepingKernel.{CreatesOther, KernelKeeps, clears_keep, then_clears_keep, breaks_keep, asked_keeps, treats_due_keeps, caller_is_other, choice_keeps}
use Rattle.lint_laws.proofs.SleepingObjects.{arrives_keeps, admits_keep}

module _ (q : ℕ) where
  plain_call : (s : Service) (words : List ℤ) → creates_process s ≡ false → CreatesOther q (call_of s words)
  plain_call service.CreateProcess words h = absurd (false≢true (sym h))
  plain_call s words h = tt

  create_call : (s : Service) (v : ℤ) (below : List ℤ) → creates_process s ≡ true → IsNot (suc q) v → CreatesOther q (call_of s (reverse (take (argument_words s) (v ∷ below))))
  create_call service.CreateProcess v below h k = k
  create_call s v below h k = absurd (false≢true h)

  abbrev NeverAsksIt : SourceControl → Type 0
  NeverAsksIt c = AsksOnly creates_process (IsNot (suc q)) (CreatesOther q) plain_call create_call c

  abbrev IsEngine : Engine SourceControl → Type 0
  IsEngine e = IsSafeEngine creates_process (IsNot (suc q)) (CreatesOther q) plain_call create_call e

  -- ---- controls

  abbrev NeverAsksIn : Option SourceControl → Type 0
  NeverAsksIn None = Unit {0}
  NeverAsksIn (Some c) = NeverAsksIt c

  abbrev NoneAsks : List (Option SourceControl) → Type 0
  NoneAsks [] = Unit {0}
  NoneAsks (c ∷ cs) = NeverAsksIn c × NoneAsks cs

  none_at : (cs : List (Option SourceControl)) (place : ℕ) → NoneAsks cs → NeverAsksIn (control_at cs place)
  none_at [] place h = tt
  none_at (c ∷ cs) zero h = h.0
  none_at (c ∷ cs) (suc place) h = none_at cs place h.1

  none_set : (cs : List (Option SourceControl)) (place : ℕ) (o : Option SourceControl) → NoneAsks cs → NeverAsksIn o → NoneAsks (slice_set cs place o)
  none_set [] place o h k = tt
  none_set (c ∷ cs) zero o h k = (k, h.1)
  none_set (c ∷ cs) (suc place) o h k = (h.0, none_set cs place o h.1 k)

  none_left : (cs : List (Option SourceControl)) → NoneAsks (map no_control cs)
  none_left [] = tt
  none_left (c ∷ cs) = (tt, none_left cs)

  none_fresh : (rows : List ProcessStatus) → NoneAsks (map no_control_for rows)
  none_fresh [] = tt
  none_fresh (r ∷ rs) = (tt, none_fresh rs)

  module _ (process : List ℕ) where
    -- ---- lines

    told_other : (name own : List ℕ) (at : At) (kinds : List EventKind) → LinesAreOther q process kinds → NeverHasState name process (told own at kinds)
    told_other name own at [] h = tt
    told_other name own at (k ∷ ks) h = ((λ says. let s = says.1 in subst (λ (x : EventKind). LineIsOther q process x) s.1 h.0 refl), told_other name own at ks h.1)

    -- ---- a partition between two steps

    record IsQuiet (w : World SourceControl) : Type 0 where
      controls : NoneAsks w.controls
      asleep : Sleeps q process w.kernel.processes

    record MovesQuietly (m : Moved SourceControl) : Type 0 where
      quiet : IsQuiet m.world
      lines : (name : List ℕ) → NeverHasState name process m.lines

    module _ (e : Engine SourceControl) (safe : IsEngine e) (start : (p : Runner) → NeverAsksIt (e.start p)) where
      replied_safe : (o : Option SourceControl) (answer : List ℤ) → NeverAsksIn o → NeverAsksIn (replied e o answer)
      replied_safe None answer h = tt
      replied_safe (Some c) answer h = safe.reply c answer h

      act_controls : (a : Action) (w : World SourceControl) → NoneAsks w.controls → NoneAsks (act e a w).controls
      act_controls (action.Begin p) w h = none_set w.controls (place_of p) (Some (e.start p)) h (start p)
      act_controls (action.Stop p) w h = none_set w.controls (place_of p) None h tt
      act_controls action.StopAll w h = none_left w.controls
      act_controls (action.Reply p answer) w h = none_set w.controls (place_of p) _ h (replied_safe (control_at w.controls (place_of p)) answer.items (none_at w.controls (place_of p) h))
      act_controls action.Restore w h = h
      act_controls (action.Write place array) w h = h
      act_controls (action.Queue error) w h = h

      acts_controls : (actions : List Action) (w : World SourceControl) → NoneAsks w.controls → NoneAsks (act_all e actions w).controls
      acts_controls [] w h = h
      acts_controls (a ∷ rest) w h = acts_controls rest (act e a w) (act_controls a w h)

      moved_quietly : (at : At) (s : Step Kernel) (w : World SourceControl) → KernelKeeps q process s → NoneAsks w.controls → MovesQuietly (moved at e s w)
      moved_quietly at s w h c = record {
        quiet = record {
          controls = acts_controls s.actions (record w { kernel = s.part }) c;
          asleep = subst (λ (ps : Processes). Sleeps q process ps) (sym (acts_same e s.actions (record w { kernel = s.part }))) h.part;
        };
        lines = λ name. told_other name w.kernel.fixed.name at s.lines h.lines;
      }

      followed_quietly : (m : Moved SourceControl) (rest : World SourceControl → Moved SourceControl) → MovesQuietly m → (IsQuiet m.world → MovesQuietly (rest m.world)) → MovesQuietly (followed_by m rest)
      followed_quietly m rest h k = let n = k h.quiet in record { quiet = n.quiet; lines = λ name. no_line_both (SaysState name process) m.lines (rest m.world).lines (h.lines name) (n.lines name) }

      -- ---- a tick

      due_quietly : (at : At) (w : World SourceControl) → IsQuiet w → MovesQuietly (due_phase e at w)
      due_quietly at w h =
          let clears = (treats_due at w.kernel).clears in
          followed_quietly (treating_phase e at w) (clearing_phase e at clears) (moved_quietly at (of_processes w.kernel (treats_due at w.kernel).step) w (treats_due_keeps q process at w.kernel h.asleep) h.controls)
          (λ k. let v = (treating_phase e at w).world in moved_quietly at (then_clears v.kernel clears) v (then_clears_keep q process v.kernel clears k.asleep) k.controls)

      prepares_quietly : (at : At) (w : World SourceControl) → IsQuiet w → RecordsAgree (due_phase e at w).world.kernel.processes → MovesQuietly (prepares e at w)
      prepares_quietly at w h agree =
          followed_quietly (due_phase e at w) (choice_phase e at) (due_quietly at w h)
          (λ k. let v = (due_phase e at w).world in moved_quietly at (chooses_with_handler v.kernel) v (choice_keeps q process v.kernel k.asleep agree) k.controls)

      control_ticks : (o : Option SourceControl) (words : List ℤ) → NeverAsksIn o → NeverAsksIn (ticked e o words).control × AsksAllowed (CreatesOther q) (ticked e o words).asks
      control_ticks None words h = (tt, tt)
      control_ticks (Some c) words h = let t = safe.tick c words h in (t.control, t.asks)

      spends_quietly : (at : At) (w : World SourceControl) (o : Option Runner) → ((p : Runner) → o ≡ Some p → IsOther q process p) → IsQuiet w → MovesQuietly (spends_chosen e at o w)
      spends_quietly at w None other h = record { quiet = h; lines = λ name. tt }
      spends_quietly at w (Some p) other h =
          let r = ticked e (control_at w.controls (place_of p)) w.words in
          let v : World SourceControl = record w { controls = slice_set w.controls (place_of p) r.control; words = r.words } in
          let t = control_ticks (control_at w.controls (place_of p)) w.words (none_at w.controls (place_of p) h.controls) in
          let m = moved_quietly at (treats_asked at w.kernel p r.asks (given r.asks r.words)) v (asked_keeps q process at w.kernel h.asleep p (other p refl) r.asks (given r.asks r.words) t.1) (none_set w.controls (place_of p) r.control h.controls t.0) in
          record { quiet = m.quiet; lines = m.lines }

      tick_quietly : (d : ListKey → Discipline) (called : List (List ℕ)) (n : Numbers) (at : At) (w : World SourceControl) → IsOrdered d called n w.kernel → IsQuiet w → MovesQuietly (tick e at w)
      tick_quietly d called n at w ordered h =
          let ticked = tick_goes d called n e at w ordered in
          let g = ticked.1 in
          followed_quietly (prepares e at w) (spending_phase e at) (prepares_quietly at w h g.due.ordered.records)
          (λ k. let s = (prepares e at w).world.kernel.processes in
          spends_quietly at (prepares e at w).world s.running (λ p is. caller_is_other q process s k.asleep p (runs_ready s g.prepared.records p is)) k)

    -- ---- each move

    record IsKept (x : Member SourceControl) : Type 0 where
      engine : IsEngine x.engine
      start : (p : Runner) → NeverAsksIt (x.engine.start p)
      world : IsQuiet x.world

    leaves_keep : (k : Kernel) (place : ℕ) (o : Option Port) → Sleeps q process k.processes → KernelKeeps q process (of_ports_alone k (arrival.leaves_of k.ports place o))
    leaves_keep k place None h = record { part = h; lines = tt }
    leaves_keep k place (Some x) h = by_first x.messages
      where
        by_first : (ms : List (ArrayVec ℤ)) → KernelKeeps q process (of_ports_alone k (arrival.leaves_first k.ports place x ms))
        by_first [] = record { part = h; lines = tt }
        by_first (m ∷ rest) = record { part = h; lines = (tt, tt) }

    move_quietly : (d : ListKey → Discipline) (called : List (List ℕ)) (n : Numbers) (move : Move) (x : Member SourceControl) → IsOrdered d called n x.world.kernel → IsKept x → MovesQuietly (makes move x)
    move_quietly d called n (Starts at c) x ordered h = moved_quietly x.engine h.engine h.start at (clears x.world.kernel mode.ColdStart c) x.world (clears_keep q process x.world.kernel mode.ColdStart c h.world.asleep) h.world.controls
    move_quietly d called n (BreaksDown at) x ordered h = moved_quietly x.engine h.engine h.start at (breaks x.world.kernel) x.world (breaks_keep q process x.world.kernel h.world.asleep) h.world.controls
    move_quietly d called n (Arrives at port m) x ordered h =
        let k = arrives_keeps q process (with_ports x.world.kernel) h.world.asleep at (place_of_port port) m in
        moved_quietly x.engine h.engine h.start at (of_ports x.world.kernel (arrival.arrives at (with_ports x.world.kernel) (place_of_port port) m)) x.world (record { part = k.part; lines = k.lines }) h.world.controls
    move_quietly d called n (Leaves at port) x ordered h =
        moved_quietly x.engine h.engine h.start at (of_ports_alone x.world.kernel (arrival.leaves x.world.kernel.ports (place_of_port port))) x.world
        (leaves_keep x.world.kernel (place_of_port port) (port_at x.world.kernel.ports (place_of_port port)) h.world.asleep) h.world.controls
    move_quietly d called n (Admits at port) x ordered h =
        let k = admits_keep q process (with_ports x.world.kernel) (place_of_port port) h.world.asleep in
        moved_quietly x.engine h.engine h.start at (of_ports x.world.kernel (arrival.admits (with_ports x.world.kernel) (place_of_port port))) x.world (record { part = k.part; lines = k.lines }) h.world.controls
    move_quietly d called n (GoesOut at channel m) x ordered h = record { quiet = h.world; lines = λ name. told_other name x.world.kernel.fixed.name at (event.Out channel m ∷ []) (tt, tt) }
    move_quietly d called n (Advances at) x ordered h = tick_quietly x.engine h.engine h.start d called n at x.world ordered h.world

-- ---- a run

absent_fresh : (q : ℕ) (name : List ℕ) (n : ℕ) → AreAbsent q name (replicate n [])
absent_fresh q name zero = tt
absent_fresh q name (suc n) = (tt, absent_fresh q name n)

module _ (number : ℕ) (p : program.Program) (safe : NeverCreates number p) where
  abbrev BodyFits : program.Body → Type 0
  BodyFits b = BlockFits creates_process (IsNot number) b.block

  handler_fits : (o : Option program.Body) → HandlerFits creates_process (IsNot number) o → BodyFits (or_init p.init o)
  handler_fits None h = safe.init
  handler_fits (Some b) h = h

  process_fits : (ps : List program.Process) (place : ℕ) → AllByRecursion (λ r. BlockFits creates_process (IsNot number) r.body.block) ps → BodyFits (get_or (map body_of_process ps) place p.init)
  process_fits [] place h = safe.init
  process_fits (r ∷ rs) zero h = h.0
  process_fits (r ∷ rs) (suc place) h = process_fits rs place h.1

  body_fits : (r : Runner) → BodyFits (source_body p r)
  body_fits runner.Init = safe.init
  body_fits runner.Handler = handler_fits p.handler safe.handler
  body_fits (runner.Process i) = process_fits p.processes i.0 safe.processes

module _ (q : ℕ) (name : List ℕ) (p : program.Program) (is : IsProcess (suc q) name p) where
  abbrev rows_of : List ProcessStatus
  rows_of = init_row ∷ handler_row ∷ map source_row p.processes

  others_differ : (place : ℕ) (r : ProcessStatus) → place ≢ suc (suc q) → slice_get rows_of place ≡ Some r → r.who ≢ Process name
  others_differ zero r n e = subst (λ (x : ProcessStatus). x.who ≢ Process name) (same_Some init_row r e) (λ k. cc)
  others_differ (suc zero) r n e = subst (λ (x : ProcessStatus). x.who ≢ Process name) (same_Some handler_row r e) (λ k. cc)
  others_differ (suc (suc i)) r n e =
      let m = mapped source_row p.processes i r e in
      λ k. n (ap suc (is.alone (suc i) m.0 m.1 (let s : Process m.0.name ≡ Process name = ap (λ (x : ProcessStatus). x.who) m.2 ∙ k in cc)))

  first_rows : RowsSleep q name rows_of
  first_rows = record {
    own = λ r e. let m = mapped source_row p.processes q r e in subst IsNew m.2 (record { created = refl; state = refl; waits = refl; due = refl; deadline = refl });
    others = others_differ;
  }

pub never_created_run : (t : Table) (programs : List program.Program) (devices : List DeviceLine) (n i : ℕ) (row : Partition) (p : program.Program) (number : ℕ) (name : List ℕ) → IsJudged t → at_number t.partitions i ≡ Some row → at_number programs i ≡ Some p
    → IsProcess number name p → NeverCreates number p → NeverHasState row.name name (source_trace t programs devices n)
never_created_run t programs devices n zero row p number name judged e f is safe = absurd (none-some row e)
never_created_run t programs devices n (suc place) row p zero name judged e f is safe = absurd (none-some is.process is.here)
never_created_run t programs devices n (suc place) row p (suc q) name judged e f is safe =
    let engine = engine_is_safe creates_process (IsNot (suc q)) (CreatesOther q) (plain_call q) (create_call q) p safe.procedures t.costs in
    let start : (r : Runner) → NeverAsksIt q (source_start (source_body p r)) = λ r. starts_safely creates_process (IsNot (suc q)) (CreatesOther q) (plain_call q) (create_call q) p safe.procedures (source_body p r) (body_fits (suc q) p safe r) in
    let none = absent_fresh q name MOST_OBJECTS in
    let queues : WaitsNowhere q name fresh_queues = record { semaphores = none; events = none; buffers = none; blackboards = none; ports = none } in
    no_line_in_run (SaysState row.name name) (IsKept q name) t programs devices n place row p judged e f
    (record { own = λ l says. says.0; moves = λ d called k move x ordered h. let m = move_quietly q name d called k move x ordered h in (record { engine = h.engine; start = h.start; world = m.quiet }, m.lines row.name) })
    (record { engine = engine; start = start; world = record { controls = none_fresh q (rows_of q name p is); asleep = record { rows = first_rows q name p is; queues = queues } } })

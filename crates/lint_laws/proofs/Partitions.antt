-- A partition whose INIT never asks for NORMAL stays out of it, in each of its moves.
use Rattle.std.proofs.Common.{◌≡◌, ℕ, zero, suc, ℤ, false, List, [], ◌∷◌, map, Option, Some, None, refl, sym, ap, ◌∙◌, subst, inl, inr, ◌⊎◌}
use Rattle.std.specs.Prelude.{slice_set}
use Rattle.std.proofs.lemmas.Bool.{false≢true}
use Rattle.std.proofs.lemmas.Option.{none-some}
use Rattle.apex_types.specs.Runners.{Action, place_of}
use Rattle.apex_types.specs.Runners as action
use Rattle.apex_types.specs.declared.codes.Discipline.{Discipline}
use Rattle.apex_types.specs.declared.codes.Mode.{Mode}
use Rattle.apex_types.specs.declared.codes.Mode.TheVariants as mode
use Rattle.apex_types.specs.declared.device.DeviceLine.{DeviceLine}
use Rattle.apex_types.specs.declared.event.EventKind.{EventKind}
use Rattle.apex_types.specs.declared.event.EventKind.TheVariants as event
use Rattle.apex_types.specs.declared.identity.At.{At}
use Rattle.apex_types.specs.declared.identity.ListKey.{ListKey}
use Rattle.apex_types.specs.declared.identity.Runner.{Runner}
use Rattle.apex_types.specs.declared.identity.Runner.TheVariants as runner
use Rattle.engine_meaning.specs.Engine.{Engine}
use Rattle.kernel_laws.specs.History.{Move, Starts, BreaksDown, Arrives, Leaves, Admits, GoesOut, Advances, makes}
use Rattle.kernel_laws.specs.Numbers.{Numbers}
use Rattle.kernel_laws.specs.OrderLaw.{IsOrdered, chosen_among}
use Rattle.kernel_laws.proofs.OfTick.{tick_goes}
use Rattle.kernel_meaning.specs.Kernel.{Kernel, of_processes, of_ports, of_ports_alone, with_ports}
use Rattle.kernel_meaning.specs.HealthServices.{breaks, then_clears}
use Rattle.kernel_meaning.specs.Partition.{World, Member, Moved, act, act_all, control_at, replied, no_control, moved, followed_by, told, ticked, given, spends_chosen, treats_due, treats_asked, chooses_with_handler, treating_phase, clearing_phase, due_phase, choice_phase, prepares, spending_phase, tick, pick, place_of_port}
use Rattle.kernel_meaning.specs.PartitionServices.{clears}
use Rattle.kernel_meaning.specs.PortServices as arrival
use Rattle.kernel_meaning.specs.Processes.{Processes, is_normal}
use Rattle.kernel_meaning.specs.Step.{Step}
use Rattle.pal_meaning.specs.SourceControl.{SourceControl}
use Rattle.module_meaning.specs.Accepted.{IsJudged}
use Rattle.module_meaning.specs.SourceMeaning.{source_trace}
use Rattle.module_meaning.specs.Table.{Partition, Table, at_number}
use Rattle.pal_meaning.specs.Program.{Program}
use Rattle.lint_laws.specs.NormalMode.{NeverNormal, SaysNormal, NeverSetsNormal, sets_mode, IsNotNormal}
use Rattle.lint_laws.proofs.Controls.{AsksAllowed, engine_is_safe, starts_safely}
use Rattle.lint_laws.proofs.NormalCalls.{CallIsOther, NeverAsksNormal, KeepsOut, plain_call, mode_call}
use Rattle.lint_laws.proofs.Histories.{no_line_both, no_line_in_run}
use Rattle.lint_laws.proofs.Lines.{AreSilent, says_normal}
use Rattle.lint_laws.proofs.KernelSteps.{IsOut, StaysOut, of_out, clears_out, then_clears_out, breaks_out, asked_out, due_lines, due_clears, choice_out, arrives_out, admits_out, leaves_out}

-- ---- lines

told_never : (name own : List ℕ) (at : At) (kinds : List EventKind) → AreSilent kinds → NeverNormal name (told own at kinds)
told_never name own at [] h = tt
told_never name own at (k ∷ ks) h = ((λ says. false≢true (sym h.0 ∙ ap says_normal says.1)), told_never name own at ks h.1)

-- ---- a partition between two steps

-- a runner that has nothing left to do, or never asks for NORMAL
abbrev NeverAsksIn : Option SourceControl → Type 0
NeverAsksIn None = Unit {0}
NeverAsksIn (Some c) = NeverAsksNormal c

-- It is not in NORMAL, and INIT never asks for NORMAL.
pub record IsKeptOut (w : World SourceControl) : Type 0 where
  pub out : IsOut w.kernel
  pub control : NeverAsksIn (control_at w.controls 0)

-- after a move it is so, and no line says otherwise
pub record MovesOut (m : Moved SourceControl) : Type 0 where
  pub kept : IsKeptOut m.world
  pub lines : (name : List ℕ) → NeverNormal name m.lines

set_first : (cs : List (Option SourceControl)) (o : Option SourceControl) → NeverAsksIn o → NeverAsksIn (control_at (slice_set cs 0 o) 0)
set_first [] o h = tt
set_first (c ∷ cs) o h = h

set_later : (cs : List (Option SourceControl)) (i : ℕ) (o : Option SourceControl) → NeverAsksIn (control_at cs 0) → NeverAsksIn (control_at (slice_set cs (suc i) o) 0)
set_later [] i o h = tt
set_later (c ∷ cs) i o h = h

none_first : (cs : List (Option SourceControl)) → NeverAsksIn (control_at (map no_control cs) 0)
none_first [] = tt
none_first (c ∷ cs) = tt

picks_init : (m : Mode) (s : Processes) → is_normal m ≡ false → (pick m s ≡ None) ⊎ (pick m s ≡ Some runner.Init)
picks_init mode.Idle s h = inl refl
picks_init mode.ColdStart s h = inr refl
picks_init mode.WarmStart s h = inr refl
picks_init mode.Normal s h = absurd (false≢true (sym h))

module _ (e : Engine SourceControl) (safe : KeepsOut e) (start : NeverAsksNormal (e.start runner.Init)) where
  replied_safe : (o : Option SourceControl) (answer : List ℤ) → NeverAsksIn o → NeverAsksIn (replied e o answer)
  replied_safe None answer h = tt
  replied_safe (Some c) answer h = safe.reply c answer h

  -- ---- actions

  act_out : (a : Action) (w : World SourceControl) → IsKeptOut w → IsKeptOut (act e a w)
  act_out (action.Begin runner.Init) w h = record { out = h.out; control = set_first w.controls (Some (e.start runner.Init)) start }
  act_out (action.Begin runner.Handler) w h = record { out = h.out; control = set_later w.controls 0 _ h.control }
  act_out (action.Begin (runner.Process p)) w h = record { out = h.out; control = set_later w.controls (suc p.0) _ h.control }
  act_out (action.Stop runner.Init) w h = record { out = h.out; control = set_first w.controls None tt }
  act_out (action.Stop runner.Handler) w h = record { out = h.out; control = set_later w.controls 0 None h.control }
  act_out (action.Stop (runner.Process p)) w h = record { out = h.out; control = set_later w.controls (suc p.0) None h.control }
  act_out action.StopAll w h = record { out = h.out; control = none_first w.controls }
  act_out (action.Reply runner.Init answer) w h = record { out = h.out; control = set_first w.controls _ (replied_safe (control_at w.controls 0) answer.items h.control) }
  act_out (action.Reply runner.Handler answer) w h = record { out = h.out; control = set_later w.controls 0 _ h.control }
  act_out (action.Reply (runner.Process p) answer) w h = record { out = h.out; control = set_later w.controls (suc p.0) _ h.control }
  act_out action.Restore w h = record { out = h.out; control = h.control }
  act_out (action.Write place array) w h = record { out = h.out; control = h.control }
  act_out (action.Queue error) w h = record { out = h.out; control = h.control }

  acts_out : (actions : List Action) (w : World SourceControl) → IsKeptOut w → IsKeptOut (act_all e actions w)
  acts_out [] w h = h
  acts_out (a ∷ rest) w h = acts_out rest (act e a w) (act_out a w h)

  moved_out : (at : At) (s : Step Kernel) (w : World SourceControl) → StaysOut s → NeverAsksIn (control_at w.controls 0) → MovesOut (moved at e s w)
  moved_out at s w h c = record {
    kept = acts_out s.actions (record w { kernel = s.part }) (record { out = h.mode; control = c });
    lines = λ name. told_never name w.kernel.fixed.name at s.lines h.lines;
  }

  followed_out : (m : Moved SourceControl) (rest : World SourceControl → Moved SourceControl) → MovesOut m → (IsKeptOut m.world → MovesOut (rest m.world)) → MovesOut (followed_by m rest)
  followed_out m rest h k = let n = k h.kept in record { kept = n.kept; lines = λ name. no_line_both (SaysNormal name) m.lines (rest m.world).lines (h.lines name) (n.lines name) }

  -- ---- a tick

  due_out : (at : At) (w : World SourceControl) → IsKeptOut w → MovesOut (due_phase e at w)
  due_out at w h =
      let clears = (treats_due at w.kernel).clears in
      followed_out (treating_phase e at w) (clearing_phase e at clears) (moved_out at (of_processes w.kernel (treats_due at w.kernel).step) w (of_out w.kernel _ h.out (due_lines at w.kernel)) h.control)
      (λ k. let v = (treating_phase e at w).world in moved_out at (then_clears v.kernel clears) v (then_clears_out v.kernel clears k.out (due_clears at w.kernel)) k.control)

  prepares_out : (at : At) (w : World SourceControl) → IsKeptOut w → MovesOut (prepares e at w)
  prepares_out at w h =
      followed_out (due_phase e at w) (choice_phase e at) (due_out at w h)
      (λ k. let v = (due_phase e at w).world in moved_out at (chooses_with_handler v.kernel) v (choice_out v.kernel k.out) k.control)

  control_ticks : (o : Option SourceControl) (words : List ℤ) → NeverAsksIn o → NeverAsksIn (ticked e o words).control × AsksAllowed CallIsOther (ticked e o words).asks
  control_ticks None words h = (tt, tt)
  control_ticks (Some c) words h = let t = safe.tick c words h in (t.control, t.asks)

  -- the runner is INIT, if there is one
  spends_out : (at : At) (w : World SourceControl) (o : Option Runner) → (o ≡ None) ⊎ (o ≡ Some runner.Init) → IsKeptOut w → MovesOut (spends_chosen e at o w)
  spends_out at w None is h = record { kept = h; lines = λ name. tt }
  spends_out at w (Some runner.Init) is h =
      let r = ticked e (control_at w.controls 0) w.words in
      let v : World SourceControl = record w { controls = slice_set w.controls 0 r.control; words = r.words } in
      let t = control_ticks (control_at w.controls 0) w.words h.control in
      let m = moved_out at (treats_asked at w.kernel runner.Init r.asks (given r.asks r.words)) v (asked_out at w.kernel runner.Init r.asks (given r.asks r.words) h.out t.1) (set_first w.controls r.control t.0) in
      record { kept = m.kept; lines = m.lines }
  spends_out at w (Some runner.Handler) (inl is) h = absurd (none-some runner.Handler (sym is))
  spends_out at w (Some runner.Handler) (inr is) h = absurd (cc)
  spends_out at w (Some (runner.Process p)) (inl is) h = absurd (none-some (runner.Process p) (sym is))
  spends_out at w (Some (runner.Process p)) (inr is) h = absurd (cc)

  tick_out : (d : ListKey → Discipline) (names : List (List ℕ)) (n : Numbers) (at : At) (w : World SourceControl) → IsOrdered d names n w.kernel → IsKeptOut w → MovesOut (tick e at w)
  tick_out d names n at w ordered h =
      let ticked = tick_goes d names n e at w ordered in
      let g = ticked.1 in
      let k = (due_phase e at w).world.kernel in
      let d = due_out at w h in
      followed_out (prepares e at w) (spending_phase e at) (prepares_out at w h)
      (λ p. spends_out at (prepares e at w).world (prepares e at w).world.kernel.processes.running
      (subst (λ (o : Option Runner). (o ≡ None) ⊎ (o ≡ Some runner.Init)) (sym g.runs) (picks_init k.mode (chosen_among k) d.kept.out)) p)

-- ---- each move

-- a partition of an engine whose INIT never asks for NORMAL, and that is not in NORMAL
pub record IsKept (x : Member SourceControl) : Type 0 where
  pub engine : KeepsOut x.engine
  pub start : NeverAsksNormal (x.engine.start runner.Init)
  pub world : IsKeptOut x.world

pub move_out : (d : ListKey → Discipline) (names : List (List ℕ)) (n : Numbers) (move : Move) (x : Member SourceControl) → IsOrdered d names n x.world.kernel → IsKept x → MovesOut (makes move x)
move_out d names n (Starts at c) x ordered h = moved_out x.engine h.engine h.start at (clears x.world.kernel mode.ColdStart c) x.world (clears_out x.world.kernel mode.ColdStart c refl) h.world.control
move_out d names n (BreaksDown at) x ordered h = moved_out x.engine h.engine h.start at (breaks x.world.kernel) x.world (breaks_out x.world.kernel h.world.out) h.world.control
move_out d names n (Arrives at port m) x ordered h =
    moved_out x.engine h.engine h.start at (of_ports x.world.kernel (arrival.arrives at (with_ports x.world.kernel) (place_of_port port) m)) x.world (arrives_out at x.world.kernel (place_of_port port) m h.world.out) h.world.control
move_out d names n (Leaves at port) x ordered h =
    moved_out x.engine h.engine h.start at (of_ports_alone x.world.kernel (arrival.leaves x.world.kernel.ports (place_of_port port))) x.world (leaves_out x.world.kernel (place_of_port port) h.world.out) h.world.control
move_out d names n (Admits at port) x ordered h =
    moved_out x.engine h.engine h.start at (of_ports x.world.kernel (arrival.admits (with_ports x.world.kernel) (place_of_port port))) x.world (admits_out x.world.kernel (place_of_port port) h.world.out) h.world.control
move_out d names n (GoesOut at channel m) x ordered h = record { kept = h.world; lines = λ name. told_never name x.world.kernel.fixed.name at (event.Out channel m ∷ []) (refl, tt) }
move_out d names n (Advances at) x ordered h = tick_out x.engine h.engine h.start d names n at x.world ordered h.world

-- ---- a run

pub never_normal_run : (t : Table) (programs : List Program) (devices : List DeviceLine) (n p : ℕ) (row : Partition) (program : Program) → IsJudged t → at_number t.partitions p ≡ Some row → at_number programs p ≡ Some program
    → NeverSetsNormal program → NeverNormal row.name (source_trace t programs devices n)
never_normal_run t programs devices n zero row program judged e f safe = absurd (none-some row e)
never_normal_run t programs devices n (suc place) row program judged e f safe =
    let engine = engine_is_safe sets_mode IsNotNormal CallIsOther plain_call mode_call program safe.procedures t.costs in
    let start = starts_safely sets_mode IsNotNormal CallIsOther plain_call mode_call program safe.procedures program.init safe.init in
    no_line_in_run (SaysNormal row.name) IsKept t programs devices n place row program judged e f
    (record { own = λ l says. says.0; moves = λ d called k move x ordered h. let m = move_out d called k move x ordered h in (record { engine = h.engine; start = h.start; world = m.kept }, m.lines row.name) })
    (record { engine = engine; start = start; world = record { out = refl; control = tt } })

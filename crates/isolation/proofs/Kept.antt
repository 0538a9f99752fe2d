-- No step of a partition changes its name, its number or its windows, and all its lines are its own.
use Rattle.isolation.proofs.Prelude.{◌≡◌, ℕ, ℤ, Bool, true, false, List, ◌∷◌, Option, Some, None, ◌∙◌, if◌then◌else◌, ◌&&◌, not, is_some, slice_set, ArrayVec, ErrorKind, Mode, PartitionAction, mode_of_action, ReturnCode, place_of, StartCondition, At, PortId, Runner, Action, ArrayPlace, Call, Engine, Asks, Nothing, Calls, Faults, Ends, acts_on_error, breaks, enters_mode_of_action, ignores, faults, is_fault, raise_application_error, raises, raises_application_error, then_clears, Fixed, Kernel, of_processes, of_ports, of_ports_alone, with_errors, with_ports, row_of, rests_found, is_normal, World, Member, Moved, act, act_all, moved, ticked, given, treats_asked, chooses_with_handler, serves, spends, spends_chosen, treating_phase, clearing_phase, due_phase, choice_phase, prepares, tick, cold_start, breaks_down, advances, arrives, leaves, admits, goes_out, place_of_port, control_at, clears, ends_body, enters_mode, set_partition_mode, mode_of, wants, is_warm, is_cold, Step, after}
use Rattle.std.proofs.Common.{[], refl, subst}
use Rattle.apex_types.specs.declared.codes.ErrorKind.TheVariants as error
use Rattle.apex_types.specs.declared.codes.Mode.TheVariants as mode
use Rattle.apex_types.specs.declared.codes.ReturnCode.TheVariants as code
use Rattle.apex_types.specs.declared.service.Service.TheVariants as service
use Rattle.apex_types.specs.declared.event.EventKind.TheVariants as event
use Rattle.apex_types.specs.declared.identity.Runner.TheVariants as runner
use Rattle.apex_types.specs.Runners as action
use Rattle.apex_types.specs.declared.service.Call.TheVariants as call
use Rattle.kernel_laws.specs.History.{Move, Starts, BreaksDown, Arrives, Leaves, Admits, GoesOut, Advances, makes}
use Rattle.kernel_meaning.specs.HealthServices.{handles}
use Rattle.kernel_meaning.specs.PortServices as arrival
use Rattle.kernel_meaning.specs.Processes.{refuses, answers}
use Rattle.kernel_meaning.specs.Partition.{followed_by, treats_due, spending_phase}
use Rattle.kernel_meaning.specs.Step.{row}
use Rattle.isolation.proofs.Seen.{AreOf, told_own, nothing_own, both_own}

-- ---- a step of the kernel
either_keeps : (f : Fixed) (b : Bool) (s t : Step Kernel) → s.part.fixed ≡ f → t.part.fixed ≡ f → (if b then s else t).part.fixed ≡ f
either_keeps f true s t h k = h
either_keeps f false s t h k = k

row_keeps : (f : Fixed) (refused : ReturnCode → Step Kernel) (checks : List (Bool × ReturnCode)) (effect : Step Kernel)
    → ((c : ReturnCode) → (refused c).part.fixed ≡ f) → effect.part.fixed ≡ f → (row refused checks effect).part.fixed ≡ f
row_keeps f refused [] effect h k = k
row_keeps f refused (check ∷ checks) effect h k = either_keeps f check.0 _ _ (h check.1) (row_keeps f refused checks effect h k)

then_clears_keeps : (k : Kernel) (o : Option Mode) → (then_clears k o).part.fixed ≡ k.fixed
then_clears_keeps k None = refl
then_clears_keeps k (Some m) = refl

ends_body_keeps : (k : Kernel) (p : Runner) → (ends_body k p).part.fixed ≡ k.fixed
ends_body_keeps k runner.Init = refl
ends_body_keeps k runner.Handler = refl
ends_body_keeps k (runner.Process p) = refl

enters_keeps : (at : At) (k : Kernel) (o : Option Mode) → (enters_mode at k o).part.fixed ≡ k.fixed
enters_keeps at k None = refl
enters_keeps at k (Some mode.Normal) = refl
enters_keeps at k (Some mode.Idle) = refl
enters_keeps at k (Some mode.ColdStart) = refl
enters_keeps at k (Some mode.WarmStart) = refl

ignores_keeps : (k : Kernel) (p : Runner) (e : ErrorKind) → (ignores k p e).part.fixed ≡ k.fixed
ignores_keeps k runner.Init e = either_keeps k.fixed (is_fault e) _ _ refl refl
ignores_keeps k runner.Handler e = refl
ignores_keeps k (runner.Process p) e = refl

enters_of_action_keeps : (k : Kernel) (p : Runner) (e : ErrorKind) (o : Option Mode) → (enters_mode_of_action k p e o).part.fixed ≡ k.fixed
enters_of_action_keeps k p e None = ignores_keeps k p e
enters_of_action_keeps k p e (Some m) = refl

acts_keeps : (k : Kernel) (p : Runner) (e : ErrorKind) (o : Option PartitionAction) → (acts_on_error k p e o).part.fixed ≡ k.fixed
acts_keeps k p e None = refl
acts_keeps k p e (Some a) = enters_of_action_keeps k p e (mode_of_action a)

handles_keeps : (k : Kernel) (p : Runner) (e : ErrorKind) (words : List ℤ) → (handles k p e words).part.fixed ≡ k.fixed
handles_keeps k p e words = acts_keeps k p e (raises k.fixed.health k.mode (with_errors k) p e words).part

faults_keeps : (k : Kernel) (p : Runner) (e : ErrorKind) → (faults k p e).part.fixed ≡ k.fixed
faults_keeps k p e = handles_keeps (of_processes k (rests_found k.processes p (row_of k.processes p))).part p e []

set_mode_keeps : (at : At) (k : Kernel) (p : Runner) (m : ℤ) → (set_partition_mode at k p m).part.fixed ≡ k.fixed
set_mode_keeps at k p m =
    row_keeps k.fixed (λ c. of_processes k (refuses k.processes p service.SetPartitionMode c))
    ((not (is_some (mode_of m)), code.InvalidParam) ∷ (wants is_normal (mode_of m) && is_normal k.mode, code.NoAction) ∷ (wants is_warm (mode_of m) && is_cold k.mode, code.InvalidMode) ∷ [])
    (after (of_processes k (answers k.processes p service.SetPartitionMode code.NoError [])) (enters_mode at k (mode_of m)))
    (λ c. refl) (enters_keeps at k (mode_of m))

raise_keeps : (k : Kernel) (p : Runner) (e : ℤ) (array : ArrayPlace) (length : ℤ) (words : List ℤ) → (raises_application_error k p e array length words).part.fixed ≡ k.fixed
raise_keeps k p e array length words = acts_keeps k p error.ApplicationError (raise_application_error k.fixed.health k.mode (with_errors k) p e array length words).part

serves_keeps : (at : At) (k : Kernel) (p : Runner) (c : Call) (words : List ℤ) → (serves at k p c words).part.fixed ≡ k.fixed
serves_keeps at k p (call.SetPartitionMode m) words = set_mode_keeps at k p m
serves_keeps at k p call.StopSelf words = ends_body_keeps k p
serves_keeps at k p (call.RaiseApplicationError e array length) words = raise_keeps k p e array length words
serves_keeps at k p c words = refl

asked_keeps : (at : At) (k : Kernel) (p : Runner) (a : Asks) (words : List ℤ) → (treats_asked at k p a words).part.fixed ≡ k.fixed
asked_keeps at k p Nothing words = refl
asked_keeps at k p (Calls c) words = serves_keeps at k p c words
asked_keeps at k p (Faults e) words = faults_keeps k p e
asked_keeps at k p Ends words = ends_body_keeps k p

breaks_keeps : (k : Kernel) → (breaks k).part.fixed ≡ k.fixed
breaks_keeps k = then_clears_keeps k _

-- ---- a step of a partition
module _ {C : Type 0} where
  act_keeps : (e : Engine C) (a : Action) (w : World C) → (act e a w).kernel.fixed ≡ w.kernel.fixed
  act_keeps e (action.Begin p) w = refl
  act_keeps e (action.Stop p) w = refl
  act_keeps e action.StopAll w = refl
  act_keeps e (action.Reply p answer) w = refl
  act_keeps e action.Restore w = refl
  act_keeps e (action.Write place array) w = refl
  act_keeps e (action.Queue error) w = refl

  all_keep : (e : Engine C) (actions : List Action) (w : World C) → (act_all e actions w).kernel.fixed ≡ w.kernel.fixed
  all_keep e [] w = refl
  all_keep e (a ∷ rest) w = all_keep e rest (act e a w) ∙ act_keeps e a w

  -- the name stays, and all lines are of this name
  pub record Keeps (w : World C) (m : Moved C) : Type 0 where
    pub fixed : m.world.kernel.fixed ≡ w.kernel.fixed
    pub own : AreOf w.kernel.fixed.name m.lines

  moved_keeps : (at : At) (e : Engine C) (s : Step Kernel) (w : World C) → s.part.fixed ≡ w.kernel.fixed → Keeps w (moved at e s w)
  moved_keeps at e s w h = record { fixed = all_keep e s.actions (record w { kernel = s.part }) ∙ h; own = told_own w.kernel.fixed.name at s.lines }

  followed_keeps : (w : World C) (m : Moved C) (rest : World C → Moved C) → Keeps w m → ((v : World C) → Keeps v (rest v)) → Keeps w (followed_by m rest)
  followed_keeps w m rest h k =
      let n = k m.world in
      record {
        fixed = n.fixed ∙ h.fixed;
        own = both_own w.kernel.fixed.name m.lines (rest m.world).lines h.own (subst (λ (f : Fixed). AreOf f.name (rest m.world).lines) h.fixed n.own);
      }

  spends_keeps : (e : Engine C) (at : At) (p : Runner) (w : World C) → Keeps w (spends e at p w)
  spends_keeps e at p w =
      let r = ticked e (control_at w.controls (place_of p)) w.words in
      let v : World C = record w { controls = slice_set w.controls (place_of p) r.control; words = r.words } in
      let h : Keeps v (spends e at p w) = moved_keeps at e (treats_asked at w.kernel p r.asks (given r.asks r.words)) v (asked_keeps at w.kernel p r.asks (given r.asks r.words)) in
      record { fixed = h.fixed; own = h.own }

  chosen_keeps : (e : Engine C) (at : At) (o : Option Runner) (w : World C) → Keeps w (spends_chosen e at o w)
  chosen_keeps e at None w = record { fixed = refl; own = nothing_own w.kernel.fixed.name }
  chosen_keeps e at (Some p) w = spends_keeps e at p w

  due_keeps : (e : Engine C) (at : At) (w : World C) → Keeps w (due_phase e at w)
  due_keeps e at w =
      let clears = (treats_due at w.kernel).clears in
      followed_keeps w (treating_phase e at w) (clearing_phase e at clears)
      (moved_keeps at e (of_processes w.kernel (treats_due at w.kernel).step) w refl)
      (λ v. moved_keeps at e (then_clears v.kernel clears) v (then_clears_keeps v.kernel clears))

  prepares_keeps : (e : Engine C) (at : At) (w : World C) → Keeps w (prepares e at w)
  prepares_keeps e at w = followed_keeps w (due_phase e at w) (choice_phase e at) (due_keeps e at w) (λ v. moved_keeps at e (chooses_with_handler v.kernel) v refl)

  tick_keeps : (e : Engine C) (at : At) (w : World C) → Keeps w (tick e at w)
  tick_keeps e at w = followed_keeps w (prepares e at w) (spending_phase e at) (prepares_keeps e at w) (λ v. chosen_keeps e at v.kernel.processes.running v)

  -- a step of each partition keeps its name
  abbrev pub StepKeeps : (Member C → Moved C) → Type 0
  StepKeeps f = (x : Member C) → Keeps x.world (f x)

  pub advances_keeps : (at : At) → StepKeeps (advances at)
  advances_keeps at x = tick_keeps x.engine at x.world

  pub cold_start_keeps : (at : At) (c : StartCondition) → StepKeeps (cold_start at c)
  cold_start_keeps at c x = moved_keeps at x.engine (clears x.world.kernel mode.ColdStart c) x.world refl

  pub breaks_down_keeps : (at : At) → StepKeeps (breaks_down at)
  breaks_down_keeps at x = moved_keeps at x.engine (breaks x.world.kernel) x.world (breaks_keeps x.world.kernel)

  pub arrives_keeps : (at : At) (port : PortId) (m : ArrayVec ℤ) → StepKeeps (arrives at port m)
  arrives_keeps at port m x = moved_keeps at x.engine (of_ports x.world.kernel (arrival.arrives at (with_ports x.world.kernel) (place_of_port port) m)) x.world refl

  pub leaves_keeps : (at : At) (port : PortId) → StepKeeps (leaves at port)
  leaves_keeps at port x = moved_keeps at x.engine (of_ports_alone x.world.kernel (arrival.leaves x.world.kernel.ports (place_of_port port))) x.world refl

  pub admits_keeps : (at : At) (port : PortId) → StepKeeps (admits at port)
  admits_keeps at port x = moved_keeps at x.engine (of_ports x.world.kernel (arrival.admits (with_ports x.world.kernel) (place_of_port port))) x.world refl

  pub goes_out_keeps : (at : At) (channel : List ℕ) (m : ArrayVec ℤ) → StepKeeps (goes_out at channel m)
  goes_out_keeps at channel m x = record { fixed = refl; own = told_own x.world.kernel.fixed.name at (event.Out channel m ∷ []) }

  pub move_keeps : (move : Move) → StepKeeps (makes move)
  move_keeps (Starts at c) = cold_start_keeps at c
  move_keeps (BreaksDown at) = breaks_down_keeps at
  move_keeps (Arrives at port m) = arrives_keeps at port m
  move_keeps (Leaves at port) = leaves_keeps at port
  move_keeps (Admits at port) = admits_keeps at port
  move_keeps (GoesOut at channel m) = goes_out_keeps at channel m
  move_keeps (Advances at) = advances_keeps at

-- Engines that cannot be distinguished give equal traces. Nothing here looks into a service.
use Rattle.compiling_laws.proofs.Prelude.{◌≡◌, ℕ, suc, ◌+◌, ℤ, List, ◌∷◌, ◌++◌, length, Option, Some, None, map, refl, sym, ap, subst, ◌∙◌, slice_get, slice_set, option_map, Runner, Ticked, Asks, Simulates}
use Rattle.std.proofs.Common.{zero, []}
use Rattle.arrayvec.specs.ArrayVec.{ArrayVec}
use Rattle.std.specs.List.{flat_map}
use Rattle.apex_types.specs.Runners.{place_of}
use Rattle.apex_types.specs.declared.event.Event.{Event}
use Rattle.apex_types.specs.declared.codes.Mode.{Mode}
use Rattle.apex_types.specs.declared.codes.Mode.TheVariants as mode
use Rattle.apex_types.specs.declared.codes.ModuleAction.{ModuleAction}
use Rattle.apex_types.specs.declared.codes.ModuleAction.TheVariants as reaction
use Rattle.apex_types.specs.declared.codes.StartCondition.{StartCondition}
use Rattle.apex_types.specs.declared.codes.StartCondition.TheVariants as condition
use Rattle.apex_types.specs.declared.device.DeviceInput.{DeviceInput}
use Rattle.apex_types.specs.declared.device.DeviceInput.TheVariants as input
use Rattle.apex_types.specs.declared.device.DeviceLine.{DeviceLine}
use Rattle.apex_types.specs.declared.identity.At.{At}
use Rattle.apex_types.specs.declared.identity.PartitionId.{PartitionId}
use Rattle.apex_types.specs.declared.identity.PortId.{PortId}
use Rattle.apex_types.specs.declared.row.ChannelEnd.{ChannelEnd}
use Rattle.apex_types.specs.declared.row.ChannelEnd.TheVariants as ends
use Rattle.kernel_meaning.specs.PortServices as arrival
use Rattle.module_meaning.specs.Table.{Channel, at_number}
use Rattle.kernel_meaning.specs.Objects.{Port, port_at}
use Rattle.apex_types.specs.Runners.{Action}
use Rattle.apex_types.specs.Runners as action
use Rattle.engine_meaning.specs.Engine.{Engine}
use Rattle.kernel_meaning.specs.Kernel.{Kernel, of_processes, of_ports, of_ports_alone, with_ports}
use Rattle.kernel_meaning.specs.HealthServices.{breaks, then_clears}
use Rattle.kernel_meaning.specs.PartitionServices.{clears}
use Rattle.kernel_meaning.specs.Partition.{World, Member, Moved, control_at, replied, no_control, written, with_error, act, act_all, moved, followed_by, ticked, chooses_with_handler, spends, spends_chosen, spending_phase, given, treats_asked, treats_due, treating_phase, clearing_phase, due_phase, choice_phase, prepares, tick, cold_start, breaks_down, advances, arrives, leaves, leaving, admits, goes_out, place_of_port, messages_to_move}
use Rattle.kernel_meaning.specs.Step.{Step}
use Rattle.kernel_meaning.specs.Windows.{owner, ended}
use Rattle.module_meaning.specs.Module.{Plan, Stepped, Course, goes_on, unless_down, then_runs, still, then_goes, steps, steps_member, of_member, ports_of, ports_from, delivers, delivers_all, goes_by, inputs, inputs_all, of_tick, channel_from, moves_found, moves_message, moves_messages, moves_so_many, moves_port, moves_ports, moves_ended, first_tick, next_tick, start_lines, starts_all, starts, tells_fault, as_origin, breaks_module, ticks_owner, moves_and_ticks, module_tick, trace_from, trace}
use Rattle.compiling_laws.specs.Lifting.{SameControl, SameControls, SameWorld, SameMoved, SameMember, SameMembers, SameStepped, SameCourse}

abbrev world : {C : Type 0} → Kernel → List (Option C) → List ℤ → List ℤ → World C
world k controls words initial = record { kernel = k; controls = controls; words = words; initial = initial }

module _ {C D : Type 0} (R : C → D → Type 0) where
  same_set : (xs : List (Option C)) (ys : List (Option D)) (p : ℕ) (a : Option C) (b : Option D) → SameControls R xs ys → SameControl R a b → SameControls R (slice_set xs p a) (slice_set ys p b)
  same_set [] [] p a b h s = tt
  same_set [] (y ∷ ys) p a b h s = absurd h
  same_set (x ∷ xs) [] p a b h s = absurd h
  same_set (x ∷ xs) (y ∷ ys) zero a b h s = (s, h.1)
  same_set (x ∷ xs) (y ∷ ys) (suc p) a b h s = (h.0, same_set xs ys p a b h.1 s)

  same_get : (xs : List (Option C)) (ys : List (Option D)) (p : ℕ) → SameControls R xs ys → SameControl R (control_at xs p) (control_at ys p)
  same_get [] [] p h = tt
  same_get [] (y ∷ ys) p h = absurd h
  same_get (x ∷ xs) [] p h = absurd h
  same_get (x ∷ xs) (y ∷ ys) zero h = h.0
  same_get (x ∷ xs) (y ∷ ys) (suc p) h = same_get xs ys p h.1

  same_none : (xs : List (Option C)) (ys : List (Option D)) → SameControls R xs ys → SameControls R (map no_control xs) (map no_control ys)
  same_none [] [] h = tt
  same_none [] (y ∷ ys) h = absurd h
  same_none (x ∷ xs) [] h = absurd h
  same_none (x ∷ xs) (y ∷ ys) h = (tt, same_none xs ys h.1)

  -- two worlds that are the same but for their controls
  same_world : (k : Kernel) (f : List (Option C)) (g : List (Option D)) (ws i : List ℤ) → SameControls R f g → SameWorld R (world k f ws i) (world k g ws i)
  same_world k f g ws i h = record { kernel = refl; controls = h; words = refl; initial = refl }

  -- a property of worlds with the same kernel and data holds of worlds whose kernel and data are
  -- equal
  shared : (P : World C → World D → Type 0) (v : World C) (w : World D)
      → ((k : Kernel) (f : List (Option C)) (g : List (Option D)) (ws i : List ℤ) → SameControls R f g → P (world k f ws i) (world k g ws i))
      → SameWorld R v w → P v w
  shared P v w h s =
      subst (λ (k : Kernel). P (world k v.controls v.words v.initial) w) (sym s.kernel)
      (subst (λ (ws : List ℤ). P (world w.kernel v.controls ws v.initial) w) (sym s.words)
      (subst (λ (i : List ℤ). P (world w.kernel v.controls w.words i) w) (sym s.initial)
      (h w.kernel v.controls w.controls w.words w.initial s.controls)))

  module _ (c : Engine C) (d : Engine D) (s : Simulates R c d) where
    same_replied : (x : Option C) (y : Option D) (answer : List ℤ) → SameControl R x y → SameControl R (replied c x answer) (replied d y answer)
    same_replied None None answer h = tt
    same_replied None (Some y) answer h = absurd h
    same_replied (Some x) None answer h = absurd h
    same_replied (Some x) (Some y) answer h = s.reply x y answer h

    same_act : (a : Action) (k : Kernel) (f : List (Option C)) (g : List (Option D)) (ws i : List ℤ) → SameControls R f g → SameWorld R (act c a (world k f ws i)) (act d a (world k g ws i))
    same_act (action.Begin p) k f g ws i h = same_world k _ _ ws i (same_set f g (place_of p) (Some (c.start p)) (Some (d.start p)) h (s.start p))
    same_act (action.Stop p) k f g ws i h = same_world k _ _ ws i (same_set f g (place_of p) None None h tt)
    same_act action.StopAll k f g ws i h = same_world k _ _ ws i (same_none f g h)
    same_act (action.Reply p answer) k f g ws i h = same_world k _ _ ws i (same_set f g (place_of p) (replied c (control_at f (place_of p)) answer.items) (replied d (control_at g (place_of p)) answer.items) h (same_replied (control_at f (place_of p)) (control_at g (place_of p)) answer.items (same_get f g (place_of p) h)))
    same_act action.Restore k f g ws i h = same_world k f g i i h
    same_act (action.Write place array) k f g ws i h = same_world k f g (written place array.items ws) i h
    same_act (action.Queue error) k f g ws i h = same_world (with_error k error) f g ws i h

    same_act_all : (actions : List Action) (v : World C) (w : World D) → SameWorld R v w → SameWorld R (act_all c actions v) (act_all d actions w)
    same_act_all [] v w h = h
    same_act_all (a ∷ rest) v w h = same_act_all rest (act c a v) (act d a w) (shared (λ v w. SameWorld R (act c a v) (act d a w)) v w (same_act a) h)

    -- the same step of the kernel
    same_step : (at : At) (step : Step Kernel) (k : Kernel) (f : List (Option C)) (g : List (Option D)) (ws i : List ℤ) → SameControls R f g → SameMoved R (moved at c step (world k f ws i)) (moved at d step (world k g ws i))
    same_step at step k f g ws i h = record { world = same_act_all step.actions (world step.part f ws i) (world step.part g ws i) (same_world step.part f g ws i h); lines = refl }

    same_followed : (m : Moved C) (n : Moved D) (p : World C → Moved C) (q : World D → Moved D)
        → SameMoved R m n
        → ((k : Kernel) (f : List (Option C)) (g : List (Option D)) (ws i : List ℤ) → SameControls R f g → SameMoved R (p (world k f ws i)) (q (world k g ws i)))
        → SameMoved R (followed_by m p) (followed_by n q)
    same_followed m n p q h rest =
        let then_same : SameMoved R (p m.world) (q n.world) = shared (λ v w. SameMoved R (p v) (q w)) m.world n.world rest h.world in
        record { world = then_same.world; lines = ap (λ (xs : List Event). xs ++ (p m.world).lines) h.lines ∙ ap (λ (xs : List Event). n.lines ++ xs) then_same.lines }

    same_treating : (at : At) (k : Kernel) (f : List (Option C)) (g : List (Option D)) (ws i : List ℤ) → SameControls R f g → SameMoved R (treating_phase c at (world k f ws i)) (treating_phase d at (world k g ws i))
    same_treating at k f g ws i h = same_step at (of_processes k (treats_due at k).step) k f g ws i h

    same_clearing : (at : At) (clears : Option Mode) (k : Kernel) (f : List (Option C)) (g : List (Option D)) (ws i : List ℤ) → SameControls R f g → SameMoved R (clearing_phase c at clears (world k f ws i)) (clearing_phase d at clears (world k g ws i))
    same_clearing at clears k f g ws i h = same_step at (then_clears k clears) k f g ws i h

    same_due : (at : At) (k : Kernel) (f : List (Option C)) (g : List (Option D)) (ws i : List ℤ) → SameControls R f g → SameMoved R (due_phase c at (world k f ws i)) (due_phase d at (world k g ws i))
    same_due at k f g ws i h = same_followed _ _ (clearing_phase c at (treats_due at k).clears) (clearing_phase d at (treats_due at k).clears) (same_treating at k f g ws i h) (same_clearing at (treats_due at k).clears)

    same_choice : (at : At) (k : Kernel) (f : List (Option C)) (g : List (Option D)) (ws i : List ℤ) → SameControls R f g → SameMoved R (choice_phase c at (world k f ws i)) (choice_phase d at (world k g ws i))
    same_choice at k f g ws i h = same_step at (chooses_with_handler k) k f g ws i h

    pub record SameTicked (a : Ticked (Option C)) (b : Ticked (Option D)) : Type 0 where
      pub control : SameControl R a.control b.control
      pub words : a.words ≡ b.words
      pub asks : a.asks ≡ b.asks

    same_ticked : (x : Option C) (y : Option D) (ws : List ℤ) → SameControl R x y → SameTicked (ticked c x ws) (ticked d y ws)
    same_ticked None None ws h = record { control = tt; words = refl; asks = refl }
    same_ticked None (Some y) ws h = absurd h
    same_ticked (Some x) None ws h = absurd h
    same_ticked (Some x) (Some y) ws h = let t = s.tick x y ws h in record { control = t.control; words = t.words; asks = t.asks }

    -- the request, over the data after the tick
    same_asked : (at : At) (p : Runner) (k : Kernel) (f : List (Option C)) (g : List (Option D)) (i : List ℤ) (ws vs : List ℤ) (a b : Asks)
        → SameControls R f g → ws ≡ vs → a ≡ b
        → SameMoved R (moved at c (treats_asked at k p a (given a ws)) (world k f ws i)) (moved at d (treats_asked at k p b (given b vs)) (world k g vs i))
    same_asked at p k f g i ws vs a b h words asks =
        subst (λ (v : List ℤ). SameMoved R (moved at c (treats_asked at k p a (given a ws)) (world k f ws i)) (moved at d (treats_asked at k p b (given b v)) (world k g v i))) words
        (subst (λ (q : Asks). SameMoved R (moved at c (treats_asked at k p a (given a ws)) (world k f ws i)) (moved at d (treats_asked at k p q (given q ws)) (world k g ws i))) asks
        (same_step at (treats_asked at k p a (given a ws)) k f g ws i h))

    same_spends : (at : At) (p : Runner) (k : Kernel) (f : List (Option C)) (g : List (Option D)) (ws i : List ℤ) → SameControls R f g → SameMoved R (spends c at p (world k f ws i)) (spends d at p (world k g ws i))
    same_spends at p k f g ws i h =
        let r = same_ticked (control_at f (place_of p)) (control_at g (place_of p)) ws (same_get f g (place_of p) h) in
        same_asked at p k _ _ i _ _ _ _ (same_set f g (place_of p) (ticked c (control_at f (place_of p)) ws).control (ticked d (control_at g (place_of p)) ws).control h r.control) r.words r.asks

    same_chosen : (at : At) (o : Option Runner) (k : Kernel) (f : List (Option C)) (g : List (Option D)) (ws i : List ℤ) → SameControls R f g → SameMoved R (spends_chosen c at o (world k f ws i)) (spends_chosen d at o (world k g ws i))
    same_chosen at None k f g ws i h = record { world = same_world k f g ws i h; lines = refl }
    same_chosen at (Some p) k f g ws i h = same_spends at p k f g ws i h

    same_spending : (at : At) (k : Kernel) (f : List (Option C)) (g : List (Option D)) (ws i : List ℤ) → SameControls R f g → SameMoved R (spending_phase c at (world k f ws i)) (spending_phase d at (world k g ws i))
    same_spending at k f g ws i h = same_chosen at k.processes.running k f g ws i h

    same_prepares : (at : At) (k : Kernel) (f : List (Option C)) (g : List (Option D)) (ws i : List ℤ) → SameControls R f g → SameMoved R (prepares c at (world k f ws i)) (prepares d at (world k g ws i))
    same_prepares at k f g ws i h = same_followed _ _ (choice_phase c at) (choice_phase d at) (same_due at k f g ws i h) (same_choice at)

    same_tick : (at : At) (k : Kernel) (f : List (Option C)) (g : List (Option D)) (ws i : List ℤ) → SameControls R f g → SameMoved R (tick c at (world k f ws i)) (tick d at (world k g ws i))
    same_tick at k f g ws i h = same_followed _ _ (spending_phase c at) (spending_phase d at) (same_prepares at k f g ws i h) (same_spending at)

    pub tick_same : (at : At) (v : World C) (w : World D) → SameWorld R v w → SameMoved R (tick c at v) (tick d at w)
    tick_same at v w h = shared (λ v w. SameMoved R (tick c at v) (tick d at w)) v w (same_tick at) h

    same_start : (at : At) (why : StartCondition) (k : Kernel) (f : List (Option C)) (g : List (Option D)) (ws i : List ℤ) → SameControls R f g → SameMoved R (moved at c (clears k mode.ColdStart why) (world k f ws i)) (moved at d (clears k mode.ColdStart why) (world k g ws i))
    same_start at why k f g ws i h = same_step at (clears k mode.ColdStart why) k f g ws i h

-- ---- the module

module _ {I C D : Type 0} (R : I → C → D → Type 0) where
  started_same : (at : At) (c : StartCondition) (i : I) (x : Member C) (y : Member D) → SameMember (R i) x y → SameMoved (R i) (cold_start at c x) (cold_start at c y)
  started_same at c i x y h =
      shared (R i) (λ v w. SameMoved (R i) (moved at x.engine (clears v.kernel mode.ColdStart c) v) (moved at y.engine (clears w.kernel mode.ColdStart c) w)) x.world y.world (same_start (R i) x.engine y.engine h.engine at c) h.world

  starts_same : (at : At) (c : StartCondition) (is : List I) (xs : List (Member C)) (ys : List (Member D)) → SameMembers R is xs ys → SameStepped R is (starts_all at c xs) (starts_all at c ys)
  starts_same at c [] [] [] h = record { state = tt; lines = refl }
  starts_same at c (i ∷ is) (x ∷ xs) (y ∷ ys) h =
      let one = started_same at c i x y h.0 in
      let rest = starts_same at c is xs ys h.1 in
      record {
        state = (record { engine = h.0.engine; world = one.world }, rest.state);
        lines = ap (λ (es : List Event). es ++ flat_map (start_lines at c) xs) one.lines ∙ ap (λ (es : List Event). start_lines at c y ++ es) rest.lines;
      }
  starts_same at c [] [] (y ∷ ys) h = absurd h
  starts_same at c [] (x ∷ xs) ys h = absurd h
  starts_same at c (i ∷ is) [] ys h = absurd h
  starts_same at c (i ∷ is) (x ∷ xs) [] h = absurd h

  -- steps of one partition that cannot be distinguished
  abbrev SameSteps : (Member C → Moved C) → (Member D → Moved D) → Type 0
  SameSteps f g = (i : I) (x : Member C) (y : Member D) → SameMember (R i) x y → SameMoved (R i) (f x) (g y)

  -- a step of a member after the first
  behind_first : {E : Type 0} (f : Member E → Moved E) (p : ℕ) (x : Member E) (xs : List (Member E)) (o : Option (Member E)) → steps_member f (x ∷ xs) (suc p) o ≡ record { state = x ∷ (steps_member f xs p o).state; lines = (steps_member f xs p o).lines }
  behind_first f p x xs None = refl
  behind_first f p x xs (Some y) = refl

  member_same : (f : Member C → Moved C) (g : Member D → Moved D) → SameSteps f g → (is : List I) (xs : List (Member C)) (ys : List (Member D)) (p : ℕ) → SameMembers R is xs ys → SameStepped R is (steps_member f xs p (slice_get xs p)) (steps_member g ys p (slice_get ys p))
  member_same f g same [] [] [] p h = record { state = tt; lines = refl }
  member_same f g same (i ∷ is) (x ∷ xs) (y ∷ ys) zero h =
      let one = same i x y h.0 in
      record { state = (record { engine = h.0.engine; world = one.world }, h.1); lines = one.lines }
  member_same f g same (i ∷ is) (x ∷ xs) (y ∷ ys) (suc p) h =
      let rest = member_same f g same is xs ys p h.1 in
      let step : SameStepped R (i ∷ is) (record { state = x ∷ (steps_member f xs p (slice_get xs p)).state; lines = (steps_member f xs p (slice_get xs p)).lines }) (record { state = y ∷ (steps_member g ys p (slice_get ys p)).state; lines = (steps_member g ys p (slice_get ys p)).lines }) =
      record { state = (h.0, rest.state); lines = rest.lines } in
      subst (λ (a : Stepped (List (Member C))). SameStepped R (i ∷ is) a (steps_member g (y ∷ ys) (suc p) (slice_get ys p))) (sym (behind_first f p x xs (slice_get xs p)))
      (subst (λ (b : Stepped (List (Member D))). SameStepped R (i ∷ is) (record { state = x ∷ (steps_member f xs p (slice_get xs p)).state; lines = (steps_member f xs p (slice_get xs p)).lines }) b) (sym (behind_first g p y ys (slice_get ys p))) step)
  member_same f g same [] [] (y ∷ ys) p h = absurd h
  member_same f g same [] (x ∷ xs) ys p h = absurd h
  member_same f g same (i ∷ is) [] ys p h = absurd h
  member_same f g same (i ∷ is) (x ∷ xs) [] p h = absurd h

  steps_same : (f : Member C → Moved C) (g : Member D → Moved D) → SameSteps f g → (is : List I) (xs : List (Member C)) (ys : List (Member D)) (p : ℕ) → SameMembers R is xs ys → SameStepped R is (steps f xs p) (steps g ys p)
  steps_same f g same is xs ys zero h = record { state = h; lines = refl }
  steps_same f g same is xs ys (suc p) h = member_same f g same is xs ys p h

  still_same : (is : List I) (xs : List (Member C)) (ys : List (Member D)) → SameMembers R is xs ys → SameStepped R is (still xs) (still ys)
  still_same is xs ys h = record { state = h; lines = refl }

  then_same : (is : List I) (a : Stepped (List (Member C))) (b : Stepped (List (Member D))) (p : List (Member C) → Stepped (List (Member C))) (q : List (Member D) → Stepped (List (Member D)))
      → SameStepped R is a b
      → ((xs : List (Member C)) (ys : List (Member D)) → SameMembers R is xs ys → SameStepped R is (p xs) (q ys))
      → SameStepped R is (then_goes a p) (then_goes b q)
  then_same is a b p q h rest =
      let more = rest a.state b.state h.state in
      record { state = more.state; lines = ap (λ (es : List Event). es ++ (p a.state).lines) h.lines ∙ ap (λ (es : List Event). b.lines ++ es) more.lines }

  -- ---- the steps of one partition

  advances_same : (at : At) → SameSteps (advances at) (advances at)
  advances_same at i x y h = tick_same (R i) x.engine y.engine h.engine at x.world y.world h.world

  breaks_same : (at : At) → SameSteps (breaks_down at) (breaks_down at)
  breaks_same at i x y h =
      shared (R i) (λ v w. SameMoved (R i) (breaks_down at (record { engine = x.engine; world = v })) (breaks_down at (record { engine = y.engine; world = w }))) x.world y.world
      (λ k f g ws n c. same_step (R i) x.engine y.engine h.engine at (breaks k) k f g ws n c) h.world

  arrives_same : (at : At) (port : PortId) (m : ArrayVec ℤ) → SameSteps (arrives at port m) (arrives at port m)
  arrives_same at port m i x y h =
      shared (R i) (λ v w. SameMoved (R i) (arrives at port m (record { engine = x.engine; world = v })) (arrives at port m (record { engine = y.engine; world = w }))) x.world y.world
      (λ k f g ws n c. same_step (R i) x.engine y.engine h.engine at (of_ports k (arrival.arrives at (with_ports k) (place_of_port port) m)) k f g ws n c) h.world

  leaves_same : (at : At) (port : PortId) → SameSteps (leaves at port) (leaves at port)
  leaves_same at port i x y h =
      shared (R i) (λ v w. SameMoved (R i) (leaves at port (record { engine = x.engine; world = v })) (leaves at port (record { engine = y.engine; world = w }))) x.world y.world
      (λ k f g ws n c. same_step (R i) x.engine y.engine h.engine at (of_ports_alone k (arrival.leaves k.ports (place_of_port port))) k f g ws n c) h.world

  admits_same : (at : At) (port : PortId) → SameSteps (admits at port) (admits at port)
  admits_same at port i x y h =
      shared (R i) (λ v w. SameMoved (R i) (admits at port (record { engine = x.engine; world = v })) (admits at port (record { engine = y.engine; world = w }))) x.world y.world
      (λ k f g ws n c. same_step (R i) x.engine y.engine h.engine at (of_ports k (arrival.admits (with_ports k) (place_of_port port))) k f g ws n c) h.world

  goes_out_same : (at : At) (channel : List ℕ) (m : ArrayVec ℤ) → SameSteps (goes_out at channel m) (goes_out at channel m)
  goes_out_same at channel m i x y h =
      shared (R i) (λ v w. SameMoved (R i) (goes_out at channel m (record { engine = x.engine; world = v })) (goes_out at channel m (record { engine = y.engine; world = w }))) x.world y.world
      (λ k f g ws n c. record { world = same_world (R i) k f g ws n c; lines = refl }) h.world

  -- ---- views of a partition

  sees_same : {B : Type 0} (none : B) (p : Member C → B) (q : Member D → B)
      → ((i : I) (x : Member C) (y : Member D) → SameMember (R i) x y → p x ≡ q y)
      → (is : List I) (xs : List (Member C)) (ys : List (Member D)) (place : ℕ) → SameMembers R is xs ys
      → of_member none p (slice_get xs place) ≡ of_member none q (slice_get ys place)
  sees_same none p q same [] [] [] place h = refl
  sees_same none p q same (i ∷ is) (x ∷ xs) (y ∷ ys) zero h = same i x y h.0
  sees_same none p q same (i ∷ is) (x ∷ xs) (y ∷ ys) (suc place) h = sees_same none p q same is xs ys place h.1
  sees_same none p q same [] [] (y ∷ ys) place h = absurd h
  sees_same none p q same [] (x ∷ xs) ys place h = absurd h
  sees_same none p q same (i ∷ is) [] ys place h = absurd h
  sees_same none p q same (i ∷ is) (x ∷ xs) [] place h = absurd h

  number_same : {B : Type 0} (none : B) (p : Member C → B) (q : Member D → B)
      → ((i : I) (x : Member C) (y : Member D) → SameMember (R i) x y → p x ≡ q y)
      → (is : List I) (xs : List (Member C)) (ys : List (Member D)) (n : ℕ) → SameMembers R is xs ys
      → of_member none p (at_number xs n) ≡ of_member none q (at_number ys n)
  number_same none p q same is xs ys zero h = refl
  number_same none p q same is xs ys (suc n) h = sees_same none p q same is xs ys n h

  leaving_same : (port : PortId) (i : I) (x : Member C) (y : Member D) → SameMember (R i) x y → leaving port x ≡ leaving port y
  leaving_same port i x y h = ap (λ (k : Kernel). arrival.first_message (port_at k.ports (place_of_port port))) h.world.kernel

  ports_same : (i : I) (x : Member C) (y : Member D) → SameMember (R i) x y → ports_of x ≡ ports_of y
  ports_same i x y h = ap (λ (k : Kernel). k.ports.ports) h.world.kernel

  -- ---- messages

  delivers_same : (at : At) (c : Channel) (m : ArrayVec ℤ) (source e : ChannelEnd) (is : List I) (xs : List (Member C)) (ys : List (Member D)) → SameMembers R is xs ys → SameStepped R is (delivers at c m source e xs) (delivers at c m source e ys)
  delivers_same at c m (ends.Port p other) (ends.Port q port) is xs ys h = steps_same _ _ (arrives_same at port m) is xs ys q.0 h
  delivers_same at c m ends.Device (ends.Port q port) is xs ys h = steps_same _ _ (arrives_same at port m) is xs ys q.0 h
  delivers_same at c m (ends.Port p port) ends.Device is xs ys h = steps_same _ _ (goes_out_same at c.name m) is xs ys p.0 h
  delivers_same at c m ends.Device ends.Device is xs ys h = still_same is xs ys h

  delivers_all_same : (at : At) (c : Channel) (m : ArrayVec ℤ) (es : List ChannelEnd) (is : List I) (xs : List (Member C)) (ys : List (Member D)) → SameMembers R is xs ys → SameStepped R is (delivers_all at c m es xs) (delivers_all at c m es ys)
  delivers_all_same at c m [] is xs ys h = still_same is xs ys h
  delivers_all_same at c m (e ∷ es) is xs ys h = then_same is _ _ (delivers_all at c m es) (delivers_all at c m es) (delivers_same at c m c.source e is xs ys h) (delivers_all_same at c m es is)

  goes_by_same : (at : At) (m : ArrayVec ℤ) (c : Option Channel) (is : List I) (xs : List (Member C)) (ys : List (Member D)) → SameMembers R is xs ys → SameStepped R is (goes_by at m c xs) (goes_by at m c ys)
  goes_by_same at m None is xs ys h = still_same is xs ys h
  goes_by_same at m (Some c) is xs ys h = delivers_all_same at c m c.destinations is xs ys h

  -- ---- steps that may start the module again, or shut it down

  goes_on_same : (at : At) (is : List I) (a : Stepped (List (Member C))) (b : Stepped (List (Member D))) → SameStepped R is a b → SameCourse R is (goes_on at a) (goes_on at b)
  goes_on_same at is a b h = record { at = refl; state = h.state; lines = h.lines }

  unless_down_same : (is : List I) (c : Course (List (Member C))) (d : Course (List (Member D))) (p : At → List (Member C) → Course (List (Member C))) (q : At → List (Member D) → Course (List (Member D))) (o : Option At)
      → SameCourse R is c d
      → ((at : At) (xs : List (Member C)) (ys : List (Member D)) → SameMembers R is xs ys → SameCourse R is (p at xs) (q at ys))
      → SameCourse R is (unless_down c p o) (unless_down d q o)
  unless_down_same is c d p q None h rest = h
  unless_down_same is c d p q (Some at) h rest =
      let more = rest at c.state d.state h.state in
      record { at = more.at; state = more.state; lines = ap (λ (es : List Event). es ++ (p at c.state).lines) h.lines ∙ ap (λ (es : List Event). d.lines ++ es) more.lines }

  then_runs_same : (is : List I) (c : Course (List (Member C))) (d : Course (List (Member D))) (p : At → List (Member C) → Course (List (Member C))) (q : At → List (Member D) → Course (List (Member D)))
      → SameCourse R is c d
      → ((at : At) (xs : List (Member C)) (ys : List (Member D)) → SameMembers R is xs ys → SameCourse R is (p at xs) (q at ys))
      → SameCourse R is (then_runs c p) (then_runs d q)
  then_runs_same is c d p q h rest =
      subst (λ (o : Option At). SameCourse R is (then_runs c p) (unless_down d q o)) h.at (unless_down_same is c d p q c.at h rest)

  tells_same : (at : At) (a : ModuleAction) (is : List I) (xs : List (Member C)) (ys : List (Member D)) → SameMembers R is xs ys → SameStepped R is (tells_fault at a xs) (tells_fault at a ys)
  tells_same at a is xs ys h = record { state = h; lines = refl }

  module_fault_same : (at : At) (a : ModuleAction) (is : List I) (xs : List (Member C)) (ys : List (Member D)) → SameMembers R is xs ys → SameCourse R is (breaks_module at a xs) (breaks_module at a ys)
  module_fault_same at reaction.Ignore is xs ys h = goes_on_same at is _ _ (tells_same at reaction.Ignore is xs ys h)
  module_fault_same at reaction.Shutdown is xs ys h = record { at = refl; state = h; lines = refl }
  module_fault_same at reaction.Reset is xs ys h =
      goes_on_same (as_origin at) is _ _ (then_same is _ _ (starts_all (as_origin at) condition.HmModuleRestart) (starts_all (as_origin at) condition.HmModuleRestart) (tells_same at reaction.Reset is xs ys h) (starts_same (as_origin at) condition.HmModuleRestart is))

  -- ---- the devices

  inputs_same : (plan : Plan) (at : At) (n : DeviceInput) (is : List I) (xs : List (Member C)) (ys : List (Member D)) → SameMembers R is xs ys → SameCourse R is (inputs plan at n xs) (inputs plan at n ys)
  inputs_same plan at (input.Message channel m) is xs ys h = goes_on_same at is _ _ (goes_by_same at m (slice_get plan.channels channel.0) is xs ys h)
  inputs_same plan at input.ModuleFault is xs ys h = module_fault_same at plan.fault is xs ys h
  inputs_same plan at (input.PartitionFault p) is xs ys h = goes_on_same at is _ _ (steps_same _ _ (breaks_same at) is xs ys p.0 h)

  inputs_all_same : (plan : Plan) (ls : List DeviceLine) (at : At) (is : List I) (xs : List (Member C)) (ys : List (Member D)) → SameMembers R is xs ys → SameCourse R is (inputs_all plan at ls xs) (inputs_all plan at ls ys)
  inputs_all_same plan [] at is xs ys h = goes_on_same at is _ _ (still_same is xs ys h)
  inputs_all_same plan (l ∷ ls) at is xs ys h = then_runs_same is _ _ (λ a ms. inputs_all plan a ls ms) (λ a ms. inputs_all plan a ls ms) (inputs_same plan at l.input is xs ys h) (λ a. inputs_all_same plan ls a is)

  -- ---- moves

  module _ (channels : List Channel) (at : At) (p : PartitionId) where
    found_both : (port : PortId) (m : Option (ArrayVec ℤ)) (is : List I) (xs : List (Member C)) (ys : List (Member D)) → SameMembers R is xs ys → SameStepped R is (moves_found channels at p port xs m) (moves_found channels at p port ys m)
    found_both port None is xs ys h = still_same is xs ys h
    found_both port (Some m) is xs ys h = then_same is _ _ (goes_by at m (channel_from channels p port)) (goes_by at m (channel_from channels p port)) (steps_same _ _ (leaves_same at port) is xs ys p.0 h) (goes_by_same at m (channel_from channels p port) is)

    found_same : (port : PortId) (m n : Option (ArrayVec ℤ)) → m ≡ n → (is : List I) (xs : List (Member C)) (ys : List (Member D)) → SameMembers R is xs ys → SameStepped R is (moves_found channels at p port xs m) (moves_found channels at p port ys n)
    found_same port m n same is xs ys h =
        subst (λ (o : Option (ArrayVec ℤ)). SameStepped R is (moves_found channels at p port xs m) (moves_found channels at p port ys o)) same (found_both port m is xs ys h)

    message_same : (port : PortId) (is : List I) (xs : List (Member C)) (ys : List (Member D)) → SameMembers R is xs ys → SameStepped R is (moves_message channels at p port xs) (moves_message channels at p port ys)
    message_same port is xs ys h = found_same port _ _ (number_same None (leaving port) (leaving port) (leaving_same port) is xs ys p.0 h) is xs ys h

    messages_same : (n : ℕ) (port : PortId) (is : List I) (xs : List (Member C)) (ys : List (Member D)) → SameMembers R is xs ys → SameStepped R is (moves_messages n channels at p port xs) (moves_messages n channels at p port ys)
    messages_same zero port is xs ys h = still_same is xs ys h
    messages_same (suc n) port is xs ys h = then_same is _ _ (moves_messages n channels at p port) (moves_messages n channels at p port) (message_same port is xs ys h) (messages_same n port is)

    port_both : (port : PortId) (n : Option ℕ) (is : List I) (xs : List (Member C)) (ys : List (Member D)) → SameMembers R is xs ys → SameStepped R is (moves_so_many channels at p port xs n) (moves_so_many channels at p port ys n)
    port_both port None is xs ys h = still_same is xs ys h
    port_both port (Some n) is xs ys h = then_same is _ _ (λ ms. steps (admits at port) ms p.0) (λ ms. steps (admits at port) ms p.0) (messages_same n port is xs ys h) (λ vs ws k. steps_same _ _ (admits_same at port) is vs ws p.0 k)

    port_same : (port : PortId) (is : List I) (xs : List (Member C)) (ys : List (Member D)) → SameMembers R is xs ys → SameStepped R is (moves_port channels at p port xs) (moves_port channels at p port ys)
    port_same port is xs ys h =
        subst (λ (o : List Port). SameStepped R is (moves_port channels at p port xs) (moves_so_many channels at p port ys (messages_to_move (at_number o port.0)))) (number_same [] ports_of ports_of ports_same is xs ys p.0 h)
        (port_both port (messages_to_move (at_number (ports_from xs p.0) port.0)) is xs ys h)

    ports_all_same : (n number : ℕ) (is : List I) (xs : List (Member C)) (ys : List (Member D)) → SameMembers R is xs ys → SameStepped R is (moves_ports n number channels at p xs) (moves_ports n number channels at p ys)
    ports_all_same zero number is xs ys h = still_same is xs ys h
    ports_all_same (suc n) number is xs ys h = then_same is _ _ (moves_ports n (number + 1) channels at p) (moves_ports n (number + 1) channels at p) (port_same (record { 0 = number }) is xs ys h) (ports_all_same n (number + 1) is)

  ended_same : (channels : List Channel) (at : At) (o : Option ℕ) (is : List I) (xs : List (Member C)) (ys : List (Member D)) → SameMembers R is xs ys → SameStepped R is (moves_ended channels at xs o) (moves_ended channels at ys o)
  ended_same channels at None is xs ys h = still_same is xs ys h
  ended_same channels at (Some p) is xs ys h =
      subst (λ (o : List Port). SameStepped R is (moves_ended channels at xs (Some p)) (moves_ports (length o) 1 channels at (record { 0 = p }) ys)) (number_same [] ports_of ports_of ports_same is xs ys p h)
      (ports_all_same channels at (record { 0 = p }) (length (ports_from xs p)) 1 is xs ys h)

  -- ---- ticks

  owner_same : (at : At) (o : Option ℕ) (is : List I) (xs : List (Member C)) (ys : List (Member D)) → SameMembers R is xs ys → SameStepped R is (ticks_owner at xs o) (ticks_owner at ys o)
  owner_same at None is xs ys h = still_same is xs ys h
  owner_same at (Some p) is xs ys h = steps_same _ _ (advances_same at) is xs ys p h

  moves_and_ticks_same : (plan : Plan) (is : List I) (at : At) (xs : List (Member C)) (ys : List (Member D)) → SameMembers R is xs ys → SameCourse R is (moves_and_ticks plan at xs) (moves_and_ticks plan at ys)
  moves_and_ticks_same plan is at xs ys h =
      goes_on_same at is _ _ (then_same is _ _ (λ ms. ticks_owner at ms (owner plan.schedule at)) (λ ms. ticks_owner at ms (owner plan.schedule at))
      (ended_same plan.channels at (ended plan.schedule at) is xs ys h)
      (owner_same at (owner plan.schedule at) is))

  tick_of_module_same : (plan : Plan) (at : At) (devices : List DeviceLine) (is : List I) (xs : List (Member C)) (ys : List (Member D)) → SameMembers R is xs ys → SameCourse R is (module_tick plan at devices xs) (module_tick plan at devices ys)
  tick_of_module_same plan at devices is xs ys h =
      then_runs_same is _ _ (moves_and_ticks plan) (moves_and_ticks plan) (inputs_all_same plan (of_tick at.now.0 devices) at is xs ys h) (moves_and_ticks_same plan is)

  from_same : (plan : Plan) (devices : List DeviceLine) (n : ℕ) (at : Option At) (is : List I) (xs : List (Member C)) (ys : List (Member D)) → SameMembers R is xs ys → trace_from plan devices n at xs ≡ trace_from plan devices n at ys
  from_same plan devices zero at is xs ys h = refl
  from_same plan devices (suc n) None is xs ys h = refl
  from_same plan devices (suc n) (Some at) is xs ys h =
      let one = tick_of_module_same plan at devices is xs ys h in
      let left = module_tick plan at devices xs in
      let right = module_tick plan at devices ys in
      ap (λ (es : List Event). es ++ trace_from plan devices n (option_map next_tick left.at) left.state) one.lines
      ∙ ap (λ (es : List Event). right.lines ++ es)
      (from_same plan devices n (option_map next_tick left.at) is _ _ one.state
      ∙ ap (λ (o : Option At). trace_from plan devices n (option_map next_tick o) right.state) one.at)

  -- modules on engines that cannot be distinguished have the same trace
  pub trace_same : (plan : Plan) (devices : List DeviceLine) (n : ℕ) (is : List I) (xs : List (Member C)) (ys : List (Member D)) → SameMembers R is xs ys → trace (record { plan = plan; members = xs }) devices n ≡ trace (record { plan = plan; members = ys }) devices n
  trace_same plan devices zero is xs ys h = refl
  trace_same plan devices (suc n) is xs ys h =
      let s = starts_same first_tick condition.NormalStart is xs ys h in
      ap (λ (es : List Event). es ++ trace_from plan devices (suc n) (Some first_tick) (starts xs).state) s.lines
      ∙ ap (λ (es : List Event). (starts ys).lines ++ es) (from_same plan devices (suc n) (Some first_tick) is _ _ s.state)

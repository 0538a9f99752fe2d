-- The invariant of a partition, and that all steps but its own ticks keep it.
use Rattle.isolation.proofs.Prelude.{◌≡◌, ℕ, zero, suc, ◌+◌, ◌-◌, ◌≤◌, ℤ, Bool, true, false, List, ◌∷◌, ◌++◌, map, length, Option, Some, None, sym, ◌∙◌, arith, replicate, pos, if◌then◌else◌, slice_get, slice_set, AllByRecursion, length-set, ArrayVec, Mode, Ready, StartCondition, At, PortId, Runner, Action, Entry, ProcessStatus, PortDirection, PortRow, mode_of_action, Engine, breaks, then_clears, at_number, Fixed, Kernel, with_ports, of_ports, of_ports_alone, Objects, World, Member, act, act_all, moved, place_of_port, clears, Port, Ports, is_source, is_source_direction, is_sampling, is_full, with_sample, with_message, port_at, list, becomes_port, Processes, row_of, numbered, no_longer_waits, wakes, Sharing, Step, after, waiting, first_waiting}
use Rattle.std.proofs.Common.{[], refl, ap, subst}
use Rattle.std.proofs.lemmas.List.{length-map}
use Rattle.apex_types.specs.declared.codes.ErrorKind.TheVariants as error
use Rattle.apex_types.specs.declared.codes.Mode.TheVariants as mode
use Rattle.apex_types.specs.declared.codes.ReturnCode.TheVariants as code
use Rattle.apex_types.specs.declared.codes.StartCondition.TheVariants as condition
use Rattle.apex_types.specs.declared.identity.Runner.TheVariants as runner
use Rattle.apex_types.specs.declared.limits.TheConstants.{MOST_OBJECTS}
use Rattle.apex_types.specs.Runners as action
use Rattle.apex_types.specs.declared.row.PortDirection.TheVariants as direction
use Rattle.kernel_meaning.specs.PortServices as arrival
use Rattle.kernel_meaning.specs.HealthServices.{action_of}
use Rattle.kernel_meaning.specs.PartitionServices.{forgotten, ready_init, started_rows}
use Rattle.kernel_meaning.specs.Objects.{cleared_port, fresh_port, fresh_ports}
use Rattle.kernel_meaning.specs.Step.{nothing}
use Rattle.kernel_meaning.specs.Fresh.{fresh_kernel, no_message}
use Rattle.kernel_meaning.specs.Sharing.{handed_by}
use Rattle.isolation.proofs.Handed.{AllIn, Asks, HasHanded, IsSoundProcesses, emptied_in, at_place, released_sound, released_with_sound}
use Rattle.isolation.proofs.HandedIn.{KeepsWithin}
use Rattle.isolation.proofs.Holding.{HasLength, IsHolding, AreHolding}
use Rattle.isolation.proofs.Steps.{same_some}

-- ---- the invariant

-- For ports and processes: the source ports hold messages of lengths that their rows allow, and the
-- processes that wait at them have handed in such messages.
pub record IsSound (rows : List PortRow) (ports : List Port) (s : Processes) : Type 0 where
  pub holding : AreHolding rows ports
  pub processes : IsSoundProcesses rows s

abbrev pub IsSoundSharing : List PortRow → Sharing Ports → Type 0
IsSoundSharing rows b = IsSound rows b.shared.ports b.processes

abbrev pub IsSoundKernel : List PortRow → Kernel → Type 0
IsSoundKernel rows k = IsSound rows k.ports.ports k.processes

-- for a partition: also the arrays of its processes' requests are within its data
pub record IsSoundMember {C : Type 0} (rows : List PortRow) (x : Member C) : Type 0 where
  pub kernel : IsSoundKernel rows x.world.kernel
  pub engine : KeepsWithin x.engine

-- ---- what ports hold
is_from : (d : PortDirection) → is_source_direction d ≡ true → d ≡ direction.Source
is_from direction.Source h = refl
is_from direction.Destination h = absurd (cc)

-- the row of the port at a place, and what it holds
pub holding_at : (rows : List PortRow) (zs : List Port) (k : ℕ) (z : Port) → AreHolding rows zs → slice_get zs k ≡ Some z → (slice_get rows k ≡ Some z.row) × IsHolding z
holding_at [] [] k z h e = absurd (cc)
holding_at [] (y ∷ ys) k z h e = absurd h
holding_at (x ∷ xs) [] k z h e = absurd h
holding_at (x ∷ xs) (y ∷ ys) zero z h e = subst (λ (w : Port). (Some x ≡ Some w.row) × IsHolding w) (same_some y z e) (ap (λ (r : PortRow). Some r) (sym h.0), h.1)
holding_at (x ∷ xs) (y ∷ ys) (suc k) z h e = holding_at xs ys k z h.2 e

-- a port with the same row in its place
pub holding_put : (rows : List PortRow) (zs : List Port) (k : ℕ) (z w : Port) → AreHolding rows zs → slice_get zs k ≡ Some z → w.row ≡ z.row → IsHolding w → AreHolding rows (slice_set zs k w)
holding_put [] [] k z w h e r g = h
holding_put [] (y ∷ ys) k z w h e r g = absurd h
holding_put (x ∷ xs) [] k z w h e r g = absurd h
holding_put (x ∷ xs) (y ∷ ys) zero z w h e r g = (r ∙ ap (λ (v : Port). v.row) (sym (same_some y z e)) ∙ h.0, g, h.2)
holding_put (x ∷ xs) (y ∷ ys) (suc k) z w h e r g = (h.0, h.1, holding_put xs ys k z w h.2 e r g)

-- all ports are empty
holding_cleared : (rows : List PortRow) (zs : List Port) → AreHolding rows zs → AreHolding rows (map cleared_port zs)
holding_cleared [] [] h = h
holding_cleared [] (y ∷ ys) h = absurd h
holding_cleared (x ∷ xs) [] h = absurd h
holding_cleared (x ∷ xs) (y ∷ ys) h = (h.0, (λ e. tt), holding_cleared xs ys h.2)

pub more_messages : (P : ArrayVec ℤ → Type 0) (ms : List (ArrayVec ℤ)) (m : ArrayVec ℤ) → AllByRecursion P ms → P m → AllByRecursion P (ms ++ m ∷ [])
more_messages P [] m h g = (g, tt)
more_messages P (x ∷ xs) m h g = (h.0, more_messages P xs m h.1 g)

-- ---- the messages handed in stay
wakes_same : (s : Processes) (p : Runner) (r : ProcessStatus) → (wakes s p r).part.handed ≡ s.handed
wakes_same s p r = either r.suspended refl
  where
    either : (b : Bool) → r.suspended ≡ b → (wakes s p r).part.handed ≡ s.handed
    either true e = rw e refl
    either false e = rw e refl

-- ---- the steps of ports
module _ (rows : List PortRow) where
  -- a source port is a source port by its row
  asked : (place : ℕ) (z : Port) (m : ArrayVec ℤ) → slice_get rows place ≡ Some z.row → Asks rows place m → is_source z ≡ true → HasLength z.row.words m.items
  asked place z m e good source = good z.row e (is_from z.row.direction source)

  -- the first message of a port leaves it
  leaves_sound : (o : Ports) (place : ℕ) → AreHolding rows o.ports → AreHolding rows (arrival.leaves o place).part.ports
  leaves_sound o place h = there (port_at o place) refl
    where
      first : (z : Port) → slice_get o.ports place ≡ Some z → (ms : List (ArrayVec ℤ)) → z.messages ≡ ms → AreHolding rows (arrival.leaves_first o place z ms).part.ports
      first z e [] k = h
      first z e (m ∷ rest) k =
          holding_put rows o.ports place z (record z { messages = rest }) h e refl
          (λ source. (subst (λ (ms : List (ArrayVec ℤ)). AllByRecursion (λ m. HasLength z.row.words m.items) ms) k ((holding_at rows o.ports place z h e).1 source)).1)

      there : (p : Option Port) → slice_get o.ports place ≡ p → AreHolding rows (arrival.leaves_of o place p).part.ports
      there None e = h
      there (Some z) e = first z e z.messages refl

  -- a message at a port that is no source
  arrives_sound : (at : At) (b : Sharing Ports) (place : ℕ) (m : ArrayVec ℤ) → ((x : PortRow) → slice_get rows place ≡ Some x → x.direction ≡ direction.Destination) → IsSoundSharing rows b → IsSoundSharing rows (arrival.arrives at b place m).part
  arrives_sound at b place m only h = there (port_at b.shared place) refl
    where
      never : (z : Port) → slice_get b.shared.ports place ≡ Some z → is_source z ≡ true → ⊥
      never z e source = clash z.row.direction (only z.row (holding_at rows b.shared.ports place z h.holding e).0) source
        where
          clash : (d : PortDirection) → d ≡ direction.Destination → is_source_direction d ≡ true → ⊥
          clash d k s = let t : is_source_direction direction.Destination ≡ true = sym (ap is_source_direction k) ∙ s in cc

      put : (z w : Port) → slice_get b.shared.ports place ≡ Some z → w.row ≡ z.row → IsSoundSharing rows (becomes_port b place w).part
      put z w e r = record { holding = holding_put rows b.shared.ports place z w h.holding e r (λ source. absurd (never z e (ap (λ (x : PortRow). is_source_direction x.direction) (sym r) ∙ source))); processes = h.processes }

      queuing : (z : Port) → slice_get b.shared.ports place ≡ Some z → (f : Option (Runner × ProcessStatus)) → IsSoundSharing rows (arrival.arrives_queuing b place z m f).part
      queuing z e (Some f) = record { holding = h.holding; processes = released_with_sound rows b.processes f.0 f.1 code.NoError (pos (length m.items) ∷ []) h.processes }
      queuing z e None = full (is_full z)
        where
          full : (t : Bool) → IsSoundSharing rows (if t then arrival.is_lost b place z m else after (arrival.arrived b z m) (becomes_port b place (with_message z m))).part
          full true = put z (record z { overflowed = true }) e refl
          full false = put z (with_message z m) e refl

      there : (p : Option Port) → slice_get b.shared.ports place ≡ p → IsSoundSharing rows (arrival.arrives_at at b place m p).part
      there None e = h
      there (Some z) e = kind (is_sampling z)
        where
          kind : (t : Bool) → IsSoundSharing rows (if t then arrival.arrives_sampling at b place z m else arrival.arrives_queuing b place z m (first_waiting b.processes (list place))).part
          kind true = put z (record (with_sample z m) { arrival = at.now }) e refl
          kind false = queuing z e (first_waiting b.processes (list place))

  -- ---- senders that enter
  abbrev HaveGood : ℕ → Processes → List Entry → Type 0
  HaveGood place s es = AllByRecursion (HasHanded rows s.handed place) es

  -- after one has entered, or not
  record Entered (b c : Sharing Ports) : Type 0 where
    sound : IsSoundSharing rows c
    handed : c.processes.handed ≡ b.processes.handed

  enters_sound : (place : ℕ) (e : Entry) (b : Sharing Ports) → HasHanded rows b.processes.handed place e → IsSoundSharing rows b → Entered b (arrival.enters_port b place e (port_at b.shared place)).part
  enters_sound place e b good h = there (port_at b.shared place) refl
    where
      found : (z : Port) → slice_get b.shared.ports place ≡ Some z → (o : Option ProcessStatus) → Entered b (arrival.enters_found b place z (numbered e.process o)).part
      found z k None = record { sound = h; handed = refl }
      found z k (Some r) =
          let at = holding_at rows b.shared.ports place z h.holding k in
          record {
            sound = record {
              holding = holding_put rows b.shared.ports place z (with_message z (handed_by b.processes (runner.Process e.process))) h.holding k refl
                  (λ source. more_messages (λ m. HasLength z.row.words m.items) z.messages (handed_by b.processes (runner.Process e.process)) (at.1 source) (asked place z (handed_by b.processes (runner.Process e.process)) at.0 good source));
              processes = released_sound rows b.processes (runner.Process e.process) r code.NoError h.processes;
            };
            handed = wakes_same (no_longer_waits b.processes (runner.Process e.process)) (runner.Process e.process) r;
          }

      there : (p : Option Port) → slice_get b.shared.ports place ≡ p → Entered b (arrival.enters_port b place e p).part
      there None k = record { sound = h; handed = refl }
      there (Some z) k = full (is_full z)
        where
          full : (t : Bool) → Entered b (if t then nothing b else arrival.enters_found b place z (numbered e.process (row_of b.processes (runner.Process e.process)))).part
          full true = record { sound = h; handed = refl }
          full false = found z k (row_of b.processes (runner.Process e.process))

  all_enter_sound : (place : ℕ) (es : List Entry) (b : Sharing Ports) → HaveGood place b.processes es → IsSoundSharing rows b → IsSoundSharing rows (arrival.all_enter es place b).part
  all_enter_sound place [] b good h = h
  all_enter_sound place (e ∷ es) b good h =
      let g = enters_sound place e b good.0 h in
      all_enter_sound place es (arrival.enters_port b place e (port_at b.shared place)).part (subst (λ (ms : List (ArrayVec ℤ)). AllByRecursion (HasHanded rows ms place) es) (sym g.handed) good.1) g.sound

  admits_sound : (place : ℕ) (b : Sharing Ports) → IsSoundSharing rows b → IsSoundSharing rows (arrival.admits b place).part
  admits_sound place b h = all_enter_sound place (waiting b.processes (list place)) b (at_place (HasHanded rows b.processes.handed) b.processes.queues.ports place h.processes.handed) h

  -- ---- Clear
  -- as many records as before
  ready_same : (o : Option ProcessStatus) (xs : List ProcessStatus) → length (ready_init o xs) ≡ length xs
  ready_same None xs = refl
  ready_same (Some r) xs = length-set xs 0 (record r { state = Ready })

  started_same : (m : Mode) (xs : List ProcessStatus) → length (started_rows m xs) ≡ length xs
  started_same mode.Idle xs = refl
  started_same mode.ColdStart xs = ready_same (slice_get xs 0) xs
  started_same mode.WarmStart xs = ready_same (slice_get xs 0) xs
  started_same mode.Normal xs = ready_same (slice_get xs 0) xs

  pub clears_sound : (k : Kernel) (m : Mode) (c : StartCondition) → IsSoundKernel rows k → IsSoundKernel rows (clears k m c).part
  clears_sound k m c h = record {
    holding = holding_cleared rows k.ports.ports h.holding;
    processes = record {
      handed = emptied_in (HasHanded rows k.processes.handed) 0 k.processes.queues.ports;
      placed = subst (λ (n : ℕ). n ≤ length k.processes.handed + 2) (sym (started_same m (map forgotten k.processes.rows) ∙ length-map k.processes.rows forgotten)) h.processes.placed;
    };
  }

  pub then_clears_sound : (k : Kernel) (o : Option Mode) → IsSoundKernel rows k → IsSoundKernel rows (then_clears k o).part
  then_clears_sound k None h = h
  then_clears_sound k (Some m) h = clears_sound k m condition.HmPartitionRestart h

  -- ---- the steps of a partition
  module _ {C : Type 0} where
    -- the actions of the kernel change neither the ports nor the waiting processes
    act_sound : (e : Engine C) (a : Action) (w : World C) → IsSoundKernel rows w.kernel → IsSoundKernel rows (act e a w).kernel
    act_sound e (action.Begin p) w h = h
    act_sound e (action.Stop p) w h = h
    act_sound e action.StopAll w h = h
    act_sound e (action.Reply p answer) w h = h
    act_sound e action.Restore w h = h
    act_sound e (action.Write place array) w h = h
    act_sound e (action.Queue error) w h = h

    acts_sound : (e : Engine C) (actions : List Action) (w : World C) → IsSoundKernel rows w.kernel → IsSoundKernel rows (act_all e actions w).kernel
    acts_sound e [] w h = h
    acts_sound e (a ∷ rest) w h = acts_sound e rest (act e a w) (act_sound e a w h)

    -- a step of the kernel with its actions
    pub moved_sound : (at : At) (e : Engine C) (s : Step Kernel) (w : World C) → IsSoundKernel rows s.part → IsSoundKernel rows (moved at e s w).world.kernel
    moved_sound at e s w h = acts_sound e s.actions (record w { kernel = s.part }) h

    pub starts_sound : (at : At) (c : StartCondition) (x : Member C) → IsSoundKernel rows x.world.kernel → IsSoundKernel rows (moved at x.engine (clears x.world.kernel mode.ColdStart c) x.world).world.kernel
    starts_sound at c x h = moved_sound at x.engine (clears x.world.kernel mode.ColdStart c) x.world (clears_sound x.world.kernel mode.ColdStart c h)

    pub breaks_sound : (at : At) (x : Member C) → IsSoundKernel rows x.world.kernel → IsSoundKernel rows (moved at x.engine (breaks x.world.kernel) x.world).world.kernel
    breaks_sound at x h = moved_sound at x.engine (breaks x.world.kernel) x.world (then_clears_sound x.world.kernel (mode_of_action (action_of x.world.kernel.fixed.health error.HardwareFault)) h)

    pub port_leaves_sound : (at : At) (port : PortId) (x : Member C) → IsSoundKernel rows x.world.kernel
        → IsSoundKernel rows (moved at x.engine (of_ports_alone x.world.kernel (arrival.leaves x.world.kernel.ports (place_of_port port))) x.world).world.kernel
    port_leaves_sound at port x h =
        moved_sound at x.engine (of_ports_alone x.world.kernel (arrival.leaves x.world.kernel.ports (place_of_port port))) x.world
        (record { holding = leaves_sound x.world.kernel.ports (place_of_port port) h.holding; processes = h.processes })

    pub port_admits_sound : (at : At) (port : PortId) (x : Member C) → IsSoundKernel rows x.world.kernel
        → IsSoundKernel rows (moved at x.engine (of_ports x.world.kernel (arrival.admits (with_ports x.world.kernel) (place_of_port port))) x.world).world.kernel
    port_admits_sound at port x h =
        let g = admits_sound (place_of_port port) (with_ports x.world.kernel) (record { holding = h.holding; processes = h.processes }) in
        moved_sound at x.engine (of_ports x.world.kernel (arrival.admits (with_ports x.world.kernel) (place_of_port port))) x.world (record { holding = g.holding; processes = g.processes })

    pub port_arrives_sound : (at : At) (port : PortId) (m : ArrayVec ℤ) (y : PortRow) → at_number rows port.0 ≡ Some y → y.direction ≡ direction.Destination → (x : Member C) → IsSoundKernel rows x.world.kernel
        → IsSoundKernel rows (moved at x.engine (of_ports x.world.kernel (arrival.arrives at (with_ports x.world.kernel) (place_of_port port) m)) x.world).world.kernel
    port_arrives_sound at port m y there taken x h =
        let g = arrives_sound at (with_ports x.world.kernel) (place_of_port port) m (λ z e. ap (λ (r : PortRow). r.direction) (same_some z y (sym e ∙ place_at port.0 there)) ∙ taken) (record { holding = h.holding; processes = h.processes }) in
        moved_sound at x.engine (of_ports x.world.kernel (arrival.arrives at (with_ports x.world.kernel) (place_of_port port) m)) x.world (record { holding = g.holding; processes = g.processes })
      where
        place_at : (n : ℕ) → at_number rows n ≡ Some y → slice_get rows (n - 1) ≡ Some y
        place_at zero e = absurd (cc)
        place_at (suc k) e = subst (λ (i : ℕ). slice_get rows i ≡ Some y) (plain k) e
          where
            plain : (k : ℕ) → k ≡ suc k - 1
            plain k = omega arith

-- ---- at first
fresh_holding : (rows : List PortRow) → AreHolding rows (map fresh_port rows)
fresh_holding [] = tt
fresh_holding (x ∷ xs) = (refl, (λ e. tt), fresh_holding xs)

-- lists without entries
none_in : (P : ℕ → Entry → Type 0) (n k : ℕ) → AllIn P k (replicate n [])
none_in P zero k = tt
none_in P (suc n) k = (tt, none_in P n (k + 1))

-- a partition of these ports before its first start
pub fresh_sound : (rows : List PortRow) (fixed : Fixed) (processes : List ProcessStatus) (objects : Objects) (has_handler : Bool) → IsSoundKernel rows (fresh_kernel fixed processes objects (fresh_ports rows) has_handler)
fresh_sound rows fixed processes objects has_handler = record {
  holding = fresh_holding rows;
  processes = record { handed = none_in (HasHanded rows (map no_message processes)) MOST_OBJECTS 0; placed = placed };
}
  where
    placed : suc (suc (length processes)) ≤ length (map no_message processes) + 2
    placed = let e = length-map processes no_message in omega (arith, e)

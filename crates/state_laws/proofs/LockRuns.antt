-- In every run whoever holds the preemption lock by the lines holds it in the kernel.
use Rattle.std.proofs.Common.{◌≡◌, ◌≢◌, ℕ, zero, suc, ℤ, Bool, true, false, List, [], ◌∷◌, ◌++◌, map, nat_eq, Option, Some, None, refl, sym, ap, ◌∙◌, subst}
use Rattle.std.specs.Prelude.{if◌then◌else◌, is_some, option_map, slice_get, slice_set}
use Rattle.std.proofs.lemmas.Bool.{eqb-true, eqb-false, false≢true}
use Rattle.std.proofs.lemmas.Option.{same_Some}
use Rattle.arrayvec.specs.ArrayVec.{ArrayVec}
use Rattle.apex_types.specs.Runners.{place_of}
use Rattle.apex_types.specs.declared.codes.Discipline.{Discipline}
use Rattle.apex_types.specs.declared.codes.Mode.{Mode}
use Rattle.apex_types.specs.declared.codes.Mode.TheVariants as mode
use Rattle.apex_types.specs.declared.codes.StartCondition.{StartCondition}
use Rattle.apex_types.specs.declared.device.DeviceLine.{DeviceLine}
use Rattle.apex_types.specs.declared.event.Event.{Event}
use Rattle.apex_types.specs.declared.event.EventKind.{EventKind}
use Rattle.apex_types.specs.declared.identity.At.{At}
use Rattle.apex_types.specs.declared.identity.ListKey.{ListKey}
use Rattle.apex_types.specs.declared.identity.Runner.{Runner}
use Rattle.apex_types.specs.declared.identity.Runner.TheVariants as runner
use Rattle.apex_types.specs.declared.process.Entry.{Entry}
use Rattle.apex_types.specs.declared.process.Lock.{Lock}
use Rattle.apex_types.specs.declared.process.Lock.TheVariants as lock
use Rattle.apex_types.specs.declared.process.ProcessStatus.{ProcessStatus}
use Rattle.engine_meaning.specs.Digits.{same}
use Rattle.engine_meaning.specs.Engine.{Engine}
use Rattle.isolation.proofs.Kept.{move_keeps}
use Rattle.isolation.proofs.Prelude.{slice_get-map}
use Rattle.isolation.proofs.Steps.{IsApart, name_of, map_set_same}
use Rattle.kernel_laws.specs.Agreement.{RecordsAgree, record_at}
use Rattle.kernel_laws.specs.History.{Move, Starts, BreaksDown, Arrives, Leaves, Admits, GoesOut, Advances, makes, Happening, Moves, Tells, happens, all_happen, members_after}
use Rattle.kernel_laws.specs.Numbers.{Numbers, first_numbers}
use Rattle.kernel_laws.specs.OrderLaw.{IsOrdered, chosen_among}
use Rattle.kernel_laws.specs.RunLaw.{AreOrdered, GoThrough, disciplines_of, names_of}
use Rattle.kernel_laws.proofs.Law.{run_goes}
use Rattle.kernel_laws.proofs.OfTick.{tick_goes}
use Rattle.kernel_laws.proofs.Places.{get_set_same, get_set_other}
use Rattle.kernel_laws.proofs.RecordTick.{acts_same}
use Rattle.kernel_meaning.specs.HealthServices.{breaks, then_clears}
use Rattle.kernel_meaning.specs.Kernel.{Fixed, Kernel, of_ports, of_ports_alone, of_processes, with_ports}
use Rattle.kernel_meaning.specs.Objects.{Port, port_at}
use Rattle.kernel_meaning.specs.Partition.{Member, Moved, World, chooses_with_handler, clearing_phase, choice_phase, control_at, due_phase, first_ready, followed_by, given, is_ready, moved, pick, place_of_port, prepares, spending_phase, spends_chosen, tick, ticked, told, treating_phase, treats_asked, treats_due, unless_held, with_world}
use Rattle.kernel_meaning.specs.PartitionServices.{clears}
use Rattle.kernel_meaning.specs.PortServices as ports
use Rattle.kernel_meaning.specs.Processes.{Processes, is_normal, row_of}
use Rattle.kernel_meaning.specs.Step.{Step}
use Rattle.module_meaning.specs.Module.{Module, steps_member, trace}
use Rattle.state_laws.specs.Locks.{Held, lock_by_lines, lock_from, lock_in, locked_by, locks}
use Rattle.state_laws.proofs.LockSteps.{FitsIn, all_lock}
use Rattle.state_laws.proofs.LockServices.{MayCall}
use Rattle.state_laws.proofs.LockObjects.{lock_admits, lock_arrives}
use Rattle.state_laws.proofs.LockKernel.{LocksIn, lock_asked, lock_breaks, lock_choice, lock_clears, lock_then_clears, lock_treats_due, treats_due_other}
use Rattle.state_laws.proofs.Members.{AllOf, all_own}
use Rattle.state_laws.proofs.Moves.{acts_kept}
use Rattle.state_laws.proofs.Subjects.{name_itself}

-- ---- the lines of one partition

abbrev pub lock_after : Option Held → List Event → Option Held
lock_after o [] = o
lock_after o (l ∷ ls) = lock_after (locks o l.kind) ls

after_both : (o : Option Held) (a b : List Event) → lock_after o (a ++ b) ≡ lock_after (lock_after o a) b
after_both o [] b = refl
after_both o (l ∷ a) b = after_both (locks o l.kind) a b

after_told : (o : Option Held) (name : List ℕ) (at : At) (kinds : List EventKind) → lock_after o (told name at kinds) ≡ all_lock o kinds
after_told o name at [] = refl
after_told o name at (k ∷ ks) = after_told (locks o k) name at ks

-- ---- moves

-- after a move, with its lines
pub record LockMoves {C : Type 0} (o : Option Held) (m : Moved C) : Type 0 where
  pub fits : FitsIn (lock_after o m.lines) m.world.kernel.processes

-- INIT is not chosen in mode NORMAL
abbrev is_init : Option Runner → Bool
is_init (Some runner.Init) = true
is_init _ = false

first_is_no_init : (ready : List Entry) → is_init (first_ready ready) ≡ false
first_is_no_init [] = refl
first_is_no_init (e ∷ es) = refl

unless_is_no_init : (l : Lock) (ready : List Entry) → is_init (unless_held l ready) ≡ false
unless_is_no_init lock.Free ready = first_is_no_init ready
unless_is_no_init (lock.Held level q) ready = refl

picks_no_init : (s : Processes) → is_init (pick mode.Normal s) ≡ false
picks_no_init s = by_test (is_ready (row_of s runner.Handler))
  where
    by_test : (b : Bool) → is_init (if b then Some runner.Handler else unless_held s.lock s.ready) ≡ false
    by_test true = refl
    by_test false = unless_is_no_init s.lock s.ready

init_not_normal : (m : Mode) (s : Processes) → pick m s ≡ Some runner.Init → is_normal m ≡ false
init_not_normal mode.Idle s e = refl
init_not_normal mode.ColdStart s e = refl
init_not_normal mode.WarmStart s e = refl
init_not_normal mode.Normal s e = absurd (false≢true (sym (picks_no_init s) ∙ ap is_init e))

-- whoever is chosen may call
chosen_may_call : (m : Mode) (among s : Processes) → s.running ≡ pick m among → RecordsAgree s → (p : Runner) → s.running ≡ Some p → MayCall m s p
chosen_may_call m among s is agree runner.Init e = init_not_normal m among (sym is ∙ e)
chosen_may_call m among s is agree runner.Handler e = tt
chosen_may_call m among s is agree (runner.Process i) e = by_row (record_at s.rows i) (agree.runs i e)
  where
    by_row : (y : Option ProcessStatus) → is_ready y ≡ true → is_some y ≡ true
    by_row None k = absurd (false≢true k)
    by_row (Some r) k = refl

module _ {C : Type 0} (e : Engine C) (at : At) where
  lock_moved : (o : Option Held) (s : Step Kernel) (w : World C) → LocksIn o s → LockMoves o (moved at e s w)
  lock_moved o s w g = record {
    fits = subst (λ (x : Option Held). FitsIn x (moved at e s w).world.kernel.processes) (sym (after_told o w.kernel.fixed.name at s.lines))
        (subst (λ (p : Processes). FitsIn (all_lock o s.lines) p) (sym (acts_same e s.actions (record w { kernel = s.part }))) g.fits);
  }

  lock_followed : (o : Option Held) (m : Moved C) (rest : World C → Moved C) → LockMoves o m → LockMoves (lock_after o m.lines) (rest m.world) → LockMoves o (followed_by m rest)
  lock_followed o m rest h k = record { fits = subst (λ (x : Option Held). FitsIn x (rest m.world).world.kernel.processes) (sym (after_both o m.lines (rest m.world).lines)) k.fits }

  -- ---- a tick

  lock_due_phase : (o : Option Held) (w : World C) → FitsIn o w.kernel.processes → LockMoves o (due_phase e at w)
  lock_due_phase o w h =
      let d = treats_due at w.kernel in
      let g = lock_treats_due at o w.kernel h in
      let m = treating_phase e at w in
      let a = lock_moved o (of_processes w.kernel d.step) w (record { fits = g.fits }) in
      let u = lock_after o m.lines in
      lock_followed o m (clearing_phase e at d.clears) a (lock_moved u (then_clears m.world.kernel d.clears) m.world (lock_then_clears u m.world.kernel a.fits d.clears (treats_due_other at w.kernel)))

  lock_prepares : (o : Option Held) (w : World C) → FitsIn o w.kernel.processes → LockMoves o (prepares e at w)
  lock_prepares o w h =
      let a = lock_due_phase o w h in
      let m = due_phase e at w in
      let u = lock_after o m.lines in
      lock_followed o m (choice_phase e at) a (lock_moved u (chooses_with_handler m.world.kernel) m.world (lock_choice u m.world.kernel a.fits))

  lock_spends : (o : Option Held) (w : World C) (p : Option Runner) → FitsIn o w.kernel.processes → ((q : Runner) → p ≡ Some q → MayCall w.kernel.mode w.kernel.processes q) → LockMoves o (spends_chosen e at p w)
  lock_spends o w None h may = record { fits = h }
  lock_spends o w (Some p) h may =
      let r = ticked e (control_at w.controls (place_of p)) w.words in
      let v : World C = record w { controls = slice_set w.controls (place_of p) r.control; words = r.words } in
      let g = lock_moved o (treats_asked at w.kernel p r.asks (given r.asks r.words)) v (lock_asked o w.kernel h p (may p refl) at r.asks (given r.asks r.words)) in
      record { fits = g.fits }

  lock_tick : (d : ListKey → Discipline) (names : List (List ℕ)) (n : Numbers) (o : Option Held) (w : World C) → IsOrdered d names n w.kernel → FitsIn o w.kernel.processes → LockMoves o (tick e at w)
  lock_tick d names n o w ordered h =
      let t = tick_goes d names n e at w ordered in
      let g = t.1 in
      let k = (due_phase e at w).world.kernel in
      let m = prepares e at w in
      let p = m.world.kernel.processes in
      let a = lock_prepares o w h in
      let same : m.world.kernel.mode ≡ k.mode =
      ap (λ (x : Mode × StartCondition). x.0) (acts_kept e (chooses_with_handler k).actions (record (due_phase e at w).world { kernel = (chooses_with_handler k).part })) in
      let may : (q : Runner) → p.running ≡ Some q → MayCall m.world.kernel.mode p q =
      λ q f. subst (λ (x : Mode). MayCall x p q) (sym same) (chosen_may_call k.mode (chosen_among k) p g.runs g.prepared.records q f) in
      let s = lock_spends (lock_after o m.lines) m.world p.running a.fits may in
      lock_followed o m (spending_phase e at) a (record { fits = s.fits })

  -- ---- moves of messages

  lock_leaves : (o : Option Held) (w : World C) → FitsIn o w.kernel.processes → (place : ℕ) → LockMoves o (moved at e (of_ports_alone w.kernel (ports.leaves w.kernel.ports place)) w)
  lock_leaves o w h place = lock_moved o (of_ports_alone w.kernel (ports.leaves w.kernel.ports place)) w (by_port (port_at w.kernel.ports place))
    where
      by_first : (x : Port) (ms : List (ArrayVec ℤ)) → LocksIn o (of_ports_alone w.kernel (ports.leaves_first w.kernel.ports place x ms))
      by_first x [] = record { fits = h }
      by_first x (m ∷ rest) = record { fits = h }

      by_port : (y : Option Port) → LocksIn o (of_ports_alone w.kernel (ports.leaves_of w.kernel.ports place y))
      by_port None = record { fits = h }
      by_port (Some x) = by_first x x.messages

module _ {C : Type 0} (d : ListKey → Discipline) (called : List (List ℕ)) (n : Numbers) where
  lock_makes : (o : Option Held) (move : Move) (x : Member C) → IsOrdered d called n x.world.kernel → FitsIn o x.world.kernel.processes → LockMoves o (makes move x)
  lock_makes o (Starts at c) x ordered h = lock_moved x.engine at o (clears x.world.kernel mode.ColdStart c) x.world (lock_clears o x.world.kernel h mode.ColdStart c refl)
  lock_makes o (BreaksDown at) x ordered h = lock_moved x.engine at o (breaks x.world.kernel) x.world (lock_breaks o x.world.kernel h)
  lock_makes o (Arrives at port m) x ordered h =
      let g = lock_arrives o (with_ports x.world.kernel) h at (place_of_port port) m in
      lock_moved x.engine at o (of_ports x.world.kernel (ports.arrives at (with_ports x.world.kernel) (place_of_port port) m)) x.world (record { fits = g.fits })
  lock_makes o (Leaves at port) x ordered h = lock_leaves x.engine at o x.world h (place_of_port port)
  lock_makes o (Admits at port) x ordered h =
      let g = lock_admits o (with_ports x.world.kernel) (place_of_port port) h in
      lock_moved x.engine at o (of_ports x.world.kernel (ports.admits (with_ports x.world.kernel) (place_of_port port))) x.world (record { fits = g.fits })
  lock_makes o (GoesOut at channel m) x ordered h = record { fits = h }
  lock_makes o (Advances at) x ordered h = lock_tick x.engine at d called n o x.world ordered h

-- ---- the lines of all partitions

from_both : (name : List ℕ) (o : Option Held) (a b : List Event) → lock_from name o (a ++ b) ≡ lock_from name (lock_from name o a) b
from_both name o [] b = refl
from_both name o (l ∷ a) b = from_both name (locked_by name o l.partition l.kind) a b

-- its own lines count
from_own : (name : List ℕ) (o : Option Held) (ls : List Event) → AllOf name ls → lock_from name o ls ≡ lock_after o ls
from_own name o [] h = refl
from_own name o (l ∷ ls) h =
    let is : locked_by name o l.partition l.kind ≡ locks o l.kind =
    ap (λ (x : Option (List ℕ)). locked_by name o x l.kind) h.0 ∙ ap (λ (b : Bool). if b then locks o l.kind else o) (name_itself name) in
    ap (λ (x : Option Held). lock_from name x ls) is ∙ from_own name (locks o l.kind) ls h.1

-- those of another do not
from_other : (name other : List ℕ) → same name other ≡ false → (o : Option Held) (ls : List Event) → AllOf other ls → lock_from name o ls ≡ o
from_other name other n o [] h = refl
from_other name other n o (l ∷ ls) h =
    let is : locked_by name o l.partition l.kind ≡ o = ap (λ (x : Option (List ℕ)). locked_by name o x l.kind) h.0 ∙ ap (λ (b : Bool). if b then locks o l.kind else o) n in
    ap (λ (x : Option Held). lock_from name x ls) is ∙ from_other name other n o ls h.1

-- ---- a run

module _ {C : Type 0} (name : List ℕ) (place : ℕ) (names : List (List ℕ)) (apart : IsApart name place names) where
  -- whoever is told to hold the lock of the partition at the place is its holder, and all partitions have their names
  pub record LockStands (o : Option Held) (ms : List (Member C)) : Type 0 where
    pub own : (x : Member C) → slice_get ms place ≡ Some x → FitsIn o x.world.kernel.processes
    pub named : map name_of ms ≡ names

  module _ (d : ℕ → ListKey → Discipline) (called : ℕ → List (List ℕ)) where
    step_stands : (o : Option Held) (numbers : ℕ → Numbers) (move : Move) (ms : List (Member C)) (q : ℕ) (y : Option (Member C)) → slice_get ms q ≡ y → AreOrdered d called numbers ms → LockStands o ms
        → LockStands (lock_from name o (steps_member (makes move) ms q y).lines) (steps_member (makes move) ms q y).state
    step_stands o numbers move ms q None e ordered h = h
    step_stands o numbers move ms q (Some x) e ordered h = by_test (nat_eq q place) refl
      where
        y : Member C
        y = with_world x (makes move x).world

        lines : List Event
        lines = (makes move x).lines

        named : map name_of (slice_set ms q y) ≡ names
        named = let k = move_keeps move x in map_set_same name_of ms q x y e (ap (λ (f : Fixed). f.name) k.fixed) ∙ h.named

        at_q : slice_get names q ≡ Some (name_of x)
        at_q = subst (λ (ns : List (List ℕ)). slice_get ns q ≡ Some (name_of x)) h.named (slice_get-map name_of ms q ∙ ap (option_map name_of) e)

        by_test : (b : Bool) → nat_eq q place ≡ b → LockStands (lock_from name o lines) (slice_set ms q y)
        by_test true t =
            let is : q ≡ place = eqb-true q place t in
            let own_name : name_of x ≡ name = same_Some (name_of x) name (sym (subst (λ (i : ℕ). slice_get names i ≡ Some (name_of x)) is at_q) ∙ apart.here) in
            let read : lock_from name o lines ≡ lock_after o lines = from_own name o lines (subst (λ (i : List ℕ). AllOf i lines) own_name (all_own move x)) in
            let g = lock_makes (d (suc q)) (called (suc q)) (numbers (suc q)) o move x (ordered (suc q) x e) (h.own x (subst (λ (i : ℕ). slice_get ms i ≡ Some x) is e)) in
            let there : slice_get (slice_set ms q y) place ≡ Some y = subst (λ (i : ℕ). slice_get (slice_set ms q y) i ≡ Some y) is (get_set_same ms q x y e) in
            record {
              own = λ z f. subst (λ (w : Member C). FitsIn (lock_from name o lines) w.world.kernel.processes) (same_Some y z (sym there ∙ f)) (subst (λ (i : Option Held). FitsIn i y.world.kernel.processes) (sym read) g.fits);
              named = named;
            }
        by_test false t =
            let not : q ≢ place = eqb-false q place t in
            let read : lock_from name o lines ≡ o = from_other name (name_of x) (apart.others q (name_of x) not at_q) o lines (all_own move x) in
            record {
              own = λ z f. subst (λ (i : Option Held). FitsIn i z.world.kernel.processes) (sym read) (h.own z (sym (get_set_other ms q place y not) ∙ f));
              named = named;
            }

    history_stands : (hs : List Happening) (o : Option Held) (numbers : ℕ → Numbers) (ms : List (Member C)) → GoThrough d called hs numbers ms → LockStands o ms
        → LockStands (lock_from name o (all_happen hs ms).lines) (all_happen hs ms).state
    history_stands [] o numbers ms g h = h
    history_stands (Tells at action ∷ hs) o numbers ms g h = history_stands hs o numbers ms g h
    history_stands (Moves zero move ∷ hs) o numbers ms g h = history_stands hs o _ ms g.1.1.1 h
    history_stands (Moves (suc q) move ∷ hs) o numbers ms g h =
        let a = happens (Moves (suc q) move) ms in
        let k = step_stands o numbers move ms q (slice_get ms q) refl g.0 h in
        let rest = history_stands hs (lock_from name o a.lines) _ a.state g.1.1.1 k in
        subst (λ (x : Option Held). LockStands x (all_happen hs a.state).state) (sym (from_both name o a.lines (all_happen hs a.state).lines)) rest

  -- in any number of ticks
  pub run_locks : (m : Module C) (devices : List DeviceLine) (n : ℕ) → AreOrdered (disciplines_of m.members) (names_of m.members) (λ p. first_numbers) m.members → LockStands None m.members
      → (x : Member C) → slice_get (members_after m devices n) place ≡ Some x → lock_by_lines name (trace m devices n) ≡ lock_in x.world.kernel
  run_locks m devices n ordered h x e =
      let run = run_goes m devices n ordered in
      let k = history_stands (disciplines_of m.members) (names_of m.members) run.history None (λ p. first_numbers) m.members run.order h in
      let own = k.own x (subst (λ (ms : List (Member C)). slice_get ms place ≡ Some x) run.members e) in
      ap (lock_by_lines name) run.lines ∙ own.held

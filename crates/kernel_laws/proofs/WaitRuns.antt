-- In every state of every run the waiting lists of each partition agree with its records.
use Rattle.kernel_laws.proofs.Prelude.{◌≡◌, ℕ, zero, suc, ◌+◌, ◌<◌, ◌≤◌, Bool, true, false, List, ◌∷◌, ◌++◌, map, length, Option, Some, None, refl, sym, subst, ◌∙◌, arith, eqb-true, eqb-false, none-some, same_Some, ◌==◌, is_some, slice_get, slice_set, Discipline, DeviceLine, ListKey, ProcessIndex, ProcessStatus, Kernel, Objects, Ports, Member, with_world, Module, steps_member, at_number, Schedule, Move, makes, Happening, Moves, Tells, happens, all_happen, members_after, Numbers, first_numbers, AreOrdered, disciplines_of, names_of}
use Rattle.std.proofs.Common.{[], ap}
use Rattle.std.proofs.lemmas.Bool.{false≢true}
use Rattle.std.proofs.lemmas.List.{length-map, length-replicate}
use Rattle.std.proofs.lemmas.Option.{slice_get_within}
use Rattle.std.specs.Prelude.{replicate}
use Rattle.apex_types.specs.Versions.{costs_of, limits_of}
use Rattle.apex_types.specs.declared.cost.Costs.{Costs}
use Rattle.apex_types.specs.declared.identity.ListKey.TheVariants as key
use Rattle.apex_types.specs.declared.version.Limits.{Limits}
use Rattle.apex_types.specs.declared.limits.TheConstants.{MOST_OBJECTS}
use Rattle.kernel_meaning.specs.Fresh.{fresh_kernel, fresh_queues}
use Rattle.kernel_meaning.specs.Kernel.{Fixed}
use Rattle.machine_meaning.specs.Image.{Image, Item}
use Rattle.machine_meaning.specs.ImageLimits.{EachBeside, IsItem, IsWithinLimits}
use Rattle.machine_meaning.specs.MachineControl.{MachineControl}
use Rattle.machine_meaning.specs.MachineMeaning.{machine_member, machine_members, machine_row}
use Rattle.module_meaning.specs.SourceMeaning.{source_member, source_members, source_row}
use Rattle.module_meaning.specs.Table.{Partition, Table, fixed_of}
use Rattle.pal_meaning.specs.Program as program
use Rattle.kernel_laws.specs.Numbers.{EachAt}
use Rattle.kernel_laws.specs.Ready.{times_listed}
use Rattle.kernel_laws.specs.RunLaw.{GoThrough, RunGoes}
use Rattle.kernel_laws.specs.WhoWaits.{AreListed, HasFewAt, HasFewObjects, HoldsWaiting, Stands, WaitsForObject, is_at_object}
use Rattle.kernel_laws.proofs.Fresh.{none_at}
use Rattle.kernel_laws.proofs.InRange.{IsInRange}
use Rattle.kernel_laws.proofs.Places.{get_set_other, get_set_same}
use Rattle.kernel_laws.proofs.WaitKernel.{KernelHolds}
use Rattle.kernel_laws.proofs.WaitTick.{makes_hold}
use Rattle.kernel_laws.proofs.WaitingCounts.{HasLists, times}

-- ---- through a history

module _ {C : Type 0} (few : ℕ → Type 0) where
  abbrev pub AllHold : List (Member C) → Type 0
  AllHold ms = (p : ℕ) (x : Member C) → at_number ms p ≡ Some x → KernelHolds (few p) x.world.kernel

  put_holds : (ms : List (Member C)) (place : ℕ) (x y : Member C) → AllHold ms → slice_get ms place ≡ Some x → KernelHolds (few (suc place)) y.world.kernel → AllHold (slice_set ms place y)
  put_holds ms place x y h there own zero z e = absurd (none-some z e)
  put_holds ms place x y h there own (suc j) z e = by_test (suc place == suc j) refl
    where
      by_test : (b : Bool) → (suc place == suc j) ≡ b → KernelHolds (few (suc j)) z.world.kernel
      by_test true q =
          let same : suc place ≡ suc j = eqb-true (suc place) (suc j) q in
          let here : slice_get (slice_set ms place y) place ≡ Some z = subst (λ (p : ℕ). at_number (slice_set ms place y) p ≡ Some z) (sym same) e in
          let is : y ≡ z = same_Some y z (sym (get_set_same ms place x y there) ∙ here) in
          subst (λ (p : ℕ). KernelHolds (few p) z.world.kernel) same (subst (λ (w : Member C). KernelHolds (few (suc place)) w.world.kernel) is own)
      by_test false q = h (suc j) z (sym (get_set_other ms place j y (λ k. eqb-false (suc place) (suc j) q (ap suc k))) ∙ e)

  module _ (d : ℕ → ListKey → Discipline) (names : ℕ → List (List ℕ)) where
    happens_hold : (numbers : ℕ → Numbers) (move : Move) (p : ℕ) (ms : List (Member C)) → AreOrdered d names numbers ms → AllHold ms → AllHold (happens (Moves p move) ms).state
    happens_hold numbers move zero ms ordered h = h
    happens_hold numbers move (suc place) ms ordered h = by_member (slice_get ms place) refl
      where
        by_member : (o : Option (Member C)) → slice_get ms place ≡ o → AllHold (steps_member (makes move) ms place o).state
        by_member None there = h
        by_member (Some x) there =
            put_holds ms place x (with_world x (makes move x).world) h there
            (makes_hold (d (suc place)) (names (suc place)) (numbers (suc place)) move x (ordered (suc place) x there) (h (suc place) x there))

    ends_hold : (hs : List Happening) (numbers : ℕ → Numbers) (ms : List (Member C)) → GoThrough d names hs numbers ms → AllHold ms → AllHold (all_happen hs ms).state
    ends_hold [] numbers ms g h = h
    ends_hold (Tells at action ∷ hs) numbers ms g h = ends_hold hs numbers ms g h
    ends_hold (Moves p move ∷ hs) numbers ms g h = let rest = g.1 in let after = rest.1 in ends_hold hs _ _ after.1 (happens_hold numbers move p ms g.0 h)

-- ---- before the first start

none_stands : (k : ListKey) (q : ProcessIndex) → times fresh_queues k q ≡ 0
none_stands k q = ap (times_listed q.0) (none_at k)

there_fresh : {A : Type 0} (n place : ℕ) (x : A) → place < n → is_some (slice_get (replicate n x) place) ≡ true
there_fresh zero place x lt = absurd (omega (arith, lt))
there_fresh (suc n) zero x lt = refl
there_fresh (suc n) (suc place) x lt = there_fresh n place x (omega (arith, lt))

fresh_lists : HasLists fresh_queues
fresh_lists (key.Semaphore place) lt = there_fresh MOST_OBJECTS place [] lt
fresh_lists (key.Event place) lt = there_fresh MOST_OBJECTS place [] lt
fresh_lists (key.Buffer place) lt = there_fresh MOST_OBJECTS place [] lt
fresh_lists (key.Blackboard place) lt = there_fresh MOST_OBJECTS place [] lt
fresh_lists (key.Port place) lt = there_fresh MOST_OBJECTS place [] lt

-- no record of these waits
abbrev AreIdle : List ProcessStatus → Type 0
AreIdle rows = (place : ℕ) → WaitsForObject (slice_get rows place) → ⊥

idle_rows : {A : Type 0} (f : A → ProcessStatus) → ((x : A) → is_at_object (f x).wait ≡ false) → (xs : List A) → AreIdle (map f xs)
idle_rows f idle [] place a = false≢true a
idle_rows f idle (x ∷ xs) zero a = false≢true (sym (idle x) ∙ a)
idle_rows f idle (x ∷ xs) (suc place) a = idle_rows f idle xs place a

few_in_range : {A : Type 0} (xs : List A) → length xs ≤ MOST_OBJECTS → EachAt IsInRange xs
few_in_range xs le place x e = let lt = slice_get_within xs place x e in omega (arith, lt, le)

fresh_holds : (fixed : Fixed) (rows : List ProcessStatus) (objects : Objects) (ports : Ports) (has_handler : Bool) → AreIdle rows
    → KernelHolds (HasFewObjects (fresh_kernel fixed rows objects ports has_handler)) (fresh_kernel fixed rows objects ports has_handler)
fresh_holds fixed rows objects ports has_handler idle = record {
  holds = record {
    waiting = record {
      waits = λ k q n. absurd (none k q n);
      alone = λ j k q n m. absurd (none j q n);
      once = λ k q. let e = none_stands k q in omega (arith, e);
    };
    all = λ few q a. absurd (idle q.0 a);
    lists = fresh_lists;
  };
  objects = λ few. record {
    semaphores = few_in_range objects.semaphores few.semaphores;
    events = few_in_range objects.events few.events;
    buffers = few_in_range objects.buffers few.buffers;
    blackboards = few_in_range objects.blackboards few.blackboards;
  };
  ports = λ few. record { ports = few_in_range ports.ports few.ports };
}
  where
    none : (k : ListKey) (q : ProcessIndex) → Stands fresh_queues k q → ⊥
    none k q n = let e = none_stands k q in omega (arith, e, n)

abbrev IsFresh : {C : Type 0} → Member C → Type 0
IsFresh x = KernelHolds (HasFewObjects x.world.kernel) x.world.kernel

abbrev AreFresh : {C : Type 0} → List (Member C) → Type 0
AreFresh ms = (place : ℕ) (x : Member _) → slice_get ms place ≡ Some x → IsFresh x

machine_fresh : (k : Costs) (s : Schedule) (n : ℕ) (items : List Item) → AreFresh (machine_members k s n items)
machine_fresh k s n [] place x e = absurd (none-some x e)
machine_fresh k s n (i ∷ is) zero x e =
    subst IsFresh (same_Some (machine_member k (fixed_of s n i.partition) i.partition.ports i.section) x e) (fresh_holds _ _ _ _ _ (idle_rows machine_row (λ p. refl) i.section.processes))
machine_fresh k s n (i ∷ is) (suc place) x e = machine_fresh k s (n + 1) is place x e

source_fresh : (k : Costs) (s : Schedule) (n : ℕ) (ps : List Partition) (sources : List program.Program) → AreFresh (source_members k s n ps sources)
source_fresh k s n [] sources place x e = absurd (none-some x e)
source_fresh k s n (p ∷ ps) [] place x e = absurd (none-some x e)
source_fresh k s n (p ∷ ps) (q ∷ qs) zero x e =
    subst IsFresh (same_Some (source_member k (fixed_of s n p) p.ports q) x e) (fresh_holds _ _ _ _ _ (idle_rows source_row (λ r. refl) q.processes))
source_fresh k s n (p ∷ ps) (q ∷ qs) (suc place) x e = source_fresh k s (n + 1) ps qs place x e

module _ {C : Type 0} where
  hold_at_first : (ms : List (Member C)) → AreFresh ms → AllHold (λ p. HasFewAt (at_number ms p)) ms
  hold_at_first ms h zero x e = absurd (none-some x e)
  hold_at_first ms h (suc place) x e = subst (λ (o : Option (Member C)). KernelHolds (HasFewAt o) x.world.kernel) (sym e) (h place x e)

  -- ---- in a run

  state_holds : (few : ℕ → Type 0) (m : Module C) (devices : List DeviceLine) (n p : ℕ) (x : Member C) → AllHold few m.members → RunGoes m devices n → at_number (members_after m devices n) p ≡ Some x
      → KernelHolds (few p) x.world.kernel
  state_holds few m devices n p x h run e =
      ends_hold few (disciplines_of m.members) (names_of m.members) run.history (λ q. first_numbers) m.members run.order h p x (subst (λ (ms : List (Member C)). at_number ms p ≡ Some x) run.members e)

  pub run_holds : (m : Module C) (devices : List DeviceLine) (n p : ℕ) (x : Member C) → AllHold (λ q. HasFewAt (at_number m.members q)) m.members → RunGoes m devices n
      → at_number (members_after m devices n) p ≡ Some x → HoldsWaiting m p x
  run_holds m devices n p x h run e = let g = state_holds (λ q. HasFewAt (at_number m.members q)) m devices n p x h run e in record { waiting = g.holds.waiting; listed = g.holds.all }

  -- if all partitions have few objects and ports
  pub all_listed : (m : Module C) (devices : List DeviceLine) (n p : ℕ) (x : Member C) → AllHold (λ q. Unit {0}) m.members → RunGoes m devices n
      → at_number (members_after m devices n) p ≡ Some x → AreListed x.world.kernel.processes.rows x.world.kernel.processes.queues
  all_listed m devices n p x h run e = let g = state_holds (λ q. Unit {0}) m devices n p x h run e in g.holds.all tt

pub machine_holds : (i : Image)
    → AllHold (λ p. HasFewAt (at_number (machine_members (costs_of i.version) i.schedule 1 i.items) p)) (machine_members (costs_of i.version) i.schedule 1 i.items)
machine_holds i = hold_at_first (machine_members (costs_of i.version) i.schedule 1 i.items) (machine_fresh (costs_of i.version) i.schedule 1 i.items)

pub source_holds : (t : Table) (sources : List program.Program)
    → AllHold (λ p. HasFewAt (at_number (source_members t.costs t.schedule 1 t.partitions sources) p)) (source_members t.costs t.schedule 1 t.partitions sources)
source_holds t sources = hold_at_first (source_members t.costs t.schedule 1 t.partitions sources) (source_fresh t.costs t.schedule 1 t.partitions sources)

-- ---- the partitions of an image within its limits

few_mapped : {A B : Type 0} (f : A → B) (xs : List A) → length xs ≤ MOST_OBJECTS → length (map f xs) ≤ MOST_OBJECTS
few_mapped f xs le = let same = length-map xs f in omega (arith, same, le)

few_replicated : {A : Type 0} (n : ℕ) (x : A) → n ≤ MOST_OBJECTS → length (replicate n x) ≤ MOST_OBJECTS
few_replicated n x le = let same = length-replicate n x in omega (arith, same, le)

abbrev HasFew : {C : Type 0} → Member C → Type 0
HasFew x = HasFewObjects x.world.kernel

item_has_few : (k : Costs) (fixed : Fixed) (limits : Limits) (frame : ℕ) (before : List Item) (i : Item) → IsItem limits frame before i → HasFew (machine_member k fixed i.partition.ports i.section)
item_has_few k fixed limits frame before i is =
    let o = is.section.objects in
    record {
      semaphores = few_mapped _ i.section.semaphores o.semaphore_count.most;
      events = few_replicated i.section.events _ o.events.most;
      buffers = few_mapped _ i.section.buffers o.buffer_count.most;
      blackboards = few_mapped _ i.section.blackboards o.blackboard_count.most;
      ports = few_mapped _ i.partition.ports is.partition.port_count.most;
    }

items_have_few : (k : Costs) (s : Schedule) (n : ℕ) (limits : Limits) (frame : ℕ) (before items : List Item) → EachBeside (IsItem limits frame) before items
    → (place : ℕ) (x : Member MachineControl) → slice_get (machine_members k s n items) place ≡ Some x → HasFew x
items_have_few k s n limits frame before [] each place x e = absurd (none-some x e)
items_have_few k s n limits frame before (i ∷ is) each zero x e =
    subst HasFew (same_Some (machine_member k (fixed_of s n i.partition) i.partition.ports i.section) x e) (item_has_few k (fixed_of s n i.partition) limits frame before i each.0)
items_have_few k s n limits frame before (i ∷ is) each (suc place) x e = items_have_few k s (n + 1) limits frame (before ++ i ∷ []) is each.1 place x e

with_few : (k : Kernel) → HasFewObjects k → KernelHolds (HasFewObjects k) k → KernelHolds (Unit {0}) k
with_few k few h = record {
  holds = record { waiting = h.holds.waiting; all = λ so. h.holds.all few; lists = h.holds.lists };
  objects = λ so. h.objects few;
  ports = λ so. h.ports few;
}

pub lawful_holds : (i : Image) → IsWithinLimits i → AllHold (λ p. Unit {0}) (machine_members (costs_of i.version) i.schedule 1 i.items)
lawful_holds i within zero x e = absurd (none-some x e)
lawful_holds i within (suc place) x e =
    with_few x.world.kernel (items_have_few (costs_of i.version) i.schedule 1 (limits_of i.version) i.schedule.frame [] i.items within.items place x e)
    (machine_fresh (costs_of i.version) i.schedule 1 i.items place x e)

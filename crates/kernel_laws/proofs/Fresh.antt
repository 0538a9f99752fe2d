-- Before the first start the lists of each partition have the order of its first numbers.
use Rattle.kernel_laws.proofs.Prelude.{◌≡◌, ℕ, zero, suc, ◌+◌, Bool, List, ◌∷◌, map, Option, Some, None, refl, sym, subst, ◌∙◌, false, none-some, same_Some, slice_get, ListKey, Priority, Entry, ProcessStatus, Kernel, of_member, Objects, Member, Ports, is_ready_state, list_in, list_at, IsQueue, Schedule, RecordsAgree, IsReadyAt, AreNamed, HaveDisciplines, PortsHaveDisciplines, first_numbers, IsOrdered, disciplines_of, names_of, AreOrdered}
use Rattle.std.proofs.Common.{[], ap}
use Rattle.std.proofs.lemmas.Bool.{false≢true}
use Rattle.std.specs.Prelude.{replicate}
use Rattle.apex_types.specs.Versions.{costs_of}
use Rattle.apex_types.specs.declared.cost.Costs.{Costs}
use Rattle.apex_types.specs.declared.event.Subject.{Subject}
use Rattle.apex_types.specs.declared.event.Subject.TheVariants.{Init, Handler, Process}
use Rattle.apex_types.specs.declared.identity.ListKey.TheVariants as key
use Rattle.apex_types.specs.declared.identity.Runner.TheVariants as runner
use Rattle.apex_types.specs.declared.limits.TheConstants.{MOST_OBJECTS}
use Rattle.machine_meaning.specs.Image.{Item, Image}
use Rattle.module_meaning.specs.Table.{Partition, Table}
use Rattle.kernel_meaning.specs.Kernel.{Fixed}
use Rattle.pal_meaning.specs.Program as program
use Rattle.kernel_meaning.specs.Fresh.{init_row, handler_row, fresh_kernel, fresh_queues}
use Rattle.machine_meaning.specs.MachineMeaning.{machine_row, machine_member, machine_members}
use Rattle.module_meaning.specs.SourceMeaning.{source_row, source_member, source_members}
use Rattle.module_meaning.specs.Table.{fixed_of}
use Rattle.kernel_laws.specs.RunLaw.{name_of_subject, names_in, semaphore_discipline, buffer_discipline, port_discipline, disciplines_in, no_disciplines}
use Rattle.kernel_laws.proofs.Primitives.{who}
use Rattle.kernel_laws.proofs.Records.{not_ready_plain, not_free}

-- ---- lists

none_in : (n place : ℕ) → list_in (replicate n []) place ≡ []
none_in zero place = refl
none_in (suc n) zero = refl
none_in (suc n) (suc place) = none_in n place

pub none_at : (k : ListKey) → list_at fresh_queues k ≡ []
none_at (key.Semaphore place) = none_in MOST_OBJECTS place
none_at (key.Event place) = none_in MOST_OBJECTS place
none_at (key.Buffer place) = none_in MOST_OBJECTS place
none_at (key.Blackboard place) = none_in MOST_OBJECTS place
none_at (key.Port place) = none_in MOST_OBJECTS place

-- ---- records

abbrev pub name : ProcessStatus → List ℕ
name r = name_of_subject r.who

-- a record of a process that is DORMANT, or waits
abbrev IsAtRest : ProcessStatus → Type 0
IsAtRest r = (r.who ≡ Process (name_of_subject r.who)) × (is_ready_state r.state ≡ false)

abbrev AreAtRest : List ProcessStatus → Type 0
AreAtRest rows = (place : ℕ) (r : ProcessStatus) → slice_get rows place ≡ Some r → IsAtRest r

at_rest : {A : Type 0} (f : A → ProcessStatus) → ((x : A) → IsAtRest (f x)) → (xs : List A) → AreAtRest (map f xs)
at_rest f is [] place r e = absurd (none-some r e)
at_rest f is (x ∷ xs) zero r e = subst IsAtRest (same_Some (f x) r e) (is x)
at_rest f is (x ∷ xs) (suc place) r e = at_rest f is xs place r e

-- their subjects are those of their names
at_rest_named : (rows : List ProcessStatus) → AreAtRest rows → map who rows ≡ map Process (map name rows)
at_rest_named [] h = refl
at_rest_named (r ∷ rows) h =
    let first = h 0 r refl in
    ap (λ (s : Subject). s ∷ map who rows) first.0 ∙ ap (λ (ss : List Subject). Process (name r) ∷ ss) (at_rest_named rows (λ place. h (suc place)))

none_ready : (rows : List ProcessStatus) → AreAtRest rows → (place : ℕ) (priority : Priority) (o : Option ProcessStatus) → slice_get rows place ≡ o → IsReadyAt o priority → ⊥
none_ready rows h place priority None e k = k
none_ready rows h place priority (Some r) e k = let g = h place r e in false≢true (sym g.1 ∙ k.0)

module _ (fixed : Fixed) (rows : List ProcessStatus) (objects : Objects) (ports : Ports) (has_handler : Bool) where
  abbrev fresh : Kernel
  fresh = fresh_kernel fixed rows objects ports has_handler

  fresh_named : AreAtRest rows → AreNamed (names_in fresh) (init_row ∷ handler_row ∷ rows)
  fresh_named h = ap (λ (ss : List Subject). Init ∷ Handler ∷ ss) (at_rest_named rows h)

  fresh_objects : HaveDisciplines (disciplines_in fresh) objects
  fresh_objects = record {
    semaphores = λ place x e. sym (ap semaphore_discipline e);
    events = λ place x e. refl;
    buffers = λ place x e. sym (ap buffer_discipline e);
    blackboards = λ place x e. refl;
  }

  fresh_ports : PortsHaveDisciplines (disciplines_in fresh) ports
  fresh_ports place x e = sym (ap port_discipline e)

  fresh_queue : (k : ListKey) → IsQueue (disciplines_in fresh k) first_numbers.waiting first_numbers.next (list_at fresh_queues k)
  fresh_queue k = subst (λ (list : List Entry). IsQueue (disciplines_in fresh k) first_numbers.waiting first_numbers.next list) (sym (none_at k)) (record { ordered = tt; below = tt })

  -- no process is ready, and no record is READY or RUNNING
  fresh_agrees : AreAtRest rows → RecordsAgree fresh.processes
  fresh_agrees h = record {
    listed = λ e. ((λ a. absurd a), (λ k. absurd (none_ready rows h e.process.0 e.priority (slice_get rows e.process.0) refl k)));
    plain = λ p r e. let g = h p.0 r e in not_ready_plain r g.1;
    runs = λ p e. absurd (none-some (runner.Process p) e);
    holds = λ level p e. absurd (not_free level p e);
    init = refl;
    handler = refl;
  }

  fresh_ordered : AreAtRest rows → IsOrdered (disciplines_in fresh) (names_in fresh) first_numbers fresh
  fresh_ordered h = record {
    order = record { ready = record { ordered = tt; below = tt }; queues = fresh_queue };
    records = fresh_agrees h;
    named = fresh_named h;
    objects = fresh_objects;
    ports = fresh_ports;
  }

-- ---- the members of a module

abbrev IsFresh : {C : Type 0} → Member C → Type 0
IsFresh x = IsOrdered (disciplines_in x.world.kernel) (names_in x.world.kernel) first_numbers x.world.kernel

abbrev AreFresh : {C : Type 0} → List (Member C) → Type 0
AreFresh ms = (place : ℕ) (x : Member _) → slice_get ms place ≡ Some x → IsFresh x

machine_fresh : (k : Costs) (s : Schedule) (n : ℕ) (items : List Item) → AreFresh (machine_members k s n items)
machine_fresh k s n [] place x e = absurd (none-some x e)
machine_fresh k s n (i ∷ is) zero x e =
    subst IsFresh (same_Some (machine_member k (fixed_of s n i.partition) i.partition.ports i.section) x e)
    (fresh_ordered _ _ _ _ _ (at_rest machine_row (λ p. (refl, refl)) i.section.processes))
machine_fresh k s n (i ∷ is) (suc place) x e = machine_fresh k s (n + 1) is place x e

source_fresh : (k : Costs) (s : Schedule) (n : ℕ) (ps : List Partition) (sources : List program.Program) → AreFresh (source_members k s n ps sources)
source_fresh k s n [] sources place x e = absurd (none-some x e)
source_fresh k s n (p ∷ ps) [] place x e = absurd (none-some x e)
source_fresh k s n (p ∷ ps) (q ∷ qs) zero x e =
    subst IsFresh (same_Some (source_member k (fixed_of s n p) p.ports q) x e) (fresh_ordered _ _ _ _ _ (at_rest source_row (λ r. (refl, refl)) q.processes))
source_fresh k s n (p ∷ ps) (q ∷ qs) (suc place) x e = source_fresh k s (n + 1) ps qs place x e

module _ {C : Type 0} where
  -- by the names and the disciplines that they have at first
  pub ordered_at_first : (ms : List (Member C)) → AreFresh ms → AreOrdered (disciplines_of ms) (names_of ms) (λ p. first_numbers) ms
  ordered_at_first ms h zero x e = absurd (none-some x e)
  ordered_at_first ms h (suc place) x e =
      subst (λ (o : Option (Member C)). IsOrdered (of_member no_disciplines (λ y. disciplines_in y.world.kernel) o) (of_member [] (λ y. names_in y.world.kernel) o) first_numbers x.world.kernel)
      (sym e) (h place x e)

pub machine_ordered : (i : Image) → AreOrdered (disciplines_of (machine_members (costs_of i.version) i.schedule 1 i.items)) (names_of (machine_members (costs_of i.version) i.schedule 1 i.items)) (λ p. first_numbers) (machine_members (costs_of i.version) i.schedule 1 i.items)
machine_ordered i = ordered_at_first (machine_members (costs_of i.version) i.schedule 1 i.items) (machine_fresh (costs_of i.version) i.schedule 1 i.items)

pub source_ordered : (t : Table) (sources : List program.Program)
    → AreOrdered (disciplines_of (source_members t.costs t.schedule 1 t.partitions sources)) (names_of (source_members t.costs t.schedule 1 t.partitions sources)) (λ p. first_numbers) (source_members t.costs t.schedule 1 t.partitions sources)
source_ordered t sources = ordered_at_first (source_members t.costs t.schedule 1 t.partitions sources) (source_fresh t.costs t.schedule 1 t.partitions sources)

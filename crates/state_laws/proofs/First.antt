-- Before its first start a partition is as it is told to be before the first line.
use Rattle.std.proofs.Common.{◌≡◌, ◌≢◌, ℕ, zero, suc, Bool, true, false, List, ◌∷◌, map, Some, None, refl, sym, ap, ◌∙◌, subst}
use Rattle.std.specs.Prelude.{◌+◌, slice_get, option_map}
use Rattle.std.proofs.lemmas.Bool.{false≢true}
use Rattle.std.proofs.lemmas.Option.{none-some, same_Some}
use Rattle.apex_types.specs.Runners.{place_of}
use Rattle.apex_types.specs.declared.codes.ProcessState.TheVariants.{Dormant}
use Rattle.apex_types.specs.declared.codes.StartCondition.TheVariants as condition
use Rattle.apex_types.specs.declared.device.DeviceLine.{DeviceLine}
use Rattle.apex_types.specs.declared.event.Subject.{Subject}
use Rattle.apex_types.specs.declared.event.Subject.TheVariants.{Init, Handler, Process}
use Rattle.apex_types.specs.declared.process.ProcessStatus.{ProcessStatus}
use Rattle.isolation.proofs.Prelude.{slice_get-map}
use Rattle.isolation.proofs.SourceLaw.{source_record, members_at, all_apart}
use Rattle.isolation.proofs.Steps.{IsApart, name_of}
use Rattle.kernel_laws.specs.History.{members_after}
use Rattle.kernel_laws.specs.Numbers.{first_numbers}
use Rattle.kernel_laws.specs.RunLaw.{disciplines_of, names_of}
use Rattle.kernel_laws.proofs.Fresh.{source_ordered}
use Rattle.kernel_laws.proofs.WaitRuns.{source_holds}
use Rattle.kernel_meaning.specs.Fresh.{fresh_kernel, init_row, handler_row}
use Rattle.kernel_meaning.specs.Kernel.{Fixed, Kernel}
use Rattle.kernel_meaning.specs.Objects.{Objects, Ports}
use Rattle.kernel_meaning.specs.Partition.{Member}
use Rattle.module_meaning.specs.Accepted.{IsJudged}
use Rattle.module_meaning.specs.SourceMeaning.{source_members, source_module, source_row, source_trace}
use Rattle.module_meaning.specs.Table.{Partition, Table, at_number}
use Rattle.pal_meaning.specs.Program as program
use Rattle.pal_meaning.specs.SourceControl.{SourceControl}
use Rattle.kernel_laws.specs.Names.{HasOwnNames}
use Rattle.kernel_laws.proofs.OwnNames.{apart_of}
use Rattle.state_laws.specs.Spending.{owner_in, worker}
use Rattle.state_laws.specs.Starts.{starts_in}
use Rattle.state_laws.specs.States.{TellsState}
use Rattle.state_laws.specs.Told.{Told, first_told, told, worked_in, worker_by_lines}
use Rattle.state_laws.proofs.Agreement.{KernelAgrees}
use Rattle.kernel_laws.proofs.Places.{mapped}
use Rattle.state_laws.proofs.Members.{AreSaidBy, Stands}
use Rattle.state_laws.proofs.Run.{restarts, run_idle, run_orderly, run_said, run_stands, run_starts, run_worker}

-- ---- the rows of processes

-- rows of processes with names of their own, all DORMANT
pub record AreProcesses (rows : List ProcessStatus) : Type 0 where
  pub named : (i : ℕ) (r : ProcessStatus) → slice_get rows i ≡ Some r → (name : List ℕ) × (r.who ≡ Process name)
  pub apart : (i j : ℕ) (r x : ProcessStatus) → slice_get rows i ≡ Some r → slice_get rows j ≡ Some x → r.who ≡ x.who → i ≡ j
  pub dormant : (i : ℕ) (r : ProcessStatus) → slice_get rows i ≡ Some r → r.state ≡ Dormant

is_init : Subject → Bool
is_init Init = true
is_init _ = false

is_handler : Subject → Bool
is_handler Handler = true
is_handler _ = false

not_init : (name : List ℕ) (w : Subject) → w ≡ Process name → Init ≡ w → ⊥
unfolding is_init
not_init name w e k = false≢true (sym (ap is_init e) ∙ sym (ap is_init k))

not_handler : (name : List ℕ) (w : Subject) → w ≡ Process name → Handler ≡ w → ⊥
unfolding is_handler
not_handler name w e k = false≢true (sym (ap is_handler e) ∙ sym (ap is_handler k))

init_is_not_handler : Init ≡ Handler → ⊥
unfolding is_init
init_is_not_handler e = false≢true (sym (ap is_init e))

module _ (rows : List ProcessStatus) (h : AreProcesses rows) where
  abbrev all_rows : List ProcessStatus
  all_rows = init_row ∷ handler_row ∷ rows

  first_apart : (i j : ℕ) (r x : ProcessStatus) → slice_get all_rows i ≡ Some r → slice_get all_rows j ≡ Some x → r.who ≡ x.who → i ≡ j
  first_apart zero zero r x e f same = refl
  first_apart zero (suc zero) r x e f same = absurd (init_is_not_handler (ap (λ (y : ProcessStatus). y.who) (same_Some init_row r e) ∙ same ∙ sym (ap (λ (y : ProcessStatus). y.who) (same_Some handler_row x f))))
  first_apart zero (suc (suc j)) r x e f same = let n = h.named j x f in absurd (not_init n.0 x.who n.1 (ap (λ (y : ProcessStatus). y.who) (same_Some init_row r e) ∙ same))
  first_apart (suc zero) zero r x e f same = absurd (init_is_not_handler (ap (λ (y : ProcessStatus). y.who) (same_Some init_row x f) ∙ sym same ∙ sym (ap (λ (y : ProcessStatus). y.who) (same_Some handler_row r e))))
  first_apart (suc zero) (suc zero) r x e f same = refl
  first_apart (suc zero) (suc (suc j)) r x e f same = let n = h.named j x f in absurd (not_handler n.0 x.who n.1 (ap (λ (y : ProcessStatus). y.who) (same_Some handler_row r e) ∙ same))
  first_apart (suc (suc i)) zero r x e f same = let n = h.named i r e in absurd (not_init n.0 r.who n.1 (ap (λ (y : ProcessStatus). y.who) (same_Some init_row x f) ∙ sym same))
  first_apart (suc (suc i)) (suc zero) r x e f same = let n = h.named i r e in absurd (not_handler n.0 r.who n.1 (ap (λ (y : ProcessStatus). y.who) (same_Some handler_row x f) ∙ sym same))
  first_apart (suc (suc i)) (suc (suc j)) r x e f same = ap (λ (n : ℕ). suc (suc n)) (h.apart i j r x e f same)

  first_states : (i : ℕ) (r : ProcessStatus) → slice_get all_rows i ≡ Some r → Dormant ≡ r.state
  first_states zero r e = ap (λ (y : ProcessStatus). y.state) (same_Some init_row r e)
  first_states (suc zero) r e = ap (λ (y : ProcessStatus). y.state) (same_Some handler_row r e)
  first_states (suc (suc i)) r e = sym (h.dormant i r e)

  pub first_agrees : (fixed : Fixed) (objects : Objects) (ports : Ports) (has_handler : Bool) → KernelAgrees (restarts first_told) (fresh_kernel fixed rows objects ports has_handler)
  first_agrees fixed objects ports has_handler = record {
    mode = refl;
    condition = refl;
    next = refl;
    orderly = refl;
    processes = record {
      named = record { apart = first_apart; first = λ r e. sym (ap (λ (y : ProcessStatus). y.who) (same_Some init_row r e)) };
      states = first_states;
      running = refl;
      runs = λ p e. absurd (none-some p e);
    };
  }

name_or : List ℕ → Subject → List ℕ
name_or other (Process name) = name
name_or other _ = other

same_process : (a b : List ℕ) → Process a ≡ Process b → a ≡ b
unfolding name_or
same_process a b e = ap (name_or a) e

module _ {A : Type 0} (f : A → ProcessStatus) (name : A → List ℕ) (who : (x : A) → (f x).who ≡ Process (name x)) (rests : (x : A) → (f x).state ≡ Dormant) (xs : List A)
    (apart : (i j : ℕ) (x y : A) → slice_get xs i ≡ Some x → slice_get xs j ≡ Some y → name x ≡ name y → i ≡ j) where
  pub are_processes : AreProcesses (map f xs)
  are_processes = record {
    named = λ i r e. let m = mapped f xs i r e in (name m.0, sym (ap (λ (y : ProcessStatus). y.who) m.2) ∙ who m.0);
    apart = λ i j r x e g same.
        let m = mapped f xs i r e in
        let n = mapped f xs j x g in
        apart i j m.0 n.0 m.1 n.1 (same_process (name m.0) (name n.0) (sym (who m.0) ∙ ap (λ (y : ProcessStatus). y.who) m.2 ∙ same ∙ sym (ap (λ (y : ProcessStatus). y.who) n.2) ∙ who n.0));
    dormant = λ i r e. let m = mapped f xs i r e in sym (ap (λ (y : ProcessStatus). y.state) m.2) ∙ rests m.0;
  }

-- what is told of a kernel that it agrees with
pub tells : (t : Told) (k : Kernel) → KernelAgrees (restarts t) k → TellsState t k
tells t k h = let p = h.processes in record { mode = h.mode; condition = h.condition; states = λ q r e. p.states (place_of q) r e; running = p.running }

-- ---- the partition of a source

module _ (t : Table) (sources : List program.Program) (judged : IsJudged t) (place : ℕ) (row : Partition) (p : program.Program) (e : at_number t.partitions (suc place) ≡ Some row) (f : at_number sources (suc place) ≡ Some p)
    (own : HasOwnNames p) where
  abbrev members : List (Member SourceControl)
  members = source_members t.costs t.schedule 1 t.partitions sources

  abbrev pub first : Member SourceControl
  first = source_record t.costs t.schedule (1 + place) row p

  pub at_place : slice_get members place ≡ Some first
  at_place = members_at t.costs t.schedule 1 t.partitions sources place row p e f

  named_here : slice_get (map name_of members) place ≡ Some row.name
  named_here = slice_get-map name_of members place ∙ ap (option_map name_of) at_place

  pub source_apart : IsApart row.name place (map name_of members)
  source_apart = all_apart judged.0 t sources judged.1 place row.name named_here

  source_agrees : KernelAgrees (restarts first_told) first.world.kernel
  source_agrees = first_agrees (map source_row p.processes) (are_processes source_row (λ (q : program.Process). q.name) (λ q. refl) (λ q. refl) p.processes (apart_of (λ (q : program.Process). q.name) p.processes own)) _ _ _ _

  pub source_stands : Stands (disciplines_of members (suc place)) (names_of members (suc place)) row.name place (map name_of members) source_apart (restarts first_told) members
  source_stands = record {
    own = λ x g.
        let h = source_holds t sources (suc place) x g in
        record {
          numbers = first_numbers;
          ordered = source_ordered t sources (suc place) x g;
          holds = record { waiting = h.holds.waiting; all = λ few. absurd few; lists = h.holds.lists };
          agrees = subst (λ (y : Member SourceControl). KernelAgrees (restarts first_told) y.world.kernel) (same_Some first x (sym at_place ∙ g)) source_agrees;
        };
    named = refl;
  }

pub source_tells : (t : Table) (sources : List program.Program) (devices : List DeviceLine) (n p : ℕ) (row : Partition) (q : program.Program) (x : Member SourceControl) → IsJudged t → at_number t.partitions p ≡ Some row
    → at_number sources p ≡ Some q → HasOwnNames q → at_number (members_after (source_module t sources) devices n) p ≡ Some x → TellsState (told row.name (source_trace t sources devices n)) x.world.kernel
source_tells t sources devices n zero row q x judged e f own g = absurd (none-some row e)
source_tells t sources devices n (suc place) row q x judged e f own g =
    let members = source_members t.costs t.schedule 1 t.partitions sources in
    let s = run_stands (disciplines_of members (suc place)) (names_of members (suc place)) row.name place (map name_of members) (source_apart t sources judged place row q e f own) (source_module t sources) devices n
    (source_stands t sources judged place row q e f own) in
    let w = s.own x g in
    tells (told row.name (source_trace t sources devices n)) x.world.kernel w.agrees

pub source_worker : (t : Table) (sources : List program.Program) (devices : List DeviceLine) (n p : ℕ) (row : Partition) (q : program.Program) → IsJudged t → at_number t.partitions p ≡ Some row
    → at_number sources p ≡ Some q → HasOwnNames q → owner_in (source_module t sources) devices n ≡ Some p → worker_by_lines n (told row.name (source_trace t sources devices (suc n))) ≡ worker (source_module t sources) devices n
source_worker t sources devices n zero row q judged e f own g = absurd (none-some row e)
source_worker t sources devices n (suc place) row q judged e f own g =
    let members = source_members t.costs t.schedule 1 t.partitions sources in
    run_worker (disciplines_of members (suc place)) (names_of members (suc place)) row.name place (map name_of members) (source_apart t sources judged place row q e f own) (source_module t sources) devices n
    (source_stands t sources judged place row q e f own) g

module _ (t : Table) (sources : List program.Program) (devices : List DeviceLine) (n : ℕ) (judged : IsJudged t) where
  pub source_orderly : (p : ℕ) (row : Partition) (q : program.Program) → at_number t.partitions p ≡ Some row → at_number sources p ≡ Some q → HasOwnNames q → (told row.name (source_trace t sources devices n)).orderly ≡ true
  source_orderly zero row q e f own = absurd (none-some row e)
  source_orderly (suc place) row q e f own =
      let members = source_members t.costs t.schedule 1 t.partitions sources in
      run_orderly (disciplines_of members (suc place)) (names_of members (suc place)) row.name place (map name_of members) (source_apart t sources judged place row q e f own) (source_module t sources) devices n
      (source_stands t sources judged place row q e f own)

  pub source_starts : (p : ℕ) (row : Partition) (q : program.Program) → at_number t.partitions p ≡ Some row → at_number sources p ≡ Some q → HasOwnNames q → (told row.name (source_trace t sources devices n)).starts ≡ starts_in (source_module t sources) devices p n
  source_starts zero row q e f own = absurd (none-some row e)
  source_starts (suc place) row q e f own =
      let members = source_members t.costs t.schedule 1 t.partitions sources in
      run_starts (disciplines_of members (suc place)) (names_of members (suc place)) row.name place (map name_of members) (source_apart t sources judged place row q e f own) (source_module t sources) devices n
      (source_stands t sources judged place row q e f own)

  pub source_said : (p : ℕ) (row : Partition) (q : program.Program) → at_number t.partitions p ≡ Some row → at_number sources p ≡ Some q → HasOwnNames q → AreSaidBy row.name (Some condition.NormalStart) first_told (source_trace t sources devices n)
  source_said zero row q e f own = absurd (none-some row e)
  source_said (suc place) row q e f own =
      let members = source_members t.costs t.schedule 1 t.partitions sources in
      run_said (disciplines_of members (suc place)) (names_of members (suc place)) row.name place (map name_of members) (source_apart t sources judged place row q e f own) (source_module t sources) devices n
      (source_stands t sources judged place row q e f own)

  pub source_idle : (p : ℕ) (row : Partition) (q : program.Program) → at_number t.partitions p ≡ Some row → at_number sources p ≡ Some q → HasOwnNames q → owner_in (source_module t sources) devices n ≢ Some p
      → worked_in n (told row.name (source_trace t sources devices (suc n))).worked ≡ None
  source_idle zero row q e f own g = absurd (none-some row e)
  source_idle (suc place) row q e f own g =
      let members = source_members t.costs t.schedule 1 t.partitions sources in
      run_idle (disciplines_of members (suc place)) (names_of members (suc place)) row.name place (map name_of members) (source_apart t sources judged place row q e f own) (source_module t sources) devices n
      (source_stands t sources judged place row q e f own) g

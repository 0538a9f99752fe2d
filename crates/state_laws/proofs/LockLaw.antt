-- In every run of a lawful image, and of an accepted module, whoever holds the preemption lock by the lines holds it in the kernel.
use Rattle.std.proofs.Common.{◌≡◌, ℕ, zero, suc, false, List, ◌∷◌, map, Some, None, refl, sym, ap, ◌∙◌, subst}
use Rattle.std.proofs.lemmas.Option.{none-some, same_Some}
use Rattle.apex_types.specs.Versions.{costs_of}
use Rattle.apex_types.specs.declared.device.DeviceLine.{DeviceLine}
use Rattle.apex_types.specs.declared.process.Lock.TheVariants as lock
use Rattle.apex_types.specs.declared.process.ProcessStatus.{ProcessStatus}
use Rattle.isolation.proofs.Law.{members_named}
use Rattle.isolation.proofs.OfImage.{name_in, image_apart}
use Rattle.isolation.proofs.Steps.{name_of}
use Rattle.kernel_laws.specs.History.{members_after}
use Rattle.kernel_laws.specs.Names.{HasOwnNames}
use Rattle.kernel_laws.proofs.Fresh.{machine_ordered, source_ordered}
use Rattle.kernel_laws.proofs.Places.{mapped}
use Rattle.kernel_laws.proofs.SourceNames.{accepted_names}
use Rattle.kernel_meaning.specs.Fresh.{init_row, handler_row}
use Rattle.kernel_meaning.specs.Partition.{Member}
use Rattle.machine_meaning.specs.Image.{Image, Item}
use Rattle.machine_meaning.specs.ImageLimits.{IsLawful}
use Rattle.machine_meaning.specs.MachineControl.{MachineControl}
use Rattle.machine_meaning.specs.MachineMeaning.{machine_members, machine_module, machine_row, machine_trace}
use Rattle.module_meaning.specs.Accepted.{IsJudged, IsModule}
use Rattle.module_meaning.specs.SourceMeaning.{source_members, source_module, source_row, source_trace}
use Rattle.module_meaning.specs.Table.{Partition, Table, at_number}
use Rattle.pal_meaning.specs.Program as program
use Rattle.pal_meaning.specs.SourceControl.{SourceControl}
use Rattle.state_laws.specs.Locks.{lock_by_lines, lock_in}
use Rattle.state_laws.proofs.Agreement.{AreDistinct}
use Rattle.state_laws.proofs.First as source
use Rattle.state_laws.proofs.LockKernel.{AreFree}
use Rattle.state_laws.proofs.LockRuns.{run_locks}
use Rattle.state_laws.proofs.LockSteps.{Fits, waits_on_lock}
use Rattle.state_laws.proofs.OfImages as image

-- before the first start nobody waits, and the lock is free
module _ {A : Type 0} (f : A → ProcessStatus) (idle : (x : A) → waits_on_lock (f x).wait ≡ false) (xs : List A) where
  first_free : AreFree (init_row ∷ handler_row ∷ map f xs)
  first_free zero r e = ap (λ (y : ProcessStatus). waits_on_lock y.wait) (sym (same_Some init_row r e))
  first_free (suc zero) r e = ap (λ (y : ProcessStatus). waits_on_lock y.wait) (sym (same_Some handler_row r e))
  first_free (suc (suc i)) r e = let m = mapped f xs i r e in ap (λ (y : ProcessStatus). waits_on_lock y.wait) (sym m.2) ∙ idle m.0

  first_fits : AreDistinct (init_row ∷ handler_row ∷ map f xs) → Fits None (init_row ∷ handler_row ∷ map f xs) lock.Free
  first_fits named = record { named = named; waits = first_free; holder = tt; held = refl }

-- ---- images

pub image_locks : (i : Image) (devices : List DeviceLine) (n p : ℕ) (item : Item) (x : Member MachineControl) → IsLawful i → at_number i.items p ≡ Some item
    → at_number (members_after (machine_module i) devices n) p ≡ Some x → lock_by_lines item.partition.name (machine_trace i devices n) ≡ lock_in x.world.kernel
image_locks i devices n zero item x lawful e g = absurd (none-some item e)
image_locks i devices n (suc place) item x lawful e g =
    let members = machine_members (costs_of i.version) i.schedule 1 i.items in
    let stands = image.image_stands i lawful place item e in
    let first = image.first i lawful place item e in
    let well = stands.own first (image.at_place i lawful place item e) in
    run_locks (name_in item) place (map name_in i.items) (image_apart i lawful place item e) (machine_module i) devices n (machine_ordered i)
    (record {
      own = λ y f.
          subst (λ (z : Member MachineControl). Fits None z.world.kernel.processes.rows z.world.kernel.processes.lock) (same_Some first y (sym (image.at_place i lawful place item e) ∙ f))
          (first_fits machine_row (λ q. refl) item.section.processes well.agrees.processes.named);
      named = members_named (costs_of i.version) i.schedule 1 i.items;
    })
    x g

-- ---- sources

pub source_locks : (t : Table) (programs : List program.Program) (devices : List DeviceLine) (n p : ℕ) (row : Partition) (q : program.Program) (x : Member SourceControl) → IsJudged t → at_number t.partitions p ≡ Some row
    → at_number programs p ≡ Some q → HasOwnNames q → at_number (members_after (source_module t programs) devices n) p ≡ Some x
    → lock_by_lines row.name (source_trace t programs devices n) ≡ lock_in x.world.kernel
source_locks t programs devices n zero row q x judged e f own g = absurd (none-some row e)
source_locks t programs devices n (suc place) row q x judged e f own g =
    let members = source_members t.costs t.schedule 1 t.partitions programs in
    let stands = source.source_stands t programs judged place row q e f own in
    let first = source.first t programs judged place row q e f own in
    let well = stands.own first (source.at_place t programs judged place row q e f own) in
    run_locks row.name place (map name_of members) (source.source_apart t programs judged place row q e f own) (source_module t programs) devices n (source_ordered t programs)
    (record {
      own = λ y k.
          subst (λ (z : Member SourceControl). Fits None z.world.kernel.processes.rows z.world.kernel.processes.lock) (same_Some first y (sym (source.at_place t programs judged place row q e f own) ∙ k))
          (first_fits source_row (λ r. refl) q.processes well.agrees.processes.named);
      named = refl;
    })
    x g

pub module_locks : (table : List ℕ) (sources : List (List ℕ)) (t : Table) (programs : List program.Program) (devices : List DeviceLine) (n p : ℕ) (row : Partition) (x : Member SourceControl) → IsModule table sources t programs
    → at_number t.partitions p ≡ Some row → at_number (members_after (source_module t programs) devices n) p ≡ Some x
    → lock_by_lines row.name (source_trace t programs devices n) ≡ lock_in x.world.kernel
module_locks table sources t programs devices n zero row x accepted e g = absurd (none-some row e)
module_locks table sources t programs devices n (suc place) row x accepted e g =
    let a = accepted_names t.partitions sources programs place row accepted.accepted e in
    let c = a.1 in
    source_locks t programs devices n (suc place) row a.0 x (accepted.rows.0, accepted.rows.2) e c.0 c.1 g

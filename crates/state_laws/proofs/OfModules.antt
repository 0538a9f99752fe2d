-- In every run of an accepted module the lines tell of a partition what it is.
use Rattle.std.proofs.Common.{◌≡◌, ◌≢◌, ℕ, zero, suc, true, List, Some, None}
use Rattle.std.proofs.lemmas.Option.{none-some}
use Rattle.apex_types.specs.declared.codes.StartCondition.TheVariants as condition
use Rattle.apex_types.specs.declared.device.DeviceLine.{DeviceLine}
use Rattle.kernel_laws.specs.History.{members_after}
use Rattle.kernel_meaning.specs.Partition.{Member}
use Rattle.module_meaning.specs.Accepted.{IsModule}
use Rattle.module_meaning.specs.SourceMeaning.{source_module, source_trace}
use Rattle.module_meaning.specs.Table.{Partition, Table, at_number}
use Rattle.pal_meaning.specs.Program.{Program}
use Rattle.pal_meaning.specs.SourceControl.{SourceControl}
use Rattle.state_laws.specs.Spending.{owner_in, worker}
use Rattle.state_laws.specs.Starts.{starts_in}
use Rattle.state_laws.specs.States.{TellsState}
use Rattle.state_laws.specs.Told.{first_told, told, worked_in, worker_by_lines}
use Rattle.state_laws.proofs.First.{source_idle, source_orderly, source_said, source_starts, source_tells, source_worker}
use Rattle.state_laws.proofs.Members.{AreSaidBy}
use Rattle.kernel_laws.proofs.SourceNames.{accepted_names}

module _ (table : List ℕ) (sources : List (List ℕ)) (t : Table) (programs : List Program) (devices : List DeviceLine) (n : ℕ) (accepted : IsModule table sources t programs) where
  pub module_tells : (p : ℕ) (row : Partition) (x : Member SourceControl) → at_number t.partitions p ≡ Some row → at_number (members_after (source_module t programs) devices n) p ≡ Some x
      → TellsState (told row.name (source_trace t programs devices n)) x.world.kernel
  module_tells zero row x e g = absurd (none-some row e)
  module_tells (suc place) row x e g =
      let a = accepted_names t.partitions sources programs place row accepted.accepted e in
      let c = a.1 in
      source_tells t programs devices n (suc place) row a.0 x (accepted.rows.0, accepted.rows.2) e c.0 c.1 g

  pub module_worker : (p : ℕ) (row : Partition) → at_number t.partitions p ≡ Some row → owner_in (source_module t programs) devices n ≡ Some p
      → worker_by_lines n (told row.name (source_trace t programs devices (suc n))) ≡ worker (source_module t programs) devices n
  module_worker zero row e g = absurd (none-some row e)
  module_worker (suc place) row e g =
      let a = accepted_names t.partitions sources programs place row accepted.accepted e in
      let c = a.1 in
      source_worker t programs devices n (suc place) row a.0 (accepted.rows.0, accepted.rows.2) e c.0 c.1 g

  pub module_orderly : (p : ℕ) (row : Partition) → at_number t.partitions p ≡ Some row → (told row.name (source_trace t programs devices n)).orderly ≡ true
  module_orderly zero row e = absurd (none-some row e)
  module_orderly (suc place) row e =
      let a = accepted_names t.partitions sources programs place row accepted.accepted e in
      let c = a.1 in
      source_orderly t programs devices n (accepted.rows.0, accepted.rows.2) (suc place) row a.0 e c.0 c.1

  pub module_starts : (p : ℕ) (row : Partition) → at_number t.partitions p ≡ Some row → (told row.name (source_trace t programs devices n)).starts ≡ starts_in (source_module t programs) devices p n
  module_starts zero row e = absurd (none-some row e)
  module_starts (suc place) row e =
      let a = accepted_names t.partitions sources programs place row accepted.accepted e in
      let c = a.1 in
      source_starts t programs devices n (accepted.rows.0, accepted.rows.2) (suc place) row a.0 e c.0 c.1

  pub module_said : (p : ℕ) (row : Partition) → at_number t.partitions p ≡ Some row → AreSaidBy row.name (Some condition.NormalStart) first_told (source_trace t programs devices n)
  module_said zero row e = absurd (none-some row e)
  module_said (suc place) row e =
      let a = accepted_names t.partitions sources programs place row accepted.accepted e in
      let c = a.1 in
      source_said t programs devices n (accepted.rows.0, accepted.rows.2) (suc place) row a.0 e c.0 c.1

  pub module_idle : (p : ℕ) (row : Partition) → at_number t.partitions p ≡ Some row → owner_in (source_module t programs) devices n ≢ Some p → worked_in n (told row.name (source_trace t programs devices (suc n))).worked ≡ None
  module_idle zero row e g = absurd (none-some row e)
  module_idle (suc place) row e g =
      let a = accepted_names t.partitions sources programs place row accepted.accepted e in
      let c = a.1 in
      source_idle t programs devices n (accepted.rows.0, accepted.rows.2) (suc place) row a.0 e c.0 c.1 g

-- What the processor does in each tick of a run.
use Rattle.std.specs.Prelude.{◌≡◌, ◌-◌, ℕ, List, Option, Some, None, map}
use Rattle.apex_types.specs.declared.device.DeviceLine.{DeviceLine}
use Rattle.apex_types.specs.declared.event.Subject.{Subject}
use Rattle.apex_types.specs.declared.identity.At.{At}
use Rattle.kernel_meaning.specs.Windows.{owner}
use Rattle.machine_meaning.specs.Image.{Image, Item}
use Rattle.module_meaning.specs.Module.{Module, Plan}
use Rattle.module_meaning.specs.Table.{Partition, Table}
use Rattle.state_laws.specs.Spending.{before_owner_in, worker}
use Rattle.trace_windows.specs.Counts.{ticks_for}
use Rattle.trace_windows.specs.Uses.{ticks_used}
use Rattle.trace_windows.specs.declared.counted.Row.{Row}
use Rattle.trace_windows.specs.declared.usage.Use.{Use}
use Rattle.trace_windows.specs.declared.usage.Use.TheVariants.{Down}
use Rattle.view_laws.specs.Reading.{use_with}

-- nothing after a shutdown; before, the tick is the owner's, and this worker spends it
abbrev pub use_at : Plan → Option At → Option Subject → Use
use_at plan None worker = Down
use_at plan (Some at) worker = use_with (owner plan.schedule at) (λ p. worker)

-- in tick n of a run
abbrev pub use_in : {C : Type 0} → Module C → List DeviceLine → ℕ → Use
use_in m devices n = let c = before_owner_in m devices n in use_at m.plan c.at (worker m devices n)

-- For each use the rows have just as many ticks as the processor spends so in the run, from one tick on and before another.
abbrev pub AreSpent : {C : Type 0} → Module C → List DeviceLine → (from until : ℕ) → List Row → Type 0
AreSpent m devices from until rows = (u : Use) → ticks_for u rows ≡ ticks_used (use_in m devices) u from (until - from)

-- ---- the names of the partitions, in the order of the table

abbrev pub name_of_item : Item → List ℕ
name_of_item i = i.partition.name

abbrev pub names_of_image : Image → List (List ℕ)
names_of_image image = map name_of_item image.items

abbrev pub name_of_row : Partition → List ℕ
name_of_row p = p.name

abbrev pub names_of_table : Table → List (List ℕ)
names_of_table t = map name_of_row t.partitions

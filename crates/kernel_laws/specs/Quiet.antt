-- Ticks in which nothing happens: of a partition, and of the module.
use Rattle.std.specs.Prelude.{◌≡◌, ◌⊎◌, ℕ, ◌<◌, ◌≤◌, List, [], Some, None, slice_get}
use Rattle.apex_types.specs.declared.device.DeviceLine.{DeviceLine}
use Rattle.apex_types.specs.declared.identity.At.{At}
use Rattle.apex_types.specs.declared.identity.PortId.{PortId}
use Rattle.kernel_meaning.specs.PortServices as arrival
use Rattle.module_meaning.specs.Table.{at_number}
use Rattle.kernel_meaning.specs.Kernel.{Kernel, with_ports}
use Rattle.module_meaning.specs.Module.{of_tick}
use Rattle.kernel_meaning.specs.Partition.{Member, chooses_with_handler, treats_due, messages_to_move, place_of_port}
use Rattle.kernel_meaning.specs.Step.{nothing}
use Rattle.kernel_meaning.specs.Windows.{tick_from}

-- Nothing runs, no runner is chosen, and the handler does not start.
pub record IsIdle (k : Kernel) : Type 0 where
  pub nobody : k.processes.running ≡ None
  pub chosen : chooses_with_handler k ≡ nothing k

-- Nothing is due at a tick: no process is treated, and no Clear follows.
pub record HasNothingDue (at : At) (k : Kernel) : Type 0 where
  pub treated : (treats_due at k).step ≡ nothing k.processes
  pub clears : (treats_due at k).clears ≡ None

-- no message of a port can move, and no process that waits at it can enter
abbrev pub IsAtRest : Kernel → PortId → Type 0
IsAtRest k port =
    (messages_to_move (at_number k.ports.ports port.0) ≡ None)
    ⊎ ((messages_to_move (at_number k.ports.ports port.0) ≡ Some 0) × (arrival.admits (with_ports k) (place_of_port port) ≡ nothing (with_ports k)))

-- A partition in which nothing happens in any tick from `from` on, before `limit`.
pub record IsStill (origin from limit : ℕ) (k : Kernel) : Type 0 where
  pub idle : IsIdle k
  pub due : (t : ℕ) → from ≤ t → t < limit → HasNothingDue (tick_from origin t) k
  pub ports : (port : PortId) → IsAtRest k port

-- each partition is still
abbrev pub AreStill : {C : Type 0} → ℕ → ℕ → ℕ → List (Member C) → Type 0
AreStill origin from limit members = (place : ℕ) (x : Member _) → slice_get members place ≡ Some x → IsStill origin from limit x.world.kernel

-- no line of the devices has a tick from the first number on, before the second
abbrev pub HaveNoLines : ℕ → ℕ → List DeviceLine → Type 0
HaveNoLines from limit lines = (t : ℕ) → from ≤ t → t < limit → of_tick t lines ≡ []

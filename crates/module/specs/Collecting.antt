-- The inputs of one partition that are collected, tick by tick.
use Rattle.std.specs.Prelude.{◌≡◌, ◌<◌, ℕ, zero, suc, ◌+◌, ℤ, List, [], ◌++◌, length, map, Option, Some, None, Result, Ok, Err}
use Rattle.arrayvec.specs.ArrayVec.{ArrayVec}
use Rattle.apex_types.specs.Limits.{MOST_DEVICE_LINES}
use Rattle.apex_types.specs.declared.device.DeviceLine.{DeviceLine}
use Rattle.apex_types.specs.declared.identity.At.{At}
use Rattle.apex_types.specs.declared.identity.PartitionId.{PartitionId}
use Rattle.module_meaning.specs.Table.{Channel}
use Rattle.module_meaning.specs.Module.{Course, Plan, of_tick}
use Rattle.kernel_meaning.specs.Partition.{Member}
use Rattle.kernel_meaning.specs.Objects.{Port}
use Rattle.kernel_meaning.specs.Windows.{tick_from}
use Rattle.isolation.specs.declared.input.Input.{Input}
use Rattle.isolation.specs.declared.input.InputLine.{InputLine}
use Rattle.isolation.specs.Brought.{brought_by, brought_tick, held_port, line_in}
use Rattle.module_meaning.specs.Standing.{Standing, after, begins, ticks}
use Rattle.module.specs.declared.inputs_fault.InputsFault.{InputsFault}
use Rattle.module.specs.declared.inputs_fault.InputsFault.TheVariants as fault

-- ---- what is collected

-- `count` inputs are more than there is room for. Out of memory says nothing.
abbrev pub HasNoRoom : ℕ → InputsFault → Type 0
HasNoRoom count fault.TooMany = MOST_DEVICE_LINES < count
HasNoRoom count fault.Memory = Unit {0}
HasNoRoom count _ = ⊥

-- these inputs of a tick follow those collected so far, unless there is no room for all of them
abbrev pub AreCollected : {X : Type 0} → ℕ → List Input → List InputLine → List InputLine → Result X InputsFault → Type 0
AreCollected tick inputs old new (Ok x) = new ≡ old ++ map (line_in tick) inputs
AreCollected tick inputs old new (Err f) = HasNoRoom (length old + length inputs) f

-- ---- what a port brings

-- the inputs that a message of a port brings, if there is a message
abbrev pub brought_found : ℕ → Option Channel → Option (ArrayVec ℤ) → List Input
brought_found p channel None = []
brought_found p channel (Some m) = brought_by p m channel

-- the inputs that a port of partition q brings, if the partition has a port with this number
abbrev pub held_found : List Channel → ℕ → PartitionId → ℕ → Option Port → List Input
held_found channels p q number None = []
held_found channels p q number (Some x) = held_port channels p q number x

-- ---- a tick that is not shown

-- Such a step was made. `answer` is the tick with the origin valid from here on, or none.
pub record IsMadeUnseen {S : Type 0} (c : Course S) (answer : Option At) (now : S) : Type 0 where
  pub at : answer ≡ c.at
  pub state : now ≡ c.state

-- ---- what the next ticks bring

-- after a shutdown there are no inputs
abbrev pub brought_from : {C : Type 0} → Plan → ℕ → List DeviceLine → ℕ → List (Member C) → Option ℕ → List Input
brought_from plan p lines now members None = []
brought_from plan p lines now members (Some origin) = brought_tick plan p (tick_from origin now) lines (begins now members).state

-- the inputs that the next tick brings partition p, with these device lines
abbrev pub brought_next : {C : Type 0} → Plan → ℕ → List DeviceLine → Standing C → List Input
brought_next plan p lines s = brought_from plan p lines s.now s.members s.origin

-- the inputs that n ticks bring it, one after another, each tick with its own device lines
abbrev pub brought_of : {C : Type 0} → Plan → ℕ → List DeviceLine → ℕ → Standing C → List InputLine
brought_of plan p lines zero s = []
brought_of plan p lines (suc n) s =
    let own = of_tick s.now lines in
    map (line_in s.now) (brought_next plan p own s) ++ brought_of plan p lines n (after s (ticks plan own s))

-- n ticks bring partition p nothing, whatever ticks follow
abbrev pub BringsNothing : {C : Type 0} → Plan → ℕ → List DeviceLine → ℕ → Standing C → Standing C → Type 0
BringsNothing plan p lines n s next = (m : ℕ) → brought_of plan p lines (n + m) s ≡ brought_of plan p lines m next

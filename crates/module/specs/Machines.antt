-- A machine that runs an image tick by tick, and the promise of a tick.
use Rattle.std.specs.Prelude.{◌≡◌, ◌≤◌, ◌<◌, ℕ, zero, suc, ◌+◌, ◌-◌, Bool, true, false, List, Option, Result, Ok, Err, ◌⊎◌}
use Rattle.std.specs.Io.KnownBytes.{Appends}
use Rattle.apex_types.specs.Limits.{MOST_TICKS}
use Rattle.apex_types.specs.Line.{text_of}
use Rattle.apex_types.specs.Line.{TakesBeginning}
use Rattle.apex_types.specs.declared.device.DeviceLine.{DeviceLine}
use Rattle.kernel_laws.specs.Quiet.{HaveNoLines}
use Rattle.machine_meaning.specs.Image.{Image}
use Rattle.kernel_meaning.specs.Partition.{Member}
use Rattle.machine_meaning.specs.MachineControl.{MachineControl}
use Rattle.module_meaning.specs.Module.{Course, of_tick}
use Rattle.machine_meaning.specs.MachineMeaning.{machine_module}
use Rattle.image.specs.Views.{image_of}
use Rattle.partition_base.specs.contracts.machine.PartitionProcessorExecutor.TheImpl.{ghosts as executor}
use Rattle.module.specs.Pieces.{HasRun, HasSkippedSome, IsBrokenOff}
use Rattle.module_meaning.specs.Standing.{Standing, at_first, after, ticks}
use Rattle.module.specs.Views.{standing_of}
use Rattle.module.specs.declared.fault.RunFault.{RunFault}
use Rattle.module.specs.declared.fault.RunFault.TheVariants as fault
use Rattle.module.specs.declared.machine.Machine as code

-- The image, the module between two ticks, and whether the sink failed in an earlier tick.
pub record Machine : Type 0 where
  pub image : Image
  pub standing : Standing MachineControl
  pub failed : Bool

abbrev pub machine_of : code.Machine → Machine
machine_of m = record { image = image_of m.module.image; standing = standing_of executor m.module; failed = m.has_failed }

-- an image before its first tick
abbrev pub fresh_machine : Image → Machine
fresh_machine image = record { image = image; standing = at_first (machine_module image).members; failed = false }

-- the next tick of an image, with these device lines
abbrev pub course_of : List DeviceLine → Machine → Course (List (Member MachineControl))
course_of lines m = ticks (machine_module m.image).plan lines m.standing

-- neither the machine nor the sink was touched
pub record IsUntouched (m next : Machine) (old new : Option (List ℕ)) (before after : ℕ) : Type 0 where
  pub machine : next ≡ m
  pub taken : new ≡ old
  pub quiet : after ≡ before

-- The machine has completed one tick, and the sink has taken the text of its lines.
pub record HasGoneOn (lines : List DeviceLine) (m next : Machine) (old new : Option (List ℕ)) (before now : ℕ) : Type 0 where
  pub image : next.image ≡ m.image
  pub standing : next.standing ≡ after m.standing (course_of lines m)
  pub failed : next.failed ≡ false
  pub written : Appends old new (text_of (course_of lines m).lines)
  pub quiet : now ≡ before

-- The sink has failed, and has taken a prefix of the text of the tick's lines.
pub record HasFailed (lines : List DeviceLine) (m next : Machine) (old new : Option (List ℕ)) (before now : ℕ) : Type 0 where
  pub failed : next.failed ≡ true
  pub beginning : TakesBeginning old new (text_of (course_of lines m).lines)
  pub once : now ≡ before + 1

-- The effect of a tick on a machine and a sink. A machine whose sink failed, or that has completed
-- 2^40 ticks, is refused.
abbrev pub HasTicked : List DeviceLine → Machine → Machine → Option (List ℕ) → Option (List ℕ) → ℕ → ℕ → Result (Unit {0}) RunFault → Type 0
HasTicked lines m next old new before now (Ok done) = (m.failed ≡ false) × (m.standing.now < MOST_TICKS) × HasGoneOn lines m next old new before now
HasTicked lines m next old new before now (Err fault.Write) = (m.failed ≡ false) × (m.standing.now < MOST_TICKS) × HasFailed lines m next old new before now
HasTicked lines m next old new before now (Err fault.Failed) = (m.failed ≡ true) × IsUntouched m next old new before now
HasTicked lines m next old new before now (Err fault.Ticks) = (m.failed ≡ false) × (m.standing.now ≡ MOST_TICKS) × IsUntouched m next old new before now
HasTicked lines m next old new before now (Err _) = ⊥

-- Of `most` ticks, n were made together, which have no device lines and write none.
abbrev pub HasSkipped : ℕ → Machine → Machine → ℕ → Type 0
HasSkipped most m next n = (next.image ≡ m.image) × (next.failed ≡ m.failed) × HasSkippedSome (machine_module m.image).plan most m.standing next.standing n

-- The effect of some calls of `Machine::tick` and `Machine::skip`, one after another, on a machine and a sink. Together they make n ticks. Each
-- call of `tick` gets the device lines of its tick, and no device line is of a tick that is skipped. The first call that is refused is the last
-- one, and its result is that of all.
abbrev pub HaveTicked : List DeviceLine → (calls n : ℕ) → Machine → Machine → Option (List ℕ) → Option (List ℕ) → ℕ → ℕ → Result (Unit {0}) RunFault → Type 0
HaveTicked lines zero n m last old new before now answer = (n ≡ 0) × (answer ≡ Ok tt) × IsUntouched m last old new before now
HaveTicked lines (suc calls) n m last old new before now answer =
    ((0 < n) × (f : RunFault) × (answer ≡ Err f) × HasTicked (of_tick m.standing.now lines) m last old new before now answer)
    ⊎ ((0 < n) × (next : Machine) × (mid : Option (List ℕ)) × (between : ℕ) × HasTicked (of_tick m.standing.now lines) m next old mid before between (Ok tt)
    × HaveTicked lines calls (n - 1) next last mid new between now answer)
    ⊎ ((most : ℕ) × (k : ℕ) × (next : Machine) × (k ≤ n) × HaveNoLines m.standing.now (m.standing.now + k) lines × HasSkipped most m next k
    × HaveTicked lines calls (n - k) next last old new before now answer)

-- Of `most` ticks, n were made together, unless the sink failed.
abbrev pub HasRunOn : List DeviceLine → ℕ → Machine → Machine → Option (List ℕ) → Option (List ℕ) → ℕ → ℕ → Result ℕ RunFault → Type 0
HasRunOn lines most m next old new before now (Ok n) =
    (next.image ≡ m.image) × (next.failed ≡ false) × (n ≤ most) × (next.standing.now ≡ m.standing.now + n) × HasRun (machine_module m.image).plan lines n m.standing next.standing old new before now
HasRunOn lines most m next old new before now (Err fault.Write) = IsBrokenOff (machine_module m.image).plan lines most m.standing old new before now
HasRunOn lines most m next old new before now (Err _) = ⊥

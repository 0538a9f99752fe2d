-- A run that waits for a line, by the run that does not.
use Rattle.std.proofs.Common.{◌≡◌, ◌≤◌, inl, inr, ℕ, Bool, List, Option, Result, Ok, Err, sym, subst}
use Rattle.apex_types.specs.declared.limits.TheConstants.{MOST_TICKS}
use Rattle.apex_types.specs.declared.device.DeviceLine.{DeviceLine}
use Rattle.machine_meaning.specs.Image.{Image}
use Rattle.machine_meaning.specs.ImageReading.{Fault}
use Rattle.machine_meaning.specs.MachineMeaning.{verdict_for}
use Rattle.apex_types.specs.declared.device.DeviceFault.{DeviceFault}
use Rattle.module.specs.Running.{AreRefused}
use Rattle.module.specs.Runs.{Runs}
use Rattle.module.specs.declared.fault.RunFault.{RunFault}
use Rattle.module.specs.declared.fault.RunFault.TheVariants as fault
use Rattle.command_line.specs.Stops.{EndsImage, RunsUntil}

not_write : (read : Result (List DeviceLine) DeviceFault) → AreRefused read fault.Write → ⊥
not_write (Ok lines) h = h
not_write (Err f) h = h

-- it is refused as such a run is
refused_alike : (read : Result Image Fault) (image : Image) (devices : List ℕ) (asked : List (List ℕ)) (n : ℕ) (old : Option (List ℕ)) (f : RunFault) → AreRefused (verdict_for image devices) f → Runs read devices n old old (Err f)
    → RunsUntil read devices asked n old old (Err f)
refused_alike read image devices asked n old fault.Memory refused h = inl h
refused_alike read image devices asked n old fault.Write refused h = absurd (not_write (verdict_for image devices) refused)
refused_alike read image devices asked n old fault.Ticks refused h = h
refused_alike read image devices asked n old (fault.Image f) refused h = h
refused_alike read image devices asked n old (fault.Device f) refused h = h
refused_alike read image devices asked n old fault.Partition refused h = h
refused_alike read image devices asked n old fault.Failed refused h = h

-- the same for the result that is passed on
pub refused_with : (read : Result Image Fault) (image : Image) (devices : List ℕ) (asked : List (List ℕ)) (n : ℕ) (old : Option (List ℕ)) (f : RunFault) (answer : Result Bool RunFault) → answer ≡ Err f → AreRefused (verdict_for image devices) f
    → Runs read devices n old old (Err f) → RunsUntil read devices asked n old old answer
refused_with read image devices asked n old f answer is refused h = subst (RunsUntil read devices asked n old old) (sym is) (refused_alike read image devices asked n old f refused h)

-- it ends so
pub begun_with : (read : Result Image Fault) (image : Image) (devices : List ℕ) (lines : List DeviceLine) (asked : List (List ℕ)) (n : ℕ) (old new : Option (List ℕ)) (answer : Result Bool RunFault)
    → read ≡ Ok image → verdict_for image devices ≡ Ok lines → n ≤ MOST_TICKS → EndsImage asked image lines n old new answer → RunsUntil read devices asked n old new answer
begun_with read image devices lines asked n old new (Ok found) loaded taken few h = (image, lines, record { loaded = loaded; taken = taken; few = few }, h)
begun_with read image devices lines asked n old new (Err fault.Memory) loaded taken few h = inr (image, lines, record { loaded = loaded; taken = taken; few = few }, h)
begun_with read image devices lines asked n old new (Err fault.Write) loaded taken few h = (image, lines, record { loaded = loaded; taken = taken; few = few }, h)
begun_with read image devices lines asked n old new (Err fault.Ticks) loaded taken few h = absurd h
begun_with read image devices lines asked n old new (Err (fault.Image f)) loaded taken few h = absurd h
begun_with read image devices lines asked n old new (Err (fault.Device f)) loaded taken few h = absurd h
begun_with read image devices lines asked n old new (Err fault.Partition) loaded taken few h = absurd h
begun_with read image devices lines asked n old new (Err fault.Failed) loaded taken few h = absurd h

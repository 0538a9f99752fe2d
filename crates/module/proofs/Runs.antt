-- Many ticks of a machine within a run, and a run that its device text refuses.
use Rattle.module.proofs.Prelude.{◌≡◌, ◌≤◌, ℕ, List, Option, Result, Ok, Err, refl, sym, ap, ◌∙◌, text_of, TakesBeginning, IsUnderWay, MOST_TICKS, DeviceFault, DeviceLine, Image, Fault, machine_module, verdict_for, Machine, IsBrokenOff, AreRefused, IsDeviceRefusal, Runs, lines_of, RunFault}
use Rattle.std.proofs.Common.{subst}
use Rattle.module.specs.Machines.{HasRunOn}
use Rattle.module.specs.declared.fault.RunFault.TheVariants as fault
use Rattle.module.proofs.Bursts.{breaks_off}

-- it is made, or the sink fails
pub only_broken : (lines : List DeviceLine) (k : ℕ) (m next : Machine) (old new : Option (List ℕ)) (before now : ℕ) (f : RunFault) → HasRunOn lines k m next old new before now (Err f) → (f ≡ fault.Write) × IsBrokenOff (machine_module m.image).plan lines k m.standing old new before now
only_broken lines k m next old new before now fault.Write h = (refl, h)
only_broken lines k m next old new before now fault.Failed h = absurd h
only_broken lines k m next old new before now fault.Ticks h = absurd h
only_broken lines k m next old new before now (fault.Image f) h = absurd h
only_broken lines k m next old new before now fault.Partition h = absurd h
only_broken lines k m next old new before now (fault.Device f) h = absurd h
only_broken lines k m next old new before now fault.Memory h = absurd h

-- the sink fails in these ticks
pub breaks_by : {old mid new : Option (List ℕ)} {text : List ℕ} {before between : ℕ} (image : Image) (m : Machine) (lines : List DeviceLine) (left k : ℕ) → k ≤ left → m.image ≡ image
    → IsUnderWay old mid text (text_of (lines_of (machine_module image).plan lines left m.standing)) → IsBrokenOff (machine_module m.image).plan lines k m.standing mid new before between
    → TakesBeginning old new text
breaks_by {mid = mid} {new = new} {before = before} {between = between} image m lines left k few same way h =
    breaks_off (machine_module image).plan lines m.standing left k few way (subst (λ (i : Image). IsBrokenOff (machine_module i).plan lines k m.standing mid new before between) same h)

-- ---- a device text that is refused

by_verdict : (read : Result Image Fault) (image : Image) (devices : List ℕ) (n : ℕ) (old : Option (List ℕ)) (v : Result (List DeviceLine) DeviceFault) (f : RunFault) → read ≡ Ok image → n ≤ MOST_TICKS → verdict_for image devices ≡ v → AreRefused v f
    → Runs read devices n old old (Err f)
by_verdict read image devices n old (Err g) (fault.Device f) is few e h = (few, subst (λ (r : Result Image Fault). IsDeviceRefusal r devices f) (sym is) (e ∙ ap (λ (x : DeviceFault). Err x) h), refl)
by_verdict read image devices n old v fault.Memory is few e h = refl
by_verdict read image devices n old (Ok lines) fault.Ticks is few e h = absurd h
by_verdict read image devices n old (Ok lines) (fault.Image f) is few e h = absurd h
by_verdict read image devices n old (Ok lines) fault.Partition is few e h = absurd h
by_verdict read image devices n old (Ok lines) fault.Write is few e h = absurd h
by_verdict read image devices n old (Ok lines) fault.Failed is few e h = absurd h
by_verdict read image devices n old (Ok lines) (fault.Device f) is few e h = absurd h
by_verdict read image devices n old (Err g) fault.Ticks is few e h = absurd h
by_verdict read image devices n old (Err g) (fault.Image f) is few e h = absurd h
by_verdict read image devices n old (Err g) fault.Partition is few e h = absurd h
by_verdict read image devices n old (Err g) fault.Write is few e h = absurd h
by_verdict read image devices n old (Err g) fault.Failed is few e h = absurd h

-- a run with such a text writes nothing
pub device_refused : (read : Result Image Fault) (image : Image) (devices : List ℕ) (n : ℕ) (old : Option (List ℕ)) (f : RunFault) → read ≡ Ok image → n ≤ MOST_TICKS → AreRefused (verdict_for image devices) f
    → Runs read devices n old old (Err f)
device_refused read image devices n old f is few h = by_verdict read image devices n old (verdict_for image devices) f is few refl h

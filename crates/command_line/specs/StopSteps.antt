-- A tick whose text is held before it is passed on, and the report before it.
use Rattle.std.specs.Prelude.{◌≡◌, ◌⊎◌, ◌<◌, ℕ, false, List, [], ◌∷◌}
use Rattle.apex_types.specs.Line.{text_of}
use Rattle.apex_types.specs.declared.device.DeviceLine.{DeviceLine}
use Rattle.module_meaning.specs.Module.{of_tick}
use Rattle.module.specs.Machines.{Machine, course_of}
use Rattle.module_meaning.specs.Standing.{after}
use Rattle.module.specs.Watched.{Hears, Told}
use Rattle.module.specs.Written.{AreFrom}

-- The machine has completed one tick with those of the device lines that are of it, and the bytes
-- are the text of its lines. The others are left.
pub record IsHeld (lines left : List DeviceLine) (m next : Machine) (bytes : List ℕ) : Type 0 where
  pub image : next.image ≡ m.image
  pub standing : next.standing ≡ after m.standing (course_of (of_tick m.standing.now lines) m)
  pub failed : next.failed ≡ false
  pub text : bytes ≡ text_of (course_of (of_tick m.standing.now lines) m).lines
  pub others : (t : ℕ) → m.standing.now < t → of_tick t left ≡ of_tick t lines
  pub order : AreFrom next.standing.now left

-- A watcher was told that `made` of n ticks are made, more than the `told` ticks of the last report, or nothing; `last` are those of the last report now.
abbrev pub IsReported : (told made n last : ℕ) → Told → Told → Type 0
IsReported told made n last before after =
    ((last ≡ told) × (after ≡ before)) ⊎ ((last ≡ made) × (told < made) × Hears before after ((made, n) ∷ []))

-- What a watcher of a run is told.
use Rattle.std.specs.Prelude.{◌≡◌, ◌⊎◌, ◌≤◌, ◌<◌, ◌+◌, ◌^◌, ℕ, List, [], ◌∷◌, ◌++◌, Option, Some, None, Result}
use Rattle.std.specs.Io.KnownBytes.{Appends}
use Rattle.apex_types.specs.declared.limits.TheConstants.{MOST_TICKS}
use Rattle.apex_types.specs.Line.{text_of}
use Rattle.apex_types.specs.declared.device.DeviceLine.{DeviceLine}
use Rattle.machine_meaning.specs.Image.{Image}
use Rattle.machine_meaning.specs.ImageReading.{Fault}
use Rattle.machine_meaning.specs.MachineMeaning.{machine_trace}
use Rattle.module.specs.Runs.{IsRun}

-- The reports to a watcher so far, if it makes them known: how many ticks were made, and of how many.
abbrev pub Told : Type 0
Told = Option (List (ℕ × ℕ))

-- these reports were made to it
abbrev pub Hears : Told → Told → List (ℕ × ℕ) → Type 0
Hears None new reports = Unit {0}
Hears (Some old) None reports = ⊥
Hears (Some old) (Some new) reports = new ≡ old ++ reports

-- reports of a run of n ticks, each of more ticks than the one before: the first of more than `low`, none of more than `high`
abbrev pub AreRising : (n low high : ℕ) → List (ℕ × ℕ) → Type 0
AreRising n low high [] = Unit {0}
AreRising n low high (r ∷ rs) = (r.1 ≡ n) × (low < r.0) × (r.0 ≤ high) × AreRising n r.0 high rs

-- each report is at most 2^20 ticks after the one before, the first after `low`, and the last one is of `high`
abbrev pub AreSteps : (low high : ℕ) → List (ℕ × ℕ) → Type 0
AreSteps low high [] = low ≡ high
AreSteps low high (r ∷ rs) = (r.0 ≤ low + 2 ^ 20) × AreSteps r.0 high rs

-- A watcher was told of a run of n ticks in rising order, of no more than `high` of them; of a run that is not begun nothing.
abbrev pub IsFollowed : (n high : ℕ) → Told → Told → Type 0
IsFollowed n high before after = (after ≡ before) ⊎ ((n ≤ MOST_TICKS) × (reports : List (ℕ × ℕ)) × AreRising n 0 high reports × Hears before after reports)

-- the text of n ticks
abbrev pub text_to : Image → List DeviceLine → ℕ → List ℕ
text_to image lines n = text_of (machine_trace image lines n)

-- the text was taken, and maybe more
pub record TakesAtLeast (old new : Option (List ℕ)) (text : List ℕ) : Type 0 where
  pub more : List ℕ
  pub taken : Appends old new (text ++ more)

-- A watcher was told, in rising order, only of ticks that were made: a sink has taken their text.
pub record IsToldMade (image : Image) (lines : List DeviceLine) (n : ℕ) (old new : Option (List ℕ)) (before after : Told) : Type 0 where
  pub made : ℕ
  pub within : made ≤ n
  pub taken : TakesAtLeast old new (text_to image lines made)
  pub followed : IsFollowed n made before after

-- the same of a run with a device text; of a run that is not begun a watcher is told nothing
abbrev pub IsToldRun : Result Image Fault → List ℕ → ℕ → Option (List ℕ) → Option (List ℕ) → Told → Told → Type 0
IsToldRun read devices n old new before after =
    (after ≡ before) ⊎ ((image : Image) × (lines : List DeviceLine) × IsRun read devices n image lines × IsToldMade image lines n old new before after)

-- A watcher was told at least once in 2^20 ticks, up to the end: of as many ticks as have all that the run writes.
pub record IsToldAll (image : Image) (lines : List DeviceLine) (n : ℕ) (before after : Told) : Type 0 where
  pub made : ℕ
  pub reports : List (ℕ × ℕ)
  pub all : text_to image lines made ≡ text_to image lines n
  pub steps : AreSteps 0 made reports
  pub heard : Hears before after reports

-- the same of a run with a device text
abbrev pub IsToldWhole : Result Image Fault → List ℕ → ℕ → Told → Told → Type 0
IsToldWhole read devices n before after = (image : Image) × (lines : List DeviceLine) × IsRun read devices n image lines × IsToldAll image lines n before after

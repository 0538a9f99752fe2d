-- The promise of upgrading an image: the same image as one of the third version, which means the same.
use Rattle.std.specs.Prelude.{◌≡◌, ℕ, List, Ok}
use Rattle.apex_types.specs.declared.device.DeviceLine.{DeviceLine}
use Rattle.machine_meaning.specs.Image.{Image, upgraded}
use Rattle.machine_meaning.specs.ImageReading.{image_at}
use Rattle.machine_meaning.specs.MachineMeaning.{machine_trace, verdict_for}

-- The old bytes are an image, the new ones that image as one of the third version. A text of the
-- devices is the same lines for both, or refused for both. Whatever the devices bring in a run of n
-- ticks, both write the same trace.
pub record IsUpgraded (old new : List ℕ) : Type 0 where
  pub image : Image
  pub loaded : image_at old ≡ Ok image
  pub read : image_at new ≡ Ok (upgraded image)
  pub taken : (text : List ℕ) → verdict_for (upgraded image) text ≡ verdict_for image text
  pub same : (lines : List DeviceLine) (n : ℕ) → machine_trace (upgraded image) lines n ≡ machine_trace image lines n

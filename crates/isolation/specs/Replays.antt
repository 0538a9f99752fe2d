-- The partition, the inputs and the ticks of a replay.
use Rattle.std.specs.Prelude.{◌≡◌, ℕ, ◌≤◌, List, Option, Some, Result, Ok}
use Rattle.apex_types.specs.Limits.{MOST_TICKS}
use Rattle.module_meaning.specs.DeviceText.{first_from}
use Rattle.engine_meaning.specs.Digits.{same}
use Rattle.machine_meaning.specs.Image.{Item, Image}
use Rattle.machine_meaning.specs.ImageReading.{Fault}
use Rattle.isolation.specs.Alone.{InputLine}
use Rattle.isolation.specs.ReplayText.{replay_verdict}
use Rattle.isolation.specs.Slices.{Slice, slice_of}

-- the number of the partition with this name, with its item in the image
abbrev pub numbered : Image → List ℕ → Option (ℕ × Item)
numbered image name = first_from 1 (λ i. same i.partition.name name) image.items

-- An image was read, it has a partition with this name, and the text is a text of the partition's
-- inputs, for n ticks.
pub record IsReplay (read : Result Image Fault) (name inputs : List ℕ) (n : ℕ) (s : Slice) (lines : List InputLine) : Type 0 where
  pub image : Image
  pub loaded : read ≡ Ok image
  pub found : (f : ℕ × Item) × (numbered image name ≡ Some f) × (s ≡ slice_of image f.0 f.1)
  pub taken : replay_verdict s.item.partition inputs ≡ Ok lines
  pub few : n ≤ MOST_TICKS

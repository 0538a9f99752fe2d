-- What explains the refusal of an image, a device text and a replay text.
use Rattle.std.specs.Prelude.{◌≡◌, ℕ, List, [], ◌∷◌, if◌then◌else◌, Option, Some, None, Ok}
use Rattle.apex_types.specs.declared.device.DeviceFault.{DeviceFault}
use Rattle.engine_meaning.specs.Digits.{same}
use Rattle.finding_lines.specs.Reports.{Report}
use Rattle.image.specs.declared.fault.ImageFault.{ImageFault}
use Rattle.image_findings.specs.Explained as of_images
use Rattle.machine_meaning.specs.Image.{Image, Item}
use Rattle.machine_meaning.specs.ImageReading.{image_at}
use Rattle.module_meaning.specs.Table.{Partition}
use Rattle.command_line.specs.Explanation.{explanation}
use Rattle.command_line.specs.Sentences.{device_sentence, image_sentence, replay_sentence}
use Rattle.image_findings.specs.ExplainedText as of_texts
use Rattle.image_findings.specs.Names.{Names}
use Rattle.image_findings.specs.Named.{device_names, input_names}

abbrev pub IsImageExplanation : Report → List ℕ → ImageFault → List ℕ → Type 0
IsImageExplanation r bytes fault text = (lines : List ℕ) × of_images.IsExplanation r bytes lines × (text ≡ explanation r.form (image_sentence fault) lines)

abbrev pub IsImage : List ℕ → Image → Type 0
IsImage bytes image = image_at bytes ≡ Ok image

-- the lines are those of what is wrong with a text of these names
abbrev pub AreOfText : Report → Names → List ℕ → List ℕ → Type 0
AreOfText r names text lines = of_texts.IsExplanation r names text (Some lines)

-- the text explains the refusal of a device text for this image
abbrev pub IsDeviceExplanation : Report → List ℕ → List ℕ → DeviceFault → List ℕ → Type 0
IsDeviceExplanation r bytes text fault whole =
    (image : Image) × (lines : List ℕ) × IsImage bytes image × AreOfText r (device_names image) text lines × (whole ≡ explanation r.form (device_sentence fault) lines)

-- the first partition of that name
abbrev pub row_named : List ℕ → List Item → Option Partition
row_named name [] = None
row_named name (item ∷ items) = if same item.partition.name name then Some item.partition else row_named name items

-- the lines are those of what is wrong with a replay text for the partition of that name
abbrev pub AreOfPartition : Report → Image → List ℕ → List ℕ → List ℕ → Type 0
AreOfPartition r image name text lines = (row : Partition) × (row_named name image.items ≡ Some row) × AreOfText r (input_names row) text lines

-- the text explains the refusal of a replay text for the partition of that name of this image
abbrev pub IsReplayExplanation : Report → List ℕ → List ℕ → List ℕ → DeviceFault → List ℕ → Type 0
IsReplayExplanation r bytes partition text fault whole =
    (image : Image) × (lines : List ℕ) × IsImage bytes image × AreOfPartition r image partition text lines × (whole ≡ explanation r.form (replay_sentence fault) lines)

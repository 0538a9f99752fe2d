-- Lines that are said of the partition of a name.
use Rattle.std.proofs.Common.{◌≡◌, List, Option, Some, None, ℕ}
use Rattle.std.specs.Prelude.{IfSome}
use Rattle.machine_meaning.specs.Image.{Image}
use Rattle.module_meaning.specs.Table.{Partition}
use Rattle.finding_lines.specs.Reports.{Report}
use Rattle.command_line.specs.Files.{AreOfPartition, AreOfText, row_named}
use Rattle.image_findings.specs.Named.{input_names}

pub of_row : {A : Type 0} (view : A → List ℕ) (answer : Option A) (r : Report) (name text : List ℕ) (image : Image) (row : Partition) → row_named name image.items ≡ Some row → IfSome answer (λ a. AreOfText r (input_names row) text (view a))
    → IfSome answer (λ a. AreOfPartition r image name text (view a))
of_row view None r name text image row found told = tt
of_row view (Some a) r name text image row found told = (row, found, told)

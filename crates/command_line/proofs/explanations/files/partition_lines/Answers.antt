use Rattle.std.proofs.Common.{◌≡◌, Some, rules, string_bytes}
use Rattle.image.specs.Items.{partition_of}
use Rattle.image.specs.Views.{image_of}
use Rattle.command_line.specs.Files.{row_named}
use Rattle.finding_lines.specs.Reports.{report_of}
use Rattle.command_line.proofs.Rows.{of_row}
use Rattle.command_line.proofs.explanations.files.partition_lines.Goals as goal

pub returns : goal.returns
returns c =
    let found : row_named c.args.partition.now (image_of c.args.image.now).items ≡ Some (partition_of c.in_ok-row.row.now) = search rules in
    of_row string_bytes c.row_lines.result (report_of c.args.report) c.args.partition.now c.args.text.now (image_of c.args.image.now) (partition_of c.in_ok-row.row.now) found c.row_lines.ensures

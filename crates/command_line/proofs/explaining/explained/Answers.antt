use Rattle.std.proofs.Common.{map, string_bytes}
use Rattle.finding_lines.specs.Reports.{form_of}
use Rattle.window_table.specs.Views.{table_of}
use Rattle.command_line.proofs.Noted.{of_text}
use Rattle.command_line.proofs.explaining.explained.Goals as goal

pub returns : goal.returns
returns c =
    of_text string_bytes (form_of c.args.form) c.args.table.now (map (λ s. s.now) c.args.given.files.now) (map (λ s. s.now) c.args.given.texts.now) c.args.partition.now c.args.fault (table_of c.in_ok-table.table) c.explained_with.result
    c.in_ok-table.ensures c.explained_with.ensures

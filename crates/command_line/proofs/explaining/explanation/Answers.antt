use Rattle.std.proofs.Common.{map, rules, string_bytes}
use Rattle.finding_lines.specs.Reports.{form_of}
use Rattle.command_line.proofs.Noted.{of_length, of_source}
use Rattle.command_line.proofs.explaining.explanation.Goals as goal

pub returns-in_ok-shown-in-Pal : goal.returns-in_ok-shown-in-Pal
returns-in_ok-shown-in-Pal c =
    of_source string_bytes c.args.style c.args.names.table.now c.args.table.now (map (λ s. s.now) c.args.names.sources.now) (map (λ s. s.now) c.args.sources.now) c.args.fault.now c.in-Pal.partition c.in-Pal.refused (form_of c.form-form.result)
    c.explained.result c.in-Pal.is (search rules) c.explained.ensures

pub returns-in_ok-shown-in-Compile : goal.returns-in_ok-shown-in-Compile
returns-in_ok-shown-in-Compile c =
    of_length string_bytes c.args.style c.args.names.table.now c.args.table.now (map (λ s. s.now) c.args.names.sources.now) (map (λ s. s.now) c.args.sources.now) c.args.fault.now c.in-Compile.partition (form_of c.form.result)
    c.length_explained.result c.in-Compile.is (search rules) c.length_explained.ensures

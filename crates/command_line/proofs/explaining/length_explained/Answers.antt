use Rattle.std.proofs.Common.{IfSome, map, string_bytes, subst}
use Rattle.finding_lines.specs.Reports.{form_of}
use Rattle.command_line.specs.Explained.{IsLengthExplainedWith}
use Rattle.command_line.proofs.Noted.{of_costs}
use Rattle.command_line.proofs.explaining.length_explained.Goals as goal

pub returns : goal.returns
returns c =
    let form = form_of c.args.form in
    let files = map (λ s. s.now) c.args.given.files.now in
    let sources = map (λ s. s.now) c.args.given.texts.now in
    of_costs string_bytes form c.args.table.now files sources c.args.partition.now c.in_ok-costs.costs.items c.length_explained_with.result c.in_ok-costs.ensures
    (subst (λ costs. IfSome c.length_explained_with.result (λ a. IsLengthExplainedWith form costs files sources c.args.partition.now (string_bytes a))) c.as_slice.ensures.value c.length_explained_with.ensures)

use Rattle.module_base.proofs.Prelude.{◌≡◌, rules, ◌∙◌, Err, length, option_copied, pieces_of, line_by, taken_by}
use Rattle.std.proofs.Common.{ap}
use Rattle.module_base.specs.TextLines.{verdict_by}
use Rattle.module_base.proofs.Reading.{wrong_line, refused_line}
use Rattle.module_base.proofs.read.read_lines.Goals as goal

pub returns-in_err-line-clause-refused : goal.returns-in_err-line-clause-refused
returns-in_err-line-clause-refused g c =
    let mark = c.args.mark.now in
    let named = g.T.TakesLines.named c.args.taker.now in
    let tick_of = g.T.TakesLines.tick_of in
    let front = c.split_at.result.0.now in
    let said : Err c.in_err-line.field-0.0 ≡ taken_by named (length c.loop-rest.lines.items) c.loop-rest.before.0 (line_by mark front) = search rules in
    refused_line (verdict_by mark named tick_of c.args.text.now) c.in_err-line.field-0.0 c.from_residual.result c.from_residual.ensures
    (c.loop-rest.invariant
    ∙ wrong_line mark named tick_of c.loop-rest.before.0 c.loop-rest.lines.items c.loop-rest.rest.now front c.in_default-Some.behind.now c.in_err-line.field-0.0
    c.split_at.ensures.front (c.split_at.ensures.behind ∙ ap (λ o. pieces_of 10 (option_copied o)) c.in_default-Some.is-1) said)

use Rattle.std.proofs.Common.{◌+◌, ◌++◌, ap, sym, ◌∙◌, append_assoc, drop}
use Rattle.std.proofs.lemmas.List.{drop_more}
use Rattle.view_command.specs.DifferenceTexts as text
use Rattle.view_command.proofs.differences.report.Goals as goal

pub loop-difference-preserved : goal.loop-difference-preserved
loop-difference-preserved c =
    let ds = c.args.differences.now in
    let i = c.loop-difference.difference-index in
    let old = c.loop-difference.report.items in
    let d = c.difference-item.result in
    let later = text.report (drop (i + 1) ds) in
    ap (λ xs. xs ++ later) c.in_ok-push_difference.ensures
    ∙ append_assoc old (text.difference d) later
    ∙ ap (λ x. old ++ (text.difference x ++ later)) c.difference-item.is
    ∙ ap (λ xs. old ++ text.report xs) (sym (drop_more ds i d c.loop-difference-test.true))
    ∙ c.loop-difference.invariant

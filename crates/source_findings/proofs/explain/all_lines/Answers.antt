use Rattle.std.proofs.Common.{◌≡◌, ◌++◌, map, refl, rules, string_bytes}
use Rattle.finding_lines.specs.Reports.{report_of}
use Rattle.finding_lines.proofs.Reported.{all_reported, goes_on}
use Rattle.source_findings.specs.Explained.{offset_of}
use Rattle.source_findings.specs.Views.{wrong_of, wrongs_of}
use Rattle.source_findings.proofs.explain.all_lines.Goals as goal

pub loop-wrong-preserved : goal.loop-wrong-preserved
loop-wrong-preserved c =
    let place = offset_of c.args.text.now in
    let grows : string_bytes c.push_str.new.self ≡ string_bytes c.loop-wrong.lines ++ string_bytes c.in_ok-wrong_lines.field-0 = search rules in
    goes_on (report_of c.args.report) c.args.text.now (λ ws. map place (wrongs_of ws)) (λ w. place (wrong_of w)) c.args.found.now c.loop-wrong.wrong-index _ (string_bytes c.loop-wrong.lines) _ _ (λ _ _. refl)
    c.loop-wrong-test.true c.in_ok-wrong_lines.ensures grows c.loop-wrong.invariant

pub returns : goal.returns
returns c =
    all_reported (report_of c.args.report) c.args.text.now (λ ws. map (offset_of c.args.text.now) (wrongs_of ws)) c.args.found.now c.loop-wrong.wrong-index (string_bytes c.loop-wrong.lines) refl c.loop-wrong-test.false
    c.loop-wrong.invariant

use Rattle.std.proofs.Common.{◌≡◌, ◌++◌, map, refl, rules, string_bytes}
use Rattle.finding_lines.specs.Reports.{report_of}
use Rattle.finding_lines.specs.Views.{entries_in}
use Rattle.finding_lines.proofs.Reported.{all_reported, goes_on}
use Rattle.table_findings.specs.Explained.{offset_of}
use Rattle.table_findings.specs.Views.{finding_of, findings_of}
use Rattle.table_findings.proofs.explained.all_lines.Goals as goal

pub loop-finding-preserved : goal.loop-finding-preserved
loop-finding-preserved c =
    let place = offset_of c.args.text.now (entries_in c.args.places.now) in
    let grows : string_bytes c.push_str.new.self ≡ string_bytes c.loop-finding.lines ++ string_bytes c.in_ok-lines_of.field-0 = search rules in
    goes_on (report_of c.args.report) c.args.text.now (λ fs. map place (findings_of fs)) (λ f. place (finding_of f)) c.args.found.now c.loop-finding.finding-index _ (string_bytes c.loop-finding.lines) _ _ (λ _ _. refl)
    c.loop-finding-test.true c.in_ok-lines_of.ensures grows c.loop-finding.invariant

pub returns : goal.returns
returns c =
    all_reported (report_of c.args.report) c.args.text.now (λ fs. map (offset_of c.args.text.now (entries_in c.args.places.now)) (findings_of fs)) c.args.found.now c.loop-finding.finding-index
    (string_bytes c.loop-finding.lines) refl c.loop-finding-test.false c.loop-finding.invariant

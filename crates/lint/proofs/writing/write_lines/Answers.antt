use Rattle.std.proofs.Common.{◌+◌, drop, flat_map, ap}
use Rattle.std.proofs.lemmas.List.{drop_more}
use Rattle.lint.specs.Sentences.{finding_line}
use Rattle.lint.proofs.UnderWay.{cut_off, goes_on}
use Rattle.lint.proofs.writing.write_lines.Goals as goal

pub returns-in_err-write_finding : goal.returns-in_err-write_finding
returns-in_err-write_finding g c =
    let text_of = flat_map (finding_line c.args.partition.now) in
    let findings = c.args.findings.now in
    let i = c.loop-finding.finding-index in
    cut_off (text_of findings) (text_of (drop i findings)) _ (text_of (drop (i + 1) findings)) _ _ _ _ _ _ c.from_residual.result (ap text_of (drop_more findings i _ c.loop-finding-test.true)) c.loop-finding.invariant c.in_err-write_finding.ensures c.from_residual.ensures.0

pub loop-finding-preserved : goal.loop-finding-preserved
loop-finding-preserved g c =
    let text_of = flat_map (finding_line c.args.partition.now) in
    let findings = c.args.findings.now in
    let i = c.loop-finding.finding-index in
    goes_on (text_of findings) (text_of (drop i findings)) _ (text_of (drop (i + 1) findings)) _ _ _ _ _ _ (ap text_of (drop_more findings i _ c.loop-finding-test.true)) c.loop-finding.invariant c.in_ok-write_finding.ensures

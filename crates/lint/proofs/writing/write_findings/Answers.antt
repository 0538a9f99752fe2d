use Rattle.std.proofs.Common.{◌≡◌, ◌+◌, List, ◌++◌, drop, flat_map, ap, sym, ◌∙◌}
use Rattle.lint.specs.Sentences.{finding_line, findings_text}
use Rattle.lint.specs.declared.finding.Finding.{Finding}
use Rattle.lint.proofs.Adding.{next_of}
use Rattle.lint.proofs.UnderWay.{cut_off, goes_on}
use Rattle.lint.proofs.writing.write_findings.Goals as goal

pub returns-in_err-write_lines : goal.returns-in_err-write_lines
returns-in_err-write_lines g c =
    let found = c.args.found.now in
    let i = c.loop-partition.partition-index in
    let lines = flat_map (finding_line c.partition-item.result.partition.now) in
    let rest = findings_text (drop (i + 1) found) in
    let split : findings_text (drop i found) ≡ lines c.deref.result.now ++ rest =
    ap findings_text (next_of found i c.partition-item.result c.loop-partition-test.true c.partition-item.is) ∙ ap (λ (findings : List Finding). lines findings ++ rest) (sym c.deref.ensures.value) in
    cut_off (findings_text found) (findings_text (drop i found)) (lines c.deref.result.now) rest _ _ _ _ _ _ c.from_residual.result split c.loop-partition.invariant c.in_err-write_lines.ensures c.from_residual.ensures.0

pub loop-partition-preserved : goal.loop-partition-preserved
loop-partition-preserved g c =
    let found = c.args.found.now in
    let i = c.loop-partition.partition-index in
    let lines = flat_map (finding_line c.partition-item.result.partition.now) in
    let rest = findings_text (drop (i + 1) found) in
    let split : findings_text (drop i found) ≡ lines c.deref.result.now ++ rest =
    ap findings_text (next_of found i c.partition-item.result c.loop-partition-test.true c.partition-item.is) ∙ ap (λ (findings : List Finding). lines findings ++ rest) (sym c.deref.ensures.value) in
    goes_on (findings_text found) (findings_text (drop i found)) (lines c.deref.result.now) rest _ _ _ _ _ _ split c.loop-partition.invariant c.in_ok-write_lines.ensures

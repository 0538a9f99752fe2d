use Rattle.std.proofs.Common.{map, refl}
use Rattle.table_findings.proofs.Turns.{goes_on}
use Rattle.table_findings.specs.Limits.{window_limits, windows_from}
use Rattle.table_findings.specs.Views.{findings_of}
use Rattle.window_table.specs.Views.{window_text}
use Rattle.table_findings.proofs.bounds.windows.Goals as goal

pub loop-index-preserved : goal.loop-index-preserved
loop-index-preserved c =
    goes_on (λ i ws. windows_from i (map window_text ws)) (λ i w. window_limits i (window_text w)) c.args.windows.now c.loop-index.index _ (findings_of c.loop-index.found.items)
    (findings_of c.window.new.found.items) _ (λ y ys. refl) c.loop-index-test.true c.in_ok-window.ensures c.loop-index.invariant

use Rattle.std.proofs.Common.{map, refl}
use Rattle.table_findings.specs.Names.{partition_of, partitions_of}
use Rattle.table_findings.specs.Views.{findings_of}
use Rattle.window_table.specs.Views.{window_text}
use Rattle.table_findings.proofs.Turns.{goes_on}
use Rattle.table_findings.proofs.unknown.windows.Goals as goal

pub loop-index-preserved : goal.loop-index-preserved
loop-index-preserved c =
    let names = map (λ name. name.now) c.args.names.now in
    goes_on (λ i ws. partitions_of names i (map window_text ws)) (λ i w. partition_of names i (window_text w)) c.args.windows.now c.loop-index.index _ (findings_of c.loop-index.found.items)
    (findings_of c.window.new.found.items) _ (λ w ws. refl) c.loop-index-test.true c.in_ok-window.ensures c.loop-index.invariant

use Rattle.std.proofs.Common.{map, refl}
use Rattle.table_findings.proofs.Turns.{item_goes_on}
use Rattle.table_findings.specs.Durations.{short_period, short_periods_from}
use Rattle.table_findings.specs.Views.{findings_of}
use Rattle.window_table.specs.Views.{partition_text, window_text}
use Rattle.table_findings.proofs.durations.short_periods_from.Goals as goal

pub loop-index-preserved : goal.loop-index-preserved
loop-index-preserved c =
    let ws = map window_text c.args.windows.now in
    item_goes_on (λ i ps. short_periods_from c.args.frame ws i (map partition_text ps)) (λ i p. short_period c.args.frame ws i (partition_text p)) c.args.partitions.now c.loop-index.index c.index-partitions-index.result (findings_of c.loop-index.found.items)
    (findings_of c.short_period.new.found.items) _ (λ y ys. refl) c.loop-index-test.true c.index-partitions-index.is c.in_ok-short_period.ensures c.loop-index.invariant

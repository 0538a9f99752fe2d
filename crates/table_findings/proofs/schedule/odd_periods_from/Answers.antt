use Rattle.std.proofs.Common.{map, refl}
use Rattle.table_findings.proofs.Turns.{item_goes_on}
use Rattle.table_findings.specs.Schedule.{odd_period, odd_periods_from}
use Rattle.table_findings.specs.Views.{findings_of}
use Rattle.window_table.specs.Views.{partition_text}
use Rattle.table_findings.proofs.schedule.odd_periods_from.Goals as goal

pub loop-index-preserved : goal.loop-index-preserved
loop-index-preserved c =
    item_goes_on (λ i ps. odd_periods_from c.args.frame i (map partition_text ps)) (λ i p. odd_period c.args.frame i (partition_text p)) c.args.partitions.now c.loop-index.index c.index-partitions-index.result (findings_of c.loop-index.found.items)
    (findings_of c.odd_period.new.found.items) _ (λ y ys. refl) c.loop-index-test.true c.index-partitions-index.is c.in_ok-odd_period.ensures c.loop-index.invariant

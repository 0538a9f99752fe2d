use Rattle.std.proofs.Common.{List, refl}
use Rattle.trace_view.specs.Traffic.{totals_at, totals_from}
use Rattle.trace_view.specs.declared.report.PartitionTotal.{PartitionTotal}
use Rattle.trace_view.proofs.Steps.{added, all_added}
use Rattle.trace_view.proofs.counts.Counts.route_totals.Goals as goal

pub loop-partition-preserved : goal.loop-partition-preserved
loop-partition-preserved c =
    let passages = c.args.self.now.traffic.passages.items in
    let rest = λ (ps : List PartitionTotal). totals_from ps passages in
    added rest rest (totals_at c.partition-item.result passages) c.args.partitions.now c.args.partitions.now c.loop-partition.partition-index c.partition-item.result
    c.loop-partition.totals.items
    c.add_totals.new.totals.items _ refl c.loop-partition-test.true c.partition-item.is refl c.in_ok-add_totals.ensures c.loop-partition.invariant

pub returns : goal.returns
returns c =
    all_added (λ (ps : List PartitionTotal). totals_from ps c.args.self.now.traffic.passages.items) c.args.partitions.now c.args.partitions.now c.loop-partition.partition-index
    c.loop-partition.totals.items _ refl refl c.loop-partition-test.false c.loop-partition.invariant

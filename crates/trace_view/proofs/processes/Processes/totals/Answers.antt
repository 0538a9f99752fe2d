use Rattle.std.proofs.Common.{List, refl}
use Rattle.trace_view.specs.Processes.{totals_at, totals_from}
use Rattle.trace_view.specs.declared.report.PartitionTotal.{PartitionTotal}
use Rattle.trace_view.proofs.Steps.{added, all_added}
use Rattle.trace_view.proofs.processes.Processes.totals.Goals as goal

pub loop-partition-preserved : goal.loop-partition-preserved
loop-partition-preserved c =
    let rows = c.args.self.now.rows.items in
    let rest = λ (ps : List PartitionTotal). totals_from c.args.window ps rows in
    added rest rest (totals_at c.args.window c.partition-item.result rows) c.args.partitions.now c.args.partitions.now c.loop-partition.partition-index c.partition-item.result
    c.loop-partition.totals.items
    c.add_totals.new.totals.items _ refl c.loop-partition-test.true c.partition-item.is refl c.in_ok-add_totals.ensures c.loop-partition.invariant

pub returns : goal.returns
returns c =
    all_added (λ (ps : List PartitionTotal). totals_from c.args.window ps c.args.self.now.rows.items) c.args.partitions.now c.args.partitions.now c.loop-partition.partition-index
    c.loop-partition.totals.items _ refl refl c.loop-partition-test.false c.loop-partition.invariant

use Rattle.std.proofs.Common.{map, refl}
use Rattle.table_findings.specs.Names.{partition_names}
use Rattle.window_table.specs.Views.{partition_text}
use Rattle.table_findings.proofs.Turns.{one_item_more}
use Rattle.table_findings.proofs.repeated.partition_names.Goals as goal

pub loop-partition-preserved : goal.loop-partition-preserved
loop-partition-preserved c =
    one_item_more (λ name. name.now) (λ xs. partition_names (map partition_text xs)) (λ x. x.name) c.args.partitions.now c.loop-partition.partition-index c.partition-item.result c.loop-partition.names.items c.push.new.self.items _ (λ x xs. refl)
    c.loop-partition-test.true c.partition-item.is c.in_ok-push.ensures.items c.loop-partition.invariant

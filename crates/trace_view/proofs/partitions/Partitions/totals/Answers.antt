use Rattle.std.proofs.Common.{map, refl, ap, ◌∙◌, [], ◌∷◌, ◌++◌}
use Rattle.trace_view.specs.Partitions.{partition_total}
use Rattle.trace_view.specs.declared.report.PartitionTotal.{PartitionTotal}
use Rattle.trace_view.proofs.Steps.{added, all_added}
use Rattle.trace_view.proofs.partitions.Partitions.totals.Goals as goal

pub loop-row-preserved : goal.loop-row-preserved
loop-row-preserved c =
    let rest = map (partition_total c.args.window) in
    let so_far = c.loop-row.totals.items in
    added rest rest (partition_total c.args.window c.row-item.result ∷ []) c.args.self.now.rows.items c.deref-row-items.result.now c.loop-row.row-index c.row-item.result so_far
    c.push.new.self.items _
    c.deref-row-items.ensures.value c.loop-row-test.true c.row-item.is refl (c.in_ok-push.ensures.items ∙ ap (λ (t : PartitionTotal). so_far ++ t ∷ []) c.total.ensures) c.loop-row.invariant

pub returns : goal.returns
returns c =
    all_added (map (partition_total c.args.window)) c.args.self.now.rows.items c.deref-row-items.result.now c.loop-row.row-index c.loop-row.totals.items _ refl
    c.deref-row-items.ensures.value
    c.loop-row-test.false c.loop-row.invariant

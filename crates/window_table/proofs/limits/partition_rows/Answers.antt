use Rattle.std.proofs.Common.{Vec, Global, ◌≡◌, ℤ, pos, false, ap, sym, subst, ◌∙◌, refl, map, to_z, of_z, w64}
use Rattle.std.specs.List.{list_any}
use Rattle.std.proofs.lemmas.Int.{to_z-of_z}
use Rattle.std.proofs.lemmas.Result.{err_from_is_err_and}
use Rattle.module_meaning.specs.TableRules.{exceeds_partition, is_outside, partition_row}
use Rattle.window_table.specs.declared.table.PartitionRow.{PartitionRow}
use Rattle.window_table.specs.Views.{partition_text, partition_view}
use Rattle.window_table.proofs.Rows.{all_built, any_here_item, limit_on, none_left, still_any_item, one_more_item, pushed_view}
use Rattle.window_table.proofs.limits.partition_rows.Goals as goal

pub loop-partition-preserved : goal.loop-partition-preserved
loop-partition-preserved c = record {
  within = still_any_item (λ p. exceeds_partition (to_z w64 (of_z w64 c.args.frame)) (partition_text p)) (λ ps. list_any (exceeds_partition (to_z w64 (of_z w64 c.args.frame))) (map partition_text ps))
      c.args.partitions.now c.loop-partition.partition-index c.partition-item.result _ (λ x ys. refl) c.loop-partition-test.true c.partition-item.is c.in_ok-row.ensures.kept.0 c.loop-partition.invariant.within;
  built = one_more_item (λ p. partition_row (partition_text p)) (λ ps. map partition_row (map partition_text ps)) c.args.partitions.now c.loop-partition.partition-index c.partition-item.result
      (map partition_view c.loop-partition.rows.items) _ _ (λ x ys. refl) c.loop-partition-test.true c.partition-item.is
      (pushed_view partition_view c.push.result _ c.loop-partition.rows.items _ _ c.if-is_err.ensures.value c.push.ensures.items c.in_ok-row.ensures.kept.1)
      c.loop-partition.invariant.built;
}

pub partition_row-requires : goal.partition_row-requires
partition_row-requires c = ap (is_outside 1 (pos 16777216)) (to_z-of_z w64 c.args.frame c.ranges.frame) ∙ c.requires

pub returns : goal.returns
returns c =
    let ps = c.args.partitions.now in
    record {
      kept = (
        subst (λ (z : ℤ). list_any (exceeds_partition z) (map partition_text ps) ≡ false) (to_z-of_z w64 c.args.frame c.ranges.frame)
            (none_left (λ us. list_any (exceeds_partition (to_z w64 (of_z w64 c.args.frame))) (map partition_text us)) ps c.loop-partition.partition-index _ refl c.loop-partition-test.false
            c.loop-partition.invariant.within),
        all_built (λ us. map partition_row (map partition_text us)) ps c.loop-partition.partition-index (map partition_view c.loop-partition.rows.items) _ refl c.loop-partition-test.false
            c.loop-partition.invariant.built,
      );
      refused = tt;
    }

pub returns-in_err-row : goal.returns-in_err-row
returns-in_err-row c =
    let p = err_from_is_err_and c.from_residual.result c.from_residual.ensures.1 in
    let frame = to_z w64 (of_z w64 c.args.frame) in
    rw (p.1, p.2) (record {
      kept = tt;
      refused = limit_on PartitionRow (Vec PartitionRow Global) c.in_err-row.field-0.0 (exceeds_partition frame (partition_text c.partition-item.result)) _ c.in_err-row.ensures.refused
          (λ here. ap (λ (z : ℤ). list_any (exceeds_partition z) (map partition_text c.args.partitions.now)) (sym (to_z-of_z w64 c.args.frame c.ranges.frame))
          ∙ any_here_item (λ p. exceeds_partition frame (partition_text p)) (λ us. list_any (exceeds_partition frame) (map partition_text us)) c.args.partitions.now c.loop-partition.partition-index
          c.partition-item.result _ (λ x ys. refl) c.loop-partition-test.true c.partition-item.is here c.loop-partition.invariant.within);
    })

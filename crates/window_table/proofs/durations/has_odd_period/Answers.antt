use Rattle.std.proofs.Common.{◌≡◌, ◌∙◌, ◌%◌, ℕ, not, false, map, ap, refl, sym}
use Rattle.std.specs.List.{list_any}
use Rattle.std.specs.Prelude.{◌==◌}
use Rattle.module_meaning.specs.Table.{Partition, has_odd_period}
use Rattle.window_table.proofs.Rows.{none_behind, none_left, still_any_item}
use Rattle.window_table.proofs.durations.has_odd_period.Goals as goal

multiple : (n : ℕ) → n ≡ 0 → not (n == 0) ≡ false
multiple n h = rw h refl

pub loop-partition-preserved : goal.loop-partition-preserved
loop-partition-preserved g c =
    let row = g.P.HasRow.row_of in
    let frame = c.args.frame in
    let xs = c.args.partitions.now in
    let x = c.partition-item.result in
    record {
      periods = none_behind (λ p. (row p).period == 0) (λ ps. list_any (λ q. q.period == 0) (map row ps)) xs c.loop-partition.partition-index (λ _ _. refl) c.loop-partition-test.true c.loop-partition.invariant.periods;
      left = still_any_item (λ p. not (frame % (row p).period == 0)) (λ ps. has_odd_period frame (map row ps)) xs c.loop-partition.partition-index x _ (λ _ _. refl) c.loop-partition-test.true c.partition-item.is
          (multiple (frame % (row x).period) (ap (λ (p : Partition). frame % p.period) (sym c.row.ensures) ∙ c.if-frame-row-ne0.false)) c.loop-partition.invariant.left;
    }

pub returns : goal.returns
returns g c =
    sym (none_left (λ ps. has_odd_period c.args.frame (map g.P.HasRow.row_of ps)) c.args.partitions.now c.loop-partition.partition-index _ refl c.loop-partition-test.false c.loop-partition.invariant.left)

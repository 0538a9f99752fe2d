use Rattle.std.proofs.Common.{◌+◌, ◌∷◌, ◌++◌, ◌∙◌, [], ap, map, refl, arith}
use Rattle.window_table.specs.Schedules.{schedule_of}
use Rattle.window_table.specs.Views.{partition_view}
use Rattle.schedule_load.specs.Load.{partition_load, partition_loads}
use Rattle.schedule_load.specs.declared.load.PartitionLoad.{PartitionLoad}
use Rattle.schedule_load.proofs.Steps.{all_made, goes_on}
use Rattle.schedule_load.proofs.load.partition_loads.Goals as goal

pub loop-row-preserved : goal.loop-row-preserved
loop-row-preserved c =
    let l = c.loop-row in
    let schedule = schedule_of c.args.schedule.now in
    let n = l.number in
    record {
      counted = omega (arith, l.invariant.counted);
      left = goes_on (λ rows. partition_loads schedule n (map partition_view rows)) (λ rows. partition_loads schedule (n + 1) (map partition_view rows)) (λ row. partition_load schedule n (partition_view row)) c.args.rows.now
          l.row-index c.row-item.result l.loads.items _ _ (λ _ _. refl) c.loop-row-test.true c.row-item.is
          (c.in_ok-push.ensures.items ∙ ap (λ (load : PartitionLoad). l.loads.items ++ load ∷ []) c.partition_load.ensures) l.invariant.left;
    }

pub returns : goal.returns
returns c =
    all_made (λ rows. partition_loads (schedule_of c.args.schedule.now) c.loop-row.number (map partition_view rows)) c.args.rows.now c.loop-row.row-index c.loop-row.loads.items _ refl c.loop-row-test.false
    c.loop-row.invariant.left

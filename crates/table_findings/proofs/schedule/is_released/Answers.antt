use Rattle.std.proofs.Common.{false, map, sym}
use Rattle.std.specs.Prelude.{◌&&◌}
use Rattle.module_meaning.specs.TableRules.{same}
use Rattle.table_findings.specs.Schedule.{is_released}
use Rattle.window_table.specs.Views.{window_text}
use Rattle.table_findings.proofs.Turns.{and_left, and_right, passes}
use Rattle.table_findings.proofs.schedule.is_released.Goals as goal
use Rattle.table_findings.proofs.schedule.is_released.Goals.{else-window-via-then-window+else-eq, else-window-via-else-window}

pub loop-window-preserved : goal.loop-window-preserved
loop-window-preserved c =
    let name = c.args.name.now in
    elim c.else-window.branch [
      | else-window-via-then-window+else-eq w ↦ sym (passes (λ ws. is_released (map window_text ws) name) (λ ws. is_released (map window_text ws) name) (λ v. v.release && same v.partition.now name) false c.args.windows.now c.loop-window.window-index _ _ (λ v vs no. rw no) c.loop-window-test.true (and_right _ _ w.if-window.true w.if-eq.ensures) (sym c.loop-window.invariant))
      | else-window-via-else-window w ↦ sym (passes (λ ws. is_released (map window_text ws) name) (λ ws. is_released (map window_text ws) name) (λ v. v.release && same v.partition.now name) false c.args.windows.now c.loop-window.window-index _ _ (λ v vs no. rw no) c.loop-window-test.true (and_left _ _ w.if-window.false) (sym c.loop-window.invariant))
    ]

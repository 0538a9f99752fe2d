use Rattle.std.proofs.Common.{◌≡◌, drop, map}
use Rattle.table_findings.specs.Schedule.{is_released}
use Rattle.window_table.specs.Views.{window_text}
use Rattle.table_findings.proofs.schedule.is_released.Given as goal

abbrev pub invariant-loop-window : goal.invariant-loop-window
invariant-loop-window l = is_released (map window_text l.windows) l.name ≡ is_released (map window_text (drop l.window-index l.windows)) l.name

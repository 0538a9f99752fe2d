use Rattle.std.proofs.Common.{◌≡◌, map, drop}
use Rattle.std.specs.List.{list_any}
use Rattle.module_meaning.specs.TableRules.{exceeds_window}
use Rattle.window_table.specs.Views.{window_text}
use Rattle.window_table.proofs.limits.exceeds_windows.Given as goal

abbrev pub invariant-loop-window : goal.invariant-loop-window
invariant-loop-window l = list_any exceeds_window (map window_text l.windows) ≡ list_any exceeds_window (map window_text (drop l.window-index l.windows))

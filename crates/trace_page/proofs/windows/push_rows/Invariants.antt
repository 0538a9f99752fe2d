use Rattle.std.proofs.Common.{◌≡◌, ◌++◌, drop, flat_map}
use Rattle.trace_page.specs.Windows.{row_text}
use Rattle.trace_page.proofs.windows.push_rows.Given as goal

-- the rows so far, and those of the rest, are all
abbrev pub invariant-loop-window : goal.invariant-loop-window
invariant-loop-window l = l.text.items ++ flat_map (row_text l.names) (drop l.window-index l.windows) ≡ l.initial.text.items ++ flat_map (row_text l.names) l.windows

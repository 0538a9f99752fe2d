use Rattle.std.proofs.Common.{◌≡◌, ◌≤◌, ◌+◌, drop}
use Rattle.schedule_load.specs.Report.{windows_of}
use Rattle.schedule_load.proofs.report.LoadReport.windows_of.Given as goal

abbrev pub invariant-loop-window : goal.invariant-loop-window
invariant-loop-window l = record {
  small : l.count ≤ l.window-index;
  left : l.count + windows_of l.number (drop l.window-index l.self.windows.now) ≡ windows_of l.number l.self.windows.now;
}

use Rattle.std.proofs.Common.{◌≡◌, ◌+◌, ◌++◌, map, drop}
use Rattle.pal_base.specs.View.{process_of, texts}
use Rattle.lint.specs.Lives.{never_started}
use Rattle.lint.specs.Views.{found_all}
use Rattle.lint.proofs.lives.add_unstarted.Given as goal

abbrev pub invariant-loop-process : goal.invariant-loop-process
invariant-loop-process l = record {
  counted : l.number ≡ l.process-index + 1;
  left : found_all l.findings.items ++ never_started l.table l.number (map (process_of (texts l.names.keys)) (drop l.process-index l.processes)) ≡ found_all l.fn.findings.items ++ never_started l.table 1 (map (process_of (texts l.names.keys)) l.processes);
}

use Rattle.std.proofs.Common.{◌≡◌, drop, map}
use Rattle.pal_base.specs.View.{process_of}
use Rattle.source_findings.specs.Bodies as spec
use Rattle.source_findings.specs.Views.{entries_of, judge_of, names_of, state_of}
use Rattle.source_findings.proofs.declarations.processes.Given as goal

abbrev pub invariant-loop-process : goal.invariant-loop-process
invariant-loop-process l =
    spec.processes (judge_of l.judge) (entries_of l.before.items) l.count (map (process_of (names_of l.judge)) (drop l.process-index l.list)) (state_of l.walk)
    ≡ spec.processes (judge_of l.judge) (entries_of l.fn.before.items) 0 (map (process_of (names_of l.judge)) l.list) (state_of l.fn.walk)

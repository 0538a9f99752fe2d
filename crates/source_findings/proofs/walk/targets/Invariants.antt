use Rattle.std.proofs.Common.{◌≡◌, drop, map}
use Rattle.pal_base.specs.View.{name_of}
use Rattle.source_findings.specs.Views.{judge_of, names_of, state_of}
use Rattle.source_findings.specs.Walk as spec
use Rattle.source_findings.proofs.walk.targets.Given as goal

abbrev pub invariant-loop-name : goal.invariant-loop-name
invariant-loop-name l =
    spec.targets (judge_of l.judge) (map (name_of (names_of l.judge)) (drop l.name-index l.names)) (state_of l.walk)
    ≡ spec.targets (judge_of l.judge) (map (name_of (names_of l.judge)) l.names) (state_of l.fn.walk)

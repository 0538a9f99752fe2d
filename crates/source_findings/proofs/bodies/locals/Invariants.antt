use Rattle.std.proofs.Common.{◌≡◌, drop, map}
use Rattle.pal_base.specs.View.{name_of}
use Rattle.source_findings.specs.Bodies as spec
use Rattle.source_findings.specs.Views.{entries_of, judge_of, names_of, state_of}
use Rattle.source_findings.proofs.bodies.locals.Given as goal

abbrev pub invariant-loop-name : goal.invariant-loop-name
invariant-loop-name l =
    (spec.locals (judge_of l.judge) (entries_of l.own.items) (map (name_of (names_of l.judge)) (drop l.name-index l.locals)) (state_of l.walk)
    ≡ spec.locals (judge_of l.judge) (entries_of l.fn.own.items) (map (name_of (names_of l.judge)) l.locals) (state_of l.fn.walk))
    × (spec.with_own (entries_of l.own.items) (map (name_of (names_of l.judge)) (drop l.name-index l.locals))
    ≡ spec.with_own (entries_of l.fn.own.items) (map (name_of (names_of l.judge)) l.locals))

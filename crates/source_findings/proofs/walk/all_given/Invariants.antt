use Rattle.std.proofs.Common.{◌≡◌, drop, true}
use Rattle.pal_base.specs.View.{exprs_of}
use Rattle.source_findings.specs.Views.{judge_of, names_of, state_of}
use Rattle.source_findings.specs.Walk as spec
use Rattle.source_findings.proofs.walk.all_given.Given as goal

abbrev pub invariant-loop-expr : goal.invariant-loop-expr
invariant-loop-expr l =
    spec.all_given (judge_of l.judge) l.left (exprs_of (names_of l.judge) (drop l.expr-index l.exprs)) l.is_first (state_of l.walk)
    ≡ spec.all_given (judge_of l.judge) l.kinds (exprs_of (names_of l.judge) l.exprs) true (state_of l.fn.walk)

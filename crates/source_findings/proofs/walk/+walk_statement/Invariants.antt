use Rattle.std.proofs.Common.{◌≡◌, drop}
use Rattle.pal_base.specs.View.{block_of}
use Rattle.source_findings.specs.Views.{judge_of, names_of, state_of}
use Rattle.source_findings.specs.Walk as spec
use Rattle.source_findings.proofs.walk.+walk_statement.Given as goal

abbrev pub invariant-block-loop-stmt : goal.invariant-block-loop-stmt
invariant-block-loop-stmt l =
    spec.block (judge_of l.judge) l.returns (block_of (names_of l.judge) (drop l.stmt-index l.stmts)) (state_of l.walk)
    ≡ spec.block (judge_of l.judge) l.returns (block_of (names_of l.judge) l.stmts) (state_of l.fn.walk)

use Rattle.std.proofs.Common.{◌∙◌, ap, sym}
use Rattle.pal.proofs.SyntaxRows.{seen_if, seen_if_else, seen_while}
use Rattle.pal_base.specs.View.{block_of}
use Rattle.source_findings.specs.Views.{judge_of, names_of, state_of}
use Rattle.source_findings.specs.Walk as spec
use Rattle.source_findings.proofs.walk.+walk_statement.Goals as goal

pub statement-returns-in_ok-block-in-If : goal.statement-returns-in_ok-block-in-If
statement-returns-in_ok-block-in-If t c =
    let seen = ap (λ s. spec.stmt (judge_of c.args.judge.now) c.args.returns s (state_of c.args.walk.now)) (seen_if (names_of c.args.judge.now) _ _ _ _ c.in-If.is c.deref.ensures.value) in
    c.in_ok-block-in-If.ensures
    ∙ ap (λ s. spec.block (judge_of c.args.judge.now) c.args.returns (block_of (names_of c.args.judge.now) c.deref.result.now) s) c.in_ok-tested-in-If.ensures
    ∙ sym seen

pub statement-returns-in_ok-block-in-While : goal.statement-returns-in_ok-block-in-While
statement-returns-in_ok-block-in-While t c =
    let seen = ap (λ s. spec.stmt (judge_of c.args.judge.now) c.args.returns s (state_of c.args.walk.now)) (seen_while (names_of c.args.judge.now) _ _ _ _ c.in-While.is c.deref-in-While.ensures.value) in
    c.in_ok-block-in-While.ensures
    ∙ ap (λ s. spec.block (judge_of c.args.judge.now) c.args.returns (block_of (names_of c.args.judge.now) c.deref-in-While.result.now) s) c.in_ok-tested-in-While.ensures
    ∙ sym seen

pub statement-returns-in_ok-otherwise-in-IfElse : goal.statement-returns-in_ok-otherwise-in-IfElse
statement-returns-in_ok-otherwise-in-IfElse t c =
    let seen = ap (λ s. spec.stmt (judge_of c.args.judge.now) c.args.returns s (state_of c.args.walk.now)) (seen_if_else (names_of c.args.judge.now) _ _ _ _ _ _ c.in-IfElse.is c.deref-in-IfElse.ensures.value c.deref-in-IfElse-2.ensures.value) in
    c.in_ok-otherwise-in-IfElse.ensures
    ∙ ap (λ s. spec.otherwise (judge_of c.args.judge.now) c.args.returns (block_of (names_of c.args.judge.now) c.deref-in-IfElse-2.result.now) s)
    (c.in_ok-block-in-IfElse.ensures
    ∙ ap (λ s. spec.block (judge_of c.args.judge.now) c.args.returns (block_of (names_of c.args.judge.now) c.deref-in-IfElse.result.now) s) c.in_ok-tested-in-IfElse.ensures)
    ∙ sym seen

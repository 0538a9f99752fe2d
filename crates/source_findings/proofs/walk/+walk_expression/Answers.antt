use Rattle.std.proofs.Common.{◌∙◌, ap, sym}
use Rattle.pal.proofs.SyntaxRows.{seen_apply, seen_chain}
use Rattle.pal_base.specs.View.{links_of}
use Rattle.source_findings.specs.Views.{judge_of, names_of, state_of}
use Rattle.source_findings.specs.Walk as spec
use Rattle.source_findings.proofs.walk.+walk_expression.Goals as goal

pub expression-returns-in_ok-apply-in-Apply : goal.expression-returns-in_ok-apply-in-Apply
expression-returns-in_ok-apply-in-Apply t c =
    let seen = ap (λ e. spec.expr (judge_of c.args.judge.now) e (state_of c.args.walk.now)) (seen_apply (names_of c.args.judge.now) _ _ _ _ c.in-Apply.is c.deref-in-Apply.ensures.value) in
    c.in_ok-apply-in-Apply.ensures ∙ sym seen

pub expression-returns-in_ok-links-in-Chain : goal.expression-returns-in_ok-links-in-Chain
expression-returns-in_ok-links-in-Chain t c =
    let seen = ap (λ e. spec.expr (judge_of c.args.judge.now) e (state_of c.args.walk.now)) (seen_chain (names_of c.args.judge.now) _ _ _ _ _ c.in-Chain.is c.deref-in-Chain.ensures c.deref-in-Chain-2.ensures.value) in
    c.in_ok-links-in-Chain.ensures
    ∙ ap (λ s. spec.links (judge_of c.args.judge.now) (links_of (names_of c.args.judge.now) c.deref-in-Chain-2.result.now) s) c.in_ok-expression-in-Chain.ensures
    ∙ sym seen

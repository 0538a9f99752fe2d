use Rattle.std.proofs.Common.{◌∙◌, ap, sym, true}
use Rattle.pal.proofs.SyntaxRows.{seen_apply, seen_chain}
use Rattle.pal_base.specs.View.{exprs_of, links_of}
use Rattle.source_places.specs.Passing as spec
use Rattle.source_places.specs.Words.{next_word}
use Rattle.source_places.proofs.passing.+after_expr.Goals as goal

pub after_expr-returns-in-Apply : goal.after_expr-returns-in-Apply
after_expr-returns-in-Apply t c names =
    let seen = ap (λ e. spec.after_expr e c.args.text.now) (seen_apply names _ _ _ _ c.in-Apply.is c.deref-in-Apply.ensures.value) in
    c.next_word-in-Apply-3.ensures
    ∙ ap next_word
    (c.after_arguments.ensures names
    ∙ ap (λ text. spec.after_arguments (exprs_of names c.deref-in-Apply.result.now) true text) (c.next_word-in-Apply-2.ensures ∙ ap next_word c.next_word-in-Apply.ensures))
    ∙ sym seen

pub after_expr-returns-in-Chain : goal.after_expr-returns-in-Chain
after_expr-returns-in-Chain t c names =
    let seen = ap (λ e. spec.after_expr e c.args.text.now) (seen_chain names _ _ _ _ _ c.in-Chain.is c.deref-in-Chain.ensures c.deref-in-Chain-2.ensures.value) in
    c.after_links.ensures names ∙ ap (λ text. spec.after_links (links_of names c.deref-in-Chain-2.result.now) text) (c.after_expr-in-Chain.ensures names) ∙ sym seen

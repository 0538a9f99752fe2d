use Rattle.std.proofs.Common.{◌++◌, ◌∷◌, [], sym, ap, ◌∙◌, append_assoc}
use Rattle.pal.proofs.SyntaxRows.{seen_apply, seen_chain}
use Rattle.pal_base.specs.View.{expr_of, exprs_of, links_of}
use Rattle.source_places.proofs.Added.{on_ok}
use Rattle.source_places.specs.Places as spec
use Rattle.source_places.proofs.places.+add_expr.Goals as goal

pub add_expr-returns-in_ok-add_exprs-in-Apply : goal.add_expr-returns-in_ok-add_exprs-in-Apply
add_expr-returns-in_ok-add_exprs-in-Apply t c names =
    let seen = ap (spec.expr_places c.args.place) (seen_apply names _ _ _ _ c.in-Apply.is c.deref-in-Apply.ensures.value) in
    let old = c.args.places.now.items in
    let first = spec.exprs_places c.args.place (exprs_of names c.deref-in-Apply.result.now) in
    let last = c.args.place ∷ [] in
    on_ok c.add-in-Apply.result (λ e. e ∙ ap (λ l. l ++ last) (c.in_ok-add_exprs-in-Apply.ensures names) ∙ append_assoc old first last ∙ ap (λ l. old ++ l) (sym seen)) c.add-in-Apply.ensures

pub add_expr-returns-in_ok-add_expr-in-Chain : goal.add_expr-returns-in_ok-add_expr-in-Chain
add_expr-returns-in_ok-add_expr-in-Chain t c names =
    let seen = ap (spec.expr_places c.args.place) (seen_chain names _ _ _ _ _ c.in-Chain.is c.deref-in-Chain.ensures c.deref-in-Chain-2.ensures.value) in
    let old = c.args.places.now.items in
    let first = spec.expr_places c.args.place (expr_of names c.deref-in-Chain.result.now) in
    let rest = spec.links_places c.args.place (links_of names c.deref-in-Chain-2.result.now) in
    on_ok c.add_links.result (λ e. e ∙ ap (λ l. l ++ rest) (c.in_ok-add_expr-in-Chain.ensures names) ∙ append_assoc old first rest ∙ ap (λ l. old ++ l) (sym seen)) (c.add_links.ensures names)

use Rattle.std.proofs.Common.{◌∙◌, ap, sym}
use Rattle.pal_meaning.specs.Program as tree
use Rattle.pal_meaning.specs.Resolve.{resolve_argument, named, array_size_of}
use Rattle.pal_base.specs.View as view
use Rattle.pal.specs.Parts.{exprs_onto}
use Rattle.pal.specs.Scopes.{names_of, sees}
use Rattle.pal.proofs.Resolved.{exprs_push}
use Rattle.pal.proofs.resolving.push_argument.Goals as goal

pub returns-in_ok-push-in-Word : goal.returns-in_ok-push-in-Word
returns-in_ok-push-in-Word c = λ rest.
    let old = c.args.words.now.items in
    let e = view.expr_of (names_of c.args.scope.now) c.args.argument.now in
    ap (λ l. exprs_onto l rest) c.in_ok-push-in-Word.ensures.items
    ∙ exprs_push old (c.in_ok-resolve_expression-in-Word).field-0 rest
    ∙ ap (λ x. exprs_onto old (tree.MoreExprs x rest)) (c.in_ok-resolve_expression-in-Word).ensures
    ∙ ap (λ k. exprs_onto old (resolve_argument (sees c.args.scope.now) k e rest)) (sym c.in-Word.is)

pub returns-in_ok-push-in-Object : goal.returns-in_ok-push-in-Object
returns-in_ok-push-in-Object c = λ rest.
    let old = c.args.words.now.items in
    let e = view.expr_of (names_of c.args.scope.now) c.args.argument.now in
    ap (λ l. exprs_onto l rest) c.in_ok-push-in-Object.ensures.items
    ∙ exprs_push old c.object_number.result rest
    ∙ ap (λ x. exprs_onto old (tree.MoreExprs x rest)) c.object_number.ensures
    ∙ ap (λ k. exprs_onto old (resolve_argument (sees c.args.scope.now) k e rest)) (sym c.in-Object.is)

pub returns-in_ok-push-in-Array-2 : goal.returns-in_ok-push-in-Array-2
returns-in_ok-push-in-Array-2 c = λ rest.
    let old = c.args.words.now.items in
    let e = view.expr_of (names_of c.args.scope.now) c.args.argument.now in
    let size = tree.Literal (array_size_of (named (sees c.args.scope.now) e)) in
    ap (λ l. exprs_onto l rest) c.in_ok-push-in-Array-2.ensures.items
    ∙ exprs_push c.push-in-Array.new.self.items c.array_size.result rest
    ∙ ap (λ x. exprs_onto c.push-in-Array.new.self.items (tree.MoreExprs x rest)) c.array_size.ensures
    ∙ ap (λ l. exprs_onto l (tree.MoreExprs size rest)) c.in_ok-push-in-Array.ensures.items
    ∙ exprs_push old c.array_place.result (tree.MoreExprs size rest)
    ∙ ap (λ x. exprs_onto old (tree.MoreExprs x (tree.MoreExprs size rest))) c.array_place.ensures
    ∙ ap (λ k. exprs_onto old (resolve_argument (sees c.args.scope.now) k e rest)) (sym c.in-Array.is)

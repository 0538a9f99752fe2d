use Rattle.std.proofs.Common.{◌∙◌, ap, sym}
use Rattle.pal.proofs.SyntaxRows.{seen_if, seen_if_else, seen_while}
use Rattle.pal_base.specs.View.{block_of}
use Rattle.source_places.specs.Passing as spec
use Rattle.source_places.specs.Words.{next_word}
use Rattle.source_places.proofs.passing.+after_stmt.Goals as goal

pub after_stmt-returns-in-If : goal.after_stmt-returns-in-If
after_stmt-returns-in-If t c names =
    let seen = ap (λ s. spec.after_stmt s c.args.text.now) (seen_if names _ _ _ _ c.in-If.is c.deref.ensures.value) in
    c.next_word-in-If.ensures
    ∙ ap next_word (c.after_block.ensures names ∙ ap (λ text. spec.after_block (block_of names c.deref.result.now) text) (c.after_test.ensures names))
    ∙ sym seen

pub after_stmt-returns-in-While : goal.after_stmt-returns-in-While
after_stmt-returns-in-While t c names =
    let seen = ap (λ s. spec.after_stmt s c.args.text.now) (seen_while names _ _ _ _ c.in-While.is c.deref-in-While.ensures.value) in
    c.next_word-in-While.ensures
    ∙ ap next_word (c.after_block-in-While.ensures names ∙ ap (λ text. spec.after_block (block_of names c.deref-in-While.result.now) text) (c.after_test-in-While.ensures names))
    ∙ sym seen

pub after_stmt-returns-in-IfElse : goal.after_stmt-returns-in-IfElse
after_stmt-returns-in-IfElse t c names =
    let seen = ap (λ s. spec.after_stmt s c.args.text.now) (seen_if_else names _ _ _ _ _ _ c.in-IfElse.is c.deref-in-IfElse.ensures.value c.deref-in-IfElse-2.ensures.value) in
    let block = c.after_block-rest.ensures names ∙ ap (λ text. spec.after_block (block_of names c.deref-in-IfElse.result.now) text) (c.after_test-in-IfElse.ensures names) in
    c.next_word-in-IfElse.ensures
    ∙ ap next_word (c.after_block-in-IfElse.ensures names ∙ ap (λ text. spec.after_block (block_of names c.deref-in-IfElse-2.result.now) text) (c.after_else.ensures ∙ ap spec.after_else block))
    ∙ sym seen

use Rattle.std.proofs.Common.{◌≡◌, ℕ, List, ◌++◌, ◌∷◌, [], sym, ap, ◌∙◌, append_assoc, length}
use Rattle.pal.proofs.SyntaxRows.{seen_if, seen_if_else, seen_while}
use Rattle.pal_base.specs.View.{block_of, expr_of}
use Rattle.source_places.proofs.Added.{on_ok, three_added, four_added}
use Rattle.source_places.specs.Passing as passing
use Rattle.source_places.specs.Places as spec
use Rattle.source_places.proofs.places.+add_stmt.Goals as goal

pub add_stmt-returns-in_ok-add_test-in-If : goal.add_stmt-returns-in_ok-add_test-in-If
add_stmt-returns-in_ok-add_test-in-If t c names =
    let text = c.args.text.now in
    let seen = ap (spec.stmt_places text) (seen_if names _ _ _ _ c.in-If.is c.deref.ensures.value) in
    let old = c.args.places.now.items in
    let test = spec.test_places text (expr_of names c.in-If.test) in
    let block = spec.block_places c.after_test.result.now (block_of names c.deref.result.now) in
    let at = ap (λ (t : List ℕ). spec.block_places t (block_of names c.deref.result.now)) (c.after_test.ensures names) in
    on_ok c.add_block.result (λ e. e ∙ ap (λ l. l ++ block) (c.in_ok-add_test-in-If.ensures names) ∙ append_assoc old test block ∙ ap (λ l. old ++ (test ++ l)) at ∙ ap (λ l. old ++ l) (sym seen)) (c.add_block.ensures names)

pub add_stmt-returns-in_ok-add_block-in-While : goal.add_stmt-returns-in_ok-add_block-in-While
add_stmt-returns-in_ok-add_block-in-While t c names =
    let text = c.args.text.now in
    let seen = ap (spec.stmt_places text) (seen_while names _ _ _ _ c.in-While.is c.deref-in-While.ensures.value) in
    let old = c.args.places.now.items in
    let test = spec.test_places text (expr_of names c.in-While.test) in
    let block = spec.block_places c.after_test-in-While.result.now (block_of names c.deref-in-While.result.now) in
    let last = length text ∷ [] in
    let at = ap (λ (t : List ℕ). spec.block_places t (block_of names c.deref-in-While.result.now)) (c.after_test-in-While.ensures names) in
    on_ok c.add-in-While.result
    (λ e. three_added old test block last (c.in_ok-add_test-in-While.ensures names) (c.in_ok-add_block-in-While.ensures names) e ∙ ap (λ l. old ++ ((test ++ l) ++ last)) at ∙ ap (λ l. old ++ l) (sym seen))
    c.add-in-While.ensures

pub add_stmt-returns-in_ok-add-in-IfElse : goal.add_stmt-returns-in_ok-add-in-IfElse
add_stmt-returns-in_ok-add-in-IfElse t c names =
    let text = c.args.text.now in
    let seen = ap (spec.stmt_places text) (seen_if_else names _ _ _ _ _ _ c.in-IfElse.is c.deref-in-IfElse.ensures.value c.deref-in-IfElse-3.ensures.value) in
    let old = c.args.places.now.items in
    let test = spec.test_places text (expr_of names c.in-IfElse.test) in
    let first = block_of names c.deref-in-IfElse.result.now in
    let block = spec.block_places c.after_test-inside.result.now first in
    let last = length text ∷ [] in
    let second = block_of names c.deref-in-IfElse-3.result.now in
    let other = spec.block_places c.after_else.result.now second in
    let at = ap (λ (t : List ℕ). spec.block_places t first) (c.after_test-inside.ensures names) in
    let same : c.deref-in-IfElse-2.result.now ≡ c.deref-in-IfElse.result.now = c.deref-in-IfElse-2.ensures.value ∙ sym c.deref-in-IfElse.ensures.value in
    let to =
    c.after_else.ensures
    ∙ ap passing.after_else (c.after_block.ensures names ∙ ap (λ ss. passing.after_block (block_of names ss) c.after_test-inside.result.now) same ∙ ap (passing.after_block first) (c.after_test-inside.ensures names)) in
    let there = ap (λ (t : List ℕ). spec.block_places t second) to in
    on_ok c.add_block-in-IfElse-2.result
    (λ e.
    four_added old test block last other (c.in_ok-add_test-in-IfElse.ensures names) (c.in_ok-add_block-in-IfElse.ensures names) c.in_ok-add-in-IfElse.ensures e
    ∙ ap (λ l. old ++ ((test ++ l) ++ (last ++ other))) at
    ∙ ap (λ l. old ++ ((test ++ spec.block_places (passing.after_test (expr_of names c.in-IfElse.test) text) first) ++ (last ++ l))) there
    ∙ ap (λ l. old ++ l) (sym seen))
    (c.add_block-in-IfElse-2.ensures names)

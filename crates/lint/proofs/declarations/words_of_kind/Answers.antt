use Rattle.std.proofs.Common.{map, refl}
use Rattle.pal_base.specs.View.{declaration_of, declared_of}
use Rattle.lint.specs.Measures.{object_words, words_of_kind}
use Rattle.lint.proofs.Adding.{all_added, item_goes_on}
use Rattle.lint.proofs.declarations.words_of_kind.Goals as goal

pub loop-declaration-preserved : goal.loop-declaration-preserved
loop-declaration-preserved c = λ names.
    item_goes_on (λ ds. words_of_kind c.args.kind (map (declaration_of names) ds)) (λ d. object_words c.args.kind (declared_of names d.kind)) c.args.declarations.now c.loop-declaration.declaration-index c.declaration-item.result c.loop-declaration.words.items
    c.add_words.new.words.items _ (λ y ys. refl) c.loop-declaration-test.true c.declaration-item.is (c.in_ok-add_words.ensures names) (c.loop-declaration.invariant names)

pub returns : goal.returns
returns c = λ names.
    all_added (λ ds. words_of_kind c.args.kind (map (declaration_of names) ds)) c.args.declarations.now c.loop-declaration.declaration-index c.loop-declaration.words.items _ refl c.loop-declaration-test.false (c.loop-declaration.invariant names)

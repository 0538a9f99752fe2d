use Rattle.std.proofs.Common.{map, refl}
use Rattle.pal_base.specs.View.{declaration_of, declared_of, name_of, texts}
use Rattle.lint.specs.Calls.{first_value, first_values}
use Rattle.lint.specs.Views.{mentions_seen}
use Rattle.lint.proofs.Adding.{all_added, item_goes_on}
use Rattle.lint.proofs.calls.add_first_values.Goals as goal

pub loop-declaration-preserved : goal.loop-declaration-preserved
loop-declaration-preserved c =
    let names = texts c.args.names.now.keys in
    item_goes_on (λ xs. first_values (map (declaration_of names) xs)) (λ x. first_value (declared_of names x.kind) (name_of names x.name)) c.args.declarations.now c.loop-declaration.declaration-index c.declaration-item.result (mentions_seen names c.loop-declaration.mentions.items)
    (mentions_seen names c.add_first_value.new.mentions.items) _ (λ y ys. refl) c.loop-declaration-test.true c.declaration-item.is (c.in_ok-add_first_value.ensures names) c.loop-declaration.invariant

pub returns : goal.returns
returns c =
    let names = texts c.args.names.now.keys in
    all_added (λ xs. first_values (map (declaration_of names) xs)) c.args.declarations.now c.loop-declaration.declaration-index (mentions_seen names c.loop-declaration.mentions.items) _ refl c.loop-declaration-test.false c.loop-declaration.invariant

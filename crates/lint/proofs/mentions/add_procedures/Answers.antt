use Rattle.std.proofs.Common.{map, refl}
use Rattle.pal_base.specs.View.{declaration_of, declared_of, texts}
use Rattle.lint.specs.Mentions.{mentions_of_kind, mentions_of_procedures}
use Rattle.lint.specs.Views.{mentions_seen}
use Rattle.lint.proofs.Adding.{all_added, item_goes_on}
use Rattle.lint.proofs.mentions.add_procedures.Goals as goal

pub loop-declaration-preserved : goal.loop-declaration-preserved
loop-declaration-preserved c =
    let names = texts c.args.names.now.keys in
    item_goes_on (λ xs. mentions_of_procedures (map (declaration_of names) xs)) (λ x. mentions_of_kind (declared_of names x.kind)) c.args.declarations.now c.loop-declaration.declaration-index c.declaration-item.result (mentions_seen names c.loop-declaration.mentions.items)
    (mentions_seen names c.add_procedure.new.mentions.items) _ (λ y ys. refl) c.loop-declaration-test.true c.declaration-item.is c.in_ok-add_procedure.ensures c.loop-declaration.invariant

pub returns : goal.returns
returns c =
    let names = texts c.args.names.now.keys in
    all_added (λ xs. mentions_of_procedures (map (declaration_of names) xs)) c.args.declarations.now c.loop-declaration.declaration-index (mentions_seen names c.loop-declaration.mentions.items) _ refl c.loop-declaration-test.false c.loop-declaration.invariant

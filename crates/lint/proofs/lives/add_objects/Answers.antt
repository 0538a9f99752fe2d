use Rattle.std.proofs.Common.{ap, map, refl, ◌++◌, ◌∙◌}
use Rattle.pal_base.specs.View.{declaration_of, declared_of, name_of, texts}
use Rattle.lint.specs.Lives.{never_created, object_kind, objects_never_created}
use Rattle.lint.specs.Views.{found_all}
use Rattle.lint.proofs.Adding.{all_added, item_goes_on}
use Rattle.lint.proofs.lives.add_objects.Goals as goal

pub loop-declaration-preserved : goal.loop-declaration-preserved
loop-declaration-preserved c =
    let names = texts c.args.names.now.keys in
    let calls = c.args.table.now in
    item_goes_on (λ ds. objects_never_created calls (map (declaration_of names) ds)) (λ d. never_created calls (object_kind (declared_of names d.kind)) (name_of names d.name)) c.args.declarations.now c.loop-declaration.declaration-index c.declaration-item.result (found_all c.loop-declaration.findings.items)
    (found_all c.expect_creation.new.findings.items) _ (λ y ys. refl) c.loop-declaration-test.true c.declaration-item.is (c.in_ok-expect_creation.ensures ∙ ap (λ k. found_all c.loop-declaration.findings.items ++ never_created calls k (name_of names c.declaration-item.result.name)) (c.object_kind-kind.ensures names)) c.loop-declaration.invariant

pub returns : goal.returns
returns c =
    let names = texts c.args.names.now.keys in
    let calls = c.args.table.now in
    all_added (λ ds. objects_never_created calls (map (declaration_of names) ds)) c.args.declarations.now c.loop-declaration.declaration-index (found_all c.loop-declaration.findings.items) _ refl c.loop-declaration-test.false c.loop-declaration.invariant

use Rattle.std.proofs.Common.{map, refl}
use Rattle.pal_base.specs.View.{declaration_of, declared_of, name_of, texts}
use Rattle.lint.specs.Unused.{unused_declaration, unused_declarations}
use Rattle.lint.specs.UsedNames.{used_names}
use Rattle.lint.specs.Views.{found_all}
use Rattle.lint.proofs.Adding.{all_added, item_goes_on}
use Rattle.lint.proofs.unused.add_declarations.Goals as goal

pub loop-declaration-preserved : goal.loop-declaration-preserved
loop-declaration-preserved c =
    let names = texts c.args.names.now.keys in
    let used = used_names c.args.used.now in
    item_goes_on (λ ds. unused_declarations used (map (declaration_of names) ds)) (λ d. unused_declaration used (declared_of names d.kind) (name_of names d.name)) c.args.declarations.now c.loop-declaration.declaration-index c.declaration-item.result (found_all c.loop-declaration.findings.items)
    (found_all c.add_declaration.new.findings.items) _ (λ y ys. refl) c.loop-declaration-test.true c.declaration-item.is c.in_ok-add_declaration.ensures c.loop-declaration.invariant

pub returns : goal.returns
returns c =
    let names = texts c.args.names.now.keys in
    let used = used_names c.args.used.now in
    all_added (λ ds. unused_declarations used (map (declaration_of names) ds)) c.args.declarations.now c.loop-declaration.declaration-index (found_all c.loop-declaration.findings.items) _ refl c.loop-declaration-test.false c.loop-declaration.invariant

use Rattle.std.proofs.Common.{map, refl}
use Rattle.pal_base.specs.View.{declaration_of, declared_of, name_of, texts}
use Rattle.lint.specs.Recursion.{endless_procedure, endless_procedures}
use Rattle.lint.specs.Views.{found_all}
use Rattle.lint.proofs.Adding.{all_added, item_goes_on}
use Rattle.lint.proofs.recursion.add_endless_procedures.Goals as goal

pub loop-declaration-preserved : goal.loop-declaration-preserved
loop-declaration-preserved c =
    let names = texts c.args.names.now.keys in
    item_goes_on (λ xs. endless_procedures (map (declaration_of names) xs)) (λ x. endless_procedure (declared_of names x.kind) (name_of names x.name)) c.args.declarations.now c.loop-declaration.declaration-index c.declaration-item.result (found_all c.loop-declaration.findings.items)
    (found_all c.add_procedure.new.findings.items) _ (λ y ys. refl) c.loop-declaration-test.true c.declaration-item.is c.in_ok-add_procedure.ensures c.loop-declaration.invariant

pub returns : goal.returns
returns c =
    let names = texts c.args.names.now.keys in
    all_added (λ xs. endless_procedures (map (declaration_of names) xs)) c.args.declarations.now c.loop-declaration.declaration-index (found_all c.loop-declaration.findings.items) _ refl c.loop-declaration-test.false c.loop-declaration.invariant

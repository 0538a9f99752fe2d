use Rattle.std.proofs.Common.{map, refl}
use Rattle.pal_base.specs.View.{declaration_of, declared_of, texts}
use Rattle.lint.specs.Locks.{locked_in_kind, locked_in_procedures}
use Rattle.lint.specs.Views.{found_all}
use Rattle.lint.proofs.Adding.{all_added, item_goes_on}
use Rattle.lint.proofs.locks.add_procedures.Goals as goal

pub loop-declaration-preserved : goal.loop-declaration-preserved
loop-declaration-preserved c =
    let names = texts c.args.names.now.keys in
    item_goes_on (λ xs. locked_in_procedures (map (declaration_of names) xs)) (λ x. locked_in_kind (declared_of names x.kind)) c.args.declarations.now c.loop-declaration.declaration-index c.declaration-item.result (found_all c.loop-declaration.findings.items)
    (found_all c.add_procedure.new.findings.items) _ (λ y ys. refl) c.loop-declaration-test.true c.declaration-item.is c.in_ok-add_procedure.ensures c.loop-declaration.invariant

pub returns : goal.returns
returns c =
    let names = texts c.args.names.now.keys in
    all_added (λ xs. locked_in_procedures (map (declaration_of names) xs)) c.args.declarations.now c.loop-declaration.declaration-index (found_all c.loop-declaration.findings.items) _ refl c.loop-declaration-test.false c.loop-declaration.invariant

use Rattle.std.proofs.Common.{flat_map, map, refl}
use Rattle.pal_base.specs.View.{name_of, texts}
use Rattle.lint.specs.Unused.{unused}
use Rattle.lint.specs.UsedNames.{used_names}
use Rattle.lint.specs.Views.{found_all}
use Rattle.lint.proofs.Adding.{all_added, goes_on}
use Rattle.lint.proofs.unused.add_own.Goals as goal

pub loop-name-preserved : goal.loop-name-preserved
loop-name-preserved c =
    let names = texts c.args.names.now.keys in
    let used = used_names c.args.used.now in
    goes_on (λ xs. flat_map (unused used c.args.kind) (map (name_of names) xs)) (λ x. unused used c.args.kind (name_of names x)) c.args.own.now c.loop-name.name-index _ (found_all c.loop-name.findings.items)
    (found_all c.expect_use.new.findings.items) _ (λ y ys. refl) c.loop-name-test.true c.in_ok-expect_use.ensures c.loop-name.invariant

pub returns : goal.returns
returns c =
    let names = texts c.args.names.now.keys in
    let used = used_names c.args.used.now in
    all_added (λ xs. flat_map (unused used c.args.kind) (map (name_of names) xs)) c.args.own.now c.loop-name.name-index (found_all c.loop-name.findings.items) _ refl c.loop-name-test.false c.loop-name.invariant

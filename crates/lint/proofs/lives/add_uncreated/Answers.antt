use Rattle.std.proofs.Common.{Some, map, refl}
use Rattle.apex_types.specs.declared.denotation.ObjectKind.TheVariants as object
use Rattle.pal_base.specs.View.{name_of, process_of, texts}
use Rattle.lint.specs.Lives.{never_created, processes_never_created}
use Rattle.lint.specs.Views.{found_all}
use Rattle.lint.proofs.Adding.{all_added, item_goes_on}
use Rattle.lint.proofs.lives.add_uncreated.Goals as goal

pub loop-process-preserved : goal.loop-process-preserved
loop-process-preserved c =
    let names = texts c.args.names.now.keys in
    let calls = c.args.table.now in
    item_goes_on (λ ps. processes_never_created calls (map (process_of names) ps)) (λ p. never_created calls (Some object.Process) (name_of names p.name)) c.args.processes.now c.loop-process.process-index c.process-item.result (found_all c.loop-process.findings.items)
    (found_all c.expect_creation.new.findings.items) _ (λ y ys. refl) c.loop-process-test.true c.process-item.is c.in_ok-expect_creation.ensures c.loop-process.invariant

pub returns : goal.returns
returns c =
    let names = texts c.args.names.now.keys in
    let calls = c.args.table.now in
    all_added (λ ps. processes_never_created calls (map (process_of names) ps)) c.args.processes.now c.loop-process.process-index (found_all c.loop-process.findings.items) _ refl c.loop-process-test.false c.loop-process.invariant

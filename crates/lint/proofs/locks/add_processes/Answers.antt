use Rattle.std.proofs.Common.{map, refl}
use Rattle.pal_base.specs.View.{body_of, process_of, texts}
use Rattle.lint.specs.Locks.{locked_in_body, locked_in_processes}
use Rattle.lint.specs.Views.{found_all}
use Rattle.lint.proofs.Adding.{all_added, item_goes_on}
use Rattle.lint.proofs.locks.add_processes.Goals as goal

pub loop-process-preserved : goal.loop-process-preserved
loop-process-preserved c =
    let names = texts c.args.names.now.keys in
    item_goes_on (λ xs. locked_in_processes (map (process_of names) xs)) (λ x. locked_in_body (body_of names x.body)) c.args.processes.now c.loop-process.process-index c.process-item.result (found_all c.loop-process.findings.items)
    (found_all c.add_body.new.findings.items) _ (λ y ys. refl) c.loop-process-test.true c.process-item.is c.in_ok-add_body.ensures c.loop-process.invariant

pub returns : goal.returns
returns c =
    let names = texts c.args.names.now.keys in
    all_added (λ xs. locked_in_processes (map (process_of names) xs)) c.args.processes.now c.loop-process.process-index (found_all c.loop-process.findings.items) _ refl c.loop-process-test.false c.loop-process.invariant

use Rattle.std.proofs.Common.{map, refl}
use Rattle.pal_base.specs.View.{process_of, texts}
use Rattle.lint.specs.Lives.{without_wait, without_waits}
use Rattle.lint.specs.Views.{calls_seen, found_all, mentions_seen}
use Rattle.lint.proofs.Adding.{all_added, item_goes_on}
use Rattle.lint.proofs.lives.add_without_waits.Goals as goal

pub loop-process-preserved : goal.loop-process-preserved
loop-process-preserved c =
    let names = texts c.args.names.now.keys in
    item_goes_on (λ xs. without_waits (mentions_seen names c.args.done.now) (calls_seen names c.args.calls.now) (map (process_of names) xs)) (λ x. without_wait (mentions_seen names c.args.done.now) (calls_seen names c.args.calls.now) (process_of names x)) c.args.processes.now c.loop-process.process-index c.process-item.result (found_all c.loop-process.findings.items)
    (found_all c.add_without_wait.new.findings.items) _ (λ y ys. refl) c.loop-process-test.true c.process-item.is c.in_ok-add_without_wait.ensures c.loop-process.invariant

pub returns : goal.returns
returns c =
    let names = texts c.args.names.now.keys in
    all_added (λ xs. without_waits (mentions_seen names c.args.done.now) (calls_seen names c.args.calls.now) (map (process_of names) xs)) c.args.processes.now c.loop-process.process-index (found_all c.loop-process.findings.items) _ refl c.loop-process-test.false c.loop-process.invariant

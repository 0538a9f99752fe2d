use Rattle.std.proofs.Common.{map, refl}
use Rattle.pal_base.specs.View.{body_of, process_of, texts}
use Rattle.lint.specs.Mentions.{mentions_of, mentions_of_processes}
use Rattle.lint.specs.Views.{mentions_seen}
use Rattle.lint.proofs.Adding.{all_added, item_goes_on}
use Rattle.lint.proofs.mentions.add_processes.Goals as goal

pub loop-process-preserved : goal.loop-process-preserved
loop-process-preserved c =
    let names = texts c.args.names.now.keys in
    item_goes_on (λ xs. mentions_of_processes (map (process_of names) xs)) (λ x. mentions_of (body_of names x.body)) c.args.processes.now c.loop-process.process-index c.process-item.result (mentions_seen names c.loop-process.mentions.items)
    (mentions_seen names c.add_body.new.mentions.items) _ (λ y ys. refl) c.loop-process-test.true c.process-item.is c.in_ok-add_body.ensures c.loop-process.invariant

pub returns : goal.returns
returns c =
    let names = texts c.args.names.now.keys in
    all_added (λ xs. mentions_of_processes (map (process_of names) xs)) c.args.processes.now c.loop-process.process-index (mentions_seen names c.loop-process.mentions.items) _ refl c.loop-process-test.false c.loop-process.invariant

use Rattle.std.proofs.Common.{map, refl}
use Rattle.table_findings.proofs.Turns.{item_goes_on}
use Rattle.table_findings.specs.Names.{ends_from, ends_of}
use Rattle.table_findings.specs.Views.{findings_of}
use Rattle.window_table.specs.Views.{channel_text, partition_text}
use Rattle.table_findings.proofs.unknown.channels.Goals as goal

pub loop-index-preserved : goal.loop-index-preserved
loop-index-preserved c =
    let ps = map partition_text c.args.partitions.now in
    item_goes_on (λ i cs. ends_from ps i (map channel_text cs)) (λ i ch. ends_of ps i (channel_text ch)) c.args.channels.now c.loop-index.index c.index-channels-index.result (findings_of c.loop-index.found.items)
    (findings_of c.channel.new.found.items) _ (λ y ys. refl) c.loop-index-test.true c.index-channels-index.is c.in_ok-channel.ensures c.loop-index.invariant

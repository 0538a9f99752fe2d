use Rattle.std.proofs.Common.{map, refl}
use Rattle.table_findings.specs.Names.{channel_names}
use Rattle.window_table.specs.Views.{channel_text}
use Rattle.table_findings.proofs.Turns.{one_item_more}
use Rattle.table_findings.proofs.repeated.channel_names.Goals as goal

pub loop-channel-preserved : goal.loop-channel-preserved
loop-channel-preserved c =
    one_item_more (λ name. name.now) (λ xs. channel_names (map channel_text xs)) (λ x. x.name) c.args.channels.now c.loop-channel.channel-index c.channel-item.result c.loop-channel.names.items c.push.new.self.items _ (λ x xs. refl)
    c.loop-channel-test.true c.channel-item.is c.in_ok-push.ensures.items c.loop-channel.invariant

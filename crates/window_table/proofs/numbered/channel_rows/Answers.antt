use Rattle.std.proofs.Common.{refl, map, sym}
use Rattle.std.specs.List.{list_any}
use Rattle.module_meaning.specs.TableRules.{exceeds_channel, has_unknown_end, channel_row}
use Rattle.window_table.specs.Views.{partition_text, channel_text, channel_view}
use Rattle.window_table.proofs.Rows.{none_behind, item_here, one_more_item, pushed_view}
use Rattle.window_table.proofs.numbered.channel_rows.Goals as goal

pub loop-channel-preserved : goal.loop-channel-preserved
loop-channel-preserved c =
    let ps = map partition_text c.args.partitions.rows.now in
    record {
      names = none_behind (λ h. exceeds_channel (channel_text h)) (λ hs. list_any exceeds_channel (map channel_text hs)) c.args.channels.now c.loop-channel.channel-index
          (λ x ys. refl) c.loop-channel-test.true c.loop-channel.invariant.names;
      known = none_behind (λ h. has_unknown_end ps (channel_text h)) (λ hs. list_any (has_unknown_end ps) (map channel_text hs)) c.args.channels.now c.loop-channel.channel-index
          (λ x ys. refl) c.loop-channel-test.true c.loop-channel.invariant.known;
      built = one_more_item (λ h. channel_row ps (channel_text h)) (λ hs. map (channel_row ps) (map channel_text hs)) c.args.channels.now c.loop-channel.channel-index c.channel-item.result
          (map channel_view c.loop-channel.rows.items) _ _ (λ x ys. refl) c.loop-channel-test.true c.channel-item.is
          (pushed_view channel_view c.push.result _ c.loop-channel.rows.items _ _ c.if-is_err.ensures.value c.push.ensures.items (sym c.in_ok-row.ensures.ok))
          c.loop-channel.invariant.built;
    }

pub channel_row-requires : goal.channel_row-requires
channel_row-requires c =
    let ps = map partition_text c.args.partitions.rows.now in
    record {
      name = item_here (λ h. exceeds_channel (channel_text h)) (λ hs. list_any exceeds_channel (map channel_text hs)) c.args.channels.now c.loop-channel.channel-index c.channel-item.result
          (λ x ys. refl) c.loop-channel-test.true c.channel-item.is c.loop-channel.invariant.names;
      known = item_here (λ h. has_unknown_end ps (channel_text h)) (λ hs. list_any (has_unknown_end ps) (map channel_text hs)) c.args.channels.now c.loop-channel.channel-index
          c.channel-item.result (λ x ys. refl) c.loop-channel-test.true c.channel-item.is c.loop-channel.invariant.known;
    }

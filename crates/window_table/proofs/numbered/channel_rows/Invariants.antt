use Rattle.std.proofs.Common.{◌≡◌, ◌++◌, map, drop, false}
use Rattle.std.specs.List.{list_any}
use Rattle.module_meaning.specs.TableRules.{exceeds_channel, has_unknown_end, channel_row}
use Rattle.window_table.specs.Views.{partition_text, channel_text, channel_view}
use Rattle.window_table.proofs.numbered.channel_rows.Given as goal

abbrev pub invariant-loop-channel : goal.invariant-loop-channel
invariant-loop-channel l = record {
  names : list_any exceeds_channel (map channel_text (drop l.channel-index l.channels)) ≡ false;
  known : list_any (has_unknown_end (map partition_text l.partitions.rows.now)) (map channel_text (drop l.channel-index l.channels)) ≡ false;
  built : map (channel_row (map partition_text l.partitions.rows.now)) (map channel_text l.channels) ≡ map channel_view l.rows.items ++ map (channel_row (map partition_text l.partitions.rows.now)) (map channel_text (drop l.channel-index l.channels));
}

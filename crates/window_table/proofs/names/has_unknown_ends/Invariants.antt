use Rattle.std.proofs.Common.{◌≡◌, map, drop}
use Rattle.std.specs.List.{list_any}
use Rattle.module_meaning.specs.TableRules.{has_unknown_end}
use Rattle.window_table.specs.Views.{partition_text, channel_text}
use Rattle.window_table.proofs.names.has_unknown_ends.Given as goal

abbrev pub invariant-loop-channel : goal.invariant-loop-channel
invariant-loop-channel l = list_any (has_unknown_end (map partition_text l.partitions.rows.now)) (map channel_text l.channels) ≡ list_any (has_unknown_end (map partition_text l.partitions.rows.now)) (map channel_text (drop l.channel-index l.channels))

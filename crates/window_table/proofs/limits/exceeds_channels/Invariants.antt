use Rattle.std.proofs.Common.{◌≡◌, map, drop}
use Rattle.std.specs.List.{list_any}
use Rattle.module_meaning.specs.TableRules.{exceeds_channel}
use Rattle.window_table.specs.Views.{channel_text}
use Rattle.window_table.proofs.limits.exceeds_channels.Given as goal

abbrev pub invariant-loop-channel : goal.invariant-loop-channel
invariant-loop-channel l = list_any exceeds_channel (map channel_text l.channels) ≡ list_any exceeds_channel (map channel_text (drop l.channel-index l.channels))

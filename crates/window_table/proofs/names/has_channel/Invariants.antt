use Rattle.std.proofs.Common.{◌≡◌, map, drop}
use Rattle.std.specs.List.{list_any}
use Rattle.module_meaning.specs.TableRules.{same}
use Rattle.window_table.specs.Views.{channel_text}
use Rattle.window_table.proofs.names.has_channel.Given as goal

abbrev pub invariant-loop-channel : goal.invariant-loop-channel
invariant-loop-channel l = list_any (λ b. same l.name b.name) (map channel_text l.channels) ≡ list_any (λ b. same l.name b.name) (map channel_text (drop l.channel-index l.channels))

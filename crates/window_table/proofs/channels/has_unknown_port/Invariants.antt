use Rattle.std.proofs.Common.{◌≡◌, map, drop}
use Rattle.std.specs.List.{list_any}
use Rattle.module_meaning.specs.Table.{ends_of}
use Rattle.module_meaning.specs.ImageRules.{is_unknown_port}
use Rattle.window_table.specs.Views.{channel_view}
use Rattle.window_table.proofs.channels.has_unknown_port.Given as goal

abbrev pub invariant-loop-channel : goal.invariant-loop-channel
invariant-loop-channel g l = list_any (λ c. list_any (is_unknown_port (map g.P.HasRow.row_of l.partitions)) (ends_of c)) (map channel_view l.channels) ≡ list_any (λ c. list_any (is_unknown_port (map g.P.HasRow.row_of l.partitions)) (ends_of c)) (map channel_view (drop l.channel-index l.channels))

use Rattle.std.proofs.Common.{◌≡◌, map, drop}
use Rattle.std.specs.List.{list_any}
use Rattle.window_table.specs.Views.{channel_view}
use Rattle.lint.specs.Channels.{leads_to}
use Rattle.lint.proofs.channels.is_connected.Given as goal

abbrev pub invariant-loop-channel : goal.invariant-loop-channel
invariant-loop-channel l = list_any (leads_to l.place.partition l.place.port) (map channel_view l.channels) ≡ list_any (leads_to l.place.partition l.place.port) (map channel_view (drop l.channel-index l.channels))

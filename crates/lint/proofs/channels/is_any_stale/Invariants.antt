use Rattle.std.proofs.Common.{◌≡◌, map, drop}
use Rattle.std.specs.List.{list_any}
use Rattle.window_table.specs.Views.{channel_view, partition_view}
use Rattle.lint.specs.Channels.{is_stale}
use Rattle.lint.proofs.channels.is_any_stale.Given as goal

abbrev pub invariant-loop-channel : goal.invariant-loop-channel
invariant-loop-channel l =
    list_any (is_stale (map partition_view l.rows) l.place.partition l.place.port l.row) (map channel_view l.channels)
    ≡ list_any (is_stale (map partition_view l.rows) l.place.partition l.place.port l.row) (map channel_view (drop l.channel-index l.channels))

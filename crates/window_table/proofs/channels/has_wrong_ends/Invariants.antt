use Rattle.std.proofs.Common.{◌≡◌, ◌++◌, ◌||◌, map, drop, flat_map}
use Rattle.std.specs.List.{list_any}
use Rattle.module_meaning.specs.Table.{is_wrong, ends_of}
use Rattle.window_table.specs.Views.{channel_view}
use Rattle.window_table.proofs.channels.has_wrong_ends.Given as goal

abbrev pub invariant-loop-channel : goal.invariant-loop-channel
invariant-loop-channel g l = record {
  wrong : list_any (is_wrong (map g.P.HasRow.row_of l.partitions)) (map channel_view l.channels) ≡ (l.is_any_wrong || list_any (is_wrong (map g.P.HasRow.row_of l.partitions)) (map channel_view (drop l.channel-index l.channels)));
  gathered : flat_map ends_of (map channel_view l.channels) ≡ l.all.items ++ flat_map ends_of (map channel_view (drop l.channel-index l.channels));
}

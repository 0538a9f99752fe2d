use Rattle.std.proofs.Common.{◌≡◌, ◌++◌, map, drop, false, unwrap_or, is_none}
use Rattle.std.specs.List.{list_any}
use Rattle.module_meaning.specs.TableRules.{end_of}
use Rattle.apex_types.specs.declared.row.ChannelEnd.TheVariants as ends
use Rattle.window_table.specs.Views.{partition_text}
use Rattle.window_table.proofs.numbered.channel_row.Given as goal

abbrev pub invariant-loop-text : goal.invariant-loop-text
invariant-loop-text l = record {
  known : list_any (λ d. is_none (end_of (map partition_text l.partitions.rows.now) d)) (map (λ d. d.now) (drop l.text-index l.text-items)) ≡ false;
  built : map (λ d. unwrap_or (end_of (map partition_text l.partitions.rows.now) d) ends.Device) (map (λ d. d.now) l.channel.destinations.items) ≡ l.destinations.items ++ map (λ d. unwrap_or (end_of (map partition_text l.partitions.rows.now) d) ends.Device) (map (λ d. d.now) (drop l.text-index l.text-items));
}

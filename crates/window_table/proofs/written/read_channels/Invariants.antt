use Rattle.std.proofs.Common.{◌≡◌, drop, map}
use Rattle.toml.specs.View.{items_view}
use Rattle.module_meaning.specs.TableRules.{tables_of, channel_of}
use Rattle.window_table.specs.Views.{channel_text}
use Rattle.window_table.proofs.Reading.{behind}
use Rattle.window_table.proofs.written.read_channels.Given as goal

abbrev pub invariant-loop-value : goal.invariant-loop-value
invariant-loop-value l = tables_of channel_of (items_view l.values) ≡ behind (map channel_text l.channels.items) (tables_of channel_of (items_view (drop l.value-index l.values)))

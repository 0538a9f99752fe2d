use Rattle.std.proofs.Common.{◌≡◌, drop, map}
use Rattle.toml.specs.View.{items_view}
use Rattle.module_meaning.specs.TableRules.{tables_of, partition_of}
use Rattle.window_table.specs.Views.{partition_text}
use Rattle.window_table.proofs.Reading.{behind}
use Rattle.window_table.proofs.written.read_partitions.Given as goal

abbrev pub invariant-loop-value : goal.invariant-loop-value
invariant-loop-value l = tables_of partition_of (items_view l.values) ≡ behind (map partition_text l.partitions.items) (tables_of partition_of (items_view (drop l.value-index l.values)))

-- The rows of the code as rows of the definitions.
use Rattle.std.specs.Prelude.{map, option_map}
use Rattle.module_meaning.specs.Table.{Table, Partition, Channel}
use Rattle.module_meaning.specs.TableRules.{KindText, Sampling, Queuing, PortText, PartitionText, WindowText, ChannelText, TableText}
use Rattle.window_table.specs.Schedules.{schedule_of}
use Rattle.window_table.specs.declared.table.ModuleTable.{ModuleTable}
use Rattle.window_table.specs.declared.table.PartitionRow.{PartitionRow}
use Rattle.window_table.specs.declared.table.ChannelRow.{ChannelRow}
use Rattle.window_table.specs.declared.written.WrittenKind.{WrittenKind}
use Rattle.window_table.specs.declared.written.WrittenKind.TheVariants as written
use Rattle.window_table.specs.declared.written.WrittenPort.{WrittenPort}
use Rattle.window_table.specs.declared.written.WrittenPartition.{WrittenPartition}
use Rattle.window_table.specs.declared.written.WrittenWindow.{WrittenWindow}
use Rattle.window_table.specs.declared.written.WrittenChannel.{WrittenChannel}
use Rattle.window_table.specs.declared.written.WrittenTable.{WrittenTable}

-- The text.

abbrev pub kind_text : WrittenKind → KindText
kind_text (written.Sampling refresh) = Sampling refresh
kind_text (written.Queuing depth discipline) = Queuing depth discipline

abbrev pub port_text : WrittenPort → PortText
port_text p = record { name = p.name.now; kind = kind_text p.kind; direction = p.direction; words = p.words }

abbrev pub partition_text : WrittenPartition → PartitionText
partition_text p = record { name = p.name.now; period = p.period; duration = p.duration; health = p.health; ports = map port_text p.ports.items }

abbrev pub window_text : WrittenWindow → WindowText
window_text w = record { partition = w.partition.now; offset = w.offset; length = w.length; release = w.release }

abbrev pub channel_text : WrittenChannel → ChannelText
channel_text c = record { name = c.name.now; source = c.source.now; destinations = map (λ d. d.now) c.destinations.items }

abbrev pub table_text : WrittenTable → TableText
table_text t = record { frame = t.frame; fault = t.fault; costs = option_map (λ v. v.items) t.costs; partitions = map partition_text t.partitions.items; windows = map window_text t.windows.items; channels = map channel_text t.channels.items }

-- The table.

abbrev pub partition_view : PartitionRow → Partition
partition_view p = record { name = p.name; period = p.period; duration = p.duration; health = p.health; ports = p.ports.items }

abbrev pub channel_view : ChannelRow → Channel
channel_view c = record { name = c.name; source = c.source; destinations = c.destinations.items }

abbrev pub table_of : ModuleTable → Table
table_of t = record { schedule = schedule_of t.schedule; fault = t.fault; costs = t.costs; partitions = map partition_view t.partitions.items; channels = map channel_view t.channels.items }

-- The rows and sections of the code as those of the definitions, apart from their place in memory.
use Rattle.std.specs.Prelude.{List, map}
use Rattle.apex_types.specs.declared.codes.ModuleAction.{ModuleAction}
use Rattle.apex_types.specs.declared.row.Section as code_section
use Rattle.apex_types.specs.declared.version.ImageVersion.{ImageVersion}
use Rattle.machine_meaning.specs.Section.{Section}
use Rattle.module_meaning.specs.Table.{Partition, Channel}
use Rattle.machine_meaning.specs.Image.{Item, Image}
use Rattle.window_table.specs.Schedules.{schedule_of}
use Rattle.window_table.specs.Views.{partition_view, channel_view}
use Rattle.window_table.specs.declared.schedule.Schedule as code_schedule
use Rattle.window_table.specs.declared.table.PartitionRow.{PartitionRow}
use Rattle.window_table.specs.declared.table.ChannelRow.{ChannelRow}
use Rattle.image.specs.declared.item.PartitionItem.{PartitionItem}

abbrev pub section_of : code_section.Section → Section
section_of s = record { initial = s.initial.items; semaphores = s.semaphores.items; events = s.events; buffers = s.buffers.items; blackboards = s.blackboards.items; routines = s.routines.items; processes = s.processes.items; init = s.init; handler = s.handler; code = s.code.items }

abbrev pub partition_of : PartitionRow → Partition
partition_of row = partition_view row

abbrev pub channel_of : ChannelRow → Channel
channel_of row = channel_view row

abbrev pub channels_of : List ChannelRow → List Channel
channels_of rows = map channel_of rows

abbrev pub item_of : PartitionItem → Item
item_of it = record { partition = partition_of it.row; section = section_of it.section }

abbrev pub items_of : List PartitionItem → List Item
items_of its = map item_of its

-- only the rows of the partitions
abbrev pub rows_of : List PartitionItem → List Partition
rows_of its = map (λ it. partition_view it.row) its

abbrev pub image_from : code_schedule.Schedule → ModuleAction → ImageVersion → List PartitionItem → List ChannelRow → Image
image_from schedule fault version partitions channels = record { schedule = schedule_of schedule; fault = fault; version = version; items = items_of partitions; channels = channels_of channels }

-- The partitions and channels of an image.
use Rattle.std.specs.Prelude.{List, map}
use Rattle.machine_meaning.specs.MachineMeaning.{row_of_item}
use Rattle.module_meaning.specs.Table.{Partition, Channel}
use Rattle.image.specs.Items.{items_of, channels_of}
use Rattle.image.specs.declared.value.Image.{Image}

abbrev pub rows_in : Image → List Partition
rows_in image = map row_of_item (items_of image.partitions.items)

abbrev pub channels_in : Image → List Channel
channels_in image = channels_of image.channels.items

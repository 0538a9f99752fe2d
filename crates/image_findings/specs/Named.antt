-- The names that a text of inputs may use, by the meaning of the device text and of the replay text.
use Rattle.std.specs.Prelude.{ℕ, List, [], ◌∷◌, map}
use Rattle.apex_types.specs.declared.row.PortRow.{PortRow}
use Rattle.isolation.specs.ReplayText.{is_destination}
use Rattle.machine_meaning.specs.Image.{Image}
use Rattle.machine_meaning.specs.MachineMeaning.{row_of_item}
use Rattle.module_meaning.specs.DeviceText.{words_of_ends}
use Rattle.module_meaning.specs.Table.{Channel, Partition, is_device}
use Rattle.image_findings.specs.Names.{Names, Receiver}
use Rattle.image_findings.specs.declared.names.TextKind.TheVariants.{Devices, Inputs}

-- a device text sends messages to channels from the device
abbrev pub channel_receiver : List Partition → Channel → Receiver
channel_receiver rows c = record { name = c.name; is_open = is_device c.source; most = words_of_ends rows c.destinations }

abbrev pub partition_names : List Partition → List (List ℕ)
partition_names rows = map (λ p. p.name) rows

abbrev pub device_names_of : List Partition → List Channel → Names
device_names_of rows channels = record { kind = Devices; receivers = map (channel_receiver rows) channels; partitions = partition_names rows }

abbrev pub device_names : Image → Names
device_names image = device_names_of (map row_of_item image.items) image.channels

-- a replay text sends messages to destination ports
abbrev pub port_receiver : PortRow → Receiver
port_receiver row = record { name = row.name; is_open = is_destination row.direction; most = row.words }

abbrev pub input_names : Partition → Names
input_names row = record { kind = Inputs; receivers = map port_receiver row.ports; partitions = row.name ∷ [] }

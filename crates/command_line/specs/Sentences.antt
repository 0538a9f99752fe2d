-- The sentence of each rule, as `--explain` prints it and as the pages quote it.
use Rattle.std.specs.Prelude.{ℕ, List, codes}
use Rattle.window_table.specs.declared.fault.TableFault.{TableFault}
use Rattle.window_table.specs.declared.fault.TableFault.TheVariants as table
use Rattle.pal_base.specs.declared.fault.Refusal.{Refusal}
use Rattle.pal_base.specs.declared.fault.Refusal.TheVariants as source
use Rattle.image.specs.declared.fault.ImageFault.{ImageFault}
use Rattle.image.specs.declared.fault.ImageFault.TheVariants as image
use Rattle.apex_types.specs.declared.device.DeviceFault.{DeviceFault}
use Rattle.apex_types.specs.declared.device.DeviceFault.TheVariants as device
use Rattle.streams.specs.declared.names.Reason.{Reason}
use Rattle.streams.specs.declared.names.Reason.TheVariants as reason
use Rattle.command_line.specs.declared.explanations.sentences.CommandFault.{CommandFault}
use Rattle.command_line.specs.declared.explanations.sentences.CommandFault.TheVariants as command

-- the rules of TABLE.md
abbrev pub table_sentence : TableFault → List ℕ
table_sentence table.Document = codes "The bytes are not a TOML document: they are not UTF-8 or not TOML, a key stands twice, or an integer does not fit 64 bits."
table_sentence table.Shape = codes "A key is missing, is unknown, or has a value of another type; or a `kind`, `direction` or `discipline` is not one of its words."
table_sentence table.Limit = codes "A number, a count or a name is outside its limits."
table_sentence table.Name = codes "Two partitions, two channels or two ports of a partition have the same name; or a window's partition or a channel's end names something that is not in the table."
table_sentence table.Overlap = codes "A window begins before the end of the one before it in the text, or ends past the frame."
table_sentence table.Period = codes "The frame is not a multiple of a partition's period."
table_sentence table.Duration = codes "In one of its periods a partition's windows offer fewer ticks than its duration."
table_sentence table.Release = codes "A partition has no window with `release = true`."
table_sentence table.Ends = codes "The ends of a channel do not fit together: their number, partitions, directions, kinds or words break a rule."
table_sentence table.Health = codes "An `hm` does not have exactly the seven keys, or an action in an `hm` or in `fault` is not one of its words."
table_sentence table.Memory = codes "Memory ran out; this says nothing about the files."

-- the rules of PAL.md
abbrev pub source_sentence : Refusal → List ℕ
source_sentence source.Text = codes "A byte is above 127, in a comment too, or the text has more than 1,048,576 bytes."
source_sentence source.Grammar = codes "The text is not in the grammar."
source_sentence source.Name = codes "A name is not declared, or is declared again."
source_sentence source.Kind = codes "A name is of the wrong kind, the number of arguments or targets is wrong, or a `return` is outside a procedure."
source_sentence source.Limit = codes "A name, a number, a count or a frame is outside a limit."
source_sentence source.Period = codes "A process's period is neither -1 nor a multiple of the partition's."
source_sentence source.Memory = codes "Memory ran out; this says nothing about the files."

-- the faults of IMAGE.md
abbrev pub image_sentence : ImageFault → List ℕ
image_sentence image.Truncated = codes "A field of the image is not all there."
image_sentence image.Foreign = codes "The file is not an image of version 1, 2 or 3: the first eight bytes or the version are different."
image_sentence image.Limit = codes "A value in the image is outside its limit, or breaks a rule of the module table."
image_sentence image.Order = codes "A name was used before among its kind, or a window begins before the end of the one before it."
image_sentence image.Trailing = codes "Bytes follow the last field of the image."
image_sentence image.Memory = codes "Memory ran out; this says nothing about the files."

-- the rules of TEXTS.md
abbrev pub device_sentence : DeviceFault → List ℕ
device_sentence device.Form = codes "The line has none of the forms, or it is the last one and has no line feed."
device_sentence device.Order = codes "The tick of the line is below that of the line before."
device_sentence device.Name = codes "No channel or no partition has this name, or the source of the channel is a port."
device_sentence device.Size = codes "The message has more words than the ports of the channel take, or 65,536 lines stand before this one."

-- the rules of TEXTS.md for replay texts
abbrev pub replay_sentence : DeviceFault → List ℕ
replay_sentence device.Form = codes "The line has none of the forms, or it is the last one and has no line feed."
replay_sentence device.Order = codes "The tick of the line is below that of the line before."
replay_sentence device.Name = codes "The partition has no destination port of this name, or the name behind `FAULT` is not the partition's."
replay_sentence device.Size = codes "The message has more words than the port takes, or 65,536 lines stand before this one."

-- the other refusals of COMMANDS.md
abbrev pub command_sentence : CommandFault → List ℕ
command_sentence command.Sources = codes "There are fewer or more sources than partitions in the table."
command_sentence command.Compile = codes "The program of the partition has more than 65,536 instructions."
command_sentence command.Ticks = codes "The number of ticks is above 1,099,511,627,776, which is 2^40."
command_sentence command.Partition = codes "The image has no partition of this name."
command_sentence command.Inputs = codes "More than 65,536 inputs come to the partition, and a replay text has no more lines."
command_sentence command.LongTable = codes "The table has more than 16,777,216 bytes."
command_sentence command.Memory = codes "Memory ran out; this says nothing about the files."
command_sentence command.Write = codes "Standard output took no more bytes."

-- a file that was not opened, read or written
abbrev pub file_sentence : Reason → List ℕ
file_sentence reason.Missing = codes "The file cannot be opened, read or written: nothing has this name."
file_sentence reason.NoFolder = codes "The file cannot be opened, read or written: a folder in its name is missing."
file_sentence reason.NotInFolder = codes "The file cannot be opened, read or written: what its name takes for a folder is none."
file_sentence reason.Folder = codes "The file cannot be opened, read or written: it is a folder."
file_sentence reason.Denied = codes "The file cannot be opened, read or written: it is not allowed."
file_sentence reason.Unwritable = codes "The file cannot be opened, read or written: nothing can be written there."
file_sentence reason.Full = codes "The file cannot be opened, read or written: no room is left there."
file_sentence reason.WasRead = codes "The file is not written, because this command has read it."
file_sentence reason.Left = codes "The file cannot be opened, read or written: whoever read it has gone."
file_sentence reason.Other = codes "The file cannot be opened, read or written."

-- bytes that standard output did not take
abbrev pub write_sentence : Reason → List ℕ
write_sentence reason.Full = codes "Standard output took no more bytes: no room is left there."
write_sentence reason.Left = codes "Standard output took no more bytes: whoever read them has gone."
write_sentence r = command_sentence command.Write

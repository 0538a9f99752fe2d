use Rattle.module_base.proofs.Prelude.{◌∙◌, rows_in, channels_in}
use Rattle.std.proofs.Common.{sym}
use Rattle.module_base.proofs.Taken.{message_named, fault_named}
use Rattle.module_base.proofs.devices.taken.Goals as goal

pub returns-in-Message : goal.returns-in-Message
returns-in-Message c = λ w e.
    message_named (rows_in c.args.image.now) (channels_in c.args.image.now) c.args.count c.args.tick.0 w c.in-Message.channel c.in-Message.words c.message.result
    (sym c.in-Message.is ∙ e) c.message.ensures

pub returns-in-PartitionFault : goal.returns-in-PartitionFault
returns-in-PartitionFault c = λ w e.
    fault_named (rows_in c.args.image.now) (channels_in c.args.image.now) c.args.count c.args.tick.0 w c.in-PartitionFault.partition c.partition_fault.result
    (sym c.in-PartitionFault.is ∙ e) c.partition_fault.ensures

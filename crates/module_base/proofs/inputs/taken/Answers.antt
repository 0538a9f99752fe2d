use Rattle.module_base.proofs.Prelude.{◌∙◌, partition_of}
use Rattle.std.proofs.Common.{sym}
use Rattle.module_base.proofs.Taken.{arrival_named, own_fault_named}
use Rattle.module_base.proofs.inputs.taken.Goals as goal

pub returns-in-Message : goal.returns-in-Message
returns-in-Message c = λ w e.
    arrival_named (partition_of c.args.row.now) c.as_slice.result.now c.args.count c.args.tick.0 w c.in-Message.port c.in-Message.words c.message.result
    c.as_slice.ensures.value (sym c.in-Message.is ∙ e) c.message.ensures

pub returns-in-PartitionFault : goal.returns-in-PartitionFault
returns-in-PartitionFault c = λ w e.
    own_fault_named (partition_of c.args.row.now) c.args.count c.args.tick.0 w c.in-PartitionFault.partition c.own_fault.result
    (sym c.in-PartitionFault.is ∙ e) c.own_fault.ensures

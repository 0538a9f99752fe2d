-- A lone partition, as the definitions see it.
use Rattle.machine_meaning.specs.MachineControl.{MachineControl}
use Rattle.isolation.specs.Alone.{Alone}
use Rattle.partition.specs.Members.{member_of}
use Rattle.partition_base.specs.contracts.machine.PartitionProcessorExecutor.TheImpl.{ghosts as machine}
use Rattle.lone_partition.specs.Around.{around}
use Rattle.lone_partition.specs.Only.{only_part}
use Rattle.lone_partition.specs.declared.lone.LonePartition.{LonePartition}

abbrev pub alone_of : LonePartition → Alone MachineControl
alone_of l = record { around = around l.surroundings; member = member_of machine l.partition (only_part l.memory) }

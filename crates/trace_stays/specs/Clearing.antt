-- The lines with which the processes of partitions are gone.
use Rattle.std.specs.Prelude.{Bool, true, false, ◌&&◌}
use Rattle.apex_types.specs.declared.codes.ErrorKind.{ErrorKind}
use Rattle.apex_types.specs.declared.codes.ErrorKind.TheVariants as error
use Rattle.apex_types.specs.declared.codes.Mode.{Mode}
use Rattle.apex_types.specs.declared.codes.Mode.TheVariants as mode
use Rattle.apex_types.specs.declared.codes.ModuleAction.TheVariants as whole
use Rattle.apex_types.specs.declared.codes.PartitionAction.{PartitionAction}
use Rattle.apex_types.specs.declared.codes.PartitionAction.TheVariants as action
use Rattle.apex_types.specs.declared.codes.Response.{Response}
use Rattle.apex_types.specs.declared.codes.Response.TheVariants as response

-- with any mode but NORMAL the partition starts again
abbrev pub starts_again : Mode → Bool
starts_again mode.Normal = false
starts_again mode.Idle = true
starts_again mode.ColdStart = true
starts_again mode.WarmStart = true

-- A missed deadline and a fault of the hardware are treated before the tick's work, and all other errors are of this work.
abbrev pub is_before_work : ErrorKind → Bool
is_before_work error.DeadlineMissed = true
is_before_work error.HardwareFault = true
is_before_work error.ApplicationError = false
is_before_work error.NumericError = false
is_before_work error.IllegalRequest = false
is_before_work error.StackOverflow = false
is_before_work error.MemoryViolation = false

-- with any action but IGNORE the partition starts again
abbrev pub starts_by : PartitionAction → Bool
starts_by action.Ignore = false
starts_by action.Idle = true
starts_by action.WarmStart = true
starts_by action.ColdStart = true

-- With such an error of a partition its processes are gone before the tick's work.
abbrev pub clears : ErrorKind → Response → Bool
clears e response.Handler = false
clears e (response.Partition a) = is_before_work e && starts_by a
clears e (response.Module a) = false

-- With such an error of the module the processes of all partitions are.
abbrev pub resets : Response → Bool
resets response.Handler = false
resets (response.Partition a) = false
resets (response.Module whole.Ignore) = false
resets (response.Module whole.Shutdown) = false
resets (response.Module whole.Reset) = true

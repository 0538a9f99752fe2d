-- The words and numbers of the standard's codes, as a trace writes them.
use Rattle.std.specs.Prelude.{ℕ, List, codes}
use Rattle.apex_types.specs.declared.codes.ReturnCode.{ReturnCode}
use Rattle.apex_types.specs.declared.codes.Mode.{Mode}
use Rattle.apex_types.specs.declared.codes.ProcessState.{ProcessState}
use Rattle.apex_types.specs.declared.codes.ErrorKind.{ErrorKind}
use Rattle.apex_types.specs.declared.codes.ErrorLevel.{ErrorLevel}
use Rattle.apex_types.specs.declared.codes.PartitionAction.{PartitionAction}
use Rattle.apex_types.specs.declared.codes.ModuleAction.{ModuleAction}
use Rattle.apex_types.specs.declared.codes.Response.{Response}

abbrev pub return_code_number : ReturnCode → ℕ
return_code_number ReturnCode.NoError = 0
return_code_number ReturnCode.NoAction = 1
return_code_number ReturnCode.NotAvailable = 2
return_code_number ReturnCode.InvalidParam = 3
return_code_number ReturnCode.InvalidConfig = 4
return_code_number ReturnCode.InvalidMode = 5
return_code_number ReturnCode.TimedOut = 6

abbrev pub mode_word : Mode → List ℕ
mode_word Mode.Idle = codes "IDLE"
mode_word Mode.ColdStart = codes "COLD_START"
mode_word Mode.WarmStart = codes "WARM_START"
mode_word Mode.Normal = codes "NORMAL"

abbrev pub state_word : ProcessState → List ℕ
state_word ProcessState.Dormant = codes "DORMANT"
state_word ProcessState.Ready = codes "READY"
state_word ProcessState.Running = codes "RUNNING"
state_word ProcessState.Waiting = codes "WAITING"

abbrev pub error_word : ErrorKind → List ℕ
error_word ErrorKind.DeadlineMissed = codes "DEADLINE_MISSED"
error_word ErrorKind.ApplicationError = codes "APPLICATION_ERROR"
error_word ErrorKind.NumericError = codes "NUMERIC_ERROR"
error_word ErrorKind.IllegalRequest = codes "ILLEGAL_REQUEST"
error_word ErrorKind.StackOverflow = codes "STACK_OVERFLOW"
error_word ErrorKind.MemoryViolation = codes "MEMORY_VIOLATION"
error_word ErrorKind.HardwareFault = codes "HARDWARE_FAULT"

abbrev pub level_word : ErrorLevel → List ℕ
level_word ErrorLevel.Process = codes "PROCESS"
level_word ErrorLevel.Partition = codes "PARTITION"
level_word ErrorLevel.Module = codes "MODULE"

abbrev pub partition_action_word : PartitionAction → List ℕ
partition_action_word PartitionAction.Ignore = codes "IGNORE"
partition_action_word PartitionAction.Idle = codes "IDLE"
partition_action_word PartitionAction.WarmStart = codes "WARM_START"
partition_action_word PartitionAction.ColdStart = codes "COLD_START"

abbrev pub module_action_word : ModuleAction → List ℕ
module_action_word ModuleAction.Ignore = codes "IGNORE"
module_action_word ModuleAction.Shutdown = codes "SHUTDOWN"
module_action_word ModuleAction.Reset = codes "RESET"

-- the level at which an error is handled
abbrev pub level_of_response : Response → ErrorLevel
level_of_response Response.Handler = ErrorLevel.Process
level_of_response (Response.Partition action) = ErrorLevel.Partition
level_of_response (Response.Module action) = ErrorLevel.Module

-- the action of that level: at process level the partition's error handler acts
abbrev pub action_word : Response → List ℕ
action_word Response.Handler = codes "HANDLER"
action_word (Response.Partition action) = partition_action_word action
action_word (Response.Module action) = module_action_word action

-- An error of a runner whose subject is known.
use Rattle.std.specs.Prelude.{ℤ, List, Option, Some, None}
use Rattle.apex_types.specs.declared.codes.ErrorKind.{ErrorKind}
use Rattle.apex_types.specs.declared.codes.PartitionAction.{PartitionAction}
use Rattle.apex_types.specs.declared.codes.Response.{Response}
use Rattle.apex_types.specs.declared.event.Subject.{Subject}
use Rattle.apex_types.specs.declared.identity.Runner.{Runner}
use Rattle.kernel_meaning.specs.HealthServices.{tells_error, waits_or_leaves}
use Rattle.kernel_meaning.specs.Step.{Step, after}

-- writes the line of the error; then it waits for the handler, or the partition's action for it
-- remains to be done
abbrev pub raises_of : Runner → Subject → ErrorKind → List ℤ → Response → Step (Option PartitionAction)
raises_of p who e words how = after (tells_error None e (Some who) how) (waits_or_leaves p e words how)

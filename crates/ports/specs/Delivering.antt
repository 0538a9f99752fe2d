-- How a message goes into the array of a caller.
use Rattle.std.specs.Prelude.{ℤ, List, Some}
use Rattle.arrayvec.specs.ArrayVec.{ArrayVec}
use Rattle.apex_types.specs.declared.codes.ReturnCode.{ReturnCode}
use Rattle.apex_types.specs.declared.identity.Runner.{Runner}
use Rattle.apex_types.specs.declared.service.ArrayPlace.{ArrayPlace}
use Rattle.apex_types.specs.declared.service.Service.{Service}
use Rattle.kernel_meaning.specs.Processes.{Processes, answers}
use Rattle.kernel_meaning.specs.Step.{Step, after}
use Rattle.kernel_meaning.specs.Sharing.{fills}

-- ends the service with a code and its outputs, and writes the words into the array
abbrev pub delivers : Processes → Runner → Service → ReturnCode → List ℤ → ArrayPlace → ArrayVec ℤ → Step Processes
delivers s p service c outputs array m = after (answers s p service c outputs) (fills s (Some array) m)

-- A process that is put after the others of its priority.
use Rattle.kernel_meaning.specs.Processes.{Processes, row_of}
use Rattle.kernel_meaning.specs.ProcessServices.{yields}
use Rattle.apex_types.specs.declared.identity.Runner.{Runner}

-- the processes once a runner, if there is one, is ready after its equals
abbrev pub yields_in : Processes → Runner → Processes
yields_in s p = (yields s p (row_of s p)).part

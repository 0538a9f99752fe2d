-- A process that becomes ready asks nothing of the processor.
use Rattle.std.proofs.Common.{◌≡◌, [], rules}
use Rattle.apex_types.specs.declared.identity.Runner.{Runner}
use Rattle.apex_types.specs.declared.process.ProcessStatus.{ProcessStatus}
use Rattle.kernel_meaning.specs.Processes.{Processes, wakes}

pub wakes_quietly : (s : Processes) (p : Runner) (r : ProcessStatus) → (wakes s p r).actions ≡ []
wakes_quietly s p r = search rules

pub ruleset waking = (wakes_quietly)

-- What the kernel's state is, for what lines say: its mode and start condition, the states of its records, and who runs.
use Rattle.std.specs.Prelude.{◌≡◌, List, Option, Some, None, slice_get}
use Rattle.apex_types.specs.Runners.{place_of}
use Rattle.apex_types.specs.declared.event.Subject.{Subject}
use Rattle.apex_types.specs.declared.identity.Runner.{Runner}
use Rattle.apex_types.specs.declared.process.ProcessStatus.{ProcessStatus}
use Rattle.kernel_meaning.specs.Kernel.{Kernel}
use Rattle.kernel_meaning.specs.Processes.{row_of, who_of}
use Rattle.state_laws.specs.Told.{Told}

-- the subject of a runner by these records
abbrev pub who_runs : List ProcessStatus → Option Runner → Option Subject
who_runs rows None = None
who_runs rows (Some p) = Some (who_of (slice_get rows (place_of p)))

-- the subject of the current runner
abbrev pub runs_in : Kernel → Option Subject
runs_in k = who_runs k.processes.rows k.processes.running

-- The mode told is the mode, the start condition told is the start condition, the state told of each runner is that of its
-- record, and the runner told to be RUNNING is the current one.
pub record TellsState (t : Told) (k : Kernel) : Type 0 where
  pub mode : t.mode ≡ k.mode
  pub condition : t.condition ≡ k.condition
  pub states : (p : Runner) (r : ProcessStatus) → row_of k.processes p ≡ Some r → t.state r.who ≡ r.state
  pub running : t.running ≡ runs_in k

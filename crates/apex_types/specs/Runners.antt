-- The runners of a partition, the index of each in its lists, and the actions of a step of the kernel on the processor, on the
-- partition's data and on its error queue.
use Rattle.std.specs.Prelude.{ℕ, ℤ, suc}
use Rattle.arrayvec.specs.ArrayVec.{ArrayVec}
use Rattle.apex_types.specs.declared.process.WaitingError.{WaitingError}
use Rattle.apex_types.specs.declared.identity.Runner.{Runner}
use Rattle.apex_types.specs.declared.identity.Runner.TheVariants as runners

-- INIT first, then the handler, then the processes
abbrev pub place_of : Runner → ℕ
place_of runners.Init = 0
place_of runners.Handler = 1
place_of (runners.Process p) = suc (suc p.0)

-- A runner begins its body afresh, has nothing left to do, or gets the reply to its service call:
-- the code, then the outputs. Or no runner has anything left to do. The data become the initial data,
-- or words go into them from a place on. Or an error waits for the error handler.
pub data Action : Type 0 where
  Begin : (runner : Runner) → Action
  Stop : (runner : Runner) → Action
  StopAll : Action
  Reply : (runner : Runner) (answer : ArrayVec ℤ) → Action
  Restore : Action
  Write : (place : ℤ) (words : ArrayVec ℤ) → Action
  Queue : (error : WaitingError) → Action

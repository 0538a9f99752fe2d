use Rattle.std.proofs.Common.{◌<◌, ◌+◌, ℕ}
use Rattle.kernel_laws.specs.Quiet.{IsAtRest}
use Rattle.partition.proofs.kernel.Kernel.ports_rest.Given as goal

abbrev pub invariant-loop-place : goal.invariant-loop-place
invariant-loop-place l = (q : ℕ) → q < l.place → IsAtRest l.self (record { 0 = q + 1 })

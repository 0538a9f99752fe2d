use Rattle.std.proofs.Common.{◌≡◌, ◌+◌, drop}
use Rattle.state_rows.specs.Named.{begun_at}
use Rattle.state_view.proofs.chain.begun_at.Given as goal

-- those before have begun
abbrev pub invariant-loop-place : goal.invariant-loop-place
invariant-loop-place l = begun_at l.routines l.pc ≡ l.place + begun_at (drop l.place l.routines) l.pc

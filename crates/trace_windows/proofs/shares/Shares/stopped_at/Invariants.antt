use Rattle.std.proofs.Common.{◌≡◌, None, drop}
use Rattle.trace_windows.specs.Uses.{last_from}
use Rattle.trace_windows.proofs.shares.Shares.stopped_at.Given as goal

abbrev pub invariant-loop-stop : goal.invariant-loop-stop
invariant-loop-stop l = last_from None l.place l.self.stopped.items ≡ last_from l.found l.place (drop l.stop-index l.self.stopped.items)

use Rattle.std.proofs.Common.{◌≡◌, ◌≤◌, ◌+◌, ◌++◌, take}
use Rattle.kernel_meaning.specs.Partition.{told}
use Rattle.partition.proofs.acting.tell.Given as goal

-- the lines so far are recorded
abbrev pub invariant-loop-place : goal.invariant-loop-place
invariant-loop-place g l = record {
  told : g.L.EventLog.held l.log ≡ g.L.EventLog.held l.fn.log ++ g.L.EventLog.pieces (told l.fn.name l.moment.at (take l.place l.out.lines));
  room : g.L.EventLog.room l.fn.log ≤ g.L.EventLog.room l.log + l.place;
}

use Rattle.std.proofs.Common.{◌≡◌, ◌≤◌, ◌-◌}
use Rattle.apex_types.specs.Room.{IsEmpty}
use Rattle.apex_types.specs.declared.limits.TheConstants.{MOST_EVENTS}
use Rattle.partition.specs.Members.{HasGone, RecordsSome, member_of}
use Rattle.partition.proofs.partition.Partition.advance.Given as goal

-- the ticks so far, and the room that their lines leave
abbrev pub invariant-loop-left : goal.invariant-loop-left
invariant-loop-left g l =
    let x = member_of g.E.Executor l.fn.self l.fn.mem in
    let y = member_of g.E.Executor l.self l.mem in
    record {
      gone : RecordsSome g.L.EventLog l.fn.log l.log MOST_EVENTS l.self.room (λ told. HasGone l.moment.at MOST_EVENTS x y told (l.k - l.left));
      within : l.left ≤ l.k;
      known : l.self.room ≤ g.L.EventLog.room l.log;
      fits : g.E.Executor.laid l.mem ≡ g.E.Executor.layout l.self.executor;
      idle : IsEmpty l.self.out;
    }

abbrev pub decreases-loop-left : goal.decreases-loop-left
decreases-loop-left g l = l.left

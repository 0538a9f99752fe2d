use Rattle.lone_partition.proofs.Prelude.{◌≡◌, ◌≤◌, ◌<◌, ◌-◌, goes, member_of, sent_of, ticks_by, IsMade}
use Rattle.lone_partition.proofs.pieces.write_piece.Given as goal

abbrev pub invariant-loop-left : goal.invariant-loop-left
invariant-loop-left g l = record {
  few : l.left ≤ l.fn.most;
  some : 0 < l.fn.most → l.left < l.fn.most;
  fits : g.E.Executor.laid l.mem ≡ g.E.Executor.layout l.partition.executor;
  made : IsMade (goes (ticks_by (l.fn.most - l.left) l.fn.moment.at) (member_of g.E.Executor l.fn.partition l.fn.mem)) (member_of g.E.Executor l.partition l.mem) (sent_of g.S.Sink l.fn.output) (sent_of g.S.Sink l.output);
}

abbrev pub decreases-loop-left : goal.decreases-loop-left
decreases-loop-left g l = l.left

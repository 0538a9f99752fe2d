use Rattle.lone_partition.proofs.Prelude.{◌≡◌, ◌+◌, Some, first_tick, alone_from, member_of, around, AreFrom, tick_of_input, sent_of}
use Rattle.lone_partition.proofs.Outputs.{CompletesLines}
use Rattle.lone_partition.proofs.running.run_ticks.Given as goal

abbrev pub invariant-loop-left : goal.invariant-loop-left
invariant-loop-left g l = record {
  fits : g.E.Executor.laid l.mem ≡ g.E.Executor.layout l.partition.executor;
  limit : l.moment.at.now.0 + l.left ≡ l.ticks;
  order : AreFrom tick_of_input l.moment.at.now.0 l.lines;
  rest : CompletesLines (alone_from (around l.surroundings) l.inputs l.ticks (Some first_tick) (member_of g.E.Executor l.fn.partition l.fn.mem)) (alone_from (around l.surroundings) l.lines l.left (Some l.moment.at) (member_of g.E.Executor l.partition l.mem)) (sent_of g.S.Sink l.fn.output) (sent_of g.S.Sink l.output);
}

abbrev pub decreases-loop-left : goal.decreases-loop-left
decreases-loop-left g l = l.left

use Rattle.std.proofs.Common.{◌≡◌, [], map}
use Rattle.module.specs.Machines.{machine_of}
use Rattle.command_line.proofs.Reached.{IsFollowedBy, IsReached}
use Rattle.command_line.proofs.stopping.running.ticks_until.Given as goal

abbrev pub invariant-loop-left : goal.invariant-loop-left
invariant-loop-left g l = record {
  reached : IsReached (map (λ a. a.now) l.fn.wait.words.now) (machine_of l.fn.machine).image l.fn.devices l.lines l.fn.wait.ticks l.left (g.S.Sink.taken l.fn.sink) (g.S.Sink.taken l.sink) (machine_of l.machine);
  quiet : g.S.Sink.failures l.sink ≡ g.S.Sink.failures l.fn.sink;
  followed : IsFollowedBy (machine_of l.fn.machine).image l.fn.devices l.fn.wait.ticks l.told (machine_of l.machine).standing.now (g.S.Sink.taken l.fn.sink) (g.S.Sink.taken l.sink) (g.W.Watch.told l.fn.watch) (g.W.Watch.told l.watch);
  empty : l.held.writer.items ≡ [];
  fresh : l.held.failures ≡ 0;
}

abbrev pub decreases-loop-left : goal.decreases-loop-left
decreases-loop-left g l = l.left

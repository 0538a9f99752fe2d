use Rattle.module.proofs.Prelude.{◌≡◌, ◌≤◌, ◌<◌, ◌+◌, ◌-◌, true, false, is_none, machine_of, AreFrom}
use Rattle.std.specs.Prelude.{if◌then◌else◌}
use Rattle.module.specs.Watched.{TakesAtLeast, text_to}
use Rattle.module.proofs.Ahead.{IsGoing}
use Rattle.module.proofs.Watched.{IsHeard}
use Rattle.module.proofs.running.run_ticks.Given as goal

abbrev pub invariant-loop-left-2 : goal.invariant-loop-left-2
invariant-loop-left-2 g l = record {
  image : (machine_of l.machine).image ≡ (machine_of l.fn.machine).image;
  failed : (machine_of l.machine).failed ≡ false;
  order : AreFrom (machine_of l.machine).standing.now l.lines;
  count : (machine_of l.machine).standing.now + l.left ≡ l.ticks;
  going : IsGoing (machine_of l.fn.machine).image l.devices l.lines (g.S.Sink.taken l.fn.sink) (g.S.Sink.taken l.sink) (machine_of l.machine).standing;
  quiet : g.S.Sink.failures l.sink ≡ g.S.Sink.failures l.fn.sink;
  fewer : l.left ≤ l.initial.left;
  above : l.stop ≤ l.left;
  some : is_none (machine_of l.machine).standing.origin ≡ true → l.left < l.initial.left;
  kept : TakesAtLeast (g.S.Sink.taken l.fn.sink) (g.S.Sink.taken l.sink) (text_to (machine_of l.fn.machine).image l.devices (machine_of l.initial.machine).standing.now);
}

abbrev pub decreases-loop-left-2 : goal.decreases-loop-left-2
decreases-loop-left-2 g l = l.left - l.stop

abbrev pub invariant-loop-left : goal.invariant-loop-left
invariant-loop-left g l = record {
  image : (machine_of l.machine).image ≡ (machine_of l.fn.machine).image;
  failed : (machine_of l.machine).failed ≡ false;
  order : AreFrom (machine_of l.machine).standing.now l.lines;
  count : (machine_of l.machine).standing.now + l.left ≡ l.ticks;
  going : IsGoing (machine_of l.fn.machine).image l.devices l.lines (g.S.Sink.taken l.fn.sink) (g.S.Sink.taken l.sink) (machine_of l.machine).standing;
  quiet : g.S.Sink.failures l.sink ≡ g.S.Sink.failures l.fn.sink;
  heard : IsHeard l.ticks (machine_of l.machine).standing.now (g.W.Watch.told l.fn.watch) (g.W.Watch.told l.watch);
}

-- the last turn may make no tick after which the module is still up
abbrev pub decreases-loop-left : goal.decreases-loop-left
decreases-loop-left g l = l.left + (if is_none (machine_of l.machine).standing.origin then 0 else 1)

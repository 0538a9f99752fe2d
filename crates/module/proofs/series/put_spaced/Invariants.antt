use Rattle.module.proofs.Prelude.{◌≡◌, ◌≤◌, ◌+◌, false, suc, MOST_TICKS, IsUnderWay, machine_of, AreFrom}
use Rattle.std.proofs.Common.{◌*◌}
use Rattle.module.specs.States.{spaced}
use Rattle.module.specs.Stating.{IsBefore, number_in, texts_before}
use Rattle.module.proofs.Spaced.{AreAlike}
use Rattle.module.proofs.series.put_spaced.Given as goal

abbrev pub invariant-loop-left : goal.invariant-loop-left
invariant-loop-left g l = record {
  image : (machine_of l.machine).image ≡ (machine_of l.fn.machine).image;
  failed : (machine_of l.machine).failed ≡ false;
  before : IsBefore (machine_of l.fn.machine).image l.devices (machine_of l.machine);
  order : AreFrom (machine_of l.machine).standing.now l.lines;
  alike : AreAlike (machine_of l.machine) l.lines l.devices;
  few : (machine_of l.machine).standing.now + l.left * l.spaced.every ≤ MOST_TICKS;
  text : IsUnderWay (g.S.Sink.taken l.fn.sink) (g.S.Sink.taken l.sink)
      (texts_before l.shown.form (number_in l.shown.only) (machine_of l.fn.machine).image l.devices (spaced l.spaced.every 0 (suc l.spaced.more)))
      (texts_before l.shown.form (number_in l.shown.only) (machine_of l.fn.machine).image l.devices (spaced l.spaced.every ((machine_of l.machine).standing.now + l.spaced.every) l.left));
  quiet : g.S.Sink.failures l.sink ≡ g.S.Sink.failures l.fn.sink;
}

abbrev pub decreases-loop-left : goal.decreases-loop-left
decreases-loop-left g l = l.left

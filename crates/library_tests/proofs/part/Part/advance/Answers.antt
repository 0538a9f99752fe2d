use Rattle.std.proofs.Common.{rules, arith, ◌∙◌}
use Rattle.kernel_meaning.specs.Partition.{ticked}
use Rattle.kernel_laws.specs.Bursts.{burst}
use Rattle.processor.specs.Views.{asks_of}
use Rattle.library_tests.specs.Plays.{control_of}
use Rattle.library_tests.specs.Scripts.{script_engine}
use Rattle.library_tests.proofs.Bursts.{ends_at, goes_on, all_done}
use Rattle.library_tests.proofs.part.Part.advance.Goals as goal

pub returns-then-not-is_quiet-clause-burst : goal.returns-then-not-is_quiet-clause-burst
returns-then-not-is_quiet-clause-burst c scripts words =
    ends_at scripts c.args.k c.loop-left.left (control_of c.loop-left.self) (control_of c.tick-outcome.new.self) words (asks_of c.tick-outcome.result)
    (burst (ticked (script_engine scripts)) c.args.k (control_of c.args.self.now) words)
    c.loop-left-test.true c.loop-left.invariant.within (c.loop-left.invariant.all scripts words)
    (c.tick-outcome.ensures.control scripts words) (c.tick-outcome.ensures.asks scripts words)
    (search (rules, c.is_quiet.ensures, c.if-not-is_quiet.true))

pub loop-left-preserved : goal.loop-left-preserved
loop-left-preserved c = record {
  all = λ scripts words.
      goes_on scripts c.args.k c.loop-left.left (control_of c.loop-left.self) (control_of c.tick-outcome.new.self) words (asks_of c.tick-outcome.result)
      (burst (ticked (script_engine scripts)) c.args.k (control_of c.args.self.now) words)
      c.loop-left-test.true c.loop-left.invariant.within (c.loop-left.invariant.all scripts words)
      (c.tick-outcome.ensures.control scripts words) (c.tick-outcome.ensures.asks scripts words)
      (search (rules, c.is_quiet.ensures, c.if-not-is_quiet.false));
  script = c.tick-outcome.ensures.script ∙ c.loop-left.invariant.script;
  within = omega (arith, c.loop-left.invariant.within);
}

pub returns-clause-burst : goal.returns-clause-burst
returns-clause-burst c scripts words =
    all_done scripts c.args.k c.loop-left.left (control_of c.loop-left.self) words (burst (ticked (script_engine scripts)) c.args.k (control_of c.args.self.now) words)
    (omega (arith, c.loop-left-test.false)) (c.loop-left.invariant.all scripts words)

use Rattle.std.proofs.Common.{arith, map}
use Rattle.std.proofs.lemmas.Grind.{common_steps}
use Rattle.library_tests.specs.Plays.{control_of}
use Rattle.library_tests.proofs.Parts.{stopped_one, views}
use Rattle.library_tests.proofs.executor.stop_each.Goals as goal

pub loop-part-preserved : goal.loop-part-preserved
loop-part-preserved c = record {
  controls = stopped_one control_of c.loop-part.part-items (map control_of c.args.parts.now.items) c.loop-part.part-index c.stop.new.self c.loop-part.invariant.controls c.stop.ensures.control;
  scripts = grind (arith, common_steps, views, c.loop-part.invariant.scripts);
}

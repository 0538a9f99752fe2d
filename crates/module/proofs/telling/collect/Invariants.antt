use Rattle.module.proofs.Prelude.{◌≡◌, ◌+◌, ◌++◌, machine_module, image_of, machine_inputs, machine, brought_of, standing_of, AreFrom}
use Rattle.module.proofs.Watched.{IsCounted}
use Rattle.module.proofs.telling.collect.Given as goal

abbrev pub invariant-loop-left : goal.invariant-loop-left
invariant-loop-left g l = record {
  image : l.running.image ≡ l.fn.running.image;
  order : AreFrom l.running.now.0 l.lines;
  count : l.running.now.0 + l.left ≡ l.ticks;
  so_far : machine_inputs (image_of l.fn.running.image) l.watched.0 l.devices l.ticks ≡ l.inputs.lines.items ++ brought_of (machine_module (image_of l.fn.running.image)).plan l.watched.0 l.lines l.left (standing_of machine l.running);
  heard : IsCounted l.ticks l.running.now.0 l.steps (g.W.Watch.told l.fn.watch) (g.W.Watch.told l.watch);
}

abbrev pub decreases-loop-left : goal.decreases-loop-left
decreases-loop-left g l = l.left

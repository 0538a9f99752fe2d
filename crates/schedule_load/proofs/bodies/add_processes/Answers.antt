use Rattle.std.proofs.Common.{◌∷◌, ◌++◌, ◌∙◌, [], ap, map, refl}
use Rattle.schedule_load.specs.Bodies.{process_load}
use Rattle.schedule_load.specs.declared.bodies.BodyLoad.{BodyLoad}
use Rattle.schedule_load.proofs.Steps.{all_made, goes_on}
use Rattle.schedule_load.proofs.bodies.add_processes.Goals as goal

pub loop-process-preserved : goal.loop-process-preserved
loop-process-preserved c =
    let l = c.loop-process in
    let load = process_load c.args.costs.now in
    goes_on (map load) (map load) load c.args.processes.now l.process-index c.process-item.result l.loads.items _ _ (λ _ _. refl) c.loop-process-test.true c.process-item.is
    (c.in_ok-extend_from_slice.ensures.items ∙ ap (λ (b : BodyLoad). l.loads.items ++ b ∷ []) c.process_load.ensures) l.invariant

pub returns : goal.returns
returns c = all_made (map (process_load c.args.costs.now)) c.args.processes.now c.loop-process.process-index c.loop-process.loads.items _ refl c.loop-process-test.false c.loop-process.invariant

use Rattle.std.proofs.Common.{◌∷◌, ◌++◌, ◌∙◌, [], ap, map, refl}
use Rattle.schedule_load.specs.Bodies.{procedure_load}
use Rattle.schedule_load.specs.declared.bodies.BodyLoad.{BodyLoad}
use Rattle.schedule_load.proofs.Steps.{all_made, goes_on}
use Rattle.schedule_load.proofs.bodies.add_procedures.Goals as goal

pub loop-procedure-preserved : goal.loop-procedure-preserved
loop-procedure-preserved c =
    let l = c.loop-procedure in
    let load = procedure_load c.args.costs.now in
    goes_on (map load) (map load) load c.args.procedures.now l.procedure-index c.procedure-item.result l.loads.items _ _ (λ _ _. refl) c.loop-procedure-test.true c.procedure-item.is
    (c.in_ok-extend_from_slice.ensures.items ∙ ap (λ (b : BodyLoad). l.loads.items ++ b ∷ []) c.procedure_load.ensures) l.invariant

pub returns : goal.returns
returns c = all_made (map (procedure_load c.args.costs.now)) c.args.procedures.now c.loop-procedure.procedure-index c.loop-procedure.loads.items _ refl c.loop-procedure-test.false c.loop-procedure.invariant

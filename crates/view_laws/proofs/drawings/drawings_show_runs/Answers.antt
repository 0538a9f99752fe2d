use Rattle.std.proofs.Common.{◌≡◌, List, subst, sym}
use Rattle.apex_types.specs.declared.event.Event.{Event}
use Rattle.trace_picture.specs.Drawn.{IsDrawnOf}
use Rattle.view_laws.proofs.OfDrawings.{machines_drawn, modules_drawn}
use Rattle.view_laws.proofs.drawings.drawings_show_runs.Goals as goal

pub returns-clause-machine : goal.returns-clause-machine
returns-clause-machine c = λ from to windows lines drawing is.
    machines_drawn (λ (trace : List Event). trace ≡ lines) from to windows drawing (λ trace same. subst (λ (ls : List Event). IsDrawnOf from to windows ls drawing) (sym same) is)

pub returns-clause-accepted : goal.returns-clause-accepted
returns-clause-accepted c = λ from to windows lines drawing is.
    modules_drawn (λ (trace : List Event). trace ≡ lines) from to windows drawing (λ trace same. subst (λ (ls : List Event). IsDrawnOf from to windows ls drawing) (sym same) is)

use Rattle.std.proofs.Common.{◌≡◌, true, refl, rules, subst, sym}
use Rattle.std.specs.Prelude.{Some}
use Rattle.kernel_meaning.specs.Objects.{Port, queuing}
use Rattle.kernel_meaning.specs.Sharing.{both}
use Rattle.kernel_meaning.specs.Made.{IsMade}
use Rattle.ports.specs.Status.{placed_port}
use Rattle.ports.proofs.Telling.{told}
use Rattle.ports.proofs.queuing.get_queuing_port_status.Goals as goal

-- a created port
pub returns-clause-step : goal.returns-clause-step
returns-clause-step c =
    let b = both c.args.table.now c.args.ports.now in
    let x : Port = placed_port c.args.ports.now c.in-Some.place in
    let found : queuing c.args.ports.now c.args.id ≡ Some (c.in-Some.place, x) = search rules in
    let created : x.created ≡ true = search rules in
    let step = c.tell_status.ensures.step in
    subst (λ t. IsMade t b c.args.out.now c.tell_status.new.out) (sym (told b c.args.request.caller c.args.id c.in-Some.place x found created)) (refl, step.0, step.1)

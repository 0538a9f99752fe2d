use Rattle.std.proofs.Common.{rules, ◌≡◌, ◌++◌, [], ◌∷◌, List, append_assoc, ap, ◌∙◌}
use Rattle.std.specs.Prelude.{ℤ}
use Rattle.apex_types.specs.Output.{Output, event_of}
use Rattle.apex_types.specs.declared.event.EventKind.TheVariants as event
use Rattle.apex_types.specs.declared.event.EventKind.{EventKind}
use Rattle.apex_types.specs.declared.event.LineKind.TheVariants as line
use Rattle.apex_types.specs.declared.name.Name.{Name}
use Rattle.kernel_meaning.specs.Processes.{Processes}
use Rattle.kernel_meaning.specs.Sharing.{gives}
use Rattle.kernel_meaning.specs.Sharing.{both}
use Rattle.ports.specs.Status.{placed_port}
use Rattle.ports.specs.declared.port.PortStatus.{PortStatus}
use Rattle.ports.proofs.arrival.hand_over.Goals as goal

pub returns-clause-step : goal.returns-clause-step
returns-clause-step c =
    let m = c.args.message.now in
    let g = gives c.args.table.now c.args.receiver.now.runner c.args.receiver.now.row m in
    let words : c.deref.result.now ≡ m.items = search rules in
    let name = ap (λ (p : PortStatus). p.row.name) c.requires.status in
    let told : event_of (line.Arrive c.args.port.row.name) c.deref.result.now ≡ event.Arrive (placed_port c.args.ports.now c.args.place).row.name m =
    ap (λ (ws : List ℤ). event_of (line.Arrive c.args.port.row.name) ws) words ∙ ap (λ n. event.Arrive n m) name in
    let lines = c.give.ensures.step.1 ∙ ap (λ (o : Output). o.lines ++ g.lines) c.tell.ensures ∙ append_assoc c.args.out.now.lines _ g.lines ∙ ap (λ (e : EventKind). c.args.out.now.lines ++ e ∷ g.lines) told in
    let actions = c.give.ensures.step.2 ∙ ap (λ (o : Output). o.actions ++ g.actions) c.tell.ensures in
    (ap (λ t. both t c.args.ports.now) c.give.ensures.step.0, lines, actions)

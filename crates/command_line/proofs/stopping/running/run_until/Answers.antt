use Rattle.std.proofs.Common.{rules, ◌≡◌, ◌≤◌, List, Ok, map, ap, subst, sym, ◌∙◌}
use Rattle.apex_types.specs.declared.device.DeviceLine.{DeviceLine}
use Rattle.apex_types.specs.declared.limits.TheConstants.{MOST_TICKS}
use Rattle.machine_meaning.specs.Image.{Image}
use Rattle.machine_meaning.specs.ImageReading.{image_at}
use Rattle.machine_meaning.specs.MachineMeaning.{verdict_for}
use Rattle.image.specs.Views.{image_of}
use Rattle.module.specs.Machines.{Machine, machine_of}
use Rattle.module.specs.Running.{AreRefused}
use Rattle.module.proofs.Runs.{device_refused}
use Rattle.module.proofs.Watched.{begun}
use Rattle.command_line.proofs.StopBegun.{refused_with}
use Rattle.command_line.proofs.stopping.running.run_until.Goals as goal

pub returns-in_err-lines-clause-trace : goal.returns-in_err-lines-clause-trace
returns-in_err-lines-clause-trace g c =
    let read = image_at c.args.image.now in
    let loaded = image_of c.in_ok-load_image.field-0 in
    let devices = c.args.devices.now in
    let old = g.S.Sink.taken c.args.sink.now in
    let fault = c.in_err-lines.field-0.0 in
    let few : c.args.wait.ticks ≤ MOST_TICKS = search rules in
    let refused = subst (λ (image : Image). AreRefused (verdict_for image devices) fault) (ap (λ (m : Machine). m.image) c.in_ok-machine.ensures) c.in_err-lines.ensures.refused in
    refused_with read loaded devices (map (λ a. a.now) c.args.wait.words.now) c.args.wait.ticks old fault c.from_residual-in_err-lines.result (search rules) refused
    (device_refused read loaded devices c.args.wait.ticks old fault c.in_ok-load_image.ensures few refused)

pub returns-clause-followed : goal.returns-clause-followed
returns-clause-followed g c =
    let lines = c.deref.result.now in
    let few : c.args.wait.ticks ≤ MOST_TICKS = search rules in
    let loaded : (machine_of c.in_ok-machine.machine).image ≡ image_of c.in_ok-load_image.field-0 = ap (λ (m : Machine). m.image) c.in_ok-machine.ensures in
    let taken = subst (λ (ls : List DeviceLine). verdict_for (machine_of c.in_ok-machine.machine).image c.args.devices.now ≡ Ok ls) (sym c.deref.ensures.value) c.in_ok-lines.ensures.taken in
    begun (image_at c.args.image.now) (machine_of c.in_ok-machine.machine).image c.args.devices.now lines c.args.wait.ticks (c.in_ok-load_image.ensures ∙ ap (λ (i : Image). Ok i) (sym loaded)) taken few c.ticks_until.ensures.followed

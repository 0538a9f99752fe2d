use Rattle.module.proofs.Prelude.{rules, ◌≡◌, ◌≤◌, List, Result, Ok, Err, sym, ap, ◌∙◌, MOST_TICKS, DeviceLine, Image, image_at, verdict_for, image_of, Machine, machine_of, AreRefused, Runs, RunFault}
use Rattle.std.proofs.Common.{subst}
use Rattle.module.proofs.Isolated.{run_isolated}
use Rattle.module.proofs.Runs.{device_refused}
use Rattle.module.proofs.Watched.{begun, whole_if_ok}
use Rattle.module.proofs.running.run_watched.Goals as goal

pub returns-clause-isolated : goal.returns-clause-isolated
returns-clause-isolated g c =
    let image = c.in_ok-load_image.field-0 in
    let read = image_at c.args.image.now in
    let trace : Runs read c.args.devices.now c.args.ticks (g.S.Sink.taken c.args.sink.now) (g.S.Sink.taken c.run_ticks.new.sink) c.run_ticks.result = search rules in
    run_isolated read (image_of image) c.args.devices.now c.args.ticks _ _ c.run_ticks.result image.lawful c.in_ok-load_image.ensures trace

pub returns-in_err-lines-clause-trace : goal.returns-in_err-lines-clause-trace
returns-in_err-lines-clause-trace g c =
    let read = image_at c.args.image.now in
    let loaded = image_of c.in_ok-load_image.field-0 in
    let devices = c.args.devices.now in
    let old = g.S.Sink.taken c.args.sink.now in
    let fault = c.in_err-lines.field-0.0 in
    let few : c.args.ticks ≤ MOST_TICKS = search rules in
    let refused = subst (λ (image : Image). AreRefused (verdict_for image devices) fault) (ap (λ (m : Machine). m.image) c.in_ok-machine.ensures) c.in_err-lines.ensures.refused in
    let answer : c.from_residual-in_err-lines.result ≡ Err fault = search rules in
    subst (λ (r : Result (Unit {0}) RunFault). Runs read devices c.args.ticks old old r) (sym answer) (device_refused read loaded devices c.args.ticks old fault c.in_ok-load_image.ensures few refused)

pub returns-clause-followed : goal.returns-clause-followed
returns-clause-followed g c =
    let lines = c.deref.result.now in
    let few : c.args.ticks ≤ MOST_TICKS = search rules in
    let loaded : (machine_of c.in_ok-machine.machine).image ≡ image_of c.in_ok-load_image.field-0 = ap (λ (m : Machine). m.image) c.in_ok-machine.ensures in
    let taken = subst (λ (ls : List DeviceLine). verdict_for (machine_of c.in_ok-machine.machine).image c.args.devices.now ≡ Ok ls) (sym c.deref.ensures.value) c.in_ok-lines.ensures.taken in
    begun (image_at c.args.image.now) (machine_of c.in_ok-machine.machine).image c.args.devices.now lines c.args.ticks (c.in_ok-load_image.ensures ∙ ap (λ (i : Image). Ok i) (sym loaded)) taken few c.run_ticks.ensures.followed

pub returns-clause-whole : goal.returns-clause-whole
returns-clause-whole g c =
    let lines = c.deref.result.now in
    let few : c.args.ticks ≤ MOST_TICKS = search rules in
    let loaded : (machine_of c.in_ok-machine.machine).image ≡ image_of c.in_ok-load_image.field-0 = ap (λ (m : Machine). m.image) c.in_ok-machine.ensures in
    let taken = subst (λ (ls : List DeviceLine). verdict_for (machine_of c.in_ok-machine.machine).image c.args.devices.now ≡ Ok ls) (sym c.deref.ensures.value) c.in_ok-lines.ensures.taken in
    whole_if_ok (image_at c.args.image.now) (machine_of c.in_ok-machine.machine).image c.args.devices.now lines c.args.ticks _ _ c.run_ticks.result (c.in_ok-load_image.ensures ∙ ap (λ (i : Image). Ok i) (sym loaded)) taken few c.run_ticks.ensures.whole

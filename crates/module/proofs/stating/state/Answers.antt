use Rattle.module.proofs.Prelude.{rules, ◌≡◌, ◌≤◌, ℕ, List, Result, Ok, Err, Bool, sym, ap, ◌∙◌, MOST_TICKS, DeviceLine, Image, Machine, fresh_machine, verdict_for, image_at, image_of, machine_of, AreRefused, RunFault}
use Rattle.std.proofs.Common.{subst}
use Rattle.module.specs.States.{States}
use Rattle.module.specs.Stating.{IsShown, number_in, wanted_in}
use Rattle.module.proofs.Stated.{none_found, shown_states, text_refused}
use Rattle.module.proofs.stating.state.Goals as goal

pub returns-in_err-only-clause-text : goal.returns-in_err-only-clause-text
returns-in_err-only-clause-text g c =
    let read = image_at c.args.image.now in
    let wanted = c.args.wanted in
    let old = g.S.Sink.taken c.args.sink.now in
    let fault = c.in_err-only.field-0.0 in
    let few : wanted.tick ≤ MOST_TICKS = search rules in
    let answer : c.from_residual-in_err-only.result ≡ Err fault = search rules in
    subst (λ (r : Result Bool RunFault). States read wanted.devices.now wanted.tick (wanted_in wanted) old old r) (sym answer)
    (none_found read (image_of c.in_ok-image.image) wanted.devices.now wanted.tick (wanted_in wanted) old fault c.in_ok-image.ensures few c.in_err-only.ensures.0 c.in_err-only.ensures.1)

pub returns-in_err-lines-clause-text : goal.returns-in_err-lines-clause-text
returns-in_err-lines-clause-text g c =
    let read = image_at c.args.image.now in
    let wanted = c.args.wanted in
    let old = g.S.Sink.taken c.args.sink.now in
    let fault = c.in_err-lines.field-0.0 in
    let few : wanted.tick ≤ MOST_TICKS = search rules in
    let answer : c.from_residual-in_err-lines.result ≡ Err fault = search rules in
    let refused = subst (λ (i : Image). AreRefused (verdict_for i wanted.devices.now) fault) (ap (λ (x : Machine). x.image) c.in_ok-machine.ensures) c.in_err-lines.ensures.refused in
    subst (λ (r : Result Bool RunFault). States read wanted.devices.now wanted.tick (wanted_in wanted) old old r) (sym answer)
    (text_refused read (image_of c.in_ok-image.image) wanted.devices.now wanted.tick (wanted_in wanted) old fault c.in_ok-image.ensures few refused)

pub returns-clause-text : goal.returns-clause-text
returns-clause-text g c =
    let read = image_at c.args.image.now in
    let wanted = c.args.wanted in
    let loaded = image_of c.in_ok-image.image in
    let old = g.S.Sink.taken c.args.sink.now in
    let new = g.S.Sink.taken c.put_wanted.new.sink in
    let few : wanted.tick ≤ MOST_TICKS = search rules in
    let lines = c.in_ok-lines.lines.items in
    let same : (machine_of c.in_ok-machine.machine).image ≡ loaded = ap (λ (x : Machine). x.image) c.in_ok-machine.ensures in
    let taken = subst (λ (i : Image). verdict_for i wanted.devices.now ≡ Ok lines) same c.in_ok-lines.ensures.taken in
    let only = number_in c.in_ok-only.only in
    let shown = subst (λ (i : Image). IsShown (wanted_in wanted).moments wanted.form only i lines wanted.tick old new c.put_wanted.result) same
    (subst (λ (ls : List DeviceLine). IsShown (wanted_in wanted).moments wanted.form only (machine_of c.in_ok-machine.machine).image ls wanted.tick old new c.put_wanted.result) c.as_slice.ensures.value c.put_wanted.ensures.text) in
    shown_states read loaded wanted.devices.now lines wanted.tick (wanted_in wanted) only old new c.put_wanted.result c.in_ok-image.ensures taken few c.in_ok-only.ensures shown

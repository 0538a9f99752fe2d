use Rattle.module.proofs.Prelude.{ap, suc, machine_of}
use Rattle.module.specs.States.{spaced}
use Rattle.module.specs.Stating.{number_in, texts_before}
use Rattle.module.proofs.Spaced.{shown_every}
use Rattle.module.proofs.series.put_series.Goals as goal

pub returns-clause-text : goal.returns-clause-text
returns-clause-text g c =
    let form = c.args.shown.form in
    let only = number_in c.args.shown.only in
    let image = (machine_of c.args.machine.now).image in
    let k = c.args.series.every in
    shown_every form only image c.args.devices.now k c.args.series.ticks (g.S.Sink.taken c.args.sink.now) (g.S.Sink.taken c.put_spaced.new.sink) _ _
    (ap (λ more. texts_before form only image c.args.devices.now (spaced k 0 (suc more))) c.count_after.ensures.count) c.put_spaced.ensures.text

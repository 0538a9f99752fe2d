use Rattle.module.proofs.Prelude.{rules, ◌≡◌, true, Err, refl, map, Appends-nil, machine_of}
use Rattle.std.proofs.Common.{[], subst}
use Rattle.module.specs.Stating.{IsFirst, number_in}
use Rattle.module.proofs.Spaced.{broken_first, nothing_shown, rows_now}
use Rattle.module.proofs.first.put_first.Goals as goal

pub returns-in_err-put_state-clause-text : goal.returns-in_err-put_state-clause-text
returns-in_err-put_state-clause-text g c =
    let image = (machine_of c.args.machine.now).image in
    let next = machine_of c.pass_to_first.new.machine in
    let words = map (λ a. a.now) c.args.wait.words.now in
    let only = number_in c.args.shown.only in
    let found : c.in_ok-pass_to_first.field-0 ≡ true = search rules in
    let first = subst (IsFirst words only image c.args.devices.now c.args.wait.ticks next.standing.now) found c.in_ok-pass_to_first.ensures.first in
    broken_first words c.args.shown.form only image c.args.devices.now c.args.wait.ticks next.standing.now (g.S.Sink.taken c.args.sink.now) (g.S.Sink.taken c.put_state.new.sink) _ c.in_err-put_state.field-0.0 _ (search rules)
    first (rows_now c.args.shown.form only image c.args.devices.now next c.in_ok-pass_to_first.ensures.image c.in_ok-pass_to_first.ensures.before) c.in_err-put_state.ensures.text

pub returns-clause-text : goal.returns-clause-text
returns-clause-text g c =
    let image = (machine_of c.args.machine.now).image in
    let next = machine_of c.pass_to_first.new.machine in
    let words = map (λ a. a.now) c.args.wait.words.now in
    let only = number_in c.args.shown.only in
    let found : c.in_ok-pass_to_first.field-0 ≡ true = search rules in
    let first = subst (IsFirst words only image c.args.devices.now c.args.wait.ticks next.standing.now) found c.in_ok-pass_to_first.ensures.first in
    (_, (next.standing.now, first, rows_now c.args.shown.form only image c.args.devices.now next c.in_ok-pass_to_first.ensures.image c.in_ok-pass_to_first.ensures.before), c.in_ok-put_state.ensures.text)

use Rattle.module.proofs.Prelude.{rules, ◌≡◌, ◌+◌, Err, refl, sym, ap, ◌∙◌, arith, Machine, machine_of}
use Rattle.module.specs.Stating.{number_in, text_before}
use Rattle.module.proofs.Spaced.{before_first, broken_last, passed_to, rows_now}
use Rattle.module.proofs.stating.put_last.Goals as goal

pub returns-in_err-put_state-clause-text : goal.returns-in_err-put_state-clause-text
returns-in_err-put_state-clause-text g c =
    let m = machine_of c.args.machine.now in
    let next = machine_of c.pass_over.new.self in
    let form = c.args.shown.form in
    let only = number_in c.args.shown.only in
    let n = c.args.ticks in
    let devices = c.args.devices.now in
    let first : m.standing.now ≡ 0 = ap (λ (x : Machine). x.standing.now) c.requires.fresh in
    let passed = passed_to m.image m next devices devices n refl (before_first m.image devices m c.requires.fresh) (λ u above. refl) c.in_ok-pass_over.ensures.state in
    let last : next.standing.now ≡ n = passed.0 ∙ omega (arith, first) in
    broken_last form only m.image devices n (g.S.Sink.taken c.args.sink.now) (g.S.Sink.taken c.put_state.new.sink) _ c.in_err-put_state.field-0.0 _ (search rules)
    (rows_now form only m.image devices next c.in_ok-pass_over.ensures.image passed.1 ∙ ap (text_before form only m.image devices) last) c.in_err-put_state.ensures.text

pub returns-clause-text : goal.returns-clause-text
returns-clause-text g c =
    let m = machine_of c.args.machine.now in
    let next = machine_of c.pass_over.new.self in
    let form = c.args.shown.form in
    let only = number_in c.args.shown.only in
    let n = c.args.ticks in
    let devices = c.args.devices.now in
    let first : m.standing.now ≡ 0 = ap (λ (x : Machine). x.standing.now) c.requires.fresh in
    let passed = passed_to m.image m next devices devices n refl (before_first m.image devices m c.requires.fresh) (λ u above. refl) c.in_ok-pass_over.ensures.state in
    let last : next.standing.now ≡ n = passed.0 ∙ omega (arith, first) in
    (_, (refl, rows_now form only m.image devices next c.in_ok-pass_over.ensures.image passed.1 ∙ ap (text_before form only m.image devices) last), c.in_ok-put_state.ensures.text)
